use Rattle.generator.specs.Generators.{Same}
use Rattle.generator.proofs.KeystreamLaws.{Filled}
use Rattle.generator.proofs.keystreams.keystream.Given as goal

abbrev pub invariant-loop-k : goal.invariant-loop-k
invariant-loop-k g l = record {
  same : Same (g.G.Generator.meaning l.fn.generator) (g.G.Generator.meaning l.generator);
  filled : Filled (g.G.Generator.meaning l.fn.generator) l.nonce.0 l.first l.k l.fn.out l.out;
}
