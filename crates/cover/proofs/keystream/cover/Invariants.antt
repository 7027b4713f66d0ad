use Rattle.std.proofs.Common.{◌≡◌, length}
use Rattle.generator.specs.Generators.{Same}
use Rattle.cover.proofs.StreamLaws.{Begun}
use Rattle.cover.proofs.keystream.cover.Given as goal

abbrev pub invariant-loop-index : goal.invariant-loop-index
invariant-loop-index g l = record {
  same : Same (g.G.Generator.meaning l.fn.generator) (g.G.Generator.meaning l.generator);
  name : l.area.bytes.ghost_name ≡ l.fn.area.bytes.ghost_name;
  room : length l.area.bytes.now ≡ 64;
  out : Begun (g.G.Generator.meaning l.fn.generator) l.nonce.0 l.text.bytes.now l.index l.fn.out l.out;
}
