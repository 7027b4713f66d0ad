use Rattle.std.proofs.Common.{sym, ◌∙◌, arith}
use Rattle.generator.proofs.KeystreamLaws.{filled_more}
use Rattle.generator.proofs.SameLaws.{Same-trans}
use Rattle.generator.proofs.keystreams.keystream.Goals as goal

pub loop-k-preserved : goal.loop-k-preserved
loop-k-preserved g c =
    let a = g.G.Generator.meaning c.args.generator.now in
    let b = g.G.Generator.meaning c.loop-k.generator in
    let inv = c.loop-k.invariant in
    record {
      same = Same-trans a b (g.G.Generator.meaning c.block.new.self) inv.same c.block.ensures.same;
      filled = filled_more a b c.args.nonce.now.0 c.args.first c.loop-k.k c.args.out.now c.loop-k.out c.in_ok-block.field-0 inv.same c.twelve_bytes.ensures inv.filled (omega arith) (sym c.block.ensures.value ∙ c.in_ok-block.was);
    }
