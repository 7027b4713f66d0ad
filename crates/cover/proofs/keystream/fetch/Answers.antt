use Rattle.std.proofs.Common.{◌≡◌, sym, ◌∙◌}
use Rattle.field.specs.Blocks.{block_bytes}
use Rattle.cover.proofs.StreamLaws.{answered_block}
use Rattle.cover.proofs.keystream.fetch.Goals as goal

pub returns-clause-here : goal.returns-clause-here
returns-clause-here g c =
    let m = g.G.Generator.meaning c.args.generator.now in
    let n = c.args.nonce.now.0 in
    let sound = g.met.G.Generator.sound c.args.generator.now in
    let bytes : block_bytes c.in-Ok.block.0 ≡ m.block n c.args.index =
    answered_block m n c.args.index c.in-Ok.block sound c.requires.nonce c.requires.within (sym c.in-Ok.ensures.value)
    in
    c.put.ensures.here ∙ bytes
