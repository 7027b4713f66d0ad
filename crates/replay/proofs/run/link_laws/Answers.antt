use Rattle.replay.proofs.AllLaws.{link_laws}
use Rattle.replay.proofs.run.link_laws.Goals as goal

pub returns : goal.returns
returns g c =
    let s = c.args.sender.now in
    let r = c.args.receiver.now in
    link_laws c.layers.ensures (g.G.Generator.meaning s.generator) (g.K.Generator.meaning r.generator) s.settings r.settings s.next r.window
    (g.met.G.Generator.sound s.generator) s.settings.lawful
