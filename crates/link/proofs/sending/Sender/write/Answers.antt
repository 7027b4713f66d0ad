use Rattle.std.proofs.Common.{◌≡◌, ℕ, ◌+◌, ◌-◌, length, take, drop, replicate, ◌∙◌, arith, length-take-le, length-drop}
use Rattle.units.specs.Lengths.{filled}
use Rattle.frames.specs.Frames.{frame_length}
use Rattle.link.proofs.SealLaws.{frame_written, text_there}
use Rattle.link.proofs.sending.Sender.write.Goals as goal

pub returns-clause-outcome : goal.returns-clause-outcome
unfolding frame_length
returns-clause-outcome g c =
    let m = g.G.Generator.meaning c.args.self.now.generator in
    let settings = c.args.self.now.settings in
    let frame = c.args.frame.now in
    let text = 12 + length c.args.aad.bytes.now in
    let end = text + length c.args.message.bytes.now in
    let old = take (end - text) (drop text frame) in
    let old_tag = take c.from.result (replicate {A = ℕ} 16 0) in
    let ciphertext = c.nca5_cover.new.ciphertext in
    let tag = c.nca5_cover.new.tag in
    let long : length old ≡ filled c.args.message.bits.0 =
    length-take-le (end - text) (drop text frame) (omega (arith, length-drop text frame)) ∙ omega arith
    in
    let size : length old_tag ≡ settings.terms.tag_size =
    length-take-le c.from.result (replicate {A = ℕ} 16 0) (omega (arith, settings.lawful.largest)) ∙ omega arith
    in
    frame_written m settings.terms c.args.count _ frame (length c.args.area.now.bytes.now) c.parameters.result old old_tag ciphertext tag c.head-head.result _ c.write_around.new.frame
    settings.lawful
    c.requires.aad
    c.requires.message
    long
    size
    (omega arith)
    (cc)
    c.in_ok-nca5_cover.ensures.outcome
    (cc)
    (text_there text end frame ciphertext tag (omega arith) (omega arith) c.nca5_cover.auto.ciphertext)
    c.write_around.ensures
