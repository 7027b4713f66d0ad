use Rattle.std.proofs.Common.{◌≡◌, ℕ, ◌+◌, ◌-◌, length, take, drop, sym, ap, ◌∙◌, arith}
use Rattle.std.proofs.lemmas.List.{take-take}
use Rattle.cover.specs.WorkArea.{slot}
use Rattle.cover.proofs.work_area.WorkArea.copy_to.Goals as goal

pub returns : goal.returns
unfolding slot
returns c =
    let size = length c.args.tag.now in
    let bytes = drop 48 c.args.self.now.bytes.now in
    let whole : 48 + size - 48 ≡ size = omega arith in
    c.copy_from_slice.ensures.after ∙ ap (λ (n : ℕ). take n bytes) whole ∙ sym (take-take size 16 bytes c.requires.short)
