use Rattle.std.proofs.Common.{◌≡◌, ◌+◌, ◌-◌, length, drop, ◌∙◌, arith, length-drop, rules}
use borrow.Rule.Slice.PartMut.{post_of}
use Rattle.cover.proofs.SlotLaws.{length-put, slot_before, slot_here}
use Rattle.cover.proofs.work_area.WorkArea.put.Goals as goal

pub returns : goal.returns
returns c =
    let xs = c.args.self.now.bytes.now in
    let at = c.args.place in
    let ys = c.copy_from_slice.new.self in
    let rest = post_of at (at + 16 - at) xs in
    let long : length ys ≡ 16 = omega arith in
    let back : length rest ≡ length xs - (at + 16) =
    omega (arith, length-drop (at + 16 - at) (drop at xs), length-drop at xs)
    in
    record {
      name = search rules;
      length = length-put xs ys rest at c.requires long back;
      here = slot_here xs ys rest at c.requires long ∙ c.copy_from_slice.ensures.after ∙ c.to_bytes.ensures.value;
      before = slot_before xs ys rest at c.requires long;
    }
