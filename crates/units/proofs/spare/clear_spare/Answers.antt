use Rattle.std.proofs.Common.{◌≡◌, ℕ, suc, ◌+◌, ◌-◌, ◌/◌, ◌∷◌, ◌++◌, length, take, drop, set, replicate, sym, ap, ◌∙◌, arith, length-drop, length-set}
use Rattle.std.proofs.lemmas.List.{take_rest}
use Rattle.units.proofs.StringLaws.{Octets-drop}
use Rattle.units.proofs.SpareLaws.{cleared_told, cleared_at, cleared_whole, written_zeros}
use Rattle.units.proofs.spare.clear_spare.Goals as goal

pub returns-then-whole-bytes : goal.returns-then-whole-bytes
returns-then-whole-bytes c =
    let xs = c.args.bytes.now in
    let whole = c.args.bits.0 / 8 in
    let ys = set xs whole c.high_bits.result in
    let rest : length ys - (whole + 1) ≡ length xs - suc whole = simp length-set (omega arith) in
    let tail : length (take (length ys - (whole + 1)) (drop (whole + 1) ys)) ≡ length ys - (whole + 1) =
    ap length (take_rest ys (whole + 1)) ∙ length-drop (whole + 1) ys
    in
    let e =
    written_zeros xs whole c.high_bits.result (length ys - (whole + 1)) c.fill.new.self (omega arith) rest
    (c.fill.ensures.after (λ y h. h) ∙ ap (λ (n : ℕ). replicate n 0) tail)
    ∙ ap (λ (v : ℕ). take whole xs ++ (v ∷ replicate (length xs - suc whole) 0)) c.high_bits.ensures
    ∙ sym (cleared_at c.args.bits.0 xs (omega arith) (Octets-drop xs (suc whole) c.octets.ensures.bytes))
    in
    record { after = e; bits = cleared_told c.args.bits.0 xs _ e }

pub returns-else-whole-bytes : goal.returns-else-whole-bytes
returns-else-whole-bytes c =
    let xs = c.args.bytes.now in
    let e = sym (cleared_whole c.args.bits.0 xs (omega arith)) in
    record { after = e; bits = cleared_told c.args.bits.0 xs _ e }
