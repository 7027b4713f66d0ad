use Rattle.std.proofs.Common.{◌≡◌, ℕ, suc, ◌+◌, ◌/◌, true, eqb, get_or, drop, sym, ap, ap₂, ◌∙◌, subst, arith}
use Rattle.std.proofs.lemmas.List.{take_rest}
use Rattle.std.specs.Int.Bits.{bit_or, bit_xor}
use Rattle.units.specs.Strings.{Octets, united}
use Rattle.units.specs.Spare.{clear}
use Rattle.units.proofs.SpareLaws.{clear_at, clear_told, clear_whole}
use Rattle.units.proofs.spare.BitString.spare_clear.Goals as goal

pub returns-then-whole-bytes : goal.returns-then-whole-bytes
returns-then-whole-bytes c =
    let n = c.args.self.bits.0 in
    let xs = c.args.self.bytes.now in
    let e = sym (clear_whole n xs (omega arith)) in
    record { value = e; tells = clear_told n xs true e }

pub returns : goal.returns
returns c =
    let n = c.args.self.bits.0 in
    let xs = c.args.self.bytes.now in
    let one : n / 8 + 1 ≡ suc (n / 8) = omega arith in
    let later = take_rest xs (n / 8 + 1) ∙ ap (λ (k : ℕ). drop k xs) one in
    let e : eqb (bit_or (bit_xor (get_or xs (n / 8) 0) c.high_bits.result) c.octets.result) 0 ≡ clear n xs =
    ap₂ (λ (k u : ℕ). eqb (bit_or (bit_xor (get_or xs (n / 8) 0) k) u) 0) c.high_bits.ensures (c.octets.ensures.value ∙ ap united later)
    ∙ sym (clear_at n xs (omega arith) (subst Octets later c.octets.ensures.bytes))
    in
    record { value = e; tells = clear_told n xs _ e }
