use Rattle.std.proofs.Common.{◌≡◌, ◌*◌, ◌/◌, ◌%◌, ◌^◌, ◌<◌, arith}
use Rattle.std.proofs.lemmas.Nat.{xor_lt}
use Rattle.units.specs.Sums.{◌⊕◌}
use Rattle.polynomials.specs.Field.{pdot}
use Rattle.polynomials.proofs.RemainderLaws.{remainder_stands}
use Rattle.polynomials.proofs.FieldLaws.{field_stands, pdot_quotient}
use Rattle.polynomials.proofs.ReductionLaws.{pdot_halves, three_products}
use Rattle.polynomials.proofs.dot.pdot.Goals as goal

pub returns : goal.returns
returns c =
    let a = c.args.a in
    let b = c.args.b in
    let low = c.product-low.result in
    let high = c.product-high.result in
    let cross = c.product.result in
    let middle = cross ⊕ low ⊕ high in
    let top = high ⊕ middle / 2 ^ 64 in
    let last = c.divided-2.result in
    let small : top ⊕ last < 2 ^ 128 = grind (arith, xor_lt 128) in
    let value : top ⊕ last ≡ pdot a b =
    pdot_halves a b top (low ⊕ middle * 2 ^ 64 % 2 ^ 128) c.divided.result last small (three_products a b low high cross (cc) (cc) (cc)) c.divided.ensures c.divided-2.ensures
    in
    record {
      value = value;
      quotient = rw value (pdot_quotient a b);
      remainder = remainder_stands;
      stands = field_stands;
    }
