use Rattle.std.proofs.Common.{◌≡◌, bit_and}
use Rattle.polynomials.specs.Polynomials.{product}
use Rattle.polynomials.specs.Words.{opposite, part, sum_of}
use Rattle.polynomials.proofs.WordLaws.{wide_from}
use Rattle.polynomials.proofs.words.product_from.Given as goal

abbrev pub invariant-loop-i : goal.invariant-loop-i
invariant-loop-i l = bit_and l.sum (wide_from l.place) ≡ sum_of l.i (λ i. product (part l.x i) (part l.y (opposite l.place i)))
