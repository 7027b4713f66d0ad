use Rattle.std.proofs.Common.{◌≡◌}
use Rattle.polynomials.specs.Polynomials.{product}
use Rattle.polynomials.specs.Words.{opposite, part, sum_of}
use Rattle.polynomials.proofs.words.product.Given as goal

abbrev pub invariant-loop-place : goal.invariant-loop-place
invariant-loop-place l = l.sum ≡ sum_of l.place (λ k. sum_of 5 (λ i. product (part l.x i) (part l.y (opposite k i))))
