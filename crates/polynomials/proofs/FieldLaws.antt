-- The product of the field.
use Rattle.std.proofs.Common.{◌≡◌, ℕ, ◌*◌, ◌^◌, ◌<◌, sym, refl, ap, ◌∙◌}
use Rattle.units.specs.Sums.{◌⊕◌}
use Rattle.polynomials.specs.Polynomials.{Congruent, digitwise, lowered, product, remainder}
use Rattle.polynomials.specs.Field.{FieldStands, Quotient, inverse, one, pdot}
use Rattle.polynomials.proofs.ProductLaws.{product_assoc, product_comm, product_one_r, product-pow, product-shl_l, product-xor_l}
use Rattle.polynomials.proofs.RemainderLaws.{congruent-same, remainder_lt, remainder-product_l, remainder-product_r, remainder_small, remainder-xor, same-congruent}

-- a factor and its inverse fall out
cancelled : (a b c : ℕ) → remainder (product b c) ≡ 1 → remainder (product (product a b) c) ≡ remainder a
cancelled a b c e = rw (product_assoc, ← remainder-product_r a (product b c), e, product_one_r)

inverse_is : remainder (product inverse (2 ^ 128)) ≡ 1
unfolding remainder product digitwise lowered
inverse_is = refl

-- times x^128 and times x^-128 is times 1
there_and_back : (a : ℕ) → remainder (product (product a inverse) (2 ^ 128)) ≡ remainder a
there_and_back a = cancelled a inverse (2 ^ 128) inverse_is

pub pdot_lt : (a b : ℕ) → pdot a b < 2 ^ 128
unfolding pdot
pdot_lt a b = remainder_lt (product (product a b) inverse)

pdot-congruent : (a b : ℕ) → Congruent (product a b) (pdot a b * 2 ^ 128)
unfolding pdot
pdot-congruent a b =
    let c = product (product a b) inverse in
    same-congruent (product a b) (remainder c * 2 ^ 128)
    (sym (rw (← product-pow (remainder c) 128, remainder-product_l) (there_and_back (product a b))))

-- how any engine is seen to give pdot
pub pdot_only : (a b r : ℕ) → r < 2 ^ 128 → remainder (r * 2 ^ 128) ≡ remainder (product a b) → r ≡ pdot a b
unfolding pdot
pdot_only a b r h e =
    sym (remainder_small r h)
    ∙ sym (there_and_back r)
    ∙ rw (product-pow (product r inverse) 128, ← product-shl_l r inverse 128, ← remainder-product_l (r * 2 ^ 128) inverse, e) (remainder-product_l (product a b) inverse)

pub pdot_quotient : (a b : ℕ) → Quotient a b (pdot a b)
pdot_quotient a b =
    record {
      below = pdot_lt a b;
      congruent = pdot-congruent a b;
      only = λ s h e. pdot_only a b s h (sym (congruent-same (product a b) (s * 2 ^ 128) e));
    }

pub pdot-xor_l : (a b c : ℕ) → pdot (a ⊕ b) c ≡ pdot a c ⊕ pdot b c
unfolding pdot
pdot-xor_l a b c = simp (product-xor_l, remainder-xor)

pub pdot_comm : (a b : ℕ) → pdot a b ≡ pdot b a
unfolding pdot
pdot_comm a b = rw (product_comm a b)

pub pdot-xor_r : (a b c : ℕ) → pdot a (b ⊕ c) ≡ pdot a b ⊕ pdot a c
pdot-xor_r a b c = rw (pdot_comm a (b ⊕ c), pdot-xor_l, pdot_comm b a, pdot_comm c a)

-- a product of three, with x^-128 twice
three : (a b c : ℕ) → pdot (pdot a b) c ≡ remainder (product (product (product a b) c) (product inverse inverse))
unfolding pdot
three a b c =
    let d = product a b in
    rw (product_assoc (remainder (product d inverse)) c inverse, remainder-product_l)
    (ap remainder
    (product_assoc d inverse (product c inverse)
    ∙ rw (← product_assoc inverse c inverse, product_comm inverse c, product_assoc c inverse inverse)
    (sym (product_assoc d c (product inverse inverse)))))

pub pdot_assoc : (a b c : ℕ) → pdot (pdot a b) c ≡ pdot a (pdot b c)
pdot_assoc a b c =
    three a b c ∙ rw (product_assoc a b c, product_comm a (product b c)) (sym (three b c a)) ∙ pdot_comm (pdot b c) a

one_is : remainder (product one inverse) ≡ 1
unfolding remainder product digitwise lowered
one_is = refl

pub pdot_one : (a : ℕ) → a < 2 ^ 128 → pdot a one ≡ a
unfolding pdot
pdot_one a h = cancelled a one inverse one_is ∙ remainder_small a h

pub field_stands : FieldStands
field_stands =
    record {
      inverse_is = inverse_is;
      below = pdot_lt;
      additive_left = pdot-xor_l;
      additive_right = pdot-xor_r;
      commutative = pdot_comm;
      associative = pdot_assoc;
      one_is = pdot_one;
    }
