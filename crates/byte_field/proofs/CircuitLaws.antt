-- The circuits of `doubled` and `sub_bytes`, and that they give of each byte what they should.
use Rattle.std.proofs.Common.{◌≡◌, ℕ, ◌<◌, List, [], ◌∷◌, map, refl}
use Rattle.std.specs.Int.{bit_at}
use Rattle.std.specs.Simd.Lanes.{number_l}
use Rattle.planes.specs.Planes.{planes, states}
use Rattle.planes.specs.declared.Planes.{Planes}
use Rattle.planes.proofs.BitLaws.{same_below}
use Rattle.planes.proofs.PlaneLaws.{FourLanes}
use Rattle.polynomials.specs.Polynomials.{digitwise}
use Rattle.byte_field.specs.ByteField.{inverse, mul, squares, xtime}
use Rattle.byte_field.specs.Sbox.{sbox}
use Rattle.byte_field.proofs.WireLaws.{Gates, on_bits, on_planes, on_wires, plane_of, wire}
use Rattle.byte_field.proofs.StateLaws.{circuit_on_planes, from}

-- ---- times x

unfoldable pub doubled_circuit : {A : Type 0} → Gates A → (ℕ → A) → List A
doubled_circuit g x = x 7 ∷ g.xor (x 0) (x 7) ∷ x 1 ∷ g.xor (x 2) (x 7) ∷ g.xor (x 3) (x 7) ∷ x 4 ∷ x 5 ∷ x 6 ∷ []

doubled_all : (b : ℕ) → b < 256 → number_l 2 (doubled_circuit on_bits (bit_at b)) ≡ xtime b
unfolding doubled_circuit xtime
doubled_all = same_below (λ b. number_l 2 (doubled_circuit on_bits (bit_at b))) xtime 256 refl

pub doubled_states : (q : Planes) → FourLanes (planes q) → states (from (doubled_circuit on_planes (plane_of (planes q)))) ≡ map (map xtime) (states q)
unfolding doubled_circuit
doubled_states q four =
    circuit_on_planes q (doubled_circuit on_planes (plane_of (planes q))) xtime (doubled_circuit on_bits)
    (λ row place here within. doubled_circuit (on_wires row place here within) (wire row place here (planes q) four))
    (λ row place here within. refl)
    (λ row place here within. refl)
    doubled_all

-- ---- the S-box

-- the circuit as the code has it, where a comment says what each part is
unfoldable pub sbox_circuit : {A : Type 0} → Gates A → (ℕ → A) → List A
sbox_circuit g x =
    let xor = g.xor in
    let and = g.and in
    let ones = g.ones in
    let x0 = x 7 in
    let x1 = x 6 in
    let x2 = x 5 in
    let x3 = x 4 in
    let x4 = x 3 in
    let x5 = x 2 in
    let x6 = x 1 in
    let x7 = x 0 in
    let y14 = xor x3 x5 in
    let y13 = xor x0 x6 in
    let y9 = xor x0 x3 in
    let y8 = xor x0 x5 in
    let t0 = xor x1 x2 in
    let y1 = xor t0 x7 in
    let y4 = xor y1 x3 in
    let y12 = xor y13 y14 in
    let y2 = xor y1 x0 in
    let y5 = xor y1 x6 in
    let y3 = xor y5 y8 in
    let t1 = xor x4 y12 in
    let y15 = xor t1 x5 in
    let y20 = xor t1 x1 in
    let y6 = xor y15 x7 in
    let y10 = xor y15 t0 in
    let y11 = xor y20 y9 in
    let y7 = xor x7 y11 in
    let y17 = xor y10 y11 in
    let y19 = xor y10 y8 in
    let y16 = xor t0 y11 in
    let y21 = xor y13 y16 in
    let y18 = xor x0 y16 in
    let t2 = and y12 y15 in
    let t3 = and y3 y6 in
    let t4 = xor t3 t2 in
    let t5 = and y4 x7 in
    let t6 = xor t5 t2 in
    let t7 = and y13 y16 in
    let t8 = and y5 y1 in
    let t9 = xor t8 t7 in
    let t10 = and y2 y7 in
    let t11 = xor t10 t7 in
    let t12 = and y9 y11 in
    let t13 = and y14 y17 in
    let t14 = xor t13 t12 in
    let t15 = and y8 y10 in
    let t16 = xor t15 t12 in
    let t17 = xor t4 t14 in
    let t18 = xor t6 t16 in
    let t19 = xor t9 t14 in
    let t20 = xor t11 t16 in
    let t21 = xor t17 y20 in
    let t22 = xor t18 y19 in
    let t23 = xor t19 y21 in
    let t24 = xor t20 y18 in
    let t25 = xor t21 t22 in
    let t26 = and t21 t23 in
    let t27 = xor t24 t26 in
    let t28 = and t25 t27 in
    let t29 = xor t28 t22 in
    let t30 = xor t23 t24 in
    let t31 = xor t22 t26 in
    let t32 = and t31 t30 in
    let t33 = xor t32 t24 in
    let t34 = xor t23 t33 in
    let t35 = xor t27 t33 in
    let t36 = and t24 t35 in
    let t37 = xor t36 t34 in
    let t38 = xor t27 t36 in
    let t39 = and t29 t38 in
    let t40 = xor t25 t39 in
    let t41 = xor t40 t37 in
    let t42 = xor t29 t33 in
    let t43 = xor t29 t40 in
    let t44 = xor t33 t37 in
    let t45 = xor t42 t41 in
    let z0 = and t44 y15 in
    let z1 = and t37 y6 in
    let z2 = and t33 x7 in
    let z3 = and t43 y16 in
    let z4 = and t40 y1 in
    let z5 = and t29 y7 in
    let z6 = and t42 y11 in
    let z7 = and t45 y17 in
    let z8 = and t41 y10 in
    let z9 = and t44 y12 in
    let z10 = and t37 y3 in
    let z11 = and t33 y4 in
    let z12 = and t43 y13 in
    let z13 = and t40 y5 in
    let z14 = and t29 y2 in
    let z15 = and t42 y9 in
    let z16 = and t45 y14 in
    let z17 = and t41 y8 in
    let t46 = xor z15 z16 in
    let t47 = xor z10 z11 in
    let t48 = xor z5 z13 in
    let t49 = xor z9 z10 in
    let t50 = xor z2 z12 in
    let t51 = xor z2 z5 in
    let t52 = xor z7 z8 in
    let t53 = xor z0 z3 in
    let t54 = xor z6 z7 in
    let t55 = xor z16 z17 in
    let t56 = xor z12 t48 in
    let t57 = xor t50 t53 in
    let t58 = xor z4 t46 in
    let t59 = xor z3 t54 in
    let t60 = xor t46 t57 in
    let t61 = xor z14 t57 in
    let t62 = xor t52 t58 in
    let t63 = xor t49 t58 in
    let t64 = xor z4 t59 in
    let t65 = xor t61 t62 in
    let t66 = xor z1 t63 in
    let s0 = xor t59 t63 in
    let s6 = xor (xor t56 t62) ones in
    let s7 = xor (xor t48 t60) ones in
    let t67 = xor t64 t65 in
    let s3 = xor t53 t66 in
    let s4 = xor t51 t66 in
    let s5 = xor t47 t65 in
    let s1 = xor (xor t64 s3) ones in
    let s2 = xor (xor t55 t67) ones in
    s7 ∷ s6 ∷ s5 ∷ s4 ∷ s3 ∷ s2 ∷ s1 ∷ s0 ∷ []

sbox_all : (b : ℕ) → b < 256 → number_l 2 (sbox_circuit on_bits (bit_at b)) ≡ sbox b
unfolding sbox_circuit sbox inverse squares mul digitwise xtime
sbox_all = same_below (λ b. number_l 2 (sbox_circuit on_bits (bit_at b))) sbox 256 refl

pub sbox_states : (q : Planes) → FourLanes (planes q) → states (from (sbox_circuit on_planes (plane_of (planes q)))) ≡ map (map sbox) (states q)
unfolding sbox_circuit
sbox_states q four =
    circuit_on_planes q (sbox_circuit on_planes (plane_of (planes q))) sbox (sbox_circuit on_bits)
    (λ row place here within. sbox_circuit (on_wires row place here within) (wire row place here (planes q) four))
    (λ row place here within. refl)
    (λ row place here within. refl)
    sbox_all
