-- A window reached from a new one judges by the list of the counts that have been opened.
use Rattle.std.proofs.Common.{◌≡◌, ◌↔◌, ℕ, zero, suc, ◌+◌, ◌-◌, ◌*◌, ◌/◌, ◌%◌, ◌^◌, ◌<◌, ◌≤◌, ◌≢◌, max, min, true, false, ◌||◌, eqb, ltb, List, [], ◌∷◌, ◌++◌, length, Some, None, Option, bit_and, bit_or, sym, refl, ap, ◌∙◌, ⊎_elim, append_assoc, append-nil, add-one, arith}
use Rattle.std.proofs.Math.Bool.{or_assoc, or-false, or-true}
use Rattle.std.specs.Int.{bit_at}
use Rattle.std.proofs.lemmas.Bool.{cases_lt, cases_eq, eq-eqb, ne_eqb, le-leb, lt-leb, le-ltb, lt-ltb, or_right}
use Rattle.std.proofs.lemmas.Bool.Decides.{nat_tests}
use Rattle.std.proofs.lemmas.Nat.Bits.{bit_at-lt, bit_at-pow_other, shr_and_one}
use Rattle.units.specs.declared.refusals.Refusal.{Refusal}
use Rattle.windows.specs.declared.Window.{Window}
use Rattle.windows.specs.Windows.{StillOpen, WindowTells, after, bits_after, count_refusal, greatest, held, higher, is_in, loss, loss_by, loss_from, mark, mark_unless, marked, missing, new_window, opened_of, percent, refusal_by}
use Rattle.windows.proofs.BitLaws.{bit_at-mod, bit_at_shl_low, bit_at_shl_high, bit_at_set, bit_at_others}

-- ---- lists of counts

pub is_in_push : (c d : ℕ) (ds : List ℕ) → is_in c (ds ++ d ∷ []) ≡ (is_in c ds || eqb c d)
is_in_push c d [] = or-false (eqb c d)
is_in_push c d (e ∷ ds) = rw (is_in_push c d ds) (sym (or_assoc (eqb c e) (is_in c ds) (eqb c d)))

pub is_in_new : (c d : ℕ) (ds : List ℕ) → c ≡ d → is_in c (ds ++ d ∷ []) ≡ true
is_in_new c d ds e = is_in_push c d ds ∙ or_right (is_in c ds) (eqb c d) (eq-eqb c d e)

pub is_in_other : (c d : ℕ) (ds : List ℕ) → c ≢ d → is_in c (ds ++ d ∷ []) ≡ is_in c ds
is_in_other c d ds h = is_in_push c d ds ∙ rw (ne_eqb c d h) (or-false (is_in c ds))

pub greatest_push : (d : ℕ) (ds : List ℕ) → greatest (ds ++ d ∷ []) ≡ max (greatest ds) d
greatest_push d [] = omega arith
greatest_push d (e ∷ ds) = omega (arith, greatest_push d ds)

-- nothing above the greatest is in the list
is_in_above : (c : ℕ) (ds : List ℕ) → greatest ds < c → is_in c ds ≡ false
is_in_above c [] h = refl
is_in_above c (d ∷ ds) h =
    let here : eqb c d ≡ false = ne_eqb c d (λ e. omega arith) in
    rw here (is_in_above c ds (omega arith))

push_some : (c : ℕ) (ds : List ℕ) → ds ++ c ∷ [] ≡ [] → ⊥
push_some c [] e = let z = ap length e in omega arith
push_some c (d ∷ ds) e = let z = ap length e in omega arith

-- ---- what a window keeps of the list

-- bit k is set where the count k below the highest is in the list
abbrev pub BitTells : ℕ → ℕ → List ℕ → ℕ → Type 0
BitTells h opened done k = eqb (bit_at opened k) 1 ≡ is_in (h - k) done

-- the highest is the greatest of the list, and each of the 64 bits tells
pub record BitsTell (h opened : ℕ) (done : List ℕ) : Type 0 where
  pub some : done ≡ [] → ⊥
  pub top : h ≡ greatest done
  pub each : (k : ℕ) → k < 64 → k ≤ h → BitTells h opened done k

abbrev pub Keeps : Option ℕ → ℕ → List ℕ → Type 0
Keeps None opened done = done ≡ []
Keeps (Some h) opened done = BitsTell h opened done

-- a window tells its first count and the list of the counts opened
pub record Tells (first : ℕ) (done : List ℕ) (w : Window) : Type 0 where
  pub start : w.first ≡ first
  pub keeps : Keeps w.highest w.opened done

pub tells_new : (first : ℕ) → Tells first [] (new_window first)
tells_new first = record { start = refl; keeps = refl }

-- ---- judging

-- of a count that is not left behind
held_tells : (h opened : ℕ) (done : List ℕ) (c : ℕ)
    → BitsTell h opened done
    → h < c + 64
    → held (Some h) opened c ≡ is_in c done
held_tells h opened done c t near =
    ⊎_elim
    (λ (above : h < c). rw (lt-leb c h above, is_in_above c done (omega (arith, t.top))))
    (λ (below : c ≤ h).
    let back : h - (h - c) ≡ c = omega arith in
    rw (le-leb c h below) (t.each (h - c) (omega arith) (omega arith) ∙ ap (λ (x : ℕ). is_in x done) back))
    (cases_lt h c)

judged_at : (first : ℕ) (highest : Option ℕ) (opened : ℕ) (done : List ℕ) (c : ℕ)
    → Keeps highest opened done
    → count_refusal (record { first = first; highest = highest; opened = opened }) c ≡ refusal_by first done c
judged_at first None opened done c e = rw e (grind (arith, nat_tests))
judged_at first (Some h) opened done c t =
    ⊎_elim
    (λ (near : h < c + 64). rw (← t.top, held_tells h opened done c t near) refl)
    (λ (far : c + 64 ≤ h). rw (← t.top, le-leb (c + 64) h far, or-true (ltb c first)) refl)
    (cases_lt h (c + 64))

pub judged : (first : ℕ) (done : List ℕ) (w : Window)
    → Tells first done w
    → (c : ℕ) → count_refusal w c ≡ refusal_by first done c
judged first done w t c =
    judged_at w.first w.highest w.opened done c t.keeps ∙ ap (λ (x : ℕ). refusal_by x done c) t.start

-- no refusal says that the count is still open, and the other way round
pub open_is : (first : ℕ) (done : List ℕ) (c : ℕ) → refusal_by first done c ≡ None ↔ StillOpen first done c
open_is first done c = (
  λ e. record {
    from = grind (arith, nat_tests, e);
    fresh = grind (arith, nat_tests, e);
    near = grind (arith, nat_tests, e);
  },
  λ t. grind (arith, nat_tests, t.from, t.fresh, t.near),
)

-- so a window that judges a count open says that it is still open
pub still_open : (first : ℕ) (done : List ℕ) (w : Window)
    → Tells first done w
    → (c : ℕ) → count_refusal w c ≡ None
    → StillOpen first done c
still_open first done w t c e = (open_is first done c).0 (sym (judged first done w t c) ∙ e)

-- ---- marking

mark_none : (c : ℕ) → BitsTell c 1 (c ∷ [])
mark_none c = record { some = push_some c []; top = omega arith; each = each }
  where
    each : (k : ℕ) → k < 64 → k ≤ c → BitTells c 1 (c ∷ []) k
    each zero h l = sym (is_in_new (c - 0) c [] (omega arith))
    each (suc k) h l = rw (bit_at-pow_other 0 (suc k) (omega arith)) (sym (is_in_other (c - suc k) c [] (omega arith)))

-- a count above the highest: the bits move up
mark_above : (h opened : ℕ) (done : List ℕ) (c : ℕ)
    → BitsTell h opened done
    → h < c
    → BitsTell c (bit_or (opened * 2 ^ (c - h) % 2 ^ 64) 1) (done ++ c ∷ [])
mark_above h opened done c t l =
    record { some = push_some c done; top = omega (arith, t.top, greatest_push c done); each = each }
  where
    low : ℕ
    low = opened * 2 ^ (c - h) % 2 ^ 64

    moved : (k : ℕ) → suc k < 64 → bit_at (bit_or low 1) (suc k) ≡ bit_at (opened * 2 ^ (c - h)) (suc k)
    moved k a = bit_at_others low 0 (suc k) (omega arith) ∙ bit_at-mod (opened * 2 ^ (c - h)) 64 (suc k) a

    -- between the two no count has been opened
    new : (k : ℕ) → suc k < 64 → suc k < c - h → BitTells c (bit_or low 1) done (suc k)
    new k a d =
        rw (moved k a ∙ bit_at_shl_low opened (c - h) (suc k) d) (sym (is_in_above (c - suc k) done (omega (arith, t.top))))

    old : (k : ℕ) → suc k < 64 → suc k ≤ c → c - h ≤ suc k → BitTells c (bit_or low 1) done (suc k)
    old k a b d =
        let place : h - (suc k - (c - h)) ≡ c - suc k = omega arith in
        rw (moved k a ∙ bit_at_shl_high opened (c - h) (suc k) d)
        (t.each (suc k - (c - h)) (omega arith) (omega arith) ∙ ap (λ (x : ℕ). is_in x done) place)

    each : (k : ℕ) → k < 64 → k ≤ c → BitTells c (bit_or low 1) (done ++ c ∷ []) k
    each zero a b = rw (bit_at_set low 0) (sym (is_in_new (c - 0) c done (omega arith)))
    each (suc k) a b =
        ⊎_elim (new k a) (old k a b) (cases_lt (suc k) (c - h)) ∙ sym (is_in_other (c - suc k) c done (omega arith))

-- a count up to the highest: its own bit is set
mark_within : (h opened : ℕ) (done : List ℕ) (c : ℕ)
    → BitsTell h opened done
    → c ≤ h
    → BitsTell h (bit_or opened (2 ^ (h - c))) (done ++ c ∷ [])
mark_within h opened done c t l =
    record { some = push_some c done; top = omega (arith, t.top, greatest_push c done); each = each }
  where
    own : (k : ℕ) → k ≤ h → k ≡ h - c → BitTells h (bit_or opened (2 ^ (h - c))) (done ++ c ∷ []) k
    own k b e =
        rw (← e) (rw (bit_at_set opened k) (sym (is_in_new (h - k) c done (omega arith))))

    other : (k : ℕ) → k < 64 → k ≤ h → k ≢ h - c → BitTells h (bit_or opened (2 ^ (h - c))) (done ++ c ∷ []) k
    other k a b e =
        rw (bit_at_others opened (h - c) k e) (t.each k a b ∙ sym (is_in_other (h - k) c done (λ x. e (omega arith))))

    each : (k : ℕ) → k < 64 → k ≤ h → BitTells h (bit_or opened (2 ^ (h - c))) (done ++ c ∷ []) k
    each k a b = ⊎_elim (own k b) (other k a b) (cases_eq k (h - c))

mark_keeps : (highest : Option ℕ) (opened : ℕ) (done : List ℕ) (c : ℕ)
    → Keeps highest opened done
    → BitsTell (higher highest c) (bits_after highest opened c) (done ++ c ∷ [])
mark_keeps None opened done c e = rw e (mark_none c)
mark_keeps (Some h) opened done c t =
    ⊎_elim
    (λ (l : h < c).
    let top : max h c ≡ c = omega arith in
    rw (lt-ltb h c l, top) (mark_above h opened done c t l))
    (λ (l : c ≤ h).
    let top : max h c ≡ h = omega arith in
    rw (le-ltb h c l, top) (mark_within h opened done c t l))
    (cases_lt h c)

pub tells_mark : (first : ℕ) (done : List ℕ) (w : Window) (c : ℕ) → Tells first done w → Tells first (done ++ c ∷ []) (mark w c)
unfolding mark
tells_mark first done w c t =
    record { start = t.start; keeps = mark_keeps w.highest w.opened done c t.keeps }

-- a count that is open is marked
pub after_open : (w : Window) (c : ℕ) → count_refusal w c ≡ None → after w c ≡ mark w c
after_open w c e = ap (λ (o : Option Refusal). mark_unless o w c) e

pub tells_marked : (first : ℕ) (done cs : List ℕ) (w : Window) → Tells first done w → Tells first (done ++ cs) (marked w cs)
tells_marked first done [] w t = rw (append-nil done) t
tells_marked first done (c ∷ cs) w t =
    let more = tells_marked first (done ++ c ∷ []) cs (mark w c) (tells_mark first done w c t) in
    rw (← append_assoc done (c ∷ []) cs) more

-- ---- the loss figure

-- one count more, by the test of the code
pub opened_more : (n x : ℕ) → opened_of (n + 1) x ≡ opened_of n x + bit_and (x / 2 ^ n) 1
opened_more n x = rw add-one (omega (arith, shr_and_one x n))

-- each count is opened or missing
opened_and_missing : (h opened : ℕ) (done : List ℕ)
    → BitsTell h opened done
    → (n : ℕ) → n ≤ 64
    → n ≤ h + 1
    → opened_of n opened + missing h done n ≡ n
opened_and_missing h opened done t zero a b = refl
opened_and_missing h opened done t (suc n) a b =
    let each = t.each n a (omega arith) in
    let small = bit_at-lt opened n in
    let rest = opened_and_missing h opened done t n (omega arith) (omega arith) in
    grind (arith, nat_tests, each, small, rest)

loss_at : (first : ℕ) (highest : Option ℕ) (opened : ℕ) (done : List ℕ)
    → Keeps highest opened done
    → loss_from first highest opened ≡ loss_by first done
loss_at first None opened done e = rw e refl
loss_at first (Some h) opened [] t = absurd (t.some refl)
loss_at first (Some h) opened (c ∷ cs) t =
    let w : ℕ = min 64 (h + 1 - first) in
    let all = opened_and_missing h opened (c ∷ cs) t w (omega arith) (omega arith) in
    let m : w - opened_of w opened ≡ missing h (c ∷ cs) w = omega arith in
    rw (← t.top) (ap (λ (x : ℕ). percent x w) m)

pub loss_told : (first : ℕ) (done : List ℕ) (w : Window) → Tells first done w → loss w ≡ loss_by first done
loss_told first done w t =
    ap (λ (x : ℕ). loss_from x w.highest w.opened) t.start ∙ loss_at first w.highest w.opened done t.keeps

-- ---- from a new window

pub tells_all : (first : ℕ) (opened : List ℕ) → Tells first opened (marked (new_window first) opened)
tells_all first opened = tells_marked first [] opened (new_window first) (tells_new first)

pub window_tells : WindowTells
window_tells = record {
  judged = λ first opened. judged first opened (marked (new_window first) opened) (tells_all first opened);
  still = open_is;
  lost = λ first opened. loss_told first opened (marked (new_window first) opened) (tells_all first opened);
}
