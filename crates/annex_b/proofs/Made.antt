-- The computed test `made_from`, and that it agrees with the rule's `Made`, in both directions.
-- Assumes nothing.
use Prim.Native.Nat.{ℕ, suc, ◌+◌, ◌*◌, ◌-◌, ◌≤◌, ◌<◌}
use native.Mathlib.Nat.{add-zero}
use native.Mathlib.Omega.{arith}
use mathlib.Core.Path.{◌≡◌, refl, sym, ap, ◌∙◌, subst}
use mathlib.Core.Bool.{Bool, true, false, false≢true}
use mathlib.Core.List.{List, ◌∷◌, ◌++◌}
use mathlib.Core.Logic.{◌↔◌}
use lib.Dec.{eqb}
use lib.ListN.{length, get_or, take, drop, length-append, length-drop, take-append-drop, drop_of_length-le}
use lib.Seq.{drop-cons, drop-drop, get_or-drop, drop_at}
use borrow.Author.Tests.{eq-eqb, eqb-true, eqb-false, lt-ltb}
use Rattle.annex_b.specs.Units.{unit_length_of, unit_end, unit_at, units_from}
use Rattle.annex_b.specs.Format.{summed, made_from, Made}
use Rattle.annex_b.specs.Format.Made.{none, more}
use Rattle.annex_b.proofs.UnitLaws.{Found, unit_at_facts, unit_at_holds, unit_at_none, by_units, units_more, units_none, unit_long}

-- what is counted does not move: the position, and the units after it
pub summed_more : {s : List ℕ} {at a e x : ℕ} → Found s at a e x → x + summed (units_from s x) ≡ at + summed (units_from s at)
summed_more f = let l = unit_long f in rw (units_more f) (omega arith)

pub summed_none : (s : List ℕ) (at : ℕ) → unit_at s at ≡ false → at ≡ at + summed (units_from s at)
summed_none s at p = rw (units_none s at p) (omega arith)

-- the test from a position on: at the stop, at a unit of length 0, and past a unit
pub made_none : (s : List ℕ) (at : ℕ) → unit_at s at ≡ false → eqb at (length s) ≡ made_from s at
unfolding made_from
made_none s at p = rw (units_none s at p) (ap (λ (k : ℕ). eqb k (length s)) (sym (add-zero at)))

pub made_empty : {s : List ℕ} {at a e x : ℕ} → Found s at a e x → a ≡ e → false ≡ made_from s at
unfolding made_from
made_empty {s} {at} {a} {e} {x} f q =
    let l : length (take (e - a) (drop a s)) ≡ 0 = unit_long f ∙ omega arith in
    rw (units_more f) (simp l)

pub made_more : {s : List ℕ} {at a e x : ℕ} → Found s at a e x → (a ≡ e → ⊥) → made_from s x ≡ made_from s at
unfolding made_from
made_more {s} {at} {a} {e} {x} f q =
    let l = unit_long f in
    let h : 0 < length (take (e - a) (drop a s)) = omega arith in
    rw (sym (summed_more f), units_more f, lt-ltb 0 (length (take (e - a) (drop a s))) h)

-- ---- made of units, by the test

four_off : (s : List ℕ) (at : ℕ) → at + 4 ≤ length s → drop at s ≡ get_or s at 0 ∷ get_or s (at + 1) 0 ∷ get_or s (at + 2) 0 ∷ get_or s (at + 3) 0 ∷ drop (at + 4) s
four_off s at h =
    off at (at + 1) (omega arith) (omega arith)
    ∙ ap (λ (l : List ℕ). get_or s at 0 ∷ l)
    (off (at + 1) (at + 2) (omega arith) (omega arith)
    ∙ ap (λ (l : List ℕ). get_or s (at + 1) 0 ∷ l)
    (off (at + 2) (at + 3) (omega arith) (omega arith)
    ∙ ap (λ (l : List ℕ). get_or s (at + 2) 0 ∷ l) (off (at + 3) (at + 4) (omega arith) (omega arith))))
  where
    off : (i j : ℕ) → j ≡ suc i → i < length s → drop i s ≡ get_or s i 0 ∷ drop j s
    off i j e k = drop-cons s i 0 k ∙ ap (λ (n : ℕ). get_or s i 0 ∷ drop n s) (sym e)

one_more : {s : List ℕ} {at a e x : ℕ} → Found s at a e x → (a ≡ e → ⊥) → Made (drop x s) → Made (drop at s)
unfolding unit_length_of
one_more {s} {at} {a} {e} {x} f q m =
    let u : List ℕ = take (e - a) (drop a s) in
    let l : length u ≡ e - a = unit_long f in
    let n : a + (e - a) ≡ x = omega arith in
    let r : drop (at + 4) s ≡ u ++ drop x s =
    ap (λ (b : ℕ). drop b s) (sym f.starts) ∙ sym (take-append-drop (e - a) (drop a s)) ∙ ap (λ (v : List ℕ). u ++ v) (drop-drop (e - a) a s ∙ ap (λ (b : ℕ). drop b s) n) in
    let is : drop at s ≡ get_or s at 0 ∷ get_or s (at + 1) 0 ∷ get_or s (at + 2) 0 ∷ get_or s (at + 3) 0 ∷ (u ++ drop x s) =
    four_off s at (omega arith) ∙ ap (λ (v : List ℕ). get_or s at 0 ∷ get_or s (at + 1) 0 ∷ get_or s (at + 2) 0 ∷ get_or s (at + 3) 0 ∷ v) r in
    subst Made (sym is) (more (get_or s at 0) (get_or s (at + 1) 0) (get_or s (at + 2) 0) (get_or s (at + 3) 0) u (drop x s) (omega arith) (omega arith) m)

to_made : (s : List ℕ) (at : ℕ) → made_from s at ≡ true → Made (drop at s)
to_made s =
    by_units s (λ at. made_from s at ≡ true → Made (drop at s))
    (λ at p h.
    let e : at ≡ length s = eqb-true at (length s) (made_none s at p ∙ h) in
    let i : length s ≤ at = omega arith in
    subst Made (sym (drop_of_length-le s i)) none)
    (λ at p ih h. by_test at (unit_at_facts s at p) h ih (eqb (at + 4) (unit_end s at)) refl)
  where
    by_test : (at : ℕ) → Found s at (at + 4) (unit_end s at) (unit_end s at) → made_from s at ≡ true → (made_from s (unit_end s at) ≡ true → Made (drop (unit_end s at) s))
        → (t : Bool) → eqb (at + 4) (unit_end s at) ≡ t → Made (drop at s)
    by_test at f h ih true e = absurd (false≢true (made_empty f (eqb-true (at + 4) (unit_end s at) e) ∙ h))
    by_test at f h ih false e = let q = eqb-false (at + 4) (unit_end s at) e in one_more f q (ih (made_more f q ∙ h))

-- ---- and the test, by what is made of units

length_is : (s : List ℕ) (at a b c d : ℕ) (u : List ℕ) → get_or s at 0 ≡ a → get_or s (at + 1) 0 ≡ b → get_or s (at + 2) 0 ≡ c → get_or s (at + 3) 0 ≡ d
    → length u ≡ a * 16777216 + b * 65536 + c * 256 + d → unit_length_of s at ≡ length u
unfolding unit_length_of
length_is s at a b c d u g0 g1 g2 g3 q = omega arith

of_made : {t : List ℕ} → Made t → (s : List ℕ) (at : ℕ) → drop at s ≡ t → at ≤ length s → made_from s at ≡ true
of_made none s at e h =
    let l : length s - at ≡ 0 = sym (length-drop at s) ∙ ap length e in
    sym (made_none s at (unit_at_none s at (omega arith))) ∙ eq-eqb at (length s) (omega arith)
of_made (more a b c d u rest q z m) s at e h =
    let l : length s - at ≡ 4 + (length u + length rest) = sym (length-drop at s) ∙ ap length e ∙ omega (arith, length-append u rest) in
    let g0 : get_or s at 0 ≡ a = ap (λ (k : ℕ). get_or s k 0) (sym (add-zero at)) ∙ sym (get_or-drop at s 0 0) ∙ ap (λ (v : List ℕ). get_or v 0 0) e in
    let g1 : get_or s (at + 1) 0 ≡ b = sym (get_or-drop at s 1 0) ∙ ap (λ (v : List ℕ). get_or v 1 0) e in
    let g2 : get_or s (at + 2) 0 ≡ c = sym (get_or-drop at s 2 0) ∙ ap (λ (v : List ℕ). get_or v 2 0) e in
    let g3 : get_or s (at + 3) 0 ≡ d = sym (get_or-drop at s 3 0) ∙ ap (λ (v : List ℕ). get_or v 3 0) e in
    let n : unit_length_of s at ≡ length u = length_is s at a b c d u g0 g1 g2 g3 q in
    let f = unit_at_facts s at (unit_at_holds s at (omega arith)) in
    let v : unit_end s at ≡ at + 4 + length u = omega arith in
    let y : drop (unit_end s at) s ≡ rest =
    ap (λ (k : ℕ). drop k s) v
    ∙ sym (drop-drop (length u) (at + 4) s)
    ∙ ap (λ (v : List ℕ). drop (length u) v) (sym (drop-drop 4 at s) ∙ ap (λ (v : List ℕ). drop 4 v) e)
    ∙ drop_at u rest (length u) refl in
    sym (made_more f (λ o. omega arith)) ∙ of_made m s (unit_end s at) y (omega arith)

pub made_exactly : (s : List ℕ) → (made_from s 0 ≡ true) ↔ Made s
made_exactly s = (to_made s 0, λ m. of_made m s 0 refl (omega arith))
