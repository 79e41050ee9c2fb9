-- The laws of units: what a step's answer says of the bytes, all units from a position on as the one that stands there and those after
-- it, and `by_units`, the one induction from unit to unit that every other law uses.
-- Assumes nothing.
use Prim.Native.Nat.{ℕ, zero, suc, ◌+◌, ◌-◌, ◌≤◌, ◌<◌}
use native.Mathlib.Omega.{arith}
use mathlib.Core.Path.{◌≡◌, refl, sym, ap, ◌∙◌}
use mathlib.Core.Bool.{Bool, true, false, cond, true≢false, false≢true}
use mathlib.Core.List.{List, [], ◌∷◌}
use lib.Dec.{leb}
use lib.ListN.{length, take, drop, length-drop}
use lib.Seq.{length-take-le}
use borrow.Author.Tests.{le-leb, leb-true}
use Rattle.lent.proofs.Bools.{both, both_right, never_true, cond-true, cond-false}
use Rattle.annex_b.specs.Units.{unit_length_of, unit_end, unit_at, Values, a_unit, no_unit, values_of, step_of, units_in, units_from}
use Rattle.std.specs.Prelude.{Option, Some, None}
use Rattle.annex_b.specs.declared.units.Unit.{Unit}

-- a whole unit stands at `at`: its bytes are those from a to e, and x is the position past it
pub record Found (s : List ℕ) (at a e x : ℕ) : Type 0 where
  pub starts : a ≡ at + 4
  pub ends : e ≡ unit_end s at
  pub moves : x ≡ e
  pub within : e ≤ length s

pub unit_at_facts : (s : List ℕ) (at : ℕ) → unit_at s at ≡ true → Found s at (at + 4) (unit_end s at) (unit_end s at)
unfolding unit_at
unit_at_facts s at p =
    record { starts = refl; ends = refl; moves = refl; within = leb-true (unit_end s at) (length s) (both_right (leb (at + 4) (length s)) _ p) }

pub unit_at_holds : (s : List ℕ) (at : ℕ) → unit_end s at ≤ length s → unit_at s at ≡ true
unfolding unit_at
unit_at_holds s at h = both (leb (at + 4) (length s)) _ (le-leb (at + 4) (length s) (omega arith)) (le-leb (unit_end s at) (length s) h)

pub unit_at_none : (s : List ℕ) (at : ℕ) → length s < unit_end s at → unit_at s at ≡ false
unit_at_none s at h = never_true (unit_at s at) (λ p. let f = unit_at_facts s at p in omega arith)

-- ---- what a step answers

module _ (s : List ℕ) (at : ℕ) {r : Option Unit} (says : values_of r ≡ step_of s at) where
  pub found : {u : Unit} → r ≡ Some u → Found s at u.start u.end u.next.at
  unfolding step_of
  found {u} p = go (unit_at s at) refl (sym (ap values_of p) ∙ says)
    where
      go : (t : Bool) → unit_at s at ≡ t → a_unit u.start u.end u.next.at ≡ cond t (a_unit (at + 4) (unit_end s at) (unit_end s at)) no_unit → Found s at u.start u.end u.next.at
      go true h q =
          let f = unit_at_facts s at h in
          let i : u.start ≡ at + 4 = ap (λ (v : Values). v.start) q in
          let j : u.end ≡ unit_end s at = ap (λ (v : Values). v.end) q in
          let k : u.next.at ≡ unit_end s at = ap (λ (v : Values). v.next) q in
          record { starts = i; ends = j; moves = k ∙ sym j; within = omega arith }
      go false h q = absurd (true≢false (ap (λ (v : Values). v.found) q))

  pub found_none : r ≡ None → unit_at s at ≡ false
  unfolding step_of
  found_none p = go (unit_at s at) (sym (ap values_of p) ∙ says)
    where
      go : (t : Bool) → no_unit ≡ cond t (a_unit (at + 4) (unit_end s at) (unit_end s at)) no_unit → t ≡ false
      go true q = absurd (false≢true (ap (λ (v : Values). v.found) q))
      go false q = refl

-- a step is known by its values
pub values_unique : (r q : Option Unit) → values_of r ≡ values_of q → r ≡ q
values_unique (Some u) (Some v) p = λ i. Some (record { start = (p i).start; end = (p i).end; next = record { at = (p i).next } })
values_unique (Some u) None p = absurd (true≢false (ap (λ (v : Values). v.found) p))
values_unique None (Some v) p = absurd (false≢true (ap (λ (v : Values). v.found) p))
values_unique None None p = refl

pub step_unique : (s : List ℕ) (at : ℕ) (r q : Option Unit) → values_of r ≡ step_of s at → values_of q ≡ step_of s at → r ≡ q
step_unique s at r q x y = values_unique r q (x ∙ sym y)

-- ---- from unit to unit

module _ (s : List ℕ) (P : ℕ → Type 0) (stop : (at : ℕ) → unit_at s at ≡ false → P at) (unit : (at : ℕ) → unit_at s at ≡ true → P (unit_end s at) → P at) where
  by_units_in : (n at : ℕ) → length s ≤ at + n → P at
  by_units_in zero at h = stop at (unit_at_none s at (omega arith))
  by_units_in (suc n) at h = go (λ x k. by_units_in n x k) (unit_at s at) refl
    where
      go : ((x : ℕ) → length s ≤ x + n → P x) → (t : Bool) → unit_at s at ≡ t → P at
      go ih true p = unit at p (ih (unit_end s at) (omega arith))
      go ih false p = stop at p

  pub by_units : (at : ℕ) → P at
  by_units at = by_units_in (length s) at (omega arith)

units_in_none : (n : ℕ) (s : List ℕ) (at : ℕ) → unit_at s at ≡ false → units_in n s at ≡ []
unfolding units_in
units_in_none zero s at p = refl
units_in_none (suc n) s at p = cond-false (unit_at s at) _ _ p

units_in_more : (n : ℕ) (s : List ℕ) (at : ℕ) → unit_at s at ≡ true → length s ≤ at + n → (m : ℕ) × (n ≡ suc m) × (units_in n s at ≡ take (unit_length_of s at) (drop (at + 4) s) ∷ units_in m s (unit_end s at))
unfolding units_in
units_in_more zero s at p h = let f = unit_at_facts s at p in absurd (omega arith)
units_in_more (suc n) s at p h = (n, refl, cond-true (unit_at s at) _ _ p)

-- a bound on the units that is above the bytes left is no bound
enough : (s : List ℕ) (at n m : ℕ) → length s ≤ at + n → length s ≤ at + m → units_in n s at ≡ units_in m s at
enough s =
    by_units s (λ at. (n m : ℕ) → length s ≤ at + n → length s ≤ at + m → units_in n s at ≡ units_in m s at)
    (λ at p n m h k. units_in_none n s at p ∙ sym (units_in_none m s at p))
    (λ at p ih n m h k.
    let f = units_in_more n s at p h in
    let g = units_in_more m s at p k in
    f.2 ∙ ap (λ (us : List (List ℕ)). take (unit_length_of s at) (drop (at + 4) s) ∷ us) (ih f.0 g.0 (omega (arith, f.1)) (omega (arith, g.1))) ∙ sym g.2)

-- THE STEP: all units from a position on are the one that stands there and those after it
pub units_more : {s : List ℕ} {at a e x : ℕ} → Found s at a e x → units_from s at ≡ take (e - a) (drop a s) ∷ units_from s x
unfolding units_from
units_more {s} {at} {a} {e} {x} f =
    let p : unit_at s at ≡ true = unit_at_holds s at (omega arith) in
    let g = units_in_more (length s - at) s at p (omega arith) in
    let n : unit_length_of s at ≡ e - a = omega arith in
    let i : at + 4 ≡ a = omega arith in
    let j : unit_end s at ≡ x = omega arith in
    g.2
    ∙ enough_tail g.0 (omega (arith, g.1))
    ∙ (λ t. take (n t) (drop (i t) s) ∷ units_in (length s - j t) s (j t))
  where
    enough_tail : (m : ℕ) → length s ≤ unit_end s at + m
        → take (unit_length_of s at) (drop (at + 4) s) ∷ units_in m s (unit_end s at) ≡ take (unit_length_of s at) (drop (at + 4) s) ∷ units_in (length s - unit_end s at) s (unit_end s at)
    enough_tail m h = ap (λ (us : List (List ℕ)). take (unit_length_of s at) (drop (at + 4) s) ∷ us) (enough s (unit_end s at) m (length s - unit_end s at) h (omega arith))

pub units_none : (s : List ℕ) (at : ℕ) → unit_at s at ≡ false → units_from s at ≡ []
unfolding units_from
units_none s at p = units_in_none (length s - at) s at p

-- the bytes of a unit are as many as its bounds say
pub unit_long : {s : List ℕ} {at a e x : ℕ} → Found s at a e x → length (take (e - a) (drop a s)) ≡ e - a
unit_long {s} {at} {a} {e} {x} f = length-take-le (e - a) (drop a s) (simp length-drop (omega arith))
