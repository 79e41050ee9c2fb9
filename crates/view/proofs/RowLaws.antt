-- What a row call answers: a row is there exactly when the view is accepted and the row is below the plane's height, and its bytes are
-- the plane's samples. `row_present`, `row_absent` and `row_refused` are the three answers there are.
-- Assumes nothing.
use Prim.Native.Nat.{ℕ, ◌+◌, ◌*◌, ◌≤◌, ◌<◌}
use native.Mathlib.Omega.{arith}
use mathlib.Core.Path.{◌≡◌, refl, sym, ap, ◌∙◌, subst}
use mathlib.Core.Bool.{true, false, false≢true}
use mathlib.Core.Logic.{◌↔◌, ◌⊎◌, inl, inr, ⊎_elim}
use mathlib.Core.List.{List, []}
use lib.Dec.{eqb}
use lib.ListN.{length, get_or, take, drop, length-drop}
use lib.Seq.{length-take-le, get_or-take, get_or-drop}
use denote.Ref.{Bor}
use borrow.Author.Tests.{eq-eqb, ne_eqb}
use Rattle.lent.specs.Outcome.{Outcome, OwnPart}
use Rattle.lent.specs.Samples.{sample}
use Rattle.lent.proofs.Bools.{split, cond-true, cond-false}
use Rattle.view.specs.declared.Plane.{Plane}
use Rattle.std.specs.Prelude.{Option, Some}
use Rattle.view.specs.declared.rows.Row.{Row}
use Rattle.view.specs.View.{PlaneFits}
use Rattle.view.specs.Starts.{Values, a_row, no_row, values_of, bytes_in, row_start_of}
use Rattle.view.specs.Rows.{find_row_of, row_in, row_answer_of, RowPart}
use Rattle.view.proofs.Starts.{never, row_start_at, row_start_holds, row_start_none, row_fits}

module _ (n : ℕ) (p : Plane) (r : ℕ) where
  -- in an accepted view
  pub find_row_accepted : n ≡ 0 → find_row_of n p r ≡ row_start_of p.stride p.height r
  unfolding find_row_of
  find_row_accepted e = cond-true (eqb n 0) _ _ (eq-eqb n 0 e)

  pub find_row_refused : (n ≡ 0 → ⊥) → find_row_of n p r ≡ no_row
  unfolding find_row_of
  find_row_refused f = cond-false (eqb n 0) _ _ (ne_eqb n 0 f)

  -- a row is there, or there is none
  found : ((n ≡ 0) × (r < p.height)) ⊎ (find_row_of n p r ≡ no_row)
  found = ⊎_elim
      (λ h. inr (find_row_refused (λ e. omega arith)))
      (λ h. let e : n ≡ 0 = omega arith in
      ⊎_elim (λ k. inl (e, k)) (λ k. inr (find_row_accepted e ∙ row_start_none p.stride p.height r k)) (split r p.height))
      (split 0 n)

-- a row that was found lies in the plane, and so does its whole stride
pub found_fits : (n : ℕ) (p : Plane) (len r : ℕ) {s : Option ℕ} {start : ℕ} → (n ≡ 0 → PlaneFits p len) → values_of s ≡ find_row_of n p r → s ≡ Some start → (start + p.stride ≤ len) × (p.width ≤ p.stride)
found_fits n p len r {s} {start} f says e = ⊎_elim
    (λ g. let t = row_start_at p.stride p.height r (says ∙ find_row_accepted n p r g.0) e in
    let h = row_fits p len r (f g.0) g.1 in
    (omega (arith, t.1), h.1))
    (λ z. absurd (never (sym (ap values_of e) ∙ says ∙ z)))
    (found n p r)

-- ---- what a row call answers

module _ (n : ℕ) (p : Plane) (r : ℕ) where
  -- a row is present exactly when the view is accepted and r is below the plane's height
  pub row_present_exactly : ((row_answer_of n p r).present ≡ true) ↔ ((n ≡ 0) × (r < p.height))
  row_present_exactly = (
    λ t. ⊎_elim (λ h. h) (λ z. absurd (false≢true (sym (ap (λ (v : Values). v.present) z) ∙ t))) (found n p r),
    λ h. ap (λ (v : Values). v.present) (find_row_accepted n p r h.0 ∙ row_start_holds p.stride p.height r h.1),
  )

  -- the answer, and the part beside it, of a row that was found with the values v in a view that was answered with m
  answered : {m : ℕ} {v : Values} → n ≡ m → find_row_of n p r ≡ v
      → (row_answer_of n p r ≡ row_in m v p.width) × ((lent part : Bor (List ℕ)) → RowPart n p r lent part → OwnPart lent part v.start (bytes_in v p.width lent.now))
  answered e f = (λ i. row_in (e i) (f i) p.width, λ lent part h. subst (λ (v : Values). OwnPart lent part v.start (bytes_in v p.width lent.now)) f h)

  -- a row that exists: number 0, present, its start and its length; the part is the caller's bytes there
  pub row_present : n ≡ 0 → r < p.height → (row_answer_of n p r ≡ record { number = 0; present = true; start = r * p.stride; length = p.width })
      × ((lent part : Bor (List ℕ)) → RowPart n p r lent part → OwnPart lent part (r * p.stride) (take p.width (drop (r * p.stride) lent.now)))
  row_present e h = answered e (find_row_accepted n p r e ∙ row_start_holds p.stride p.height r h)

  -- a row that does not exist: number 0, not present, zeros; the part is empty
  pub row_absent : n ≡ 0 → p.height ≤ r → (row_answer_of n p r ≡ record { number = 0; present = false; start = 0; length = 0 })
      × ((lent part : Bor (List ℕ)) → RowPart n p r lent part → OwnPart lent part 0 [])
  row_absent e h = answered e (find_row_accepted n p r e ∙ row_start_none p.stride p.height r h)

  -- a row of a refused view: the view's number, not present, zeros; the part is empty
  pub row_refused : (n ≡ 0 → ⊥) → (row_answer_of n p r ≡ record { number = n; present = false; start = 0; length = 0 })
      × ((lent part : Bor (List ℕ)) → RowPart n p r lent part → OwnPart lent part 0 [])
  row_refused f = answered refl (find_row_refused n p r f)

-- the bytes of a row that exists are its samples
module _ (p : Plane) (xs : List ℕ) (r : ℕ) where
  pub row_length : PlaneFits p (length xs) → r < p.height → length (bytes_in (a_row (r * p.stride)) p.width xs) ≡ p.width
  row_length f h = let fits = row_fits p (length xs) r f h in length-take-le p.width _ (simp length-drop (omega arith))

  pub row_sample : (c : ℕ) → c < p.width → get_or (bytes_in (a_row (r * p.stride)) p.width xs) c 0 ≡ sample xs p.stride r c
  unfolding sample
  row_sample c h = get_or-take p.width (drop (r * p.stride) xs) c 0 h ∙ get_or-drop (r * p.stride) xs c 0

  -- in a view of width 0 a present row is empty
  pub row_empty : p.width ≡ 0 → bytes_in (a_row (r * p.stride)) p.width xs ≡ []
  row_empty z = ap (λ (k : ℕ). take k (drop (r * p.stride) xs)) z

-- ---- the three planes at once: a call worked out the number n and the plane's sizes p, which are m and q

module _ {n m : ℕ} {p q : Plane} (number : n ≡ m) (sizes : p ≡ q) where
  pub row_asks : (len : ℕ) → (m ≡ 0 → PlaneFits q len) → n ≡ 0 → PlaneFits p len
  row_asks len f z = subst (λ (x : Plane). PlaneFits x len) (sym sizes) (f (sym number ∙ z))

  pub row_is : (row : ℕ) (lent part : Bor (List ℕ)) → RowPart n p row lent part → RowPart m q row lent part
  row_is row lent part h = subst (λ (x : Plane). RowPart m x row lent part) sizes (subst (λ (x : ℕ). RowPart x p row lent part) number h)

  pub answer_is : (row : ℕ) (a : Row) → a ≡ row_answer_of n p row → Outcome (row_answer_of m q row) [] a []
  answer_is row a h = record { answer = subst (λ (x : Plane). a ≡ row_answer_of m x row) sizes (subst (λ (x : ℕ). a ≡ row_answer_of x p row) number h); buffers = refl }
