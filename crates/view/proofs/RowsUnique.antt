-- Each row call ends in one way: two answers, or two parts, that meet its contract on equal inputs are equal. Each is one line.
-- Assumes nothing.
use Prim.Native.Nat.{ℕ}
use mathlib.Core.Path.{◌≡◌}
use mathlib.Core.List.{List, []}
use lib.ListN.{length}
use denote.Ref.{Bor}
use Rattle.lent.specs.Outcome.{Outcome}
use Rattle.lent.proofs.Outcome.{outcome_unique, own_part_unique}
use Rattle.view.specs.declared.View.{View}
use Rattle.view.specs.declared.Plane.{Plane}
use Rattle.view.specs.declared.rows.Row.{Row}
use Rattle.view.specs.View.{view_number_of}
use Rattle.view.specs.Rows.{row_answer_of, RowPart}

module _ (w : View) (y u v : Bor (List ℕ)) where
  abbrev number : ℕ
  number = view_number_of w (length y.now) (length u.now) (length v.now)

  -- luma_row, u_row and v_row: two parts of one block, at one place, with the same bytes
  pub row_unique : (p : Plane) (plane : Bor (List ℕ)) (row : ℕ) (r q : Bor (List ℕ)) → RowPart number p row plane r → RowPart number p row plane q
      → (r.ref_ptr.0 ≡ q.ref_ptr.0) × (r.ref_ptr.1 ≡ q.ref_ptr.1) × (r.now ≡ q.now)
  row_unique p plane row r q x z = own_part_unique x z

  -- luma_row_answer, u_row_answer and v_row_answer
  pub row_answer_unique : (p : Plane) (row : ℕ) (r q : Row) (rs qs : List (List ℕ)) → Outcome (row_answer_of number p row) [] r rs → Outcome (row_answer_of number p row) [] q qs → (r ≡ q) × (rs ≡ qs)
  row_answer_unique p = outcome_unique (row_answer_of number p) (λ n. [])
