-- `apply_auxiliary_rows::v2::v2_row` meets its contract: the columns to `mid`, and of those after it the odd ones and the even ones, are the row.
-- Assumes nothing.
use Prim.Native.Nat.{ℕ}
use mathlib.Core.Path.{◌≡◌}
use mathlib.Core.Bool.{true}
use mathlib.Core.Logic.{◌⊎◌, ⊎_elim, inl, inr}
use Rattle.layout.specs.declared.Chroma.TheVariants.{CU, CV}
use Rattle.layout.specs.declared.Layout.TheVariants.{V2}
use Rattle.columns.specs.Turns.{odd, even}
use Rattle.columns.proofs.Turns.{parity, is_odd, is_even}
use Rattle.apply_auxiliary_rows.specs.Rows.{auxiliary_source}
use Rattle.apply_auxiliary_rows.proofs.Columns.{columns_row}
use Rattle.apply_auxiliary_rows.proofs.v2.v2_row.Goals as goal

either-kind : (k : ℕ) → (odd k ≡ true) ⊎ (even k ≡ true)
either-kind k = ⊎_elim (λ is. inl (is_odd k is)) (λ is. inr (is_even k is)) (parity k)

pub returns : goal.returns
returns c =
    let a = c.args in
    let vy = a.frame.y.now in
    let vu = a.frame.u.now in
    let vv = a.frame.v.now in
    let mid = c.v2_together-mid.ensures.lower_bound in record {
      u = columns_row _ _ a.row a.left c.v2_together-mid.result a.right _ odd even (auxiliary_source (V2 a.wide) CU a.frame.sizes vy vu vv) a.u.now mid.0 mid.1 either-kind
          c.v2_together-mid.ensures.u (c.v2_odds.ensures.u vu vv) (c.v2_evens.ensures.u vy);
      v = columns_row _ _ a.row a.left c.v2_together-mid.result a.right _ odd even (auxiliary_source (V2 a.wide) CV a.frame.sizes vy vu vv) a.v.now mid.0 mid.1 either-kind
          c.v2_together-mid.ensures.v (c.v2_odds.ensures.v vu vv) (c.v2_evens.ensures.v vy);
    }
