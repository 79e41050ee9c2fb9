-- `split_views::main_view` meets its contract: the luma plane, and the even columns of the even rows of U and V.
-- Assumes nothing.
use Prim.Native.Nat.{ℕ, ◌+◌, ◌*◌, ◌/◌}
use native.Mathlib.Nat.{add-zero}
use mathlib.Core.Path.{◌≡◌, ap, ◌∙◌}
use mathlib.Core.List.{List}
use Rattle.lent.specs.Paint.{painted, whole}
use Rattle.split_rows.proofs.Rows.{same_plane}
use Rattle.split_views.specs.Views.{seen}
use Rattle.split_views.proofs.main_view.Goals as goal

-- from column 0 on: the even columns
even-plane : (plane xs : List ℕ) (stride wide rows : ℕ)
    → painted (wide / 2) (rows / 2) whole (λ r c. seen 128 plane stride (2 * r) (2 * c + 0)) xs ≡ painted (wide / 2) (rows / 2) whole (λ r c. seen 128 plane stride (2 * r) (2 * c)) xs
even-plane plane xs stride wide rows = same_plane _ _ _ _ xs (λ r c. ap (seen 128 plane stride (2 * r)) (add-zero (2 * c)))

pub returns : goal.returns
returns c =
    let a = c.args in
    record {
      y_is = c.main_luma.ensures;
      u_is = c.half_plane.ensures ∙ even-plane a.u.now a.main_u.now a.stride a.wide a.rows;
      v_is = c.half_plane-2.ensures ∙ even-plane a.v.now a.main_v.now a.stride a.wide a.rows;
    }
