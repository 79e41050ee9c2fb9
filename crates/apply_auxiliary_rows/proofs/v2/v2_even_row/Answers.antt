-- `apply_auxiliary_rows::v2::v2_even_row` meets its contract: in an even row the view gives odd columns alone.
-- Assumes nothing.
use Prim.Native.Nat.{ℕ, ◌%◌}
use native.Mathlib.Omega.{arith}
use mathlib.Core.Path.{◌≡◌, refl, ◌∙◌}
use mathlib.Core.Bool.{true, ◌&&◌}
use mathlib.Core.Logic.{⊎_elim}
use mathlib.Core.List.{List}
use Rattle.lent.specs.Paint.{painted}
use Rattle.lent.proofs.Bools.{both, both_left}
use Rattle.picture.specs.Sizes.{stride_of, rows_of}
use Rattle.view.specs.declared.View.{View}
use Rattle.layout.specs.declared.Layout.TheVariants.{V2}
use Rattle.layout.specs.Exists.{fed}
use Rattle.layout.proofs.Pairs.{v2_even_facts}
use Rattle.columns.specs.Turns.{odd}
use Rattle.columns.proofs.Turns.{parity, is_odd}
use Rattle.apply_auxiliary_rows.specs.Rows.{auxiliary_row, auxiliary_only}
use Rattle.apply_auxiliary_rows.proofs.Columns.{columns_same}
use Rattle.apply_auxiliary_rows.proofs.v2.v2_even_row.Goals as goal

-- an even column is fed in odd rows alone
odd-alone : (W : ℕ) (w : View) (row c : ℕ) → row % 2 ≡ 0 → fed (V2 W) w.width w.height row c ≡ true → odd c ≡ true
odd-alone W w row c e f = is_odd c (⊎_elim (λ o. o) (λ z. omega (arith, v2_even_facts W w.width w.height row c z f)) (parity c))

even_row : (W : ℕ) (w : View) (n m row left right : ℕ) (s : ℕ → ℕ → ℕ) (xs : List ℕ) → row % 2 ≡ 0
    → painted n m (auxiliary_only odd (V2 W) w row left right) s xs ≡ painted n m (auxiliary_row (V2 W) w row left right) s xs
even_row W w n m row left right s xs e =
    columns_same n m row left xs right right (λ c. fed (V2 W) w.width w.height row c && odd c) (fed (V2 W) w.width w.height row) s s
    (λ c l h t. (h, both_left (fed (V2 W) w.width w.height row c) (odd c) t))
    (λ c l h t. (h, both (fed (V2 W) w.width w.height row c) (odd c) t (odd-alone W w row c e t)))
    (λ c t. refl)

pub returns : goal.returns
returns c =
    let same = even_row c.args.wide c.args.w (stride_of c.args.size) (rows_of c.args.size) c.args.row c.args.left c.args.right in
    record {
      u = λ vu vv. c.v2_odds.ensures.u vu vv ∙ same _ _ c.requires.row_value;
      v = λ vu vv. c.v2_odds.ensures.v vu vv ∙ same _ _ c.requires.row_value;
    }
