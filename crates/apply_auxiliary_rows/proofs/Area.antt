-- The part of a plane's row that a row function lends, and the plane when that part has come back. Assumes nothing.
use Prim.Native.Nat.{ℕ, ◌+◌, ◌*◌, ◌-◌, ◌%◌, ◌<◌, ◌≤◌}
use native.Mathlib.Omega.{arith}
use mathlib.Core.Path.{◌≡◌, refl, sym, ap, subst, ◌∙◌}
use mathlib.Core.Bool.{Bool, true}
use mathlib.Core.List.{List, ◌++◌}
use lib.ListN.{length, take, drop}
use Rattle.std.proofs.lemmas.List.{drop-take, take-take, drop-drop}
use Rattle.lent.specs.Paint.{paint, painted, row_part}
use Rattle.lent.proofs.Bools.{same_test}
use Rattle.lent.proofs.Cells.{row_in}
use Rattle.lent.proofs.Parts.{painted_row}
use Rattle.lent.proofs.Taken.{row_part_facts, row_part_holds}
use Rattle.picture.specs.declared.Size.{Size}
use Rattle.picture.specs.Sizes.{stride_of, rows_of}
use Rattle.view.specs.declared.Plane.{Plane}
use Rattle.apply_auxiliary_rows.specs.Rows.{AreaFits, IsRow}
use Rattle.apply_auxiliary_rows.proofs.Columns.{columns_same}

-- the part `&xs[a..e]`, and xs when it has come back as ys
abbrev pub part : List ℕ → ℕ → ℕ → List ℕ
part xs a e = take (e - a) (drop a xs)

abbrev pub back_in : List ℕ → ℕ → ℕ → List ℕ → List ℕ
back_in xs a e ys = take a xs ++ (ys ++ drop (e - a) (drop a xs))

-- a part of a row of the view is a part of its plane
pub line_part : {p : Plane} {plane line : List ℕ} {r : ℕ} → IsRow p plane r line → (a e b f : ℕ) → a ≤ e → e ≤ p.width → r * p.stride + a ≡ b → r * p.stride + e ≡ f
    → part line a e ≡ part plane b f
line_part {p} {plane} {line} {r} row a e b f ordered inside first last =
    let start : ℕ = r * p.stride in
    let wide : p.width ≡ a + (p.width - a) = omega arith in
    let long : e - a ≤ p.width - a = omega arith in
    let same : e - a ≡ f - b = omega arith in
    ap (λ (l : List ℕ). take (e - a) (drop a l)) (row.bytes ∙ ap (λ (n : ℕ). take n (drop start plane)) wide)
    ∙ ap (take (e - a)) (drop-take a (p.width - a) (drop start plane))
    ∙ take-take (e - a) (p.width - a) (drop a (drop start plane)) long
    ∙ ap (take (e - a)) (drop-drop a start plane ∙ ap (λ (n : ℕ). drop n plane) first)
    ∙ ap (λ (n : ℕ). take n (drop b plane)) same

-- a part's places are the row's columns
row_part_in : (p t : ℕ → Bool) (row left stop j : ℕ) → left + j < stop → p (left + j) ≡ t j → row_part p row left stop row (left + j) ≡ t j
row_part_in p t row left stop j h e =
    same_test _ (t j)
    (λ held. sym e ∙ (row_part_facts p row left stop row (left + j) held).3)
    (λ held. row_part_holds p row left stop row (left + j) refl (omega arith) h (e ∙ held))

-- fewer columns lie in the plane too
pub narrower : {z : Size} {n bottom left right stop : ℕ} → AreaFits z n bottom left right → left ≤ stop → stop ≤ right → stop % 2 ≡ 0 → AreaFits z n bottom left stop
narrower fits ordered below even = record {
  plane_fits = fits.plane_fits;
  rows_inside = fits.rows_inside;
  ordered = ordered;
  inside = omega (arith, fits.inside);
  even_left = fits.even_left;
  even_right = even;
}

-- n is the code's stride
module _ (z : Size) (xs : List ℕ) (row left right : ℕ) (fits : AreaFits z (length xs) (row + 1) left right) (n : ℕ) (is-stride : n ≡ stride_of z) where
  -- the columns below `stop` lie in the plane
  pub area_room : (stop : ℕ) → stop ≤ right → row * n + stop ≤ length xs
  area_room stop below =
      subst (λ (m : ℕ). row * m + stop ≤ length xs) (sym is-stride)
      (omega (arith, fits.plane_fits, fits.inside, row_in (stride_of z) (rows_of z) row (omega (arith, fits.rows_inside))))

  -- the columns from left to below `stop` were lent and came back painted, which is what is to be written below `right`
  pub area_written : (stop : ℕ) (p q t : ℕ → Bool) (s : ℕ → ℕ → ℕ) (u : ℕ → ℕ) (ys : List ℕ) → left ≤ stop → stop ≤ right
      → ys ≡ paint t u (part xs (row * n + left) (row * n + stop))
      → ((j : ℕ) → left + j < stop → p (left + j) ≡ t j)
      → ((j : ℕ) → left + j < stop → t j ≡ true → u j ≡ s row (left + j))
      → ((c : ℕ) → left ≤ c → c < stop → p c ≡ true → (c < right) × (q c ≡ true))
      → ((c : ℕ) → left ≤ c → c < right → q c ≡ true → (c < stop) × (p c ≡ true))
      → back_in xs (row * n + left) (row * n + stop) ys ≡ painted (stride_of z) (rows_of z) (row_part q row left right) s xs
  area_written stop p q t s u ys ordered below is same from f g =
      subst
      (λ (m : ℕ). ys ≡ paint t u (part xs (row * m + left) (row * m + stop))
      → back_in xs (row * m + left) (row * m + stop) ys ≡ painted (stride_of z) (rows_of z) (row_part p row left stop) s xs)
      (sym is-stride)
      (λ is. painted_row (stride_of z) (rows_of z) _ s xs fits.plane_fits row left stop t u ys (omega (arith, fits.rows_inside)) ordered (omega (arith, fits.inside)) is
      (λ j h. row_part_in p t row left stop j h (same j h))
      from
      (λ r c held. let e = row_part_facts p row left stop r c held in (e.0, e.1, e.2)))
      is
      ∙ columns_same (stride_of z) (rows_of z) row left xs stop right p q s s f g (λ c e. refl)

-- of both planes the columns from left to below `stop` can be lent
pub record Inside (us vs : List ℕ) (line left stop : ℕ) : Type 0 where
  pub ordered : left ≤ stop
  pub in_u : line + stop ≤ length us
  pub in_v : line + stop ≤ length vs

pub inside : {z : Size} {us vs : List ℕ} (row : ℕ) {left right n : ℕ} (stop : ℕ) → AreaFits z (length us) (row + 1) left right → AreaFits z (length vs) (row + 1) left right
    → n ≡ stride_of z → left < stop → stop ≤ right → Inside us vs (row * n) left stop
inside {z} {us} {vs} row {left} {right} {n} stop fits fits' is-stride some below =
    record { ordered = omega arith; in_u = area_room z us row left right fits n is-stride stop below; in_v = area_room z vs row left right fits' n is-stride stop below }
