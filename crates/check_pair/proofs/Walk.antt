-- The walk over the rows of a plane: what was passed has no wrong sample; one row more, the row that has one, and the end.
-- Assumes nothing.
use Prim.Native.Nat.{ℕ, ◌+◌, ◌*◌, ◌-◌, ◌%◌, ◌<◌, ◌≤◌}
use native.Mathlib.Nat.{le_trans, mul-le-mul_right, suc-mul}
use native.Mathlib.Numerals.{add-one}
use native.Mathlib.Omega.{arith}
use mathlib.Core.Path.{◌≡◌, sym, ap, ◌∙◌, subst}
use mathlib.Core.Bool.{not}
use mathlib.Core.List.{List}
use lib.Dec.{eqb}
use lib.ListN.{length}
use Rattle.lent.specs.Counts.{first_where}
use Rattle.lent.specs.Samples.{sample}
use Rattle.lent.proofs.ByPart.{part_long}
use Rattle.lent.proofs.Cells.{cell_row, cell_col, row_in}
use Rattle.lent.proofs.First.{Passed, first_none, first_low}
use Rattle.layout.specs.declared.Layout.{Layout}
use Rattle.view.specs.declared.Plane.{Plane}
use Rattle.view.specs.View.{PlaneFits}
use Rattle.split_views.specs.Fits.{WideEnough}
use Rattle.check_rows.specs.Rows.{wrong_at, first_wrong}
use Rattle.check_rows.proofs.Firsts.{passed_join, passed_all, first_later, first_same}
use Rattle.check_rows.proofs.Rows.{part_of, part_at}
use Rattle.check_pair.specs.declared.Name.{Name}
use Rattle.check_pair.specs.declared.Name.TheVariants.{YPlane, UPlane, VPlane}
use Rattle.check_pair.specs.Verdict.{cell_wrong, first_in}
use Rattle.check_pair.specs.Rows.{full_of, LineFits, PlaneWhole}

-- ---- a row of a plane reads rows of the picture that are there

-- the block that a row is in is within the rows
block_in : (r rows : ℕ) → r < rows → rows % 16 ≡ 0 → r - r % 16 + 16 ≤ rows
block_in r rows lt whole = omega arith

module _ {n : Name} {t : Layout} {q : Plane} {len m stride : ℕ} (fits : PlaneWhole n t q len m stride) where
  full_low : (line : ℕ) → line < q.height → full_of n line < full_of n q.height
  full_low line lt = by n
    where
      by : (o : Name) → full_of o line < full_of o q.height
      by YPlane = omega arith
      by UPlane = omega arith
      by VPlane = omega arith

  pub line_whole : (line k : ℕ) → line < q.height → k ≡ q.width → LineFits n k m stride line
  line_whole line k lt is = record {
    block = le_trans (mul-le-mul_right stride (block_in (full_of n line) (full_of n q.height) (full_low line lt) fits.picture.high)) fits.picture.fits;
    whole = fits.picture.wide;
    room = subst (λ (w : ℕ). WideEnough stride (full_of n w)) (sym is) fits.room;
    low = omega (arith, fits.high);
  }

-- ---- the walk

module _ (s : ℕ → ℕ → ℕ) (q : Plane) (xs : List ℕ) (fits : PlaneFits q (length xs)) where
  -- all rows were passed
  pub walk_end : (line : ℕ) → line ≡ q.height → Passed (cell_wrong s q xs) (line * q.width) → q.height * q.width ≡ first_in s q xs
  unfolding first_in
  walk_end line end passed = sym (first_none (q.height * q.width) (cell_wrong s q xs) (subst (λ (l : ℕ). Passed (cell_wrong s q xs) (l * q.width)) end passed))

  module _ (line : ℕ) (low : line < q.height) where
    pub row_room : line * q.stride + q.width ≤ length xs
    row_room = omega (arith, row_in q.stride q.height line low, fits.wide, fits.long)

    abbrev row : List ℕ
    row = part_of xs (line * q.stride) (line * q.stride + q.width)

    pub row_long : length (part_of xs (line * q.stride) (line * q.stride + q.width)) ≡ q.width
    row_long = omega (arith, part_long xs (line * q.stride) (line * q.stride + q.width) (omega arith) row_room)

    -- column c of the row is sample line x width + c of the plane
    row_test : (c : ℕ) → c < q.width → wrong_at row (s line) c ≡ cell_wrong s q xs (line * q.width + c)
    unfolding sample
    row_test c h =
        ap (λ (y : ℕ). not (eqb y (s line c))) (part_at xs (line * q.stride) (line * q.stride + q.width) c (omega arith))
        ∙ sym (λ i. not (eqb (sample xs q.stride (cell_row q.width line c h i) (cell_col q.width line c h i)) (s (cell_row q.width line c h i) (cell_col q.width line c h i))))

    row_first : first_wrong row (s line) ≡ first_where q.width (λ c. cell_wrong s q xs (line * q.width + c))
    unfolding first_wrong
    row_first = ap (λ (n : ℕ). first_where n (wrong_at row (s line))) row_long ∙ first_same q.width _ _ row_test

    module _ (passed : Passed (cell_wrong s q xs) (line * q.width)) {k : ℕ} (is : k ≡ first_wrong (part_of xs (line * q.stride) (line * q.stride + q.width)) (s line)) where
      -- the row has a wrong sample, which is the plane's first
      pub walk_found : k < q.width → line * q.width + k ≡ first_in s q xs
      unfolding first_in
      walk_found lt = sym (first_later (q.height * q.width) (cell_wrong s q xs) (line * q.width) q.width passed (is ∙ row_first) lt (row_in q.width q.height line low))

      -- it has none, and is passed
      pub walk_more : q.width ≤ k → Passed (cell_wrong s q xs) ((line + 1) * q.width)
      walk_more ge =
          let first = is ∙ row_first in
          let all : k ≡ q.width = omega (arith, first_low q.width (λ c. cell_wrong s q xs (line * q.width + c))) in
          let next : line * q.width + q.width ≡ (line + 1) * q.width = sym (ap (λ (l : ℕ). l * q.width) (add-one line) ∙ suc-mul line q.width) in
          subst (Passed (cell_wrong s q xs)) next
          (passed_join (cell_wrong s q xs) (line * q.width) q.width passed (passed_all q.width (λ c. cell_wrong s q xs (line * q.width + c)) (sym first ∙ all)))
