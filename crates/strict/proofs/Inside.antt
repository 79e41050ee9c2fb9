-- Of a sound rectangle clipping cuts nothing: its widened area ends with its own edges, rounded up to even, and has a sample. An empty list is
-- sound, whatever the picture; of a picture without columns or rows no other list is.
-- Assumes nothing.
use Prim.Native.Nat.{ℕ, ◌*◌, ◌/◌, ◌<◌, min}
use native.Mathlib.Omega.{arith}
use mathlib.Core.Path.{◌≡◌, refl}
use mathlib.Core.Bool.{true, false}
use mathlib.Core.Logic.{inl, inr, ⊎_elim}
use mathlib.Core.List.{List, []}
use lib.ListN.{length}
use Rattle.lent.specs.Paint.{some}
use Rattle.lent.specs.Sizes.{round_up}
use Rattle.lent.proofs.Bools.{split}
use Rattle.picture.specs.declared.Size.{Size}
use Rattle.rects.specs.declared.Rect.{Rect}
use Rattle.rects.specs.Rects.{rect_at_of, chroma_block_area_of, NoArea}
use Rattle.strict.specs.Sound.{Sound, unsound}
use Rattle.strict.proofs.Faults.{unsound_exactly}

module _ (z : Size) (q : Rect) (s : Sound z q) where
  pub sound_inside : chroma_block_area_of z q.left q.top q.right q.bottom
      ≡ record { left = q.left / 2 * 2; top = q.top / 2 * 2; right = round_up 2 q.right; bottom = round_up 2 q.bottom }
  sound_inside =
      let right : min q.right z.width ≡ q.right = omega (arith, s.right_inside) in
      let bottom : min q.bottom z.height ≡ q.bottom = omega (arith, s.bottom_inside) in
      λ i. record { left = q.left / 2 * 2; top = q.top / 2 * 2; right = round_up 2 (right i); bottom = round_up 2 (bottom i) }

  -- it takes something
  pub sound_some : NoArea z q.left q.top q.right q.bottom → ⊥
  sound_some = ⊎_elim (λ h. omega (arith, s.wide, s.right_inside)) (λ h. omega (arith, s.high, s.bottom_inside))

pub empty_sound : (z : Size) → unsound z [] ≡ false
unfolding unsound some
empty_sound z = refl

-- where the picture has no columns, or no rows, no rectangle is sound
module _ (z : Size) (rects : List ℕ) (some : 0 < length rects / 4) where
  pub no_columns_unsound : z.width ≡ 0 → unsound z rects ≡ true
  no_columns_unsound e =
      let q = rect_at_of rects 0 in
      (unsound_exactly z rects).1 (0, (some, ⊎_elim (λ wide. inr (inl (omega arith))) (λ flat. inl (inl flat)) (split q.left q.right)))

  pub no_rows_unsound : z.height ≡ 0 → unsound z rects ≡ true
  no_rows_unsound e =
      let q = rect_at_of rects 0 in
      (unsound_exactly z rects).1 (0, (some, ⊎_elim (λ high. inr (inr (omega arith))) (λ flat. inl (inr flat)) (split q.top q.bottom)))
