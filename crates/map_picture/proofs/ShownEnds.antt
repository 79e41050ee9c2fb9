-- How picture to RGBA with the map ends: its answer where it is refused and where it is not, its output, and that a rectangle that is not empty lies
-- inside the planes, so that its pixels are counted. Assumes nothing.
use Prim.Native.Nat.{ℕ, ◌*◌, ◌<◌}
use native.Mathlib.Nat.{eq-zero-or-pos}
use native.Mathlib.Omega.{arith}
use mathlib.Core.Path.{◌≡◌, sym, ap, ◌∙◌}
use mathlib.Core.Bool.{false, cond}
use mathlib.Core.Logic.{⊎_elim}
use mathlib.Core.List.{List}
use lib.Dec.{eqb}
use borrow.Author.Tests.{eq-eqb, ne_eqb}
use Rattle.lent.proofs.Bools.{cond-true, cond-false, cond_same}
use Rattle.picture.specs.declared.Size.{Size}
use Rattle.to_rgba.specs.declared.Pixels as shown-pixels
use Rattle.rects.specs.declared.Rect.{Rect}
use Rattle.to_rgba.specs.Picture as shown
use Rattle.to_rgba.specs.Picture.{to_rgba_count_of, pixels_of}
use Rattle.to_rgba.proofs.Pictured.{some_column, some_row}
use Rattle.map.specs.Map.{across_of, map_short, stale_rows_of, StaleFits}
use Rattle.map.proofs.Sizes.{map_fit_exactly}
use Rattle.map_picture.specs.Shown.{stale_in, map_pixels_of}

-- what the code works out is the rectangle, clipped to the picture
module _ (z : Size) (q : Rect) {n h : ℕ} (across : n ≡ shown.across_of z q) (down : h ≡ shown.down_of z q) where
  pub stale_is : (m : List ℕ) → stale_rows_of (across_of z) q.left q.top n h m ≡ stale_in z q m
  unfolding stale_in
  stale_is m = λ i. stale_rows_of (across_of z) q.left q.top (across i) (down i) m

  pub stale_fits : (len : ℕ) → map_short z len ≡ false → (to_rgba_count_of z q ≡ 0 → ⊥) → StaleFits z len q.left q.top n h
  stale_fits len long some =
      let is : 4 * (n * h) ≡ to_rgba_count_of z q = λ i. 4 * (across i * down i) in
      let pos : 0 < 4 * (n * h) = ⊎_elim (λ none. absurd (some (sym is ∙ none))) (λ p. p) (eq-zero-or-pos (4 * (n * h))) in
      let right = some_column n h pos in
      let below = some_row n h pos in
      record { map_fits = (map_fit_exactly z len).0 long; some = right; columns = omega arith; rows = omega arith }

-- the call that has no map answered k
module _ {k : ℕ} (count in-u in-v : ℕ) {made : shown-pixels.Pixels} (answer : made ≡ pixels_of k count in-u in-v) where
  number_made : made.number ≡ k
  number_made = λ i. (answer i).number

  pub count_made : made.number ≡ 0 → made.count ≡ count
  count_made none = (λ i. (answer i).count) ∙ cond-true (eqb k 0) count 0 (eq-eqb k 0 (sym number_made ∙ none))

module _ {k n : ℕ} (is : k ≡ n) (count in-u in-v stale : ℕ) where
  -- a refusal has no counts
  pub pixels_none : (k ≡ 0 → ⊥) → map_pixels_of k 0 0 0 0 ≡ map_pixels_of n count in-u in-v stale
  pixels_none some = λ i. record { number = is i; count = zero count i; filtered_u = zero in-u i; filtered_v = zero in-v i; stale = zero stale i }
    where
      zero : (x : ℕ) → cond (eqb k 0) 0 0 ≡ cond (eqb n 0) x 0
      zero x = cond_same (eqb k 0) 0 ∙ sym (cond-false (eqb n 0) x 0 (ne_eqb n 0 (λ e. some (is ∙ e))))

  module _ {made : shown-pixels.Pixels} (answer : made ≡ pixels_of k count in-u in-v) where
    -- a refusal of the call that has no map, passed on
    pub pixels_passed : (made.number ≡ 0 → ⊥) → map_pixels_of made.number 0 0 0 0 ≡ map_pixels_of n count in-u in-v stale
    pixels_passed some =
        let is-k = number_made count in-u in-v answer in
        ap (λ (j : ℕ). map_pixels_of j 0 0 0 0) is-k ∙ pixels_none (λ e. some (is-k ∙ e))

    -- its counts, and the stale pixels beside them
    pub pixels_counted : {s : ℕ} → made.number ≡ 0 → s ≡ stale
        → record { number = 0; count = made.count; filtered_u = made.filtered_u; filtered_v = made.filtered_v; stale = s } ≡ map_pixels_of n count in-u in-v stale
    pixels_counted none counted =
        let zero : n ≡ 0 = sym is ∙ sym (number_made count in-u in-v answer) ∙ none in
        λ i. record {
          number = sym zero i;
          count = ((λ t. (answer t).count) ∙ ap (λ (j : ℕ). cond (eqb j 0) count 0) is) i;
          filtered_u = ((λ t. (answer t).filtered_u) ∙ ap (λ (j : ℕ). cond (eqb j 0) in-u 0) is) i;
          filtered_v = ((λ t. (answer t).filtered_v) ∙ ap (λ (j : ℕ). cond (eqb j 0) in-v 0) is) i;
          stale = (counted ∙ sym (cond-true (eqb n 0) stale 0 (eq-eqb n 0 zero))) i;
        }
