-- The pixel at a row and a column (R51, R53).
--
--   block_of p stride r c            the 2x2 block of a plane: the sample at (r, c), then right, below, diagonal
--   corners_at p at below            the same, by the places where its two rows start
--   chroma_at p stride r c           "filters U and V at pixels of even row and even column, and no others"
--   filtered_at p stride r c         the filter replaced the sample at (r, c)
--   row_filtered_of stride r left n p how many samples it replaced among the n of row r from column `left` on
--   in_both f u v                    the count f of U and of V
--   pixel_at stride y u v            a pixel of the 4:4:4 picture
--   view_pixel_at m luma chroma y u v a pixel of a view, by the colour matrix m: "no filter and uses chroma at row/2, column/2"; luma and
--                                   chroma are the strides
--   row_from left f                  a row of pixels f, as it is seen from column `left` on
--   plain_from y at u v c            pixels as their samples stand: luma from place `at` on, chroma from place c on
--   smooth_from p at below           a row of chroma from place `at` on, at every second place filtered by its block, whose lower row
--                                   starts at `below`
--   applied_from p at below k        the filter was applied at place k of such a row
--   filtered_from at below n p       how many of the first n it replaced
--   mark_of u v at below i           where the filter was applied in block i of such rows of U and V: 1 in U, 256 in V, their sum in both
--   shades_from i y at r g b         pixels of luma from place `at` on and of three lists of shares, where pixel k has those at place i k
--   half_of k                        two pixels share their chroma
--   paired_from m y at u v c         pixels by the colour matrix m, luma from place `at` on and chroma from place c on, one sample for two pixels
use Rattle.std.specs.Prelude.{ℕ, ◌+◌, ◌*◌, ◌/◌, ◌%◌, Bool, cond, ◌&&◌, List, [], ◌∷◌, eqb, get_or, ℤ, pos}
use Rattle.colour.specs.Colour.{reverse_of, filter_of, applied_in}
use Rattle.colour.specs.Products.{shade_of}
use Rattle.lent.specs.Counts.{one, count_of}
use Rattle.lent.specs.Samples.{sample}
use Rattle.to_rgba_rows.specs.declared.picture_rows.Filtered.{Filtered}

abbrev pub block_of : List ℕ → ℕ → ℕ → ℕ → List ℕ
block_of p stride r c = sample p stride r c ∷ sample p stride r (c + 1) ∷ sample p stride (r + 1) c ∷ sample p stride (r + 1) (c + 1) ∷ []

abbrev pub corners_at : List ℕ → ℕ → ℕ → List ℕ
corners_at p at below = get_or p at 0 ∷ get_or p (at + 1) 0 ∷ get_or p below 0 ∷ get_or p (below + 1) 0 ∷ []

unfoldable pub chroma_at : List ℕ → ℕ → ℕ → ℕ → ℕ
chroma_at p stride r c = cond (eqb (r % 2) 0 && eqb (c % 2) 0) (filter_of (block_of p stride r c)) (sample p stride r c)

-- "exactly the samples that the filter replaced": at even row and even column alone
unfoldable pub filtered_at : List ℕ → ℕ → ℕ → ℕ → Bool
filtered_at p stride r c = (eqb (r % 2) 0 && eqb (c % 2) 0) && applied_in (block_of p stride r c)

abbrev pub row_filtered_of : ℕ → ℕ → ℕ → ℕ → List ℕ → ℕ
row_filtered_of stride r left n p = count_of n (λ c. filtered_at p stride r (left + c))

-- "the number of filtered U samples and of V samples": one definition for both
abbrev pub in_both : (List ℕ → ℕ) → List ℕ → List ℕ → Filtered
in_both f u v = record { u = f u; v = f v }

unfoldable pub pixel_at : ℕ → List ℕ → List ℕ → List ℕ → ℕ → ℕ → List ℕ
pixel_at stride y u v r c = reverse_of (sample y stride r c) (chroma_at u stride r c) (chroma_at v stride r c)

unfoldable pub view_pixel_at : (ℕ → ℕ → ℕ → List ℕ) → ℕ → ℕ → List ℕ → List ℕ → List ℕ → ℕ → ℕ → List ℕ
view_pixel_at m luma chroma y u v r c = m (sample y luma r c) (sample u chroma (r / 2) (c / 2)) (sample v chroma (r / 2) (c / 2))

abbrev pub row_from : ℕ → (ℕ → List ℕ) → ℕ → List ℕ
row_from left f c = f (left + c)

abbrev pub plain_from : List ℕ → ℕ → List ℕ → List ℕ → ℕ → ℕ → List ℕ
plain_from y at u v c k = reverse_of (get_or y (at + k) 0) (get_or u (c + k) 0) (get_or v (c + k) 0)

unfoldable pub smooth_from : List ℕ → ℕ → ℕ → ℕ → ℕ
smooth_from p at below k = cond (eqb (k % 2) 0) (filter_of (corners_at p (at + k) (below + k))) (get_or p (at + k) 0)

abbrev pub applied_from : List ℕ → ℕ → ℕ → ℕ → Bool
applied_from p at below k = eqb (k % 2) 0 && applied_in (corners_at p (at + k) (below + k))

abbrev pub filtered_from : ℕ → ℕ → ℕ → List ℕ → ℕ
filtered_from at below n p = count_of n (applied_from p at below)

abbrev pub mark_of : List ℕ → List ℕ → ℕ → ℕ → ℕ → ℕ
mark_of u v at below i =
    one (applied_in (corners_at u (at + 2 * i) (below + 2 * i))) + 256 * one (applied_in (corners_at v (at + 2 * i) (below + 2 * i)))

abbrev pub shades_from : (ℕ → ℕ) → List ℕ → ℕ → List ℤ → List ℤ → List ℤ → ℕ → List ℕ
shades_from i y at r g b k = shade_of (get_or y (at + k) 0) (get_or r (i k) (pos 0)) (get_or g (i k) (pos 0)) (get_or b (i k) (pos 0))

abbrev pub half_of : ℕ → ℕ
half_of k = k / 2

abbrev pub paired_from : (ℕ → ℕ → ℕ → List ℕ) → List ℕ → ℕ → List ℕ → List ℕ → ℕ → ℕ → List ℕ
paired_from m y at u v c k = m (get_or y (at + k) 0) (get_or u (c + half_of k) 0) (get_or v (c + half_of k) 0)
