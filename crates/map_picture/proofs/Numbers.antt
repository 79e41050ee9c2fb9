-- The numbers of the three calls: where the map is short, and where it is not and they are those of the calls that have no map; "exactly when" for
-- each number, in plain inequalities; and that each outcome is the only one. Assumes nothing.
use Prim.Native.Nat.{ℕ, ◌*◌, ◌<◌, ◌≤◌}
use native.Mathlib.Omega.{arith}
use mathlib.Core.Path.{◌≡◌, sym}
use mathlib.Core.Bool.{true, false}
use mathlib.Core.Logic.Iff
use mathlib.Core.Logic.{◌↔◌, ◌⊎◌, true-and, and-true}
use mathlib.Core.List.{List, [], ◌∷◌}
use lib.Dec.{ltb}
use lib.ListN.{length}
use Rattle.lent.specs.Outcome.{answer_of, lent_after}
use Rattle.lent.specs.Refusal.{refusal}
use Rattle.lent.specs.declared.Answer.{Answer}
use Rattle.lent.proofs.Exactly.{below, not-below}
use Rattle.lent.proofs.Refusal.{refusal_exactly, refusal_none}
use Rattle.lent.proofs.Outcome.{outcome_unique}
use Rattle.colour.specs.declared.Matrix.{Matrix}
use Rattle.picture.specs.declared.Size.{Size}
use Rattle.picture.specs.Sizes.{stride_of, rows_of}
use Rattle.picture.specs.New.{new_number_of}
use Rattle.from_rgba.specs.declared.edges.Edge.{Edge}
use Rattle.from_rgba.specs.FromRgba.{rgba_short, from_number_of}
use Rattle.rects.specs.declared.Rect.{Rect}
use Rattle.to_rgba.specs.Picture.{to_rgba_count_of, to_rgba_number_of, filtered_in, to_rgba_of}
use Rattle.map.specs.Map.{across_of, down_of, map_short, picture_short, PictureFits}
use Rattle.map.proofs.Sizes.{picture_short_exactly, picture_fit_exactly, picture_map_short, picture_planes}
use Rattle.map_picture.specs.declared.Pixels.{Pixels}
use Rattle.map_picture.specs.Made.{map_new_number_of, map_new_buffers_of, MapNewOutcome, map_from_number_of, from_short_of, map_from_buffers_of, MapFromRgbaOutcome}
use Rattle.map_picture.specs.Shown.{stale_in, map_pixels_of, map_to_rgba_number_of, MapToRgbaOutcome}

-- ---- a fresh picture

module _ (z : Size) (ny nu nv n : ℕ) where
  pub map_new_short : map_short z n ≡ true → 1 ≡ map_new_number_of z ny nu nv n
  map_new_short short = λ i. refusal ((sym (picture_map_short z ny nu nv n short) i, 1) ∷ [])

  pub map_new_planes : map_short z n ≡ false → new_number_of z ny nu nv ≡ map_new_number_of z ny nu nv n
  map_new_planes long = λ i. refusal ((sym (picture_planes z ny nu nv n long) i, 1) ∷ [])

  pub map_new_1_exactly : (map_new_number_of z ny nu nv n ≡ 1)
      ↔ ((((ny < rows_of z * stride_of z) ⊎ (nu < rows_of z * stride_of z)) ⊎ (nv < rows_of z * stride_of z)) ⊎ (n < down_of z * across_of z))
  map_new_1_exactly =
      Iff.trans (refusal_exactly (picture_short z ny nu nv n) 1 [] tt (λ e. omega arith) [] tt) (Iff.trans true-and (picture_short_exactly z ny nu nv n))

  pub map_new_0_exactly : (map_new_number_of z ny nu nv n ≡ 0) ↔ PictureFits z ny nu nv n
  map_new_0_exactly = Iff.trans (refusal_none ((picture_short z ny nu nv n, 1) ∷ []) tt) (Iff.trans and-true (picture_fit_exactly z ny nu nv n))

-- the call's input: the size and the four buffers
abbrev pub MapNewInput : Type 0
MapNewInput = Size × List ℕ × List ℕ × List ℕ × List ℕ

abbrev map_new_number : MapNewInput → ℕ
map_new_number i = map_new_number_of i.0 (length i.1) (length i.2) (length i.3) (length i.4)

pub map_new_unique : (z : Size) (y u v m : List ℕ) (r q : Answer) (rs qs : List (List ℕ))
    → MapNewOutcome z y u v m r rs → MapNewOutcome z y u v m q qs → (r ≡ q) × (rs ≡ qs)
map_new_unique z y u v m =
    outcome_unique (λ (i : MapNewInput). answer_of (map_new_number i) 0) (λ (i : MapNewInput). map_new_buffers_of (map_new_number i) i.0 i.1 i.2 i.3 i.4) (z, y, u, v, m)

-- ---- from RGBA

module _ (z : Size) (k ny nu nv n : ℕ) where
  pub map_from_short : map_short z n ≡ true → from_short_of z k ≡ map_from_number_of z k ny nu nv n
  map_from_short short = λ i. refusal ((rgba_short z k, 2) ∷ (sym (picture_map_short z ny nu nv n short) i, 1) ∷ [])

  pub map_from_planes : map_short z n ≡ false → from_number_of z k ny nu nv ≡ map_from_number_of z k ny nu nv n
  map_from_planes long = λ i. refusal ((rgba_short z k, 2) ∷ (sym (picture_planes z ny nu nv n long) i, 1) ∷ [])

  pub map_from_2_exactly : (map_from_number_of z k ny nu nv n ≡ 2) ↔ (k < z.width * z.height * 4)
  map_from_2_exactly =
      Iff.trans (refusal_exactly (rgba_short z k) 2 ((picture_short z ny nu nv n, 1) ∷ []) tt (λ e. omega arith) [] tt) (Iff.trans true-and (below k _))

  pub map_from_1_exactly : (map_from_number_of z k ny nu nv n ≡ 1)
      ↔ ((z.width * z.height * 4 ≤ k) × ((((ny < rows_of z * stride_of z) ⊎ (nu < rows_of z * stride_of z)) ⊎ (nv < rows_of z * stride_of z)) ⊎ (n < down_of z * across_of z)))
  map_from_1_exactly =
      Iff.trans (refusal_exactly (picture_short z ny nu nv n) 1 [] tt (λ e. omega arith) ((rgba_short z k, 2) ∷ []) tt)
      (Iff.and (Iff.trans and-true (not-below k _)) (picture_short_exactly z ny nu nv n))

  pub map_from_0_exactly : (map_from_number_of z k ny nu nv n ≡ 0) ↔ ((z.width * z.height * 4 ≤ k) × PictureFits z ny nu nv n)
  map_from_0_exactly =
      Iff.trans (refusal_none ((rgba_short z k, 2) ∷ (picture_short z ny nu nv n, 1) ∷ []) tt)
      (Iff.and (not-below k _) (Iff.trans and-true (picture_fit_exactly z ny nu nv n)))

-- the call's input: the pixels, the size and the four buffers
abbrev pub MapFromInput : Type 0
MapFromInput = List ℕ × Size × List ℕ × List ℕ × List ℕ × List ℕ

abbrev map_from_number : MapFromInput → ℕ
map_from_number i = map_from_number_of i.1 (length i.0) (length i.2) (length i.3) (length i.4) (length i.5)

pub map_from_unique : (x : Matrix) (e : Edge) (px : List ℕ) (z : Size) (y u v m : List ℕ) (r q : Answer) (rs qs : List (List ℕ))
    → MapFromRgbaOutcome x e px z y u v m r rs → MapFromRgbaOutcome x e px z y u v m q qs → (r ≡ q) × (rs ≡ qs)
map_from_unique x e px z y u v m =
    outcome_unique (λ (i : MapFromInput). answer_of (map_from_number i) 0)
    (λ (i : MapFromInput). map_from_buffers_of (map_from_number i) x e i.0 i.1 i.2 i.3 i.4 i.5) (px, z, y, u, v, m)

-- ---- to RGBA

module _ (z : Size) (count ny nu nv n nout : ℕ) where
  pub map_to_rgba_short : map_short z n ≡ true → 1 ≡ map_to_rgba_number_of z count ny nu nv n nout
  unfolding map_to_rgba_number_of
  map_to_rgba_short short = λ i. refusal ((sym (picture_map_short z ny nu nv n short) i, 1) ∷ (ltb nout count, 6) ∷ [])

  pub map_to_rgba_planes : map_short z n ≡ false → to_rgba_number_of z count ny nu nv nout ≡ map_to_rgba_number_of z count ny nu nv n nout
  unfolding map_to_rgba_number_of to_rgba_number_of
  map_to_rgba_planes long = λ i. refusal ((sym (picture_planes z ny nu nv n long) i, 1) ∷ (ltb nout count, 6) ∷ [])

  pub map_to_rgba_1_exactly : (map_to_rgba_number_of z count ny nu nv n nout ≡ 1)
      ↔ ((((ny < rows_of z * stride_of z) ⊎ (nu < rows_of z * stride_of z)) ⊎ (nv < rows_of z * stride_of z)) ⊎ (n < down_of z * across_of z))
  unfolding map_to_rgba_number_of
  map_to_rgba_1_exactly =
      Iff.trans (refusal_exactly (picture_short z ny nu nv n) 1 ((ltb nout count, 6) ∷ []) tt (λ e. omega arith) [] tt)
      (Iff.trans true-and (picture_short_exactly z ny nu nv n))

  pub map_to_rgba_6_exactly : (map_to_rgba_number_of z count ny nu nv n nout ≡ 6) ↔ (PictureFits z ny nu nv n × (nout < count))
  unfolding map_to_rgba_number_of
  map_to_rgba_6_exactly =
      Iff.trans (refusal_exactly (ltb nout count) 6 [] tt (λ e. omega arith) ((picture_short z ny nu nv n, 1) ∷ []) tt)
      (Iff.and (Iff.trans and-true (picture_fit_exactly z ny nu nv n)) (below nout count))

  pub map_to_rgba_0_exactly : (map_to_rgba_number_of z count ny nu nv n nout ≡ 0) ↔ (PictureFits z ny nu nv n × (count ≤ nout))
  unfolding map_to_rgba_number_of
  map_to_rgba_0_exactly =
      Iff.trans (refusal_none ((picture_short z ny nu nv n, 1) ∷ (ltb nout count, 6) ∷ []) tt)
      (Iff.and (picture_fit_exactly z ny nu nv n) (Iff.trans and-true (not-below nout count)))

-- the call's input: the size, the four buffers that are read, the rectangle and the output
abbrev pub MapToRgbaInput : Type 0
MapToRgbaInput = Size × List ℕ × List ℕ × List ℕ × List ℕ × Rect × List ℕ

abbrev map_to_rgba_number : MapToRgbaInput → ℕ
map_to_rgba_number i = map_to_rgba_number_of i.0 (to_rgba_count_of i.0 i.5) (length i.1) (length i.2) (length i.3) (length i.4) (length i.6)

abbrev map_to_rgba_answer : MapToRgbaInput → Pixels
map_to_rgba_answer i =
    map_pixels_of (map_to_rgba_number i) (to_rgba_count_of i.0 i.5) (filtered_in i.0 i.5 i.2) (filtered_in i.0 i.5 i.3) (stale_in i.0 i.5 i.4)

pub map_to_rgba_unique : (z : Size) (y u v m : List ℕ) (t : Rect) (out : List ℕ) (r q : Pixels) (rs qs : List (List ℕ))
    → MapToRgbaOutcome z y u v m t out r rs → MapToRgbaOutcome z y u v m t out q qs → (r ≡ q) × (rs ≡ qs)
map_to_rgba_unique z y u v m t out =
    outcome_unique map_to_rgba_answer
    (λ (i : MapToRgbaInput). lent_after (map_to_rgba_number i) i.6 (to_rgba_of i.0 i.1 i.2 i.3 i.5 i.6) ∷ []) (z, y, u, v, m, t, out)
