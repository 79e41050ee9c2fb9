-- What a part of a row is made of: the shares of its samples, one store more, and its pixels, one store more; and a part by two rules that
-- agree on it. Assumes nothing.
use Prim.Native.Nat.{ℕ, ◌+◌, ◌*◌, ◌/◌, ◌%◌, ◌<◌, ◌≤◌}
use native.Mathlib.Omega.{arith}
use mathlib.Core.Path.{◌≡◌, refl, ap, ◌∙◌, subst}
use mathlib.Core.Logic.{⊎_elim}
use mathlib.Core.List.{List}
use lib.IntN.{ℤ, pos}
use lib.Signed.{mag}
use lib.ListN.{length, get_or, set}
use lib.Seq.{sets, get_or-set_same, get_or-set_other}
use mir.Syntax.{w16}
use mir.Val.{to_z, of_z}
use Rattle.colour.specs.Colour.{reverse_of}
use Rattle.colour.specs.Products.{Share, shade_of, red_share_of, green_share_of, blue_share_of}
use Rattle.colour.proofs.Shares.{passed, reverse_shared}
use Rattle.lent.specs.Paint.{paint, every}
use Rattle.lent.specs.Pixels.{bytes, done}
use Rattle.lent.proofs.Bools.{split}
use Rattle.lent.proofs.Paint.{paint_ext}
use Rattle.lent.proofs.Pixels.{done_step}
use Rattle.to_rgba_rows.specs.Rules.{shades_from, half_of}
use Rattle.to_rgba_rows.specs.Fits.{Shares, Small}

-- ---- the shares of one channel, by any rule

-- a small number in a signed local is read back as it is
kept : {z : ℤ} → mag z < 512 → to_z w16 (of_z w16 z) ≡ z
kept h = passed (record { is = refl; small = h })

pub shares_none : {xs : List ℤ} {z : ℕ → ℤ} → Shares 0 xs z
shares_none = record { at = λ k h. absurd (omega arith) }

-- a share is stored behind the first i
pub shares_more : (z : ℕ → ℤ) {xs : List ℤ} {s : ℤ} (i : ℕ) → Shares i xs z → i < length xs → Share s (z i)
    → Shares (i + 1) (set xs i (to_z w16 (of_z w16 s))) z
shares_more z {xs} {s} i before room share = rw (kept share.small) (record {
  at = λ k h. ⊎_elim
      (λ lt. rw (get_or-set_other xs i k s (pos 0) (λ e. omega arith)) (before.at k lt))
      (λ ge. let here : i ≡ k = omega arith in
      subst (λ (j : ℕ). Share (get_or (set xs i s) j (pos 0)) (z j)) here (rw (get_or-set_same xs i s (pos 0) room) share))
      (split k i);
})

-- ---- the three channels

-- the first n of each list are the shares of the samples from place c on, as `shares` promises
abbrev pub SharesFrom : List ℕ → List ℕ → ℕ → ℕ → List ℤ → List ℤ → List ℤ → Type 0
SharesFrom u v c n r g b =
    Shares n r (λ k. red_share_of (get_or v (c + k) 0))
    × (Shares n g (λ k. green_share_of (get_or u (c + k) 0) (get_or v (c + k) 0)) × Shares n b (λ k. blue_share_of (get_or u (c + k) 0)))

module _ (u v : List ℕ) (c : ℕ) {n : ℕ} {r g b : List ℤ} (made : SharesFrom u v c n r g b) where
  pub shares_small : Small n r × Small n g × Small n b
  shares_small =
      (record { at = λ k h. (made.0.at k h).small }, record { at = λ k h. (made.1.0.at k h).small }, record { at = λ k h. (made.1.1.at k h).small })

  -- the pixel of the shares at its place is that of the samples there
  pub shade_reversed : (place : ℕ → ℕ) (y : List ℕ) (at k : ℕ) → place k < n
      → shades_from place y at r g b k ≡ reverse_of (get_or y (at + k) 0) (get_or u (c + place k) 0) (get_or v (c + place k) 0)
  shade_reversed place y at k h =
      (λ t. shade_of (get_or y (at + k) 0) ((made.0.at (place k) h).is t) ((made.1.0.at (place k) h).is t) ((made.1.1.at (place k) h).is t))
      ∙ reverse_shared _ _ _

-- ---- pixels, by any rule that makes one of its luma and of the chroma at a place

abbrev pub placed : (ℕ → ℕ → List ℕ) → (ℕ → ℕ) → List ℕ → ℕ → ℕ → List ℕ
placed rule place luma at k = rule (get_or luma (at + k) 0) (place k)

module _ (rule : ℕ → ℕ → List ℕ) (four : (y j : ℕ) → length (rule y j) ≡ 4) (luma : List ℕ) (at : ℕ) (xs : List ℕ) where
  -- pixel k is stored, of its luma y and the chroma at place j, where the first k pixels are done
  pub placed_step : (place : ℕ → ℕ) (k m : ℕ) {was is p : List ℕ} {y j : ℕ} → y ≡ get_or luma (at + k) 0 → j ≡ place k
      → was ≡ done (placed rule place luma at) k xs → is ≡ sets was (4 * k) p → p ≡ rule y j → 4 * k + 4 ≤ length xs → m ≡ k + 1
      → is ≡ done (placed rule place luma at) m xs
  placed_step place k m {y} {j} here there before store pixel room next =
      done_step _ xs k m before store (pixel ∙ (λ t. rule (here t) (there t))) (ap length pixel ∙ four y j) room next

  -- pair i is stored, two pixels that share their chroma, where the pairs before it are done
  pub pair_step : (i : ℕ) {was mid is p q : List ℕ} {a b : ℕ} → (a ≡ get_or luma (at + 2 * i) 0) × (b ≡ get_or luma (at + 2 * i + 1) 0)
      → was ≡ done (placed rule half_of luma at) (2 * i) xs → mid ≡ sets was (4 * (2 * i)) p → p ≡ rule a i
      → is ≡ sets mid (4 * (2 * i + 1)) q → q ≡ rule b i → 4 * (2 * (i + 1)) ≤ length xs
      → is ≡ done (placed rule half_of luma at) (2 * (i + 1)) xs
  pair_step i word before store pixel store' pixel' room =
      let next : at + 2 * i + 1 ≡ at + (2 * i + 1) = omega arith in
      let first = placed_step half_of (2 * i) (2 * i + 1) word.0 (omega arith) before store pixel (omega arith) refl in
      placed_step half_of (2 * i + 1) (2 * (i + 1)) (word.1 ∙ ap (λ (k : ℕ). get_or luma k 0) next) (omega arith) first store' pixel' (omega arith) (omega arith)

-- ---- pixels of shares

-- the pixel of luma y and the shares at place j
abbrev pub shade_at : List ℤ → List ℤ → List ℤ → ℕ → ℕ → List ℕ
shade_at r g b y j = shade_of y (get_or r j (pos 0)) (get_or g j (pos 0)) (get_or b j (pos 0))

module _ {n : ℕ} {r g b : List ℤ} (small : Small n r × Small n g × Small n b) where
  -- what `shade` requires of the shares at place j
  pub shade_asks : (j : ℕ) → j < n → (mag (to_z w16 (of_z w16 (get_or r j (pos 0)))) < 512)
      × (mag (to_z w16 (of_z w16 (get_or g j (pos 0)))) < 512) × (mag (to_z w16 (of_z w16 (get_or b j (pos 0)))) < 512)
  shade_asks j h = (one small.0, one small.1, one small.2)
    where
      one : {xs : List ℤ} → Small n xs → mag (to_z w16 (of_z w16 (get_or xs j (pos 0)))) < 512
      one s = rw (kept (s.at j h)) (s.at j h)

  -- and what it makes of them
  pub shade_kept : {p : List ℕ} (y j : ℕ) → j < n
      → p ≡ shade_of y (to_z w16 (of_z w16 (get_or r j (pos 0)))) (to_z w16 (of_z w16 (get_or g j (pos 0)))) (to_z w16 (of_z w16 (get_or b j (pos 0))))
      → p ≡ shade_at r g b y j
  shade_kept y j h pixel =
      let red = kept (small.0.at j h) in
      let green = kept (small.1.at j h) in
      let blue = kept (small.2.at j h) in
      pixel ∙ (λ t. shade_of y (red t) (green t) (blue t))

-- a part of n pixels, by two rules that agree on them
pub part_ext : (f g : ℕ → List ℕ) (xs : List ℕ) (n : ℕ) → length xs ≤ 4 * n → ((k : ℕ) → k < n → f k ≡ g k)
    → paint every (bytes f) xs ≡ paint every (bytes g) xs
unfolding bytes
part_ext f g xs n room same =
    paint_ext every every (bytes f) (bytes g) xs (λ k h. refl)
    (λ k h e. ap (λ (p : List ℕ). get_or p (k % 4) 0) (same (k / 4) (omega arith)))
