-- A row of blocks turned by its two ends, or in parts, each by way of a local array: lent's laws of such parts, of a byte that is turned.
-- Assumes nothing.
use Prim.Native.Nat.{ℕ, ◌+◌, ◌*◌, ◌-◌, ◌<◌, ◌≤◌}
use mathlib.Core.Path.{◌≡◌, refl, ap}
use mathlib.Core.List.{List, ◌++◌}
use lib.Dec.{ltb}
use lib.ListN.{length, get_or, take, drop}
use Rattle.lent.specs.Paint.{paint, every}
use Rattle.lent.proofs.ByEnds.{part_place, by_ends}
use Rattle.map.specs.Map.{turned_of}

-- xs is the row as it was
module _ (xs : List ℕ) where
  abbrev pub turned : ℕ → ℕ
  turned k = turned_of (get_or xs k 0)

  -- the same of the part from a to below e
  abbrev pub turned_part : ℕ → ℕ → ℕ → ℕ
  turned_part a e j = turned_of (get_or (take (e - a) (drop a xs)) j 0)

  pub part_turned : (a e j : ℕ) → a + j < e → turned_part a e j ≡ turned (a + j)
  part_turned a e j h = ap turned_of (part_place xs a e j h)

  -- the first `size` bytes and the last, of at most twice as many: every byte
  pub ends_turned : (t t' : List ℕ) {into into' ys zs : List ℕ} (size : ℕ) → size ≤ length xs → length xs ≤ 2 * size
      → size ≤ length t → size ≤ length t'
      → into ≡ paint (λ k. ltb k size) turned t
      → into' ≡ paint (λ k. ltb k size) (turned_part (length xs - size) (length xs)) t'
      → ys ≡ paint (λ k. ltb k size) (λ k. get_or into k 0) xs
      → zs ≡ paint (λ k. ltb k size) (λ k. get_or into' k 0) (take (length xs - (length xs - size)) (drop (length xs - size) ys))
      → take (length xs - size) ys ++ (zs ++ drop (length xs - (length xs - size)) (drop (length xs - size) ys)) ≡ paint every turned xs
  ends_turned t t' size least most room room' is is' back back' =
      by_ends turned xs t t' _ (length xs) size refl least most room room' (part_turned (length xs - size) (length xs)) is is' back back'
