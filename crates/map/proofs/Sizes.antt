-- A map is short or fits exactly when document 01 says so, and so is a picture with its map; bytes after the map never change.
-- Assumes nothing.
use Prim.Native.Nat.{ℕ, ◌*◌, ◌<◌, ◌≤◌}
use mathlib.Core.Path.{◌≡◌, refl, ◌∙◌, ap}
use mathlib.Core.Bool.{Bool, true, false, cond, ◌||◌}
use mathlib.Core.Logic.{◌↔◌, ◌⊎◌}
use mathlib.Core.List.{List}
use lib.Dec.{eqb}
use lib.ListN.{length, get_or}
use Rattle.lent.specs.Outcome.{lent_after}
use Rattle.lent.proofs.Bools.{or_right}
use Rattle.lent.proofs.Exactly.{below, not-below, or_exactly, nor_exactly}
use Rattle.lent.proofs.Painted.{painted_past}
use Rattle.picture.specs.declared.Size.{Size}
use Rattle.picture.specs.Sizes.{stride_of, rows_of, planes_short}
use Rattle.picture.proofs.Sizes.{short_exactly, fit_exactly}
use Rattle.map.specs.Map.{across_of, down_of, map_short, map_of, picture_short, PictureFits}

pub map_short_exactly : (z : Size) (n : ℕ) → (map_short z n ≡ true) ↔ (n < down_of z * across_of z)
map_short_exactly z n = below n (down_of z * across_of z)

pub map_fit_exactly : (z : Size) (n : ℕ) → (map_short z n ≡ false) ↔ (down_of z * across_of z ≤ n)
map_fit_exactly z n = not-below n (down_of z * across_of z)

-- ---- refusal 1 of a call that is lent the map too

module _ (z : Size) (ny nu nv n : ℕ) where
  pub picture_short_exactly : (picture_short z ny nu nv n ≡ true)
      ↔ ((((ny < rows_of z * stride_of z) ⊎ (nu < rows_of z * stride_of z)) ⊎ (nv < rows_of z * stride_of z)) ⊎ (n < down_of z * across_of z))
  unfolding picture_short
  picture_short_exactly = or_exactly (planes_short z ny nu nv) _ (short_exactly z ny nu nv) (map_short_exactly z n)

  pub picture_fit_exactly : (picture_short z ny nu nv n ≡ false) ↔ PictureFits z ny nu nv n
  unfolding picture_short
  picture_fit_exactly =
      let plain = nor_exactly (planes_short z ny nu nv) _ (fit_exactly z ny nu nv) (map_fit_exactly z n) in (
        λ e. let f = plain.0 e in record { planes = f.0; map = f.1 },
        λ f. plain.1 (f.planes, f.map),
      )

  -- the code tests the map first: a short one is enough
  pub picture_map_short : map_short z n ≡ true → picture_short z ny nu nv n ≡ true
  unfolding picture_short
  picture_map_short e = or_right (planes_short z ny nu nv) _ e

  -- where the map is whole, only the planes count
  pub picture_planes : map_short z n ≡ false → picture_short z ny nu nv n ≡ planes_short z ny nu nv
  unfolding picture_short
  picture_planes e = ap (λ (b : Bool). planes_short z ny nu nv || b) e ∙ or_nothing (planes_short z ny nu nv)
    where
      or_nothing : (b : Bool) → (b || false) ≡ b
      or_nothing true = refl
      or_nothing false = refl

-- "bytes after it never change": whatever number is answered, and whatever the map is made to hold
pub map_past_kept : (n : ℕ) (z : Size) (s : ℕ → ℕ → ℕ) (xs : List ℕ) (k : ℕ) → down_of z * across_of z ≤ k → k < length xs → get_or (lent_after n xs (map_of z s xs)) k 0 ≡ get_or xs k 0
map_past_kept n z s xs k ge lt = either_way (eqb n 0)
  where
    either_way : (b : Bool) → get_or (cond b (map_of z s xs) xs) k 0 ≡ get_or xs k 0
    either_way true = painted_past (across_of z) (down_of z) _ s xs k ge lt
    either_way false = refl
