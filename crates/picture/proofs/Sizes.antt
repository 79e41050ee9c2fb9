-- A picture's planes are small, even-sided, and not short where refusal 1 is not given. Assumes nothing.
use Prim.Native.Nat.{ℕ, ◌*◌, ◌<◌, ◌≤◌}
use native.Mathlib.Nat.{mul-le-mul_right, mul-le-mul_left, le_trans}
use mathlib.Core.Path.{◌≡◌}
use mathlib.Core.Bool.{true, false, ◌||◌}
use mathlib.Core.Logic.{◌↔◌, ◌⊎◌}
use Rattle.lent.specs.Sizes.{too_short}
use Rattle.lent.proofs.Bools.{or_left, or_right}
use Rattle.lent.proofs.Exactly.{below, not-below, or_exactly, nor_exactly}
use Rattle.picture.specs.declared.Size.{Size}
use Rattle.picture.specs.Sizes.{stride_of, rows_of, planes_short, PlanesFit}

-- no plane is above 65,536 x 65,536 bytes
pub plane_small : {rows stride : ℕ} → rows ≤ 65536 → stride ≤ 65536 → rows * stride ≤ 4294967296
plane_small {rows} {stride} r s = le_trans (mul-le-mul_left rows s) (mul-le-mul_right 65536 r)

module _ (z : Size) (ny nu nv : ℕ) where
  abbrev bytes : ℕ
  bytes = rows_of z * stride_of z

  -- refusal 1 in plain inequalities, and no refusal
  pub short_exactly : (planes_short z ny nu nv ≡ true) ↔ (((ny < rows_of z * stride_of z) ⊎ (nu < rows_of z * stride_of z)) ⊎ (nv < rows_of z * stride_of z))
  unfolding planes_short
  short_exactly = or_exactly (too_short (stride_of z) (rows_of z) ny || too_short (stride_of z) (rows_of z) nu) _ (or_exactly _ _ (below ny bytes) (below nu bytes)) (below nv bytes)

  pub fit_exactly : (planes_short z ny nu nv ≡ false) ↔ PlanesFit z ny nu nv
  unfolding planes_short
  fit_exactly =
      let plain = nor_exactly (too_short (stride_of z) (rows_of z) ny || too_short (stride_of z) (rows_of z) nu) _ (nor_exactly _ _ (not-below ny bytes) (not-below nu bytes)) (not-below nv bytes) in (
        λ e. let f = plain.0 e in record { y_fits = f.0.0; u_fits = f.0.1; v_fits = f.1 },
        λ f. plain.1 ((f.y_fits, f.u_fits), f.v_fits),
      )

pub planes_fit : (z : Size) (ny nu nv : ℕ) → planes_short z ny nu nv ≡ false → PlanesFit z ny nu nv
planes_fit z ny nu nv = (fit_exactly z ny nu nv).0

-- one short plane is enough, and the code tests them one after the other
module _ (z : Size) (ny nu nv : ℕ) where
  pub short_1 : too_short (stride_of z) (rows_of z) ny ≡ true → planes_short z ny nu nv ≡ true
  unfolding planes_short
  short_1 e = or_left _ _ (or_left _ _ e)

  pub short_2 : too_short (stride_of z) (rows_of z) nu ≡ true → planes_short z ny nu nv ≡ true
  unfolding planes_short
  short_2 e = or_left _ _ (or_right (too_short (stride_of z) (rows_of z) ny) _ e)

  pub short_3 : too_short (stride_of z) (rows_of z) ny ≡ false → too_short (stride_of z) (rows_of z) nu ≡ false → planes_short z ny nu nv ≡ too_short (stride_of z) (rows_of z) nv
  unfolding planes_short
  short_3 e f = rw (e, f)
