-- `to_rgba_rows::picture_rows::smoothed` meets its contract. The invariant: the first 2 i columns are in the arrays, and the first i blocks are marked.
-- `two_smoothed` is a block. Assumes nothing.
use Prim.Native.Nat.{◌+◌, ◌*◌}
use native.Mathlib.Omega.{arith}
use mathlib.Core.Path.{◌≡◌, refl, ap, ◌∙◌}
use mathlib.Core.Bool.{Bool, true, false}
use mir.Val.{bool_byte}
use Rattle.lent.specs.Counts.{one}
use Rattle.lent.proofs.SoFar.{so_far_none, so_far_more}
use Rattle.lent.proofs.ByPart.{so_far_two}
use Rattle.to_rgba_rows.proofs.PictureParts.{two_smoothed}
use Rattle.to_rgba_rows.proofs.picture_rows.smoothed.Goals as goal

-- a flag as a number is 1 where it is set
marked : {b d : Bool} → b ≡ d → bool_byte b ≡ one d
marked {b} e = number b ∙ ap one e
  where
    number : (b : Bool) → bool_byte b ≡ one b
    number true = refl
    number false = refl

pub loop-i-init : goal.loop-i-init
loop-i-init c = (so_far_none _ _, so_far_none _ _, so_far_none _ _)

pub smoothed_block-in_u-requires : goal.smoothed_block-in_u-requires
smoothed_block-in_u-requires c = (omega arith, omega arith, omega arith)

pub smoothed_block-in_v-requires : goal.smoothed_block-in_v-requires
smoothed_block-in_v-requires c = (omega arith, omega arith, omega arith)

pub loop-i-preserved : goal.loop-i-preserved
loop-i-preserved c =
    let a = c.args in
    let i = c.loop-i.i in
    let u = two_smoothed a.u.now a.at a.below (2 * i) (omega arith) in
    let v = two_smoothed a.v.now a.at a.below (2 * i) (omega arith) in (
      so_far_two _ _ i c.loop-i.invariant.0 (omega arith) u.0 u.1 c.smoothed_block-in_u.ensures.dst_after,
      so_far_two _ _ i c.loop-i.invariant.1 (omega arith) v.0 v.1 c.smoothed_block-in_v.ensures.dst_after,
      so_far_more _ _ i c.loop-i.invariant.2 (omega arith)
          (λ t. marked c.smoothed_block-in_u.ensures.value t + 256 * marked c.smoothed_block-in_v.ensures.value t),
    )

pub returns : goal.returns
returns c =
    let all : c.loop-i.i ≡ c.args.blocks = omega arith in
    record {
      p = rw all at c.loop-i.invariant.0.1;
      q = rw all at c.loop-i.invariant.1.1;
      marks = rw all at c.loop-i.invariant.2.1;
    }
