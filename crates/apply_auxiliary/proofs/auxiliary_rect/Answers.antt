-- `apply_auxiliary::auxiliary_rect` meets its contract: the rule is what the widened area takes, and an area with no column takes nothing.
-- Assumes nothing.
use Prim.Native.Nat.{◌≤◌}
use mathlib.Core.Path.{subst}
use Rattle.rects.specs.declared.Area.{Area}
use Rattle.apply_auxiliary.proofs.Taken.{area_none}
use Rattle.apply_auxiliary.proofs.auxiliary_rect.Goals as goal

pub returns-then-area : goal.returns-then-area
returns-then-area c =
    let none = subst (λ (x : Area). x.right ≤ x.left) c.chroma_block_area-area.ensures c.if-area.true in
    record {
      u = area_none _ _ _ _ _ _ _ none;
      v = area_none _ _ _ _ _ _ _ none;
    }
