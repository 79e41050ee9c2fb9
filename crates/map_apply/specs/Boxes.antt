-- The same as boxes of blocks: what the code fills and turns. A view has what a call needs of a block exactly below some block row and some
-- block column, and a widened area is whole blocks.
--
--   Limits                  those of a view: how many blocks across, and how many down
--   main_limits_of w          of a main view: it has any sample of them
--   auxiliary_limits_of t w   of an auxiliary view of the layout t: it has all three other samples of them
--   block_box_of z l left top right bottom      the blocks of a rectangle's widened area, below the limits
--   in_blocks z l            the same as a rule of `rects`, where row and column are those of a block
use Rattle.std.specs.Prelude.{ℕ, ◌+◌, ◌*◌, ◌-◌, ◌/◌, ◌%◌, min}
use Rattle.lent.specs.Sizes.{half_up}
use Rattle.picture.specs.declared.Size.{Size}
use Rattle.view.specs.declared.View.{View}
use Rattle.layout.specs.declared.Layout.{Layout}
use Rattle.layout.specs.declared.Layout.TheVariants.{V1, V2}
use Rattle.rects.specs.declared.Area.{Area}
use Rattle.rects.specs.Rects.{Rule, chroma_block_area_of, in_area}
use Rattle.map_apply.specs.declared.Limits.{Limits}

abbrev pub limits : ℕ → ℕ → Limits
limits across down = record { across = across; down = down }

abbrev pub main_limits_of : View → Limits
main_limits_of w = limits (half_up w.width) (half_up w.height)

-- V1: of 16 rows 8 block rows are whole, of a part of 16 those whose V row is there. V2: both columns of a pair
abbrev pub auxiliary_limits_of : Layout → View → Limits
auxiliary_limits_of V1 w = limits (w.width / 2) (8 * (w.height / 16) + (w.height % 16 - 8))
auxiliary_limits_of (V2 W) w = limits (w.width - W / 2) (w.height / 2)

abbrev pub block_box_of : Size → Limits → ℕ → ℕ → ℕ → ℕ → Area
block_box_of z l left top right bottom =
    let a = chroma_block_area_of z left top right bottom in
    record { left = a.left / 2; top = a.top / 2; right = min (a.right / 2) l.across; bottom = min (a.bottom / 2) l.down }

unfoldable pub in_blocks : Size → Limits → Rule
in_blocks z l left top right bottom = in_area (block_box_of z l left top right bottom)
