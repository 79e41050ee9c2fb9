-- `apply_main::chroma_rect` meets its contract: the rule is a box of rows, whose edges are the area's, cut by `least` to the view.
-- Assumes nothing.
use Prim.Native.Nat.{◌*◌, min}
use native.Mathlib.Omega.{arith}
use mathlib.Core.Path.{◌≡◌, ap, ◌∙◌}
use Rattle.lent.specs.Paint.{painted, box, up_to}
use Rattle.picture.specs.Sizes.{stride_of, rows_of}
use Rattle.rects.specs.declared.Area.{Area}
use Rattle.rects.specs.Rects.{chroma_block_area_of}
use Rattle.apply_main.specs.Main.{halved}
use Rattle.apply_main.proofs.Main.{chroma_end, chroma_below, chroma_box, rows_ask}
use Rattle.apply_main.proofs.RectRows.{box_rows_empty}
use Rattle.apply_main.proofs.chroma_rect.Goals.{After-least-below}
use Rattle.apply_main.proofs.chroma_rect.Goals as goal

-- the area, and where the columns and the rows end
found : (l : After-least-below)
    → let a = l.args in l.chroma_block_area-area.result ≡ chroma_block_area_of a.size a.rect.left a.rect.top a.rect.right a.rect.bottom
found l = l.chroma_block_area-area.ensures

end : (l : After-least-below)
    → let a = l.args in
    l.least-right.result ≡ chroma_end a.size a.w a.rect.left a.rect.top a.rect.right a.rect.bottom
end l = l.least-right.ensures ∙ ap (λ (x : Area). min x.right l.args.w.width) (found l)

below : (l : After-least-below)
    → let a = l.args in
    l.least-below.result ≡ chroma_below a.size a.w a.rect.left a.rect.top a.rect.right a.rect.bottom
below l = l.least-below.ensures ∙ ap (λ (x : Area). min x.bottom l.args.w.height) (found l)

pub chroma_rows-requires : goal.chroma_rows-requires
chroma_rows-requires c =
    record {
      main_rows_fit = rows_ask c.args.size c.chroma.ensures c.requires (omega (arith, below (goal.at.chroma_rows-requires c).After-least-below)) (omega arith) (omega (arith, end (goal.at.chroma_rows-requires c).After-least-below)) (omega (arith, end (goal.at.chroma_rows-requires c).After-least-below));
      top_value = (omega (arith, ap (λ (x : Area). x.top) (found (goal.at.chroma_rows-requires c).After-least-below)), omega (arith, ap (λ (x : Area). x.left) (found (goal.at.chroma_rows-requires c).After-least-below)));
    }

pub shape_of-plane : goal.shape_of-plane
shape_of-plane c = c.chroma_rows.auto.plane

pub returns-then-area-right : goal.returns-then-area-right
returns-then-area-right c =
    let a = c.args in
    c.chroma_rows.ensures
    ∙ (λ i. painted (stride_of a.size) (rows_of a.size) (up_to (box (found (goal.at.returns-then-area-right c).After-least-below i).top (below (goal.at.returns-then-area-right c).After-least-below i) (found (goal.at.returns-then-area-right c).After-least-below i).left (end (goal.at.returns-then-area-right c).After-least-below i)) (2 * (c.chroma.ensures i).height)) (halved a.samples.now (c.chroma.ensures i).stride) a.plane.now)
    ∙ chroma_box a.size a.w a.rect.left a.rect.top a.rect.right a.rect.bottom _ _

pub returns-else-area-right : goal.returns-else-area-right
returns-else-area-right c =
    let a = c.args in
    box_rows_empty _ _ _ _ _ _ _ _ _ (omega (arith, end (goal.at.returns-else-area-right c).After-least-below, ap (λ (x : Area). x.left) (found (goal.at.returns-else-area-right c).After-least-below)))
    ∙ chroma_box a.size a.w a.rect.left a.rect.top a.rect.right a.rect.bottom _ _
