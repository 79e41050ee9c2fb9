-- `to_rgba_rows::picture_rows::smoothed_block` meets its contract: the words of its two rows are the block (`corners_words`). Assumes nothing.
use Prim.Native.Nat.{◌+◌}
use mathlib.Core.Path.{ap, ◌∙◌}
use lib.ListN.{set}
use Rattle.colour.specs.Colour.{undone_in}
use Rattle.to_rgba_rows.proofs.PictureParts.{corners_words}
use Rattle.to_rgba_rows.proofs.picture_rows.smoothed_block.Goals as goal

pub returns : goal.returns
returns c =
    let pair = c.smoothed_pair.ensures in
    let a = c.args in
    let undone = c.undone-f.ensures ∙ ap undone_in (corners_words a.p.now a.at a.below _ _ c.two-upper.ensures c.two-lower.ensures) in record {
      dst_after = rw c.put_two.ensures (λ i. set (set a.dst.now a.k ((pair.0 ∙ (λ j. (undone j).value)) i)) (a.k + 1) ((pair.1 ∙ c.two-upper.ensures.1) i));
      value = λ i. (undone i).applied;
    }
