-- The shares are those of the rules' products, and a pixel of Y and its shares is the rule's formula (R32). Assumes nothing.
use mathlib.Core.Path.{◌∙◌}
use Rattle.colour.specs.Products.{shade_of}
use Rattle.colour.proofs.Shares.{passed, reverse_shared}
use Rattle.colour.proofs.reverse.Goals as goal

pub returns : goal.returns
returns c =
    let a = c.args in
    c.shade.ensures
    ∙ (λ i. shade_of a.y (passed c.red_share-r.ensures i) (passed c.green_share-g.ensures i) (passed c.blue_share-b.ensures i))
    ∙ reverse_shared a.y a.u a.v
