-- Each channel of its own share. Assumes nothing.
use mathlib.Core.Path.{ap, ◌∙◌}
use mathlib.Core.List.{[], ◌∷◌}
use mir.Facts.{to_z-of_z}
use Rattle.colour.specs.Products.{channel_of, shade_of}
use Rattle.colour.proofs.shade.Goals as goal

pub returns : goal.returns
unfolding shade_of
returns c =
    let r = c.channel-red.ensures ∙ ap (channel_of c.args.y) (to_z-of_z c.ranges.r) in
    let g = c.channel-green.ensures ∙ ap (channel_of c.args.y) (to_z-of_z c.ranges.g) in
    let b = c.channel-blue.ensures ∙ ap (channel_of c.args.y) (to_z-of_z c.ranges.b) in
    λ i. r i ∷ g i ∷ b i ∷ 255 ∷ []
