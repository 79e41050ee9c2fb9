-- Each channel is the rule's formula (R38), in natural numbers: `LimitedLaws` says so of bytes. Assumes nothing.
use mathlib.Core.Path.{sym, ◌∙◌}
use mathlib.Core.List.{[], ◌∷◌}
use Rattle.colour.specs.Limited.{limited_reverse_of}
use Rattle.colour.proofs.LimitedLaws.{red_is, green_is, blue_is}
use Rattle.colour.proofs.limited.reverse.Goals as goal

pub returns : goal.returns
unfolding limited_reverse_of
returns c =
    let a = c.args in
    let r = c.red-r.ensures ∙ sym (red_is a.y a.v) in
    let g = c.green-g.ensures ∙ sym (green_is a.y a.u a.v c.ranges.u.fits) in
    let b = c.blue-b.ensures ∙ sym (blue_is a.y a.u) in
    λ i. r i ∷ g i ∷ b i ∷ 255 ∷ []
