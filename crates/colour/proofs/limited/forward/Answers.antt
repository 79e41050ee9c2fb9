-- Each channel is the rule's formula (R39), in natural numbers: `LimitedLaws` says so of bytes. Assumes nothing.
use mathlib.Core.Path.{sym, ◌∙◌}
use Rattle.colour.specs.Limited.{limited_forward_of}
use Rattle.colour.proofs.LimitedLaws.{luma_is, u_is, v_is}
use Rattle.colour.proofs.limited.forward.Goals as goal

pub returns : goal.returns
unfolding limited_forward_of
returns c =
    let a = c.args in
    let r = c.ranges.r.fits in
    let g = c.ranges.g.fits in
    let b = c.ranges.b.fits in
    let y_is = c.luma-y.ensures ∙ sym (luma_is a.r a.g a.b r g b) in
    let cb-is = c.chroma_u-u.ensures ∙ sym (u_is a.r a.g a.b r g b) in
    let cr-is = c.chroma_v-v.ensures ∙ sym (v_is a.r a.g a.b r g b) in
    λ i. record { y = y_is i; u = cb-is i; v = cr-is i }
