-- Each channel is the rule's formula (R31), in natural numbers: `Formulas` says so of bytes. Assumes nothing.
use mathlib.Core.Path.{sym, ◌∙◌}
use Rattle.colour.specs.Colour.{forward_of}
use Rattle.colour.proofs.Formulas.{luma_is, u_is, v_is}
use Rattle.colour.proofs.forward.Goals as goal

pub returns : goal.returns
unfolding forward_of
returns c =
    let a = c.args in
    let r = c.ranges.r.fits in
    let g = c.ranges.g.fits in
    let b = c.ranges.b.fits in
    let y_is = c.luma-y.ensures ∙ sym (luma_is a.r a.g a.b r g b) in
    let cb-is = c.chroma_u-u.ensures ∙ sym (u_is a.r a.g a.b r g b) in
    let cr-is = c.chroma_v-v.ensures ∙ sym (v_is a.r a.g a.b r g b) in
    λ i. record { y = y_is i; u = cb-is i; v = cr-is i }
