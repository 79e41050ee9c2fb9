-- `from_rgba::rows::forward_part` meets its contract: the 16 colours went through arrays, `apart_back` for each of Y, U and V.
-- Assumes nothing.
use mathlib.Core.Path.{refl, ◌∙◌}
use Rattle.from_rgba.proofs.Converted.{apart_back}
use Rattle.from_rgba.proofs.rows.forward_part.Goals as goal

pub put_16-requires : goal.put_16-requires
put_16-requires c = c.requires.y_len

pub put_16-requires-3 : goal.put_16-requires-3
put_16-requires-3 c = c.requires.pixels_fit.same_v ∙ c.requires.y_len

pub shape_of-y : goal.shape_of-y
shape_of-y c = c.put_16.auto.dst

pub returns : goal.returns
returns c =
    let a = c.args in
    record {
      y = apart_back a.matrix a.pixels.now _ _ _ _ a.y.now 16 (λ q. q.y) refl refl refl refl c.requires.y_len c.apart.ensures.r c.apart.ensures.g c.apart.ensures.b c.forward_16.ensures.y c.put_16.ensures;
      u = apart_back a.matrix a.pixels.now _ _ _ _ a.u.now 16 (λ q. q.u) refl refl refl refl (c.requires.pixels_fit.same_u ∙ c.requires.y_len) c.apart.ensures.r c.apart.ensures.g c.apart.ensures.b c.forward_16.ensures.u c.put_16-2.ensures;
      v = apart_back a.matrix a.pixels.now _ _ _ _ a.v.now 16 (λ q. q.v) refl refl refl refl (c.requires.pixels_fit.same_v ∙ c.requires.y_len) c.apart.ensures.r c.apart.ensures.g c.apart.ensures.b c.forward_16.ensures.v c.put_16-3.ensures;
    }
