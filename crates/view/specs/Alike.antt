-- Two views that a viewer could not tell apart (R9: "Bytes between width and stride, or after the last
-- row, never reach any answer").
--
--   SameSamples p xs q ys                two planes of p's width and height, of any strides, agree on every visible sample
--   Alike w y u v w' y' u' v'            two views of equal width and height, of any strides, whose planes agree so
use Rattle.std.specs.Prelude.{ℕ, ◌<◌, ◌≡◌, List}
use Rattle.lent.specs.Samples.{sample}
use Rattle.view.specs.declared.View.{View}
use Rattle.view.specs.declared.Plane.{Plane}
use Rattle.view.specs.View.{luma_of, chroma_of}

abbrev pub SameSamples : Plane → List ℕ → Plane → List ℕ → Type 0
SameSamples p xs q ys = (r c : ℕ) → r < p.height → c < p.width → sample xs p.stride r c ≡ sample ys q.stride r c

pub record Alike (w : View) (y u v : List ℕ) (w' : View) (y' u' v' : List ℕ) : Type 0 where
  pub width : w.width ≡ w'.width
  pub height : w.height ≡ w'.height
  pub y_same : SameSamples (luma_of w) y (luma_of w') y'
  pub u_same : SameSamples (chroma_of w) u (chroma_of w') u'
  pub v_same : SameSamples (chroma_of w) v (chroma_of w') v'
