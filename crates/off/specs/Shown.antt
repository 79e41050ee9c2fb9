-- How far a pixel can be off as it is shown: what R55 is in red, green and blue (R56). Picture to RGBA is of full range, and so are these.
--
--   below_by t, above_by t         the bounds of a sample: t says whether the filter was applied to it
--   channel_of n                  n 256ths of a channel's step, rounded up
--   own_pixel px z r c            the pixel of the input's colour there and back, with no average between
--   RedNear, GreenNear, BlueNear   a channel beside its own, where U is at most bu below and au above its own, and V at most bv below and av above
--   ShownNear bu au bv av own shown      so each channel of the pixel `shown` beside that of the pixel `own`; alpha is the same
use Rattle.std.specs.Prelude.{ℕ, ◌+◌, ◌*◌, ◌/◌, ◌≡◌, Bool, cond, List, get_or}
use Rattle.colour.specs.Colour.{reverse_of}
use Rattle.colour.specs.declared.Matrix.TheVariants.{Full}
use Rattle.picture.specs.declared.Size.{Size}
use Rattle.from_rgba.specs.FromRgba.{converted_of}
use Rattle.off.specs.Off.{below, above, applied_below, applied_above, Near}

abbrev pub below_by : Bool → ℕ
below_by t = cond t applied_below below

abbrev pub above_by : Bool → ℕ
above_by t = cond t applied_above above

unfoldable pub channel_of : ℕ → ℕ
channel_of n = (n + 255) / 256

abbrev pub own_pixel : List ℕ → Size → ℕ → ℕ → List ℕ
own_pixel px z r c = reverse_of (converted_of Full px z r c).y (converted_of Full px z r c).u (converted_of Full px z r c).v

-- the factors of R32: "R = (256Y+403v)/256"
abbrev pub RedNear : ℕ → ℕ → ℕ → ℕ → Type 0
RedNear bv av = Near (channel_of (403 * bv)) (channel_of (403 * av))

-- "G = (256Y-48u-120v)/256": it falls where U and V rise
abbrev pub GreenNear : ℕ → ℕ → ℕ → ℕ → ℕ → ℕ → Type 0
GreenNear bu au bv av = Near (channel_of (48 * au + 120 * av)) (channel_of (48 * bu + 120 * bv))

-- "B = (256Y+475u)/256"
abbrev pub BlueNear : ℕ → ℕ → ℕ → ℕ → Type 0
BlueNear bu au = Near (channel_of (475 * bu)) (channel_of (475 * au))

pub record ShownNear (bu au bv av : ℕ) (own shown : List ℕ) : Type 0 where
  pub red : RedNear bv av (get_or own 0 0) (get_or shown 0 0)
  pub green : GreenNear bu au bv av (get_or own 1 0) (get_or shown 1 0)
  pub blue : BlueNear bu au (get_or own 2 0) (get_or shown 2 0)
  pub alpha : get_or shown 3 0 ≡ get_or own 3 0
