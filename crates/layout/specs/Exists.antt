-- Which samples exist in a view, and which an auxiliary view gives.
--
--   side p n            a view's width or height n, at its plane p ("Chroma width and height are the halves, rounded up")
--   present vw vh s     the spot s exists in a view of vw by vh
--   left_out r c         the main view, which has the even rows' even columns, leaves this sample to the auxiliary view
--   carried w h l       the place l is in a picture of w by h, and the auxiliary view carries it
--   gives m vw vh r c   an auxiliary view of vw by vh, whose maps are m, gives U and V at this row and column
--   fed t vw vh r c     the same, with the maps of the layout t
use Rattle.std.specs.Prelude.{ℕ, ◌*◌, ◌-◌, ◌/◌, ◌%◌, Bool, ◌&&◌, ◌||◌, ltb, eqb}
use Rattle.lent.specs.Sizes.{half_up}
use Rattle.layout.specs.Maps.{Part, PY, PU, PV, Place, Spot, Maps, place, maps}
use Rattle.layout.specs.declared.Chroma.TheVariants.{CU, CV}
use Rattle.layout.specs.declared.Layout.{Layout}

abbrev pub side : Part → ℕ → ℕ
side PY n = n
side PU n = half_up n
side PV n = half_up n

abbrev pub present : ℕ → ℕ → Spot → Bool
present vw vh s = ltb s.row (side s.part vh) && ltb s.col (side s.part vw)

abbrev pub left_out : ℕ → ℕ → Bool
left_out r c = eqb (r % 2) 1 || eqb (c % 2) 1

abbrev pub carried : ℕ → ℕ → Place → Bool
carried w h l = ltb l.row h && ltb l.col w && left_out l.row l.col

-- "A pair is taken only if both samples exist"; V1: "only if both rows exist", "if these exist"
abbrev pub gives : Maps → ℕ → ℕ → ℕ → ℕ → Bool
gives m vw vh r c = left_out r c && present vw vh (m.spot (place CU r c)) && present vw vh (m.spot (place CV r c))

unfoldable pub fed : Layout → ℕ → ℕ → ℕ → ℕ → Bool
fed t vw vh = gives (maps t) vw vh

-- V2: both samples of an odd column exist exactly below this column, those of an even column of an odd row exactly below that one
abbrev pub v2_odds_below_of : ℕ → ℕ → ℕ
v2_odds_below_of W vw = 2 * (vw - W / 2)

abbrev pub v2_evens_below_of : ℕ → ℕ → ℕ
v2_evens_below_of W vw = 4 * (half_up vw - W / 4)
