-- The two maps of each layout between the chroma of the picture and the auxiliary view: MS-RDPEGFX 3.3.8.3.2 (V1) and 3.3.8.3.3 (V2),
-- as R63, R65 to R69, R72, R73 and R82 give them. All halves and quarters are floor.
--
--   Chroma             which chroma plane of the picture, CU or CV
--   Layout             V1, or V2 W, V2 with the width W that is halved and quartered
--   WidthRule, Way     how V2's W is found, To16 or To32; how a picture is sent, AsV1 or AsV2 by such a rule
--   Part               a plane of a view: PY, PU or PV
--   Place              a sample of the picture's chroma: plane, row and column
--   Spot               a sample of a view: plane, row and column
--   shift k n          U and V share something in two halves of n: where k's half starts
--   half_of n j         whose half j is in
--   into n j           how far it is in that half
--   upper_of r          R65's n, for an odd row r
--   to_main, from_main   where the even-even sample of a block lives in the main view, and whose sample a spot of its chroma holds
--   to_v1, to_v2 W       where a place lives in the auxiliary view: an apply call reads there
--   from_v1, from_v2 W   whose sample a spot of the auxiliary view holds: a split writes it there
--   Maps               the two of a layout; `maps t` those of the layout t
--   wide_of rule pw vw  W by a rule, for a picture of width pw and a view of width vw
--   layout_of t pw vw   the layout of such a view that was sent this way
--   exact_layout_of pw   that of a server which does not round at all, for apply alone: no picture is sent this way
--   view_wide_of t stride        how wide the views of a split are, in the layout t
use Rattle.std.specs.Prelude.{ℕ, ◌+◌, ◌*◌, ◌-◌, ◌/◌, ◌%◌, cond, ltb, eqb}
use Rattle.lent.specs.Sizes.{round_up}
use Rattle.layout.specs.declared.Chroma.{Chroma}
use Rattle.layout.specs.declared.Chroma.TheVariants.{CU, CV}
use Rattle.layout.specs.declared.Layout.{Layout}
use Rattle.layout.specs.declared.Layout.TheVariants.{V1, V2}
use Rattle.layout.specs.declared.Way.{Way}
use Rattle.layout.specs.declared.Way.TheVariants.{AsV1, AsV2}
use Rattle.layout.specs.declared.WidthRule.{WidthRule}
use Rattle.layout.specs.declared.WidthRule.TheVariants.{To16, To32}

pub data Part : Type 0 where
  PY PU PV : Part

pub record Place : Type 0 where
  pub plane : Chroma
  pub row : ℕ
  pub col : ℕ

pub record Spot : Type 0 where
  pub part : Part
  pub row : ℕ
  pub col : ℕ

abbrev pub place : Chroma → ℕ → ℕ → Place
place k r c = record { plane = k; row = r; col = c }

abbrev pub spot : Part → ℕ → ℕ → Spot
spot p r c = record { part = p; row = r; col = c }

-- the chroma plane of a view that has the name of one of the picture
abbrev pub part_of : Chroma → Part
part_of CU = PU
part_of CV = PV

abbrev pub shift : Chroma → ℕ → ℕ
shift CU n = 0
shift CV n = n

abbrev pub half_of : ℕ → ℕ → Chroma
half_of n j = cond (ltb j n) CU CV

abbrev pub into : ℕ → ℕ → ℕ
into n j = j - shift (half_of n j) n

-- "n = row - row%16 + (row%16)/2"
abbrev pub upper_of : ℕ → ℕ
upper_of r = r - r % 16 + r % 16 / 2

-- the main view: "from U and V at row/2, col/2", and split "the even-even chroma"
abbrev pub to_main : Chroma → ℕ → ℕ → Spot
to_main k r c = spot (part_of k) (r / 2) (c / 2)

abbrev pub from_main : Chroma → ℕ → ℕ → Place
from_main k r c = place k (2 * r) (2 * c)

-- V1 (3.3.8.3.2): "an odd row takes U from luma row n .. and V from row n+8, at col .. An even row takes odd columns from U and V at
-- row/2, col/2"
abbrev pub to_v1 : Chroma → ℕ → ℕ → Spot
to_v1 k r c = cond (eqb (r % 2) 1) (spot PY (upper_of r + shift k 8) c) (spot (part_of k) (r / 2) (c / 2))

-- "the same places as above, read backwards": of 16 luma rows the first 8 hold the odd rows of U, the others those of V; U and V hold odd columns of even rows
abbrev pub from_v1 : Part → ℕ → ℕ → Place
from_v1 PY r c = place (half_of 8 (r % 16)) (r - r % 16 + (2 * into 8 (r % 16) + 1)) c
from_v1 PU r c = place CU (2 * r) (2 * c + 1)
from_v1 PV r c = place CV (2 * r) (2 * c + 1)

-- V2 (3.3.8.3.3): "Odd columns take U from luma at col/2 and V at W/2 + col/2 of the same row. Even columns of odd rows come from the
-- U plane if col%4 = 0, else from the V plane, at row/2: U at col/4, V at W/4 + col/4"
abbrev pub to_v2 : ℕ → Chroma → ℕ → ℕ → Spot
to_v2 W k r c =
    cond (eqb (c % 2) 1)
    (spot PY r (shift k (W / 2) + c / 2))
    (spot (cond (eqb (c % 4) 0) PU PV) (r / 2) (shift k (W / 4) + c / 4))

-- "read backwards": a luma row holds odd columns, a row of the U plane every fourth column of an odd row, one of the V plane those
-- between; each has U's in its first half and V's in its second
abbrev pub from_v2 : ℕ → Part → ℕ → ℕ → Place
from_v2 W PY r c = place (half_of (W / 2) c) r (2 * into (W / 2) c + 1)
from_v2 W PU r c = place (half_of (W / 4) c) (2 * r + 1) (4 * into (W / 4) c)
from_v2 W PV r c = place (half_of (W / 4) c) (2 * r + 1) (4 * into (W / 4) c + 2)

pub record Maps : Type 0 where
  pub spot : Place → Spot
  pub place : Spot → Place

abbrev pub maps_v1 : Maps
maps_v1 = record { spot = λ l. to_v1 l.plane l.row l.col; place = λ s. from_v1 s.part s.row s.col }

abbrev pub maps_v2 : ℕ → Maps
maps_v2 W = record { spot = λ l. to_v2 W l.plane l.row l.col; place = λ s. from_v2 W s.part s.row s.col }

-- W, for a picture of width pw and a view of width vw. The 16 rule: "W = vw rounded up to 16". The 32 rule: "W is the picture's width
-- rounded up to 32 .. in place of the view's width rounded up"
abbrev pub wide_of : WidthRule → ℕ → ℕ → ℕ
wide_of To16 pw vw = round_up 16 vw
wide_of To32 pw vw = round_up 32 pw

abbrev pub layout_of : Way → ℕ → ℕ → Layout
layout_of AsV1 pw vw = V1
layout_of (AsV2 rule) pw vw = V2 (wide_of rule pw vw)

-- R73: "W is the picture's own width, not rounded"
abbrev pub exact_layout_of : ℕ → Layout
exact_layout_of pw = V2 pw

-- how wide the views of a split are: W, and for V1 the stride
abbrev pub view_wide_of : Layout → ℕ → ℕ
view_wide_of V1 stride = stride
view_wide_of (V2 W) stride = W

abbrev pub maps : Layout → Maps
maps V1 = maps_v1
maps (V2 W) = maps_v2 W
