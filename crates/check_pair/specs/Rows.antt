-- A row of a view of a split, as the code looks at it, and what it asks of its callers, over lengths.
--
--   full_of n k             what row or column k, or side k, of a plane is in the view's luma plane: the same, or twice it
--   halves_of k half stride u v line c    U's samples in the first half of a row and V's in the second: those that k takes of row `line`
--   LineFits n len m stride line         row `line` of a plane that is len wide reads a picture's plane of m bytes, and that has the rows
--   PlaneWhole n t q len m stride        the same of every row of the plane q of len bytes, of a view in the layout t, whose sides fit 16 bits
--   ViewWhole t w m stride               the same of a view's sides
--   planes_in f, planes_of w             what the picture's three planes hold, and a view's
--   EachPlane f P                        P holds of the length of each of them
use Rattle.std.specs.Prelude.{ℕ, ◌+◌, ◌*◌, ◌%◌, ◌<◌, ◌≡◌, List, length}
use Rattle.layout.specs.Maps.{half_of, into, view_wide_of}
use Rattle.layout.specs.declared.Layout.{Layout}
use Rattle.view.specs.declared.Plane.{Plane}
use Rattle.view.specs.declared.View.{View}
use Rattle.view.specs.declared.frame.Frame.{Frame}
use Rattle.view.specs.View.{PlaneFits}
use Rattle.split_views.specs.Fits.{BlockFits, MacroblocksFit, WideEnough}
use Rattle.split_views.specs.Views.{Planes, planes, seen, pick_chroma}
use Rattle.check_rows.specs.declared.Taken.{Taken}
use Rattle.check_rows.specs.Rows.{step_of, first_of}
use Rattle.check_pair.specs.declared.Name.{Name}
use Rattle.check_pair.specs.declared.Name.TheVariants.{YPlane, UPlane, VPlane}
use Rattle.check_pair.specs.declared.Source.{Source}

abbrev pub full_of : Name → ℕ → ℕ
full_of YPlane k = k
full_of UPlane k = 2 * k
full_of VPlane k = 2 * k

unfoldable pub halves_of : Taken → ℕ → ℕ → List ℕ → List ℕ → ℕ → ℕ → ℕ
halves_of k half stride u v line c = seen 128 (pick_chroma (half_of half c) u v) stride line (step_of k * into half c + first_of k)

pub record LineFits (n : Name) (len m stride line : ℕ) : Type 0 where
  pub block : BlockFits m stride (full_of n line)
  pub whole : stride % 16 ≡ 0
  pub room : WideEnough stride (full_of n len)
  pub low : line < 65536

pub record PlaneWhole (n : Name) (t : Layout) (q : Plane) (len m stride : ℕ) : Type 0 where
  pub lent : PlaneFits q len
  pub picture : MacroblocksFit m stride (full_of n q.height)
  pub room : WideEnough stride (full_of n q.width)
  pub wide : full_of n q.width ≡ view_wide_of t stride
  pub high : q.height < 65536
  pub broad : q.width < 65536

pub record ViewWhole (t : Layout) (w : View) (m stride : ℕ) : Type 0 where
  pub picture : MacroblocksFit m stride w.height
  pub room : WideEnough stride w.width
  pub wide : w.width ≡ view_wide_of t stride
  pub high : w.height < 65536
  pub broad : w.width < 65536

abbrev pub planes_in : Source → Planes
planes_in f = planes f.y.now f.u.now f.v.now

abbrev pub planes_of : Frame → Planes
planes_of w = planes w.y.now w.u.now w.v.now

pub record EachPlane (f : Source) (P : ℕ → Type 0) : Type 0 where
  pub y : P (length f.y.now)
  pub u : P (length f.u.now)
  pub v : P (length f.v.now)
