-- The verdict on two views (R89), of a picture whose planes are long enough: "a no for samples names the first wrong one: main before
-- auxiliary, Y then U then V, by row and then column. A no for sizes names no place".
--
--   Sent, Name             which view, Main or Auxiliary; which plane of it, YPlane, UPlane or VPlane
--   part_of, plane_of, bytes_of     a plane by its name: of the maps, its sizes in the view w, its bytes
--   side_of n k             how wide it is in a view of a split that is k wide, and how high in one that is k high
--   index_of, order_of       a plane's and a view's number in an answer: Y 0, U 1, V 2; main 0, auxiliary 1
--   held_of s t stride p    what the split holds in that view: its plane, row and column
--   cell_wrong s q xs k     of the plane q with the bytes xs, the sample at row k / width and column k % width is not what s has there
--   first_in s q xs         the first such k; where there is none, how many samples the plane has
--   where_of v i w k        the place of sample k of a plane w wide, the plane i of the view v
--   plane_verdict_of v i s q xs     the verdict on one plane: same, or its first wrong sample
--   verdict_of x            the verdict that a first wrong sample is, or same where there is none
--   or_else d e             the verdict d, or e where d is same
--   named_verdict_of s n t stride p w m    the verdict on the plane n of the view w with the planes m
--   view_verdict_of s t stride p w m       that on the view: Y, then U, then V
--   pair_verdict_of t z p w m x a   the verdict on both: sizes first, then main, then auxiliary
use Rattle.std.specs.Prelude.{ℕ, ◌*◌, ◌/◌, ◌%◌, Bool, cond, not, ◌&&◌, List, Option, None, Some, ltb, eqb}
use Rattle.lent.specs.Counts.{first_where}
use Rattle.lent.specs.Samples.{sample}
use Rattle.picture.specs.declared.Size.{Size}
use Rattle.picture.specs.Sizes.{stride_of}
use Rattle.layout.specs.Maps.{Part, PY, PU, PV}
use Rattle.layout.specs.declared.Layout.{Layout}
use Rattle.layout.specs.declared.Way.{Way}
use Rattle.view.specs.declared.Plane.{Plane}
use Rattle.view.specs.declared.View.{View}
use Rattle.view.specs.View.{luma_of, chroma_of}
use Rattle.split_views.specs.Views.{Planes, main_sample, auxiliary_sample}
use Rattle.split.specs.Number.{split_layout_of}
use Rattle.check_pair.specs.declared.Name.{Name}
use Rattle.check_pair.specs.declared.Name.TheVariants.{YPlane, UPlane, VPlane}
use Rattle.check_pair.specs.declared.Sent.{Sent}
use Rattle.check_pair.specs.declared.Sent.TheVariants.{Main, Auxiliary}
use Rattle.check_pair.specs.declared.Verdict.{Verdict}
use Rattle.check_pair.specs.declared.Verdict.TheVariants.{Same, Sizes, Wrong}
use Rattle.check_pair.specs.declared.Where.{Where}
use Rattle.check_pair.specs.Number.{sizes_agree}

abbrev pub part_of : Name → Part
part_of YPlane = PY
part_of UPlane = PU
part_of VPlane = PV

abbrev pub plane_of : View → Name → Plane
plane_of w YPlane = luma_of w
plane_of w UPlane = chroma_of w
plane_of w VPlane = chroma_of w

abbrev pub bytes_of : Planes → Name → List ℕ
bytes_of m YPlane = m.y
bytes_of m UPlane = m.u
bytes_of m VPlane = m.v

abbrev pub side_of : Name → ℕ → ℕ
side_of YPlane n = n
side_of UPlane n = n / 2
side_of VPlane n = n / 2

abbrev pub index_of : Name → ℕ
index_of YPlane = 0
index_of UPlane = 1
index_of VPlane = 2

abbrev pub order_of : Sent → ℕ
order_of Main = 0
order_of Auxiliary = 1

abbrev pub held_of : Sent → Layout → ℕ → Planes → Part → ℕ → ℕ → ℕ
held_of Main t stride p = main_sample stride p
held_of Auxiliary t stride p = auxiliary_sample t stride p.u p.v

abbrev pub cell_wrong : (ℕ → ℕ → ℕ) → Plane → List ℕ → ℕ → Bool
cell_wrong s q xs k = not (eqb (sample xs q.stride (k / q.width) (k % q.width)) (s (k / q.width) (k % q.width)))

unfoldable pub first_in : (ℕ → ℕ → ℕ) → Plane → List ℕ → ℕ
first_in s q xs = first_where (q.height * q.width) (cell_wrong s q xs)

abbrev pub where_of : ℕ → ℕ → ℕ → ℕ → Where
where_of v i w k = record { view = v; plane = i; row = k / w; column = k % w }

unfoldable pub plane_verdict_of : ℕ → ℕ → (ℕ → ℕ → ℕ) → Plane → List ℕ → Verdict
plane_verdict_of v i s q xs = cond (ltb (first_in s q xs) (q.height * q.width)) (Wrong (where_of v i q.width (first_in s q xs))) Same

abbrev pub verdict_of : Option Where → Verdict
verdict_of None = Same
verdict_of (Some l) = Wrong l

abbrev pub or_else : Verdict → Verdict → Verdict
or_else Same e = e
or_else Sizes e = Sizes
or_else (Wrong l) e = Wrong l

abbrev pub named_verdict_of : Sent → Name → Layout → ℕ → Planes → View → Planes → Verdict
named_verdict_of s n t stride p w m = plane_verdict_of (order_of s) (index_of n) (held_of s t stride p (part_of n)) (plane_of w n) (bytes_of m n)

unfoldable pub view_verdict_of : Sent → Layout → ℕ → Planes → View → Planes → Verdict
view_verdict_of s t stride p w m =
    or_else (named_verdict_of s YPlane t stride p w m) (or_else (named_verdict_of s UPlane t stride p w m) (named_verdict_of s VPlane t stride p w m))

unfoldable pub pair_verdict_of : Way → Size → Planes → View → Planes → View → Planes → Verdict
pair_verdict_of t z p w m x a =
    cond
    (sizes_agree t z w && sizes_agree t z x)
    (or_else (view_verdict_of Main (split_layout_of t z) (stride_of z) p w m) (view_verdict_of Auxiliary (split_layout_of t z) (stride_of z) p x a))
    Sizes
