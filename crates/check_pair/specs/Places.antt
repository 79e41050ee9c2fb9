-- The samples of two views as places, and their order (R89), for the laws: `Where` is a view, a plane, a row and a column, as an answer has them.
--
--   sent_of v, name_of i  the view and the plane with these numbers
--   Visible t z l       l is a place in the views of a split: below a plane's height and width
--   Before k l          k comes before l: "main before auxiliary, Y then U then V, by row and then column"
--   shown_in w m l       the sample there of a view w with the planes m
--   shown_at w m x a l   that of the view that it is in, w or x, with the planes m and a
--   split_at t z p l     the sample there of the split of a picture of the size z with the planes p
--   RightAt, WrongAt    the two are equal; they are not
--   SizesMatch t z w x  both views have the width and the height of a split's
--   FirstWrongAt .. l   l is wrong, and each place before it is right
--   place_in r           the place that an answer names
--   view_in r            the view that a split with the answer r has made, either one
use Rattle.std.specs.Prelude.{ℕ, ◌<◌, ◌≡◌, cond, ◌⊎◌, eqb}
use Rattle.lent.specs.Samples.{sample}
use Rattle.picture.specs.declared.Size.{Size}
use Rattle.picture.specs.Sizes.{stride_of, rows_of}
use Rattle.layout.specs.declared.Way.{Way}
use Rattle.view.specs.declared.View.{View}
use Rattle.split_views.specs.Views.{Planes}
use Rattle.split.specs.declared.number.Views.{Views}
use Rattle.split.specs.Number.{split_layout_of, split_wide_of}
use Rattle.check_pair.specs.declared.Checked.{Checked}
use Rattle.check_pair.specs.declared.Name.{Name}
use Rattle.check_pair.specs.declared.Name.TheVariants.{YPlane, UPlane, VPlane}
use Rattle.check_pair.specs.declared.Sent.{Sent}
use Rattle.check_pair.specs.declared.Sent.TheVariants.{Main, Auxiliary}
use Rattle.check_pair.specs.declared.Where.{Where}
use Rattle.check_pair.specs.Verdict.{part_of, plane_of, bytes_of, side_of, held_of}

abbrev pub sent_of : ℕ → Sent
sent_of v = cond (eqb v 0) Main Auxiliary

abbrev pub name_of : ℕ → Name
name_of i = cond (eqb i 0) YPlane (cond (eqb i 1) UPlane VPlane)

pub record Visible (t : Way) (z : Size) (l : Where) : Type 0 where
  pub view : l.view < 2
  pub plane : l.plane < 3
  pub row : l.row < side_of (name_of l.plane) (rows_of z)
  pub column : l.column < side_of (name_of l.plane) (split_wide_of t z)

abbrev pub Before : Where → Where → Type 0
Before k l =
    (k.view < l.view)
    ⊎ ((k.view ≡ l.view)
    × ((k.plane < l.plane) ⊎ ((k.plane ≡ l.plane) × ((k.row < l.row) ⊎ ((k.row ≡ l.row) × (k.column < l.column))))))

abbrev pub shown_in : View → Planes → Where → ℕ
shown_in w m l = sample (bytes_of m (name_of l.plane)) (plane_of w (name_of l.plane)).stride l.row l.column

abbrev pub shown_at : View → Planes → View → Planes → Where → ℕ
shown_at w m x a l = cond (eqb l.view 0) (shown_in w m l) (shown_in x a l)

abbrev pub split_at : Way → Size → Planes → Where → ℕ
split_at t z p l = held_of (sent_of l.view) (split_layout_of t z) (stride_of z) p (part_of (name_of l.plane)) l.row l.column

abbrev pub RightAt : Way → Size → Planes → View → Planes → View → Planes → Where → Type 0
RightAt t z p w m x a l = shown_at w m x a l ≡ split_at t z p l

abbrev pub WrongAt : Way → Size → Planes → View → Planes → View → Planes → Where → Type 0
WrongAt t z p w m x a l = RightAt t z p w m x a l → ⊥

pub record SizesMatch (t : Way) (z : Size) (w x : View) : Type 0 where
  pub main_width : w.width ≡ split_wide_of t z
  pub main_height : w.height ≡ rows_of z
  pub auxiliary_width : x.width ≡ split_wide_of t z
  pub auxiliary_height : x.height ≡ rows_of z

pub record FirstWrongAt (t : Way) (z : Size) (p : Planes) (w : View) (m : Planes) (x : View) (a : Planes) (l : Where) : Type 0 where
  pub visible : Visible t z l
  pub wrong : WrongAt t z p w m x a l
  pub before : (k : Where) → Visible t z k → Before k l → RightAt t z p w m x a k

abbrev pub place_in : Checked → Where
place_in r = record { view = r.view; plane = r.plane; row = r.row; column = r.column }

abbrev pub view_in : Views → View
view_in r = record { width = r.width; height = r.height; luma_stride = r.luma_stride; chroma_stride = r.chroma_stride }
