-- What the two views of a split hold (R80 to R82, R84).
--
--   Planes, planes y u v     three lent buffers: those of the picture, of the main view, of the auxiliary view
--   at_entry y u v, at_exit y u v    the same of three buffers that a call may write: what they hold when it begins, and when it is over
--   main_sample stride p q r c    the main view's plane q, at row r and column c: "Main: the luma plane and the even-even chroma". A view may
--                            be wider than the stride: it then holds Y 0, and U and V 128 (`seen`)
--   pick_chroma k u v           the picture's chroma plane k
--   seen_at stride u v l      the picture's chroma sample at the place l, 128 past the stride
--   auxiliary_sample t stride u v q r c     the auxiliary view's plane q, at row r and column c: "the same places as above, read backwards",
--                            so it is the picture's sample at the place that layout's map gives for that spot
--   v2_chroma_sample W stride u v first r c    a chroma row of V2, as it is written; split_views::auxiliary's law chroma_plane says which planes it is
--   Written wide rows s old new    a view of wide by rows that holds s was written over three buffers: every byte of its planes, and
--                            no other
use Rattle.std.specs.Prelude.{ℕ, ◌+◌, ◌*◌, ◌/◌, ◌≡◌, List}
use Rattle.std.specs.Borrow.{MutBor}
use denote.Triple.Both.{Both}
use Rattle.lent.specs.Paint.{painted, whole}
use Rattle.layout.specs.Maps.{Part, PY, PU, PV, Place, spot, half_of, into, maps}
use Rattle.layout.specs.declared.Chroma.{Chroma}
use Rattle.layout.specs.declared.Chroma.TheVariants.{CU, CV}
use Rattle.layout.specs.declared.Layout.{Layout}
unfoldable pub use Rattle.split_rows.specs.Seen.{seen}

pub record Planes : Type 0 where
  pub y : List ℕ
  pub u : List ℕ
  pub v : List ℕ

abbrev pub planes : List ℕ → List ℕ → List ℕ → Planes
planes y u v = record { y = y; u = u; v = v }

-- a buffer that is lent to be written, as a contract names it: at the call's entry and at its exit
abbrev pub LentBytes : Type 0
LentBytes = Both (MutBor (List ℕ)) (MutBor (List ℕ))

abbrev pub at_entry : LentBytes → LentBytes → LentBytes → Planes
at_entry y u v = planes y.entry.now u.entry.now v.entry.now

abbrev pub at_exit : LentBytes → LentBytes → LentBytes → Planes
at_exit y u v = planes y.exit.now u.exit.now v.exit.now

abbrev pub main_sample : ℕ → Planes → Part → ℕ → ℕ → ℕ
main_sample stride p PY r c = seen 0 p.y stride r c
main_sample stride p PU r c = seen 128 p.u stride (2 * r) (2 * c)
main_sample stride p PV r c = seen 128 p.v stride (2 * r) (2 * c)

abbrev pub pick_chroma : Chroma → List ℕ → List ℕ → List ℕ
pick_chroma CU u v = u
pick_chroma CV u v = v

abbrev pub seen_at : ℕ → List ℕ → List ℕ → Place → ℕ
seen_at stride u v l = seen 128 (pick_chroma l.plane u v) stride l.row l.col

unfoldable pub auxiliary_sample : Layout → ℕ → List ℕ → List ℕ → Part → ℕ → ℕ → ℕ
auxiliary_sample t stride u v q r c = seen_at stride u v ((maps t).place (spot q r c))

-- every fourth column of row r of the picture, from `first` on, U's in the first half of W/2 and V's in the second
unfoldable pub v2_chroma_sample : ℕ → ℕ → List ℕ → List ℕ → ℕ → ℕ → ℕ → ℕ
v2_chroma_sample W stride u v first r c = seen 128 (pick_chroma (half_of (W / 4) c) u v) stride r (4 * into (W / 4) c + first)

pub record Written (wide rows : ℕ) (s : Part → ℕ → ℕ → ℕ) (old new : Planes) : Type 0 where
  pub y_is : new.y ≡ painted wide rows whole (s PY) old.y
  pub u_is : new.u ≡ painted (wide / 2) (rows / 2) whole (s PU) old.u
  pub v_is : new.v ≡ painted (wide / 2) (rows / 2) whole (s PV) old.v
