-- Both views of a picture (R22, R80 to R85). What a view holds, `main_sample` and `auxiliary_sample`, `Written`, and the planes that a contract
-- names, `at_entry` and `at_exit`, are said in split_views (specs/Views.antt), the number and the answer, `split_number_of` and `split_answer_of`, in
-- Number.antt; both are passed on here.
--
--   lengths_of p              the lengths of three lent buffers
--   view_after n W z s o      what the buffers o of a view W wide that holds s have in them after a split that answers n
--   split_buffers_of t z p m a       what the six outputs hold afterwards
--   SplitOutcome t z p m a r rs    how a split of a picture that is sent this way ends: it answers r and leaves rs in the six outputs
use Rattle.std.specs.Prelude.{ℕ, ◌/◌, List, [], ◌∷◌, ◌++◌, length}
use Rattle.lent.specs.Outcome.{Outcome, lent_after}
use Rattle.lent.specs.Paint.{painted, whole}
use Rattle.picture.specs.declared.Size.{Size}
use Rattle.picture.specs.Sizes.{stride_of, rows_of}
use Rattle.layout.specs.Maps.{Part, PY, PU, PV}
use Rattle.layout.specs.declared.Way.{Way}
use Rattle.split.specs.declared.number.PlaneLengths.{PlaneLengths}
use Rattle.split.specs.declared.number.Views.{Views}
pub use Rattle.split.specs.Number.{split_layout_of, split_wide_of, widest_of, split_answer_of}
unfoldable pub use Rattle.split.specs.Number.{too_large, view_short, split_number_of}
pub use Rattle.split_views.specs.Views.{Planes, planes, at_entry, at_exit, main_sample, pick_chroma, seen_at, Written}
unfoldable pub use Rattle.split_views.specs.Views.{seen, auxiliary_sample}

abbrev pub lengths_of : Planes → PlaneLengths
lengths_of p = record { y = length p.y; u = length p.u; v = length p.v }

abbrev pub view_after : ℕ → ℕ → Size → (Part → ℕ → ℕ → ℕ) → Planes → List (List ℕ)
view_after n W z s o =
    lent_after n o.y (painted W (rows_of z) whole (s PY) o.y)
    ∷ lent_after n o.u (painted (W / 2) (rows_of z / 2) whole (s PU) o.u)
    ∷ lent_after n o.v (painted (W / 2) (rows_of z / 2) whole (s PV) o.v)
    ∷ []

unfoldable pub split_buffers_of : Way → Size → Planes → Planes → Planes → List (List ℕ)
split_buffers_of t z p m a =
    let n = split_number_of t z (lengths_of p) (lengths_of m) (lengths_of a) in
    let W = split_wide_of t z in
    view_after n W z (main_sample (stride_of z) p) m ++ view_after n W z (auxiliary_sample (split_layout_of t z) (stride_of z) p.u p.v) a

abbrev pub SplitOutcome : Way → Size → Planes → Planes → Planes → Views → List (List ℕ) → Type 0
SplitOutcome t z p m a r rs =
    Outcome (split_answer_of t z (split_number_of t z (lengths_of p) (lengths_of m) (lengths_of a))) (split_buffers_of t z p m a) r rs
