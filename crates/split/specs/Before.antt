-- What a split was before V2 had rules: both views of stride by rows, every sample the picture's own, m the maps of its layout. The laws
-- split_v1 and split_16 say that as V1, and as V2 by the 16 rule, it still is.
--
--   main_before stride p q r c           the main view's plane q, at row r and column c
--   auxiliary_before m stride u v q r c  the auxiliary view's
--   number_before z p m a                the number
--   answer_before z n                    the answer with the number n
--   view_before n z s o                  what the buffers o of a view that holds s have in them afterwards
--   SplitBefore m z p b a r rs          how the call ended
use Rattle.std.specs.Prelude.{ℕ, ◌*◌, ◌/◌, Bool, cond, ◌||◌, List, [], ◌∷◌, ◌++◌, ltb, eqb}
use Rattle.lent.specs.Outcome.{Outcome, lent_after}
use Rattle.lent.specs.Paint.{painted, whole}
use Rattle.lent.specs.Refusal.{refusal}
use Rattle.lent.specs.Samples.{sample}
use Rattle.lent.specs.Sizes.{too_short}
use Rattle.picture.specs.declared.Size.{Size}
use Rattle.picture.specs.Sizes.{stride_of, rows_of, planes_short}
use Rattle.layout.specs.Maps.{Part, PY, PU, PV, Place, Maps, spot}
use Rattle.split.specs.declared.number.PlaneLengths.{PlaneLengths}
use Rattle.split.specs.declared.number.Views.{Views}
use Rattle.split.specs.Split.{Planes, lengths_of, pick_chroma}

abbrev pub main_before : ℕ → Planes → Part → ℕ → ℕ → ℕ
main_before stride p PY r c = sample p.y stride r c
main_before stride p PU r c = sample p.u stride (2 * r) (2 * c)
main_before stride p PV r c = sample p.v stride (2 * r) (2 * c)

abbrev pub sample_at : ℕ → List ℕ → List ℕ → Place → ℕ
sample_at stride u v l = sample (pick_chroma l.plane u v) stride l.row l.col

abbrev pub auxiliary_before : Maps → ℕ → List ℕ → List ℕ → Part → ℕ → ℕ → ℕ
auxiliary_before m stride u v q r c = sample_at stride u v (m.place (spot q r c))

abbrev pub short_before : Size → PlaneLengths → Bool
short_before z n =
    too_short (stride_of z) (rows_of z) n.y
    || too_short (stride_of z / 2) (rows_of z / 2) n.u
    || too_short (stride_of z / 2) (rows_of z / 2) n.v

abbrev pub number_before : Size → PlaneLengths → PlaneLengths → PlaneLengths → ℕ
number_before z p m a =
    refusal ((planes_short z p.y p.u p.v, 1) ∷ (ltb 65535 (stride_of z) || ltb 65535 (rows_of z), 5) ∷ (short_before z m || short_before z a, 6) ∷ [])

abbrev pub answer_before : Size → ℕ → Views
answer_before z n = record {
  number = n;
  width = cond (eqb n 0) (stride_of z) 0;
  height = cond (eqb n 0) (rows_of z) 0;
  luma_stride = cond (eqb n 0) (stride_of z) 0;
  chroma_stride = cond (eqb n 0) (stride_of z / 2) 0;
}

abbrev pub view_before : ℕ → Size → (Part → ℕ → ℕ → ℕ) → Planes → List (List ℕ)
view_before n z s o =
    lent_after n o.y (painted (stride_of z) (rows_of z) whole (s PY) o.y)
    ∷ lent_after n o.u (painted (stride_of z / 2) (rows_of z / 2) whole (s PU) o.u)
    ∷ lent_after n o.v (painted (stride_of z / 2) (rows_of z / 2) whole (s PV) o.v)
    ∷ []

abbrev pub SplitBefore : Maps → Size → Planes → Planes → Planes → Views → List (List ℕ) → Type 0
SplitBefore m z p b a r rs =
    let n = number_before z (lengths_of p) (lengths_of b) (lengths_of a) in
    Outcome (answer_before z n) (view_before n z (main_before (stride_of z) p) b ++ view_before n z (auxiliary_before m (stride_of z) p.u p.v) a) r rs
