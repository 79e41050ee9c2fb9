-- A fresh picture and one from RGBA, each with its map (R22, R77): "From RGBA sets 2 everywhere, a fresh picture 0".
--
--   map_new_number_of z ny nu nv n       the number of `new`: 1, which covers the map, n being the map's length
--   MapNewOutcome z y u v m           how it ends, refusals included
--   map_from_number_of z k ny nu nv n    the number of from RGBA, k being the input's length: 2, then 1
--   from_short_of z k                   the same where the map is short
--   MapFromRgbaOutcome x e px z y u v m    how it ends, by the colour matrix x and the edge rule e
use Rattle.std.specs.Prelude.{ℕ, cond, List, [], ◌∷◌, ◌++◌, length}
use Rattle.lent.specs.declared.Answer.{Answer}
use Rattle.lent.specs.Outcome.{Outcome, answer_of, lent_after}
use Rattle.lent.specs.Refusal.{refusal}
use Rattle.colour.specs.declared.Matrix.{Matrix}
use Rattle.picture.specs.declared.Size.{Size}
use Rattle.picture.specs.New.{fresh_buffers_of}
use Rattle.from_rgba.specs.declared.edges.Edge.{Edge}
use Rattle.from_rgba.specs.FromRgba.{rgba_short, made_buffers_of}
use Rattle.map.specs.Map.{picture_short, map_of}

abbrev pub map_new_number_of : Size → ℕ → ℕ → ℕ → ℕ → ℕ
map_new_number_of z ny nu nv n = refusal ((picture_short z ny nu nv n, 1) ∷ [])

-- the four buffers after a call that answers n
abbrev pub map_new_buffers_of : ℕ → Size → List ℕ → List ℕ → List ℕ → List ℕ → List (List ℕ)
map_new_buffers_of n z y u v m = fresh_buffers_of n z y u v ++ (lent_after n m (map_of z (λ i j. 0) m) ∷ [])

abbrev pub MapNewOutcome : Size → List ℕ → List ℕ → List ℕ → List ℕ → Answer → List (List ℕ) → Type 0
MapNewOutcome z y u v m =
    let n = map_new_number_of z (length y) (length u) (length v) (length m) in
    Outcome (answer_of n 0) (map_new_buffers_of n z y u v m)

abbrev pub map_from_number_of : Size → ℕ → ℕ → ℕ → ℕ → ℕ → ℕ
map_from_number_of z k ny nu nv n = refusal ((rgba_short z k, 2) ∷ (picture_short z ny nu nv n, 1) ∷ [])

abbrev pub from_short_of : Size → ℕ → ℕ
from_short_of z k = cond (rgba_short z k) 2 1

abbrev pub map_from_buffers_of : ℕ → Matrix → Edge → List ℕ → Size → List ℕ → List ℕ → List ℕ → List ℕ → List (List ℕ)
map_from_buffers_of n x e px z y u v m = made_buffers_of n x e px z y u v ++ (lent_after n m (map_of z (λ i j. 2) m) ∷ [])

abbrev pub MapFromRgbaOutcome : Matrix → Edge → List ℕ → Size → List ℕ → List ℕ → List ℕ → List ℕ → Answer → List (List ℕ) → Type 0
MapFromRgbaOutcome x e px z y u v m =
    let n = map_from_number_of z (length px) (length y) (length u) (length v) (length m) in
    Outcome (answer_of n 0) (map_from_buffers_of n x e px z y u v m)
