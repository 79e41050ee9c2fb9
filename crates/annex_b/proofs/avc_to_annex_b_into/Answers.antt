-- `annex_b::avc_to_annex_b_into` meets its contract: the output's length is asked first, so that a refusal has written nothing.
-- Assumes nothing.
use Prim.Native.Nat.{ℕ, ◌≤◌}
use mathlib.Core.Path.{refl, sym, ap, ◌∙◌}
use mathlib.Core.List.{List, [], ◌∷◌}
use lib.ListN.{length}
use borrow.Author.Tests.{ltb-true, ltb-false}
use Rattle.lent.specs.Outcome.{answer_of}
use Rattle.annex_b.specs.AnnexB.{count_of}
use Rattle.annex_b.proofs.AnnexB.{annex_6_exactly, annex_0_exactly}
use Rattle.annex_b.proofs.avc_to_annex_b_into.Goals.{Else-short}
use Rattle.annex_b.proofs.avc_to_annex_b_into.Goals as goal

pub returns-then-short : goal.returns-then-short
returns-then-short c =
    let a = c.args in
    let lt = ltb-true (length a.out.now) (count_of a.«data».now) (sym c.short.ensures ∙ c.if-short.true) in
    let e = (annex_6_exactly a.«data».now a.out.now).1 lt in
    rw e (record { answer = c.refused.ensures; buffers = refl })

-- past the refusal the output is long enough
room : (c : Else-short) → let a = c.args in count_of a.«data».now ≤ length a.out.now
room c =
    let a = c.args in
    ltb-false (length a.out.now) (count_of a.«data».now) (sym c.short.ensures ∙ c.if-short.false)

pub annex_b-n-requires : goal.annex_b-n-requires
annex_b-n-requires c = room (goal.at.annex_b-n-requires c).Else-short

pub returns : goal.returns
returns c =
    let a = c.args in
    let e = (annex_0_exactly a.«data».now a.out.now).1 (room (goal.at.returns c).Else-short) in
    rw e (record { answer = c.done.ensures ∙ ap (answer_of 0) c.annex_b-n.ensures.0; buffers = ap (λ (l : List ℕ). l ∷ []) c.annex_b-n.ensures.1 })
