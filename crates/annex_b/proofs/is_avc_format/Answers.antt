-- `annex_b::is_avc_format` meets its contract: each test decides as its part of the definition, in the definition's order.
-- Assumes nothing.
use Prim.Native.Nat.{ℕ}
use native.Mathlib.Omega.{arith}
use mathlib.Core.Path.{◌≡◌, refl, sym, ap, ◌∙◌}
use mathlib.Core.Bool.{not, ◌&&◌}
use mathlib.Core.List.{[], ◌∷◌}
use lib.Dec.{ltb, eqb}
use lib.ListN.{length}
use Rattle.std.proofs.lemmas.Bool.Decides.{nat_tests}
use Rattle.annex_b.specs.Format.{start_code, starts_with_of, is_avc_format_of}
use Rattle.annex_b.proofs.Starts.{starts_is}
use Rattle.annex_b.proofs.is_avc_format.Goals.{Joined-not-starts_with, then-not-is_empty, else-not-is_empty, then-not-starts_with, else-not-starts_with}
use Rattle.annex_b.proofs.is_avc_format.Goals as goal

some : (n : ℕ) → ltb 0 n ≡ not (eqb n 0)
some n = grind (arith, nat_tests)

no_code : (c : Joined-not-starts_with)
    → let s = c.args.«data».now in c.if-not-starts_with.value ≡ (ltb 0 (length s) && not (starts_with_of (0 ∷ 0 ∷ 1 ∷ []) s) && not (starts_with_of start_code s))
no_code c =
    let s = c.args.«data».now in
    let more : ltb 0 (length s) ≡ not c.is_empty.result = some (length s) ∙ ap not (sym c.is_empty.ensures) in
    let no_short : (not c.is_empty.result && not (starts_with_of (0 ∷ 0 ∷ 1 ∷ []) s)) ≡ c.if-not-is_empty.value =
    elim c.if-not-is_empty.branch [
      | then-not-is_empty w ↦ rw w.if-not-is_empty.true (sym (w.value-is ∙ ap not (w.starts_with.ensures.value ∙ starts_is s (0 ∷ 0 ∷ 1 ∷ []))))
      | else-not-is_empty w ↦ rw w.if-not-is_empty.false (sym (w.value-is ∙ ap not w.if-not-is_empty.false))
    ] in
    rw (more, no_short)
    (elim c.if-not-starts_with.branch [
      | then-not-starts_with w ↦ rw w.if-not-starts_with.true (w.value-is ∙ ap not (w.starts_with-then-not-starts_with.ensures.value ∙ starts_is s start_code))
      | else-not-starts_with w ↦ rw w.if-not-starts_with.false (w.value-is ∙ w.if-not-starts_with.false)
    ])

pub returns-then-not-starts_with-2 : goal.returns-then-not-starts_with-2
unfolding is_avc_format_of
returns-then-not-starts_with-2 c =
    let e = no_code (goal.at.returns-then-not-starts_with-2 c).Joined-not-starts_with in
    rw (sym e, c.if-not-starts_with-2.true) c.made_of_units.ensures

pub returns-else-not-starts_with-2 : goal.returns-else-not-starts_with-2
unfolding is_avc_format_of
returns-else-not-starts_with-2 c =
    let e = no_code (goal.at.returns-else-not-starts_with-2 c).Joined-not-starts_with in
    rw (sym e, c.if-not-starts_with-2.false) refl
