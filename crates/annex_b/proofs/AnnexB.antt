-- The laws of the conversion: each number exactly when, one outcome, never longer than the input, and a length of 0.
-- Assumes nothing.
use Prim.Native.Nat.{ℕ, ◌+◌, ◌-◌, ◌≤◌, ◌<◌}
use native.Mathlib.Omega.{arith}
use mathlib.Core.Path.{◌≡◌, ap, ◌∙◌}
use mathlib.Core.Bool.{true}
use mathlib.Core.List.{List, [], ◌∷◌, ◌++◌}
use mathlib.Core.Logic.{◌↔◌}
use lib.Dec.{ltb}
use lib.ListN.{length, take, drop}
use borrow.Author.Tests.{lt-ltb, le-ltb, ltb-true, ltb-false}
use Rattle.lent.specs.Outcome.{Outcome, answer_of, lent_after}
use Rattle.lent.specs.declared.Answer.{Answer}
use Rattle.lent.proofs.Refusal.{refusal_exactly, refusal_none}
use Rattle.lent.proofs.Outcome.{outcome_unique}
use Rattle.annex_b.specs.Units.{unit_length_of, unit_end, unit_at, units_from}
use Rattle.annex_b.specs.Format.{start_code, summed}
use Rattle.annex_b.specs.AnnexB.{count_of, annexed, annex_b_of, annex_number}
use Rattle.annex_b.proofs.UnitLaws.{unit_at_facts, by_units, units_more}
use Rattle.annex_b.proofs.Made.{summed_more, summed_none}

module _ (s out : List ℕ) where
  pub annex_6_exactly : (annex_number s out ≡ 6) ↔ (length out < count_of s)
  unfolding annex_number
  annex_6_exactly =
      let x = refusal_exactly (ltb (length out) (count_of s)) 6 [] tt (λ e. omega arith) [] tt in
      (λ e. ltb-true (length out) (count_of s) (x.0 e).1, λ h. x.1 (tt, lt-ltb (length out) (count_of s) h))

  pub annex_0_exactly : (annex_number s out ≡ 0) ↔ (count_of s ≤ length out)
  unfolding annex_number
  annex_0_exactly =
      let x = refusal_none ((ltb (length out) (count_of s), 6) ∷ []) tt in
      (λ e. ltb-false (length out) (count_of s) (x.0 e).0, λ h. x.1 (le-ltb (length out) (count_of s) h, tt))

  pub annex_unique : (r q : Answer) (o p : List ℕ)
      → Outcome (answer_of (annex_number s out) (count_of s)) (lent_after (annex_number s out) out (annex_b_of s out) ∷ []) r (o ∷ [])
      → Outcome (answer_of (annex_number s out) (count_of s)) (lent_after (annex_number s out) out (annex_b_of s out) ∷ []) q (p ∷ [])
      → (r ≡ q) × (o ∷ [] ≡ p ∷ [])
  annex_unique r q o p = outcome_unique (λ (x : List ℕ). answer_of (annex_number s x) (count_of s)) (λ x. lent_after (annex_number s x) x (annex_b_of s x) ∷ []) out r q (o ∷ []) (p ∷ [])

-- "The output is never longer than the input"
pub annex_never_longer : (s : List ℕ) → count_of s ≤ length s
unfolding count_of
annex_never_longer s = omega (arith, units_within 0 (omega arith))
  where
    units_within : (at : ℕ) → at ≤ length s → at + summed (units_from s at) ≤ length s
    units_within =
        by_units s (λ at. at ≤ length s → at + summed (units_from s at) ≤ length s)
        (λ at p h. omega (arith, summed_none s at p))
        (λ at p ih h. let f = unit_at_facts s at p in let n = summed_more f in omega (arith, ih f.within))

-- "a length of 0 writes the start code alone", wherever the unit stands, and the conversion goes on
pub annex_empty_unit : (s : List ℕ) (at : ℕ) → unit_at s at ≡ true → unit_length_of s at ≡ 0 → annexed (units_from s at) ≡ start_code ++ annexed (units_from s (at + 4))
annex_empty_unit s at p z =
    let e : unit_end s at ≡ at + 4 = omega arith in
    let n : unit_end s at - (at + 4) ≡ 0 = omega arith in
    ap annexed (units_more (unit_at_facts s at p)) ∙ (λ i. start_code ++ take (n i) (drop (at + 4) s) ++ annexed (units_from s (e i)))
