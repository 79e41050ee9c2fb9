-- `strict::lists::first_unsound_index` meets its contract. The invariant: every rectangle that was passed is sound. So the one at which the loop
-- stops is the first that is not, and where it does not stop there is none.
-- Assumes nothing.
use native.Mathlib.Omega.{arith}
use borrow.Author.Tests.{eq-eqb, ne_eqb}
use mathlib.Core.Path.{refl, sym, ap, ◌∙◌}
use mathlib.Core.Bool.{not}
use Rattle.lent.proofs.First.{passed_none, passed_more, first_none, first_at}
use Rattle.strict.proofs.Searched.{fault_found, no_fault}
use Rattle.strict.specs.Sound.{fault_of, unsound_at}
use Rattle.strict.proofs.lists.first_unsound_index.Goals as goal

pub loop-i-init : goal.loop-i-init
loop-i-init c = (refl, passed_none _)

pub returns-then-is_some : goal.returns-then-is_some
unfolding unsound_at
returns-then-is_some c =
    let says = c.fault_of.ensures ∙ ap (fault_of _) c.rect_at.ensures in
    record {
      first = sym (first_at _ _ c.loop-i.i (omega arith) c.loop-i.invariant.1 (ap not (ne_eqb _ 0 (λ e. fault_found _ (sym c.is_some.ensures ∙ c.if-is_some.true) (says ∙ e)))));
      inside = omega arith;
    }

pub loop-i-preserved : goal.loop-i-preserved
unfolding unsound_at
loop-i-preserved c =
    let says = c.fault_of.ensures ∙ ap (fault_of _) c.rect_at.ensures in
    (refl, passed_more _ c.loop-i.i c.loop-i.invariant.1 (ap not (eq-eqb _ 0 (sym says ∙ no_fault _ (sym c.is_some.ensures ∙ c.if-is_some.false)))))

pub returns : goal.returns
returns c = record { first = sym (first_none _ _ (λ j h. c.loop-i.invariant.1 j (omega arith))); inside = tt }
