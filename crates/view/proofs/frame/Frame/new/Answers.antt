-- `view::frame::Frame::new` meets its contract: what was found no reason to refuse holds its planes, and lies over the lent ones.
-- Assumes nothing.
use mathlib.Core.Path.{refl, sym}
use Rattle.lent.proofs.Answered.{accepted}
use Rattle.view.proofs.Exactly.{accepted_fits}
use Rattle.view.proofs.frame.Frame.new.Goals as goal

pub invariant_of-result : goal.invariant_of-result
invariant_of-result c = record { fits = accepted_fits _ _ _ _ (accepted c.check.ensures c.in_ok-check.was) }

pub returns-clause-number : goal.returns-clause-number
returns-clause-number c = sym (accepted c.check.ensures c.in_ok-check.was)

pub returns-clause-same : goal.returns-clause-same
returns-clause-same c = (refl, refl, refl, refl)
