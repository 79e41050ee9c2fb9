-- `agree::one::check` meets its contract: the split's refusal comes first. Assumes nothing.
use mathlib.Core.Path.{ap}
use Rattle.std.proofs.lemmas.Result.{err_from_is_err_and}
use Rattle.lent.specs.Refused.{number_in}
use Rattle.agree_law.proofs.Number.{first_refused, first_passed}
use Rattle.lent.proofs.Answered.{refused_as, never_0}
use Rattle.agree.proofs.one.check.Goals as goal

pub returns-in_err-check : goal.returns-in_err-check
returns-in_err-check c =
    let p = err_from_is_err_and c.from_residual.result c.from_residual.ensures.1 in
    rw (p.1, p.2) (first_refused _ (refused_as c.check.ensures c.in_err-check.was) (never_0 _))

pub returns : goal.returns
returns c = first_passed c.check.ensures (ap number_in c.in_ok-check.was) c.check_earlier.ensures
