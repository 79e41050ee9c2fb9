-- `to_rgba::check_view` meets its contract: the view's own refusal where it has one, and then the output's.
-- Assumes nothing.
use native.Mathlib.Omega.{arith}
use mathlib.Core.Path.{sym}
use Rattle.std.proofs.lemmas.Result.{err_from_is_err_and}
use Rattle.lent.proofs.Answered.{never_0}
use Rattle.to_rgba.proofs.Exactly.{view_refused, view_rgba_0_exactly, view_rgba_6_exactly}
use Rattle.to_rgba.proofs.check_view.Goals as goal

pub returns-in_err-frame-clause-number : goal.returns-in_err-frame-clause-number
returns-in_err-frame-clause-number c =
    let a = c.args in
    let p = err_from_is_err_and c.from_residual.result c.from_residual.ensures.1 in
    rw (p.1, p.2) (view_refused a.w a.count _ _ _ a.nout c.in_err-frame.ensures.number (never_0 _))

pub returns-then-nout-count-clause-number : goal.returns-then-nout-count-clause-number
returns-then-nout-count-clause-number c = sym ((view_rgba_6_exactly _ _ _ _ _ _).1 (sym c.in_ok-frame.ensures.number, omega arith))

pub returns-clause-number : goal.returns-clause-number
returns-clause-number c = sym ((view_rgba_0_exactly _ _ _ _ _ _).1 (sym c.in_ok-frame.ensures.number, omega arith))
