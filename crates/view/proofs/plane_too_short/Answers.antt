-- `view::plane_too_short` meets its contract: each of `lent::too_short`'s answers is a test of `plane_short`, in its order; the shorter of
-- U and V is too short where one of them is.
-- Assumes nothing.
use Prim.Native.Nat.{ℕ, min}
use native.Mathlib.Omega.{arith}
use mathlib.Core.Path.{◌≡◌, sym, ◌∙◌}
use mathlib.Core.Bool.{◌||◌}
use mathlib.Core.Logic.{⊎_elim}
use lib.Dec.{ltb}
use borrow.Author.Tests.{lt-ltb, ltb-true}
use Rattle.lent.proofs.Bools.{split, same_test, either, or_left, or_right}
use Rattle.view.specs.View.{plane_short}
use Rattle.view.proofs.plane_too_short.Goals as goal

shorter : (a b n : ℕ) → ltb (min a b) n ≡ (ltb a n || ltb b n)
shorter a b n =
    same_test (ltb (min a b) n) (ltb a n || ltb b n)
    (λ e. let lt = ltb-true (min a b) n e in
    ⊎_elim (λ l. or_left (ltb a n) (ltb b n) (lt-ltb a n (omega arith))) (λ g. or_right (ltb a n) (ltb b n) (lt-ltb b n (omega arith))) (split a b))
    (λ e. lt-ltb (min a b) n
    (⊎_elim (λ l. omega (arith, ltb-true a n l)) (λ r. omega (arith, ltb-true b n r)) (either (ltb a n) (ltb b n) e)))

pub returns-then-too_short : goal.returns-then-too_short
unfolding plane_short
returns-then-too_short c = let y = c.too_short in simp (sym y.ensures, c.if-too_short.true)

pub returns : goal.returns
unfolding plane_short
returns c =
    let y = c.too_short in
    let a = c.args in
    simp (sym y.ensures, c.if-too_short.false)
    (c.too_short-2.ensures ∙ rw (c.least.ensures, c.half_up.ensures) (shorter a.nu a.nv _))
