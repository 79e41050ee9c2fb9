-- `map::boxes::turn_at` meets its contract: the byte that is there becomes 2 where it is 1; where there is none, nothing is painted.
-- Assumes nothing.
use Prim.Native.Nat.{ℕ}
use native.Mathlib.Omega.{arith}
use mathlib.Core.Path.{◌≡◌, refl, sym, ap, ◌∙◌}
use mathlib.Core.Bool.{false}
use mathlib.Core.List.{List}
use lib.Dec.{eqb}
use lib.ListN.{get_or, set}
use borrow.Author.Tests.{eq-eqb, ne_eqb}
use Rattle.lent.proofs.Bools.{cond-true, cond-false}
use Rattle.lent.proofs.Paint.{paint_none, paint-set}
use Rattle.map.specs.Map.{turned_of}
use Rattle.map.proofs.boxes.turn_at.Goals.{then-b-eq1, else-b-eq1}
use Rattle.map.proofs.boxes.turn_at.Goals as goal

-- `put` is of what is put at k
pub returns-after-b-eq1 : goal.returns-after-b-eq1
returns-after-b-eq1 c =
    let a = c.args in
    let xs : List ℕ = a.dst.now in
    let b : ℕ = get_or xs a.k 0 in
    let put : c.if-b-eq1.dst ≡ turned_of b =
    elim c.if-b-eq1.branch [
      | then-b-eq1 w ↦ w.dst-is ∙ sym (cond-true (eqb b 1) 2 b (eq-eqb b 1 w.if-b-eq1.true))
      | else-b-eq1 w ↦ w.dst-is ∙ sym (cond-false (eqb b 1) 2 b (ne_eqb b 1 w.if-b-eq1.false))
    ] in
    ap (λ (l : List ℕ). set l a.k c.if-b-eq1.dst) (paint_none (λ j. false) (λ j. turned_of (get_or xs j 0)) xs (λ j h. refl))
    ∙ paint-set (λ j. false) (λ j. eqb j a.k) _ xs a.k c.if-b-eq1.dst (omega arith) put (eq-eqb a.k a.k refl) (λ j ne. sym (ne_eqb j a.k ne))

pub returns-else-k-dst : goal.returns-else-k-dst
returns-else-k-dst c = paint_none _ _ _ (λ j h. ne_eqb j _ (λ e. omega arith))
