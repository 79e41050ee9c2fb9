-- `columns::put_full` meets its contract: a first pair, where the row begins with v, is one turn of `below_more`, and what is left another.
-- Assumes nothing.
use Prim.Native.Nat.{ℕ, ◌+◌, ◌-◌, ◌*◌, ◌/◌, min}
use native.Mathlib.Omega.{arith}
use mathlib.Core.Path.{◌≡◌, refl}
use mathlib.Core.Bool.{cond}
use mathlib.Core.List.{List, ◌++◌}
use lib.ListN.{length, get_or, take, drop}
use Rattle.lent.specs.Paint.{paint, every}
use Rattle.columns.specs.Fits.{OddsFit, EvensFit}
use Rattle.columns.specs.Turns.{odd, woven}
use Rattle.columns.proofs.Turns.{by_fours}
use Rattle.columns.proofs.Sources.{first_pair, rest_by_fours}
use Rattle.columns.proofs.Columns.{Below, below_none, below_all, below_more}
use Rattle.columns.proofs.put_full.Goals as goal

-- the two turns, over lists alone, so that `omega` has little to read
module _ (from u v xs : List ℕ) (lead col : ℕ) (odds : OddsFit (length xs) (length from)) (evens : EvensFit (length xs) (length u) (length v) lead) (first : col ≡ min (2 * lead) (length xs)) where
  abbrev row : ℕ → ℕ
  row k = cond (odd k) (get_or from (k / 2) 0) (woven u v (lead + k / 2))

  begun : {ys : List ℕ} → ys ≡ paint every (woven v from) (take (col - 0) (drop 0 xs)) → Below every row xs (take 0 xs ++ (ys ++ drop (col - 0) (drop 0 xs))) col
  begun is =
      below_more every row xs 0 col (omega arith) (omega arith) (below_none every row xs) is (λ j h. refl)
      (λ j h e. first_pair from u v lead col j (omega arith) (omega arith) h)

  ended : {was ys : List ℕ} → Below every row xs was col
      → ys ≡ paint every (by_fours (take (length from - col / 2) (drop (col / 2) from)) (take (length u - lead) (drop lead u)) (take (length v - lead) (drop lead v))) (take (length xs - col) (drop col was))
      → take col was ++ (ys ++ drop (length xs - col) (drop col was)) ≡ paint every row xs
  ended before is =
      below_all every row xs (length xs)
      (below_more every row xs col (length xs) (omega arith) (omega arith) before is (λ j h. refl)
      (λ j h e. rest_by_fours from u v lead col (length from - col / 2) (length u - lead) (length v - lead) j (omega arith) (omega arith) (omega arith) (omega arith)))
      (omega arith)

pub returns : goal.returns
returns c =
    let a = c.args in
    let odds = c.requires.odds_fit in
    let evens = c.requires.evens_fit in
    ended a.from.now a.u.now a.v.now a.dst.now a.lead c.min-col.result odds evens c.min-col.ensures
    (begun a.from.now a.u.now a.v.now a.dst.now a.lead c.min-col.result odds evens c.min-col.ensures c.pair.ensures)
    c.from_u.ensures
