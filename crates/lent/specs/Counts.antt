-- How many, and which first.
--
--   total n f       f 0 + .. + f (n - 1)
--   one b           1 where b holds, else 0
--   count_of n t     how many of the places 0 .. n - 1 the test t takes
--   first_where n t  the least k below n that the test t takes, n where it takes none
use Rattle.std.specs.Prelude.{ℕ, zero, suc, ◌+◌, Bool, cond}
use Rattle.lent.specs.Paint.{some}

unfoldable pub total : ℕ → (ℕ → ℕ) → ℕ
total zero f = 0
total (suc n) f = total n f + f n

abbrev pub one : Bool → ℕ
one b = cond b 1 0

abbrev pub count_of : ℕ → (ℕ → Bool) → ℕ
count_of n t = total n (λ k. one (t k))

-- of the first n + 1: that of the first n, which is n itself where only place n is taken
unfoldable pub first_where : ℕ → (ℕ → Bool) → ℕ
first_where zero t = 0
first_where (suc n) t = cond (some (suc n) t) (first_where n t) (suc n)
