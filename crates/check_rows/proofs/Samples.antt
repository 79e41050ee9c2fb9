-- Which bytes of the picture a part holds: the bytes of pairs, every second byte of every second one, and what is taken below the stride and past it.
-- Assumes nothing.
use Prim.Native.Nat.{ℕ, ◌+◌, ◌*◌, ◌/◌, ◌%◌, ◌<◌, ◌≤◌}
use native.Mathlib.Omega.{arith}
use mathlib.Core.Path.{◌≡◌, refl, ap, ◌∙◌}
use mathlib.Core.Logic.{◌↔◌}
use mathlib.Core.List.{List}
use lib.Dec.{ltb}
use lib.ListN.{length, get_or}
use Rattle.lent.specs.Paint.{paint, every}
use Rattle.lent.proofs.Paint.{get_d_paint}
use Rattle.split_rows.specs.Pairs.{pair_of}
use Rattle.split_rows.proofs.Rows.{first_of_lem, last_of}
use Rattle.check_rows.specs.declared.Taken.{Taken}
use Rattle.check_rows.specs.declared.Taken.TheVariants.{Evens, Odds, Fourths, Between}
use Rattle.check_rows.specs.Rows.{Right, step_of, first_of}
use Rattle.check_rows.proofs.Rows.{right_same}

-- what a test says of a row beside the bytes of n pairs, it says of the bytes that they were made of
module _ (row src z pairs : List ℕ) (n from : ℕ) {A : Type 0} (long : length row ≡ n) (room : n ≤ length z) (byte : (k : ℕ) → get_or src k 0 < 256) (is : pairs ≡ paint (λ k. ltb k n) (pair_of src) z) where
  pub firsts_right : from ≡ 0 → A ↔ Right row (λ k. get_or pairs k 0 % 256) (length row) → A ↔ Right row (λ k. get_or src (2 * k + from) 0) n
  firsts_right none =
      right_same row _ _ n long
      (λ k h. ap (λ (l : List ℕ). get_or l k 0 % 256) is ∙ first_of_lem src z row n (omega arith) (omega arith) byte none k (omega arith))

  pub lasts_right : from ≡ 1 → A ↔ Right row (λ k. get_or pairs k 0 / 256 % 256) (length row) → A ↔ Right row (λ k. get_or src (2 * k + from) 0) n
  lasts_right one =
      right_same row _ _ n long
      (λ k h. ap (λ (l : List ℕ). get_or l k 0 / 256 % 256) is ∙ last_of src z row n (omega arith) (omega arith) byte one k (omega arith))

-- and what it says of a row beside every second byte of every second byte, it says of every fourth one
pub fourths_right : (row src z half : List ℕ) (n from : ℕ) {A : Type 0} → 2 * n ≤ length z → from < 2 → half ≡ paint every (λ j. get_or src (2 * j + 0) 0) z
    → A ↔ Right row (λ k. get_or half (2 * k + from) 0) n → A ↔ Right row (λ k. get_or src (4 * k + 2 * from) 0) n
fourths_right row src z half n from room low is =
    right_same row _ _ n refl
    (λ k h. ap (λ (l : List ℕ). get_or l (2 * k + from) 0) is ∙ get_d_paint every _ z (2 * k + from) (omega arith) ∙ ap (λ (j : ℕ). get_or src j 0) (omega arith))

-- the first is one of the step
pub first_below : (taken : Taken) → first_of taken < step_of taken
first_below Evens = omega arith
first_below Odds = omega arith
first_below Fourths = omega arith
first_below Between = omega arith

-- a row has room for stride / step samples
pub taken_room : (stride n : ℕ) (taken : Taken) → stride ≤ step_of taken * n → (stride / step_of taken ≤ n) × (step_of taken * (stride / step_of taken) ≤ stride)
taken_room stride n Evens room = (omega arith, omega arith)
taken_room stride n Odds room = (omega arith, omega arith)
taken_room stride n Fourths room = (omega arith, omega arith)
taken_room stride n Between room = (omega arith, omega arith)

-- and has no more where the stride is a multiple of the step
module _ (stride j : ℕ) where
  pub taken_inside : (taken : Taken) → stride % step_of taken ≡ 0 → j < stride / step_of taken → step_of taken * j + first_of taken < stride
  taken_inside Evens even h = omega arith
  taken_inside Odds even h = omega arith
  taken_inside Fourths even h = omega arith
  taken_inside Between even h = omega arith

  pub taken_past : (taken : Taken) → stride % step_of taken ≡ 0 → stride / step_of taken ≤ j → stride ≤ step_of taken * j + first_of taken
  taken_past Evens even h = omega arith
  taken_past Odds even h = omega arith
  taken_past Fourths even h = omega arith
  taken_past Between even h = omega arith
