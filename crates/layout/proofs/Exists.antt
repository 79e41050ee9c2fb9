-- Which samples exist, as facts: `X-facts` reads a test that holds, `X-holds` shows one. Assumes nothing.
use Prim.Native.Nat.{ℕ, ◌%◌, ◌<◌}
use native.Mathlib.Omega.{arith}
use mathlib.Core.Path.{◌≡◌, refl}
use mathlib.Core.Bool.{Bool, true, false, cond, ◌&&◌}
use mathlib.Core.Logic.{◌⊎◌, inl, inr, ⊎_elim}
use lib.Dec.{ltb, eqb}
use borrow.Author.Tests.{lt-ltb, ltb-true, eq-eqb, eqb-true, ne_eqb}
use Rattle.lent.specs.Sizes.{half_up}
use Rattle.lent.proofs.Bools.{split, both, both_left, both_right, either, or_left, or_right}
use Rattle.layout.specs.Maps.{PU, PV, Place, Spot, part_of}
use Rattle.layout.specs.Exists.{side, present, left_out, carried}
use Rattle.layout.specs.declared.Chroma.{Chroma}
use Rattle.layout.specs.declared.Chroma.TheVariants.{CU, CV}

-- ---- by parity, and by fours

pub parity : (n : ℕ) → (n % 2 ≡ 1) ⊎ (n % 2 ≡ 0)
parity n = ⊎_elim (λ lt. inr (omega arith)) (λ ge. inl (omega arith)) (split (n % 2) 1)

pub odd_test : (n : ℕ) → n % 2 ≡ 1 → eqb (n % 2) 1 ≡ true
odd_test n h = eq-eqb (n % 2) 1 h

pub even_test : (n : ℕ) → n % 2 ≡ 0 → eqb (n % 2) 1 ≡ false
even_test n h = ne_eqb (n % 2) 1 (λ o. omega arith)

pub fourth_test : (n : ℕ) → n % 4 ≡ 0 → eqb (n % 4) 0 ≡ true
fourth_test n h = eq-eqb (n % 4) 0 h

pub between_test : (n : ℕ) → n % 4 ≡ 2 → eqb (n % 4) 0 ≡ false
between_test n h = ne_eqb (n % 4) 0 (λ o. omega arith)

pub fours : (n : ℕ) → n % 2 ≡ 0 → (n % 4 ≡ 0) ⊎ (n % 4 ≡ 2)
fours n h = ⊎_elim (λ lt. inl (omega arith)) (λ ge. inr (omega arith)) (split (n % 4) 1)

-- ---- what the auxiliary view carries, and what a view has

pub left_out_facts : (r c : ℕ) → left_out r c ≡ true → (r % 2 ≡ 1) ⊎ (c % 2 ≡ 1)
left_out_facts r c e = ⊎_elim (λ p. inl (eqb-true (r % 2) 1 p)) (λ p. inr (eqb-true (c % 2) 1 p)) (either (eqb (r % 2) 1) _ e)

pub left_out_row : (r c : ℕ) → r % 2 ≡ 1 → left_out r c ≡ true
left_out_row r c h = or_left (eqb (r % 2) 1) _ (odd_test r h)

pub left_out_col : (r c : ℕ) → c % 2 ≡ 1 → left_out r c ≡ true
left_out_col r c h = or_right (eqb (r % 2) 1) _ (odd_test c h)

module _ (w h : ℕ) (s : Spot) where
  pub present_facts : present w h s ≡ true → (s.row < side s.part h) × (s.col < side s.part w)
  present_facts e =
      (ltb-true s.row _ (both_left (ltb s.row (side s.part h)) _ e), ltb-true s.col _ (both_right (ltb s.row (side s.part h)) _ e))

  pub present_holds : s.row < side s.part h → s.col < side s.part w → present w h s ≡ true
  present_holds p q = both (ltb s.row (side s.part h)) _ (lt-ltb s.row _ p) (lt-ltb s.col _ q)

module _ (w h : ℕ) (l : Place) where
  pub carried_facts : carried w h l ≡ true → (l.row < h) × (l.col < w) × (left_out l.row l.col ≡ true)
  carried_facts e =
      let b = both_left (ltb l.row h && ltb l.col w) _ e in
      (ltb-true l.row h (both_left (ltb l.row h) _ b), ltb-true l.col w (both_right (ltb l.row h) _ b), both_right (ltb l.row h && ltb l.col w) _ e)

  pub carried_holds : l.row < h → l.col < w → left_out l.row l.col ≡ true → carried w h l ≡ true
  carried_holds p q o = both (ltb l.row h && ltb l.col w) _ (both (ltb l.row h) _ (lt-ltb l.row h p) (lt-ltb l.col w q)) o

-- a view's two chroma planes are as large
pub side_chroma : (k : Chroma) (n : ℕ) → side (part_of k) n ≡ half_up n
side_chroma CU n = refl
side_chroma CV n = refl

pub side_turn : (b : Bool) (n : ℕ) → side (cond b PU PV) n ≡ half_up n
side_turn true n = refl
side_turn false n = refl
