-- Which places a test takes, as facts: `X-facts` reads a test that holds, `X-holds` shows one.
-- Assumes nothing.
use Prim.Native.Nat.{ℕ, ◌<◌, ◌≤◌}
use mathlib.Core.Path.{◌≡◌}
use mathlib.Core.Bool.{Bool, true, ◌&&◌}
use lib.Dec.{leb, eqb}
use borrow.Author.Tests.{lt-ltb, le-leb, eq-eqb, ltb-true, leb-true, eqb-true}
use Rattle.lent.specs.Paint.{within, box, row_part}
use Rattle.lent.proofs.Bools.{both, both_left, both_right}

pub within_facts : (a b k : ℕ) → within a b k ≡ true → (a ≤ k) × (k < b)
unfolding within
within_facts a b k e = (leb-true a k (both_left (leb a k) _ e), ltb-true k b (both_right (leb a k) _ e))

pub within_holds : (a b k : ℕ) → a ≤ k → k < b → within a b k ≡ true
unfolding within
within_holds a b k p q = both (leb a k) _ (le-leb a k p) (lt-ltb k b q)

module _ (top bottom left right r c : ℕ) where
  pub box_facts : box top bottom left right r c ≡ true → (top ≤ r) × (r < bottom) × (left ≤ c) × (c < right)
  unfolding box
  box_facts e =
      let v = within_facts top bottom r (both_left (within top bottom r) _ e) in
      let w = within_facts left right c (both_right (within top bottom r) _ e) in
      (v.0, v.1, w.0, w.1)

  pub box_holds : top ≤ r → r < bottom → left ≤ c → c < right → box top bottom left right r c ≡ true
  unfolding box
  box_holds t b l h = both (within top bottom r) _ (within_holds top bottom r t b) (within_holds left right c l h)

module _ (p : ℕ → Bool) (row left right r c : ℕ) where
  pub row_part_facts : row_part p row left right r c ≡ true → (r ≡ row) × (left ≤ c) × (c < right) × (p c ≡ true)
  unfolding row_part
  row_part_facts e =
      let f = both_left (eqb r row && within left right c) (p c) e in
      let w = within_facts left right c (both_right (eqb r row) _ f) in
      (eqb-true r row (both_left (eqb r row) _ f), w.0, w.1, both_right (eqb r row && within left right c) (p c) e)

  pub row_part_holds : r ≡ row → left ≤ c → c < right → p c ≡ true → row_part p row left right r c ≡ true
  unfolding row_part
  row_part_holds q l h t = both _ _ (both (eqb r row) _ (eq-eqb r row q) (within_holds left right c l h)) t
