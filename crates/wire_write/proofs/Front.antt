-- A loop that fills a buffer from its front on, part by part: what stands there once xs are written, one part more, and all of it. Each
-- part may go through a longer array: what went in at its front comes out of it.
-- Assumes nothing.
use Prim.Native.Nat.{ℕ, ◌+◌, ◌-◌, ◌<◌, ◌≤◌}
use native.Mathlib.Omega.{arith}
use mathlib.Core.Path.{◌≡◌, refl, sym, ap, ◌∙◌}
use mathlib.Core.List.{List, [], ◌++◌, append_assoc, append-nil}
use borrow.Rule.Slice.PartMut.{put_mid}
use lib.Dec.{ltb}
use lib.ListN.{length, get_or, take, drop, length-append, length-drop}
use lib.Seq.{take-add, drop-drop, drop-length, take_at, drop_at, get_or-take, length-take-le, ext_get_or}
use borrow.Author.Tests.{lt-ltb}
use Rattle.lent.specs.Paint.{paint}
use Rattle.lent.proofs.Bools.{cond-true}
use Rattle.lent.proofs.Paint.{length-paint, get_d_paint}

-- xs at the front of l, and the rest as it was
abbrev pub fronted : List ℕ → List ℕ → List ℕ
fronted xs l = xs ++ drop (length xs) l

pub record Fronted (xs l ys : List ℕ) : Type 0 where
  pub long : length ys ≡ length l
  pub is : ys ≡ fronted xs l

pub fronted_none : (l : List ℕ) → Fronted [] l l
fronted_none l = record { long = refl; is = refl }

-- a part that was lent behind xs and came back as ys
pub part_next : (xs ys l : List ℕ) (a k : ℕ) → length xs ≡ a → length ys ≡ k → put_mid a k (fronted xs l) ys ≡ fronted (xs ++ ys) l
part_next xs ys l a k e f =
    let rest = drop (length xs) l in
    let long : length xs + k ≡ length (xs ++ ys) = ap (λ (n : ℕ). length xs + n) (sym f) ∙ sym (length-append xs ys) in
    (λ i. take_at xs rest a e i ++ (ys ++ drop k (drop_at xs rest a e i)))
    ∙ ap (λ (r : List ℕ). xs ++ (ys ++ r)) (drop-drop k (length xs) l ∙ ap (λ (n : ℕ). drop n l) long)
    ∙ sym (append_assoc xs ys (drop (length (xs ++ ys)) l))

-- the same as a loop's turn: zs is what is at the front then
pub fronted_more : {xs zs l was ys vs : List ℕ} (a k : ℕ) → Fronted xs l was → ys ≡ vs → xs ++ vs ≡ zs → length xs ≡ a → length vs ≡ k → length zs ≤ length l → Fronted zs l (put_mid a k was ys)
fronted_more {xs} {zs} {l} {was} {ys} {vs} a k before back more e f fits =
    record { long = ap length written ∙ length-append zs (drop (length zs) l) ∙ omega (arith, length-drop (length zs) l); is = written }
  where
    written : put_mid a k was ys ≡ fronted zs l
    written = (λ i. put_mid a k (before.is i) (back i)) ∙ part_next xs vs l a k e f ∙ ap (λ (w : List ℕ). fronted w l) more

-- all of it
pub all_written : (xs l : List ℕ) → length xs ≡ length l → fronted xs l ≡ xs
all_written xs l e = ap (λ (r : List ℕ). xs ++ r) (ap (λ (n : ℕ). drop n l) e ∙ drop-length l) ∙ append-nil xs

-- what a loop over the parts of xs has read, and the part from k to k + m
pub take_part : (xs : List ℕ) (k m : ℕ) → take k xs ++ take (k + m - k) (drop k xs) ≡ take (k + m) xs
take_part xs k m = let is : k + m - k ≡ m = omega arith in ap (λ (n : ℕ). take k xs ++ take n (drop k xs)) is ∙ sym (take-add k m xs)

-- what went into a longer list from its front on stands there
pub take-paint : (xs ys : List ℕ) (n : ℕ) → n ≡ length ys → n ≤ length xs → take n (paint (λ k. ltb k n) (λ k. get_or ys k 0) xs) ≡ ys
take-paint xs ys n e fits =
    let long : length (take n (paint (λ k. ltb k n) (λ k. get_or ys k 0) xs)) ≡ n = length-take-le n _ (rw length-paint fits) in
    ext_get_or 0 _ ys (long ∙ e)
    (λ k h. let lt : k < n = omega arith in
    get_or-take n _ k 0 lt ∙ get_d_paint (λ k. ltb k n) (λ k. get_or ys k 0) xs k (omega arith) ∙ cond-true (ltb k n) (get_or ys k 0) (get_or xs k 0) (lt-ltb k n lt))
