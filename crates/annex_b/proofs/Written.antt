-- What the conversion writes: a unit that was put in its place, and those after it, are all that is to be written; and the count.
-- Assumes nothing.
use Prim.Native.Nat.{ℕ, suc, ◌+◌, ◌-◌, ◌≤◌}
use native.Mathlib.Nat.{add-zero, zero-add}
use native.Mathlib.Omega.{arith}
use mathlib.Core.Path.{◌≡◌, refl, sym, ap, ◌∙◌}
use mathlib.Core.Bool.{false}
use mathlib.Core.List.{List, [], ◌∷◌, ◌++◌, append_assoc}
use borrow.Rule.Slice.PartMut.{put_mid}
use lib.ListN.{length, set, take, drop, length-append}
use lib.Seq.{sets, sets-eq, length-sets, drop-drop}
use Rattle.annex_b.specs.Units.{unit_at, units_from}
use Rattle.annex_b.specs.Format.{start_code, summed}
use Rattle.annex_b.specs.AnnexB.{count_of, annexed, annex_b_of}
use Rattle.annex_b.proofs.UnitLaws.{Found, units_more, units_none, unit_long}

-- ---- a run of stores

-- a run after a run is one run
pub sets-sets : (l : List ℕ) (i : ℕ) (xs ys : List ℕ) → sets (sets l i xs) (i + length xs) ys ≡ sets l i (xs ++ ys)
sets-sets l i [] ys = ap (λ (k : ℕ). sets l k ys) (add-zero i)
sets-sets l i (x ∷ xs) ys =
    let e : i + suc (length xs) ≡ suc i + length xs = omega arith in
    ap (λ (k : ℕ). sets (sets (set l i x) (suc i) xs) k ys) e ∙ sets-sets (set l i x) (suc i) xs ys

-- a part that was lent and has come back is a run of stores
pub part_is_sets : (l ys : List ℕ) (a k : ℕ) → length ys ≡ k → a + k ≤ length l → put_mid a k l ys ≡ sets l a ys
part_is_sets l ys a k e h =
    ap (λ (r : List ℕ). take a l ++ (ys ++ r)) (drop-drop k a l ∙ ap (λ (n : ℕ). drop (a + n) l) (sym e))
    ∙ sym (append_assoc (take a l) ys (drop (a + length ys) l))
    ∙ sym (sets-eq ys l a (omega arith))

-- a start code and a unit, each a part that has come back
pub put_parts : (l xs ys us : List ℕ) (at e : ℕ) → at + 4 ≤ e → e ≤ length l → xs ≡ start_code → ys ≡ us → length us ≡ e - (at + 4)
    → put_mid (at + 4) (e - (at + 4)) (put_mid at (at + 4 - at) l xs) ys ≡ sets l at (start_code ++ us)
put_parts l xs ys us at e h k p q n =
    let m : length xs ≡ at + 4 - at = ap length p ∙ omega arith in
    let j : at + 4 + (e - (at + 4)) ≤ length (sets l at start_code) = simp length-sets (omega arith) in
    ap (λ (r : List ℕ). put_mid (at + 4) (e - (at + 4)) r ys) (part_is_sets l xs at (at + 4 - at) m (omega arith) ∙ ap (λ (r : List ℕ). sets l at r) p)
    ∙ ap (λ (r : List ℕ). put_mid (at + 4) (e - (at + 4)) (sets l at start_code) r) q
    ∙ part_is_sets (sets l at start_code) us (at + 4) (e - (at + 4)) n j
    ∙ sets-sets l at start_code us

-- ---- what is written

pub length-annexed : (us : List (List ℕ)) → length (annexed us) ≡ summed us
length-annexed [] = refl
length-annexed (u ∷ us) = let e = length-annexed us in let f = length-append (start_code ++ u) (annexed us) in omega arith

-- a unit that was put, and the units after it
pub put_more : {s : List ℕ} {at a e x : ℕ} → Found s at a e x → (out out' : List ℕ) → out' ≡ sets out at (start_code ++ take (e - (at + 4)) (drop (at + 4) s))
    → sets out' x (annexed (units_from s x)) ≡ sets out at (annexed (units_from s at))
put_more {s} {at} {a} {e} {x} f out out' is =
    let u : List ℕ = start_code ++ take (e - a) (drop a s) in
    let l = unit_long f in
    let n : x ≡ at + length u = omega arith in
    let i : at + 4 ≡ a = omega arith in
    ap (λ (o : List ℕ). sets o x (annexed (units_from s x))) (is ∙ ap (λ (b : ℕ). sets out at (start_code ++ take (e - b) (drop b s))) i)
    ∙ ap (λ (k : ℕ). sets (sets out at u) k (annexed (units_from s x))) n
    ∙ sets-sets out at u (annexed (units_from s x))
    ∙ ap (λ (us : List (List ℕ)). sets out at (annexed us)) (sym (units_more f))

pub put_none : (s out : List ℕ) (at : ℕ) → unit_at s at ≡ false → out ≡ sets out at (annexed (units_from s at))
put_none s out at p = rw (units_none s at p) refl

pub put_all : (s out : List ℕ) → count_of s ≤ length out → sets out 0 (annexed (units_from s 0)) ≡ annex_b_of s out
unfolding count_of annex_b_of
put_all s out h =
    let l = length-annexed (units_from s 0) in
    sets-eq (annexed (units_from s 0)) out 0 (omega arith) ∙ ap (λ (k : ℕ). annexed (units_from s 0) ++ drop k out) (zero-add _ ∙ l)
