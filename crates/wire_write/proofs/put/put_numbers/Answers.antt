-- `wire_write::put::put_numbers` meets its contract. The invariant: the numbers below k are written, the rest is as it was.
-- Assumes nothing.
use Prim.Native.Nat.{ℕ, ◌+◌, ◌*◌, ◌-◌, ◌≤◌}
use native.Mathlib.Omega.{arith}
use mathlib.Core.Path.{◌≡◌, sym, ap, ◌∙◌}
use mathlib.Core.List.{List}
use borrow.Rule.Slice.PartMut.{put_mid}
use lib.ListN.{length, take}
use lib.Seq.{take_all}
use Rattle.wire_write.proofs.Front.{Fronted, fronted, fronted_none, all_written}
use Rattle.wire_write.specs.Stream.{number_bytes}
use Rattle.wire_write.proofs.Stream.{numbers_more, number_bytes_long}
use Rattle.wire_write.proofs.put.put_numbers.Goals.{After-numbers_part}
use Rattle.wire_write.proofs.put.put_numbers.Goals as goal

pub loop-k-init : goal.loop-k-init
loop-k-init c = fronted_none _

-- a part more is written
turned : (c : After-numbers_part)
    → let k = c.loop-k.k in let m = c.min-m.result in Fronted (number_bytes (take (k + m) c.args.numbers.now)) c.args.dst.now (put_mid (2 * k) (2 * (k + m) - 2 * k) c.loop-k.dst c.numbers_part.new.dst)
turned c =
    let m = c.min-m.result in
    let k = c.loop-k.k in
    let a = c.args in
    numbers_more a.numbers.now a.dst.now k m (2 * (k + m) - 2 * k) (omega arith) (omega arith) (omega arith) c.loop-k.invariant c.numbers_part.ensures

-- all that was written is all numbers, where no number is left
whole : (ns l ys : List ℕ) (n : ℕ) → length ns ≤ n → length l ≡ 2 * length ns → Fronted (number_bytes (take n ns)) l ys → ys ≡ number_bytes ns
whole ns l ys n h e f =
    let long = number_bytes_long ns in
    f.is ∙ ap (λ (xs : List ℕ). fronted (number_bytes xs) l) (take_all n ns h) ∙ all_written (number_bytes ns) l (omega arith)

pub loop-k-preserved : goal.loop-k-preserved
loop-k-preserved c =
    let all : c.min-m.result ≡ 2048 = omega arith in
    rw (sym all) (turned (goal.at.loop-k-preserved c).After-numbers_part)

pub returns : goal.returns
returns c = whole _ _ _ _ (omega arith) c.requires c.loop-k.invariant

pub returns-2 : goal.returns-2
returns-2 c = whole _ _ _ _ (omega arith) c.requires (turned (goal.at.returns-2 c).After-numbers_part)
