-- What a fault or an index that may be absent says of its number. Assumes nothing.
use Prim.Native.Nat.{ℕ, ◌<◌}
use native.Mathlib.Omega.{arith}
use mathlib.Core.Path.{◌≡◌, refl, sym}
use mathlib.Core.Bool.{true, false, true≢false, false≢true}
use lib.Dec.{ltb}
use borrow.Author.Tests.{lt-ltb, le-ltb}
use Rattle.std.specs.Prelude.{Option, Some, None, IfSome, is_some}
use Rattle.strict.specs.declared.lists.Fault.{Fault}
use Rattle.strict.specs.declared.lists.Fault.TheVariants.{NotWide, NotHigh, PastRight, PastBottom}
use Rattle.strict.specs.Found.{fault_in, index_in}

-- a fault that was found is none exactly where its number is 0
pub fault_found : (x : Option Fault) → is_some x ≡ true → fault_in x ≡ 0 → ⊥
fault_found (Some NotWide) s e = omega arith
fault_found (Some NotHigh) s e = omega arith
fault_found (Some PastRight) s e = omega arith
fault_found (Some PastBottom) s e = omega arith
fault_found None s e = false≢true s

pub no_fault : (x : Option Fault) → is_some x ≡ false → fault_in x ≡ 0
no_fault (Some f) s = absurd (true≢false s)
no_fault None s = refl

-- an index that was found in a list of n is below n
pub index_found : (n : ℕ) (x : Option ℕ) {k : ℕ} → index_in n x ≡ k → IfSome x (λ i. i < n) → is_some x ≡ ltb k n
index_found n (Some i) {k} e h = sym (lt-ltb k n (omega arith))
index_found n None {k} e h = sym (le-ltb k n (omega arith))
