-- What U and V share in two halves: `shift` leads into a half, `half_of` and `into` lead back. Both layouts go by these.
-- Assumes nothing.
use Prim.Native.Nat.{ℕ, ◌+◌, ◌*◌, ◌<◌, ◌≤◌}
use native.Mathlib.Omega.{arith}
use mathlib.Core.Path.{◌≡◌, refl}
use mathlib.Core.Logic.{⊎_elim}
use borrow.Author.Tests.{lt-ltb, le-ltb}
use Rattle.lent.proofs.Bools.{split}
use Rattle.layout.specs.Maps.{shift, half_of, into}
use Rattle.layout.specs.declared.Chroma.{Chroma}
use Rattle.layout.specs.declared.Chroma.TheVariants.{CU, CV}

pub shift_le : (k : Chroma) (n : ℕ) → shift k n ≤ n
shift_le CU n = omega arith
shift_le CV n = omega arith

-- j is i places into the half of k
pub half_at : (k : Chroma) (n i : ℕ) {j : ℕ} → j ≡ shift k n + i → i < n → (half_of n j ≡ k) × (into n j ≡ i)
half_at CU n i {j} is h = rw (lt-ltb j n (omega arith)) (refl, omega arith)
half_at CV n i {j} is h = rw (le-ltb j n (omega arith)) (refl, omega arith)

pub half_back : (n j : ℕ) → shift (half_of n j) n + into n j ≡ j
half_back n j = ⊎_elim (λ lt. rw (lt-ltb j n lt) (omega arith)) (λ ge. rw (le-ltb j n ge) (omega arith)) (split j n)

pub into_less : (n j : ℕ) → j < 2 * n → into n j < n
into_less n j h = ⊎_elim (λ lt. rw (lt-ltb j n lt) (omega arith)) (λ ge. rw (le-ltb j n ge) (omega arith)) (split j n)
