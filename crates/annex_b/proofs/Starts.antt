-- The bytes that std's `starts_with` compares are those that the format's words compare. Assumes nothing.
use Prim.Native.Nat.{ℕ}
use native.Mathlib.Omega.{arith}
use mathlib.Core.Path.{◌≡◌, refl, ap}
use mathlib.Core.Bool.{Bool, ◌&&◌}
use mathlib.Core.List.{List, [], ◌∷◌}
use lib.Dec.{eqb}
use Rattle.std.proofs.lemmas.Bool.Decides.{nat_tests}
use Rattle.std.specs.List.{starts_with}
use Rattle.annex_b.specs.Format.{starts_with_of}

either_way : (x y : ℕ) → eqb x y ≡ eqb y x
either_way x y = grind (arith, nat_tests)

pub starts_is : (s code : List ℕ) → starts_with eqb s code ≡ starts_with_of code s
starts_is s [] = refl
starts_is [] (x ∷ code) = refl
starts_is (y ∷ s) (x ∷ code) = rw (starts_is s code) (ap (λ (b : Bool). b && starts_with_of code s) (either_way x y))
