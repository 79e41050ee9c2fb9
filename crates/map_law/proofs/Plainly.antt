-- What 0, 1 and 2 say of a block of a picture that was made fresh, and of one that was made from RGBA: "0: never had a main view; 1: main
-- since the last auxiliary; 2: complete". Assumes nothing.
use Prim.Native.Nat.{ℕ}
use native.Mathlib.Omega.{arith}
use mathlib.Core.Path.{◌≡◌, refl}
use mathlib.Core.Logic.Iff
use mathlib.Core.Logic.{◌⊎◌, inl, inr, ◌↔◌, ⊎_elim}
use mathlib.Core.List.{List}
use Rattle.picture.specs.declared.Size.{Size}
use Rattle.map_apply.specs.Blocks.{Call}
use Rattle.map_law.specs.History.{says, Unmarked, MainSince, CompleteSince}
use Rattle.map_law.proofs.History.{says_0_exactly, says_1_exactly, says_2_exactly}

-- where a block was not 1 when the picture was made, 1 is a main view's
since_made : (z : Size) (i j : ℕ) (s : ℕ → ℕ → ℕ) (calls : List Call) → (s i j ≡ 1 → ⊥) → (says z s calls i j ≡ 1) ↔ MainSince z i j calls
since_made z i j s calls f = Iff.trans (says_1_exactly z i j s calls) (⊎_elim (λ h. absurd (f h.0)) (λ h. h), inr)

module _ (z : Size) (i j : ℕ) (calls : List Call) where
  pub fresh_0 : (says z (λ i j. 0) calls i j ≡ 0) ↔ Unmarked z i j calls
  fresh_0 = Iff.trans (says_0_exactly z i j (λ i j. 0) calls) (λ h. h.1, λ h. (refl, h))

  pub fresh_1 : (says z (λ i j. 0) calls i j ≡ 1) ↔ MainSince z i j calls
  fresh_1 = since_made z i j (λ i j. 0) calls (λ e. omega arith)

  pub fresh_2 : (says z (λ i j. 0) calls i j ≡ 2) ↔ CompleteSince z i j calls
  fresh_2 = Iff.trans (says_2_exactly z i j (λ i j. 0) calls) (⊎_elim (λ h. absurd (zero_2 h.0)) (⊎_elim (λ h. absurd (zero_1 h.0)) (λ h. h)), λ h. inr (inr h))
    where
      zero_2 : ◌≡◌ {A = ℕ} 0 2 → ⊥
      zero_2 e = omega arith

      zero_1 : ◌≡◌ {A = ℕ} 0 1 → ⊥
      zero_1 e = omega arith

  pub made_0 : says z (λ i j. 2) calls i j ≡ 0 → ⊥
  made_0 e = let h = (says_0_exactly z i j (λ i j. 2) calls).0 e in omega (arith, h.0)

  pub made_1 : (says z (λ i j. 2) calls i j ≡ 1) ↔ MainSince z i j calls
  made_1 = since_made z i j (λ i j. 2) calls (λ e. omega arith)

  pub made_2 : (says z (λ i j. 2) calls i j ≡ 2) ↔ (Unmarked z i j calls ⊎ CompleteSince z i j calls)
  made_2 =
      Iff.trans (says_2_exactly z i j (λ i j. 2) calls)
      (⊎_elim (λ h. inl h.1) (⊎_elim (λ h. absurd (two_1 h.0)) inr), ⊎_elim (λ h. inl (refl, h)) (λ h. inr (inr h)))
    where
      two_1 : ◌≡◌ {A = ℕ} 2 1 → ⊥
      two_1 e = omega arith
