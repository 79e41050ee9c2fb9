-- What a list of accepted calls says of the map (R78; for an opened still: the calls since it was opened).
--
--   says z s calls i j     what block i, j is after all calls of the list, the oldest first, where s says what it was when the picture was made
--   Lived z s m₀ calls m   m is the map's buffer after these calls, each lent the map as the call before left it; m₀ is the buffer that was
--                          lent to the call that made the picture, and s is what that call set: 0 or 2 everywhere, or what a still held
--   Unmarked, Uncompleted z i j calls      no call of the list marks the block; none completes it
--   Completes z i j calls  some call of the list completes it
--   MainSince z i j calls  "main since the last auxiliary": some call marks the block, and none after it completes it
--   CompleteSince z i j calls      some call marks the block, none after it does, and one after it completes it
use Rattle.std.specs.Prelude.{ℕ, ◌≡◌, ◌⊎◌, true, false, List, [], ◌∷◌, ◌++◌}
use Rattle.picture.specs.declared.Size.{Size}
use Rattle.map.specs.Map.{map_of}
use Rattle.map_apply.specs.Blocks.{Call, marked, completed, after, map_after}

abbrev pub says : Size → (ℕ → ℕ → ℕ) → List Call → ℕ → ℕ → ℕ
says z s [] = s
says z s (c ∷ calls) = says z (after z c s) calls

pub data Lived (z : Size) (s : ℕ → ℕ → ℕ) (m₀ : List ℕ) : List Call → List ℕ → Type 0 where
  made : Lived z s m₀ [] (map_of z s m₀)
  next : (calls : List Call) (m : List ℕ) (c : Call) → Lived z s m₀ calls m → Lived z s m₀ (calls ++ (c ∷ [])) (map_after z c m)

abbrev pub Unmarked : Size → ℕ → ℕ → List Call → Type 0
Unmarked z i j [] = Unit {0}
Unmarked z i j (c ∷ calls) = (marked z c i j ≡ false) × Unmarked z i j calls

abbrev pub Uncompleted : Size → ℕ → ℕ → List Call → Type 0
Uncompleted z i j [] = Unit {0}
Uncompleted z i j (c ∷ calls) = (completed z c i j ≡ false) × Uncompleted z i j calls

abbrev pub Completes : Size → ℕ → ℕ → List Call → Type 0
Completes z i j [] = ⊥
Completes z i j (c ∷ calls) = (completed z c i j ≡ true) ⊎ Completes z i j calls

abbrev pub MainSince : Size → ℕ → ℕ → List Call → Type 0
MainSince z i j [] = ⊥
MainSince z i j (c ∷ calls) = ((marked z c i j ≡ true) × Uncompleted z i j calls) ⊎ MainSince z i j calls

abbrev pub CompleteSince : Size → ℕ → ℕ → List Call → Type 0
CompleteSince z i j [] = ⊥
CompleteSince z i j (c ∷ calls) = ((marked z c i j ≡ true) × Unmarked z i j calls × Completes z i j calls) ⊎ CompleteSince z i j calls
