-- Document 01, "Numbers worked by hand": "the picture is as large as the view and one rectangle covers it"; a row of which V2's luma
-- part is absent while its chroma part is there; and V2 by the 32 rule and by the rule Exact. Each is computed over the definitions. Assumes nothing.
use Prim.Native.Nat.{ℕ, ◌+◌, ◌*◌}
use mathlib.Core.Path.{◌≡◌, refl}
use mathlib.Core.Bool.{Bool, false, not}
use mathlib.Core.List.{[], ◌∷◌, map}
use Rattle.lent.specs.Paint.{within, box, some}
use Rattle.lent.specs.Sizes.{half_up}
use Rattle.layout.specs.declared.Layout.{Layout}
use Rattle.layout.specs.declared.Way.{Way}
use Rattle.layout.specs.declared.Way.TheVariants.{AsV1, AsV2}
use Rattle.layout.specs.declared.WidthRule.{WidthRule}
use Rattle.layout.specs.declared.WidthRule.TheVariants.{To16, To32}
use Rattle.layout.specs.Maps.{layout_of, exact_layout_of}
use Rattle.layout.specs.Exists.{fed}
use Rattle.rects.specs.Rects.{nth, taken_by, taken}
use Rattle.apply_auxiliary.specs.Auxiliary.{auxiliary_in, auxiliary_rule}

-- an auxiliary view of vw by vh, in this layout or sent this way, gives row r, column c of a picture of pw by ph that one rectangle covers
abbrev gives_in : Layout → ℕ → ℕ → ℕ → ℕ → ℕ → ℕ → Bool
gives_in l pw ph vw vh r c =
    taken (auxiliary_rule l (record { width = pw; height = ph }) (record { width = vw; height = vh; luma_stride = vw; chroma_stride = half_up vw })) (0 ∷ 0 ∷ pw ∷ ph ∷ []) r c

abbrev gives : Way → ℕ → ℕ → ℕ → ℕ → ℕ → ℕ → Bool
gives t pw ph vw vh r c = gives_in (layout_of t pw vw) pw ph vw vh r c

-- "V1, view 16x12: odd rows 1 to 7 are taken, 9 is not (V row 12 is absent)": of the 16 columns none is missed, and none is taken
pub v1_16x12_taken : map (λ r. some 16 (λ c. not (gives AsV1 16 12 16 12 r c))) (1 ∷ 3 ∷ 5 ∷ 7 ∷ []) ≡ false ∷ false ∷ false ∷ false ∷ []
unfolding some taken_by nth auxiliary_in box within fed
v1_16x12_taken = refl

pub v1_16x12_not : some 16 (λ c. gives AsV1 16 12 16 12 9 c) ≡ false
unfolding some taken_by nth auxiliary_in box within fed
v1_16x12_not = refl

-- "V2, view width 20: odd columns 1 to 7 are taken, 9 is not": of 4 rows none is missed, and none is taken
pub v2_20_taken : map (λ c. some 4 (λ r. not (gives (AsV2 To16) 20 4 20 4 r c))) (1 ∷ 3 ∷ 5 ∷ 7 ∷ []) ≡ false ∷ false ∷ false ∷ false ∷ []
unfolding some taken_by nth auxiliary_in box within fed
v2_20_taken = refl

pub v2_20_not : some 4 (λ r. gives (AsV2 To16) 20 4 20 4 r 9) ≡ false
unfolding some taken_by nth auxiliary_in box within fed
v2_20_not = refl

-- V2, picture 16x6, view 16x5: row 5 has no luma row, so that no odd column is taken; it has its chroma row, so that no even one is missed
pub v2_16x5_row_5 : (some 8 (λ j. gives (AsV2 To16) 16 6 16 5 5 (2 * j + 1)) ≡ false) × (some 8 (λ j. not (gives (AsV2 To16) 16 6 16 5 5 (2 * j))) ≡ false)
unfolding some taken_by nth auxiliary_in box within fed
v2_16x5_row_5 = (refl, refl)

-- V2, of two rows: some of the first n odd columns is missed
abbrev missed : WidthRule → ℕ → ℕ → ℕ → Bool
missed rule pw vw n = some 2 (λ r. some n (λ j. not (gives (AsV2 rule) pw 2 vw 2 r (2 * j + 1))))

-- the 32 rule, picture and view 48 wide (W 64): odd columns 1 to 31 are taken, 33 is not; by the 16 rule (W 48) they are taken up to 47
pub v2_32_48 : (missed To32 48 48 16 ≡ false) × (some 2 (λ r. gives (AsV2 To32) 48 2 48 2 r 33) ≡ false)
unfolding some taken_by nth auxiliary_in box within fed
v2_32_48 = (refl, refl)

pub v2_16_48 : missed To16 48 48 24 ≡ false
unfolding some taken_by nth auxiliary_in box within fed
v2_16_48 = refl

-- the 32 rule, a view that is as wide as W: every odd column is taken, to 47 of a picture 48 wide (W 64), to 15 of one 16 wide (W 32)
pub v2_32_whole : (missed To32 48 64 24 ≡ false) × (missed To32 16 32 8 ≡ false)
unfolding some taken_by nth auxiliary_in box within fed
v2_32_whole = (refl, refl)

-- the 32 rule, picture 48 wide and view 32 wide: W is the picture's 64 and not the view's 32, so that no odd column is taken
pub v2_32_narrow : some 2 (λ r. some 24 (λ j. gives (AsV2 To32) 48 2 32 2 r (2 * j + 1))) ≡ false
unfolding some taken_by nth auxiliary_in box within fed
v2_32_narrow = refl

-- the rule Exact, picture and view 66 wide (W 66): of two rows no odd column is missed, to 65, and of the odd row no even one; by the 16
-- rule (W 80) odd columns are taken up to 51, and 53 is not
pub v2_exact_66 : (some 2 (λ r. some 33 (λ j. not (gives_in (exact_layout_of 66) 66 2 66 2 r (2 * j + 1)))) ≡ false)
    × (some 33 (λ j. not (gives_in (exact_layout_of 66) 66 2 66 2 1 (2 * j))) ≡ false)
unfolding some taken_by nth auxiliary_in box within fed
v2_exact_66 = (refl, refl)

pub v2_16_66 : (missed To16 66 66 26 ≡ false) × (some 2 (λ r. gives (AsV2 To16) 66 2 66 2 r 53) ≡ false)
unfolding some taken_by nth auxiliary_in box within fed
v2_16_66 = (refl, refl)
