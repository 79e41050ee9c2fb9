-- Sound and unsound by hand, in a picture of 5x5 pixels: each is computed over the definitions. Assumes nothing.
use Prim.Native.Nat.{ℕ}
use mathlib.Core.Path.{◌≡◌, refl}
use mathlib.Core.Bool.{true}
use mathlib.Core.List.{List, [], ◌∷◌}
use Rattle.lent.specs.Counts.{first_where}
use Rattle.lent.specs.Paint.{some}
use Rattle.picture.specs.declared.Size.{Size}
use Rattle.rects.specs.Rects.{rect_at_of}
use Rattle.strict.specs.Sound.{fault_of, unsound_at, unsound, none_unsound, first_unsound_of}

abbrev size : ℕ → ℕ → Size
size w h = record { width = w; height = h }

-- the fault of one rectangle of a picture of 5x5
abbrev fault : List ℕ → ℕ
fault rect = fault_of (size 5 5) (rect_at_of rect 0)

-- the whole picture: right is the width, bottom the height
pub whole_sound : fault (0 ∷ 0 ∷ 5 ∷ 5 ∷ []) ≡ 0
unfolding fault_of
whole_sound = refl

-- empty, as the clipping calls widen it, and as they do not
pub empty_that_widens : fault (5 ∷ 0 ∷ 5 ∷ 4 ∷ []) ≡ 1
unfolding fault_of
empty_that_widens = refl

pub empty_that_does_not : fault (4 ∷ 0 ∷ 4 ∷ 4 ∷ []) ≡ 1
unfolding fault_of
empty_that_does_not = refl

pub no_rows : fault (0 ∷ 3 ∷ 2 ∷ 3 ∷ []) ≡ 2
unfolding fault_of
no_rows = refl

-- past the picture by one
pub too_wide : fault (0 ∷ 0 ∷ 6 ∷ 5 ∷ []) ≡ 3
unfolding fault_of
too_wide = refl

pub too_high : fault (0 ∷ 0 ∷ 5 ∷ 6 ∷ []) ≡ 4
unfolding fault_of
too_high = refl

-- all that can be wrong is: the first fault is named
pub off_and_reversed : fault (6 ∷ 6 ∷ 5 ∷ 5 ∷ []) ≡ 1
unfolding fault_of
off_and_reversed = refl

pub wide_and_high : fault (0 ∷ 0 ∷ 6 ∷ 6 ∷ []) ≡ 3
unfolding fault_of
wide_and_high = refl

-- a picture without columns has no sound rectangle
pub no_columns : unsound (size 0 5) (0 ∷ 0 ∷ 1 ∷ 1 ∷ []) ≡ true
unfolding unsound unsound_at some fault_of
no_columns = refl

-- of three the second is the first that is unsound, and the third is not asked
pub second_named : first_unsound_of (size 5 5) (0 ∷ 0 ∷ 5 ∷ 5 ∷ 0 ∷ 0 ∷ 5 ∷ 6 ∷ 4 ∷ 0 ∷ 4 ∷ 4 ∷ []) ≡ record { number = 0; present = true; fault = 4; index = 1 }
unfolding first_unsound_of first_where unsound unsound_at some fault_of
second_named = refl

pub none_named : first_unsound_of (size 5 5) (0 ∷ 0 ∷ 5 ∷ 5 ∷ []) ≡ none_unsound 0
unfolding first_unsound_of first_where unsound unsound_at some fault_of
none_named = refl

-- seven numbers are no list
pub seven_numbers : first_unsound_of (size 5 5) (0 ∷ 0 ∷ 5 ∷ 5 ∷ 5 ∷ 0 ∷ 5 ∷ []) ≡ none_unsound 7
unfolding first_unsound_of
seven_numbers = refl
