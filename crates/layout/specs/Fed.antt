-- Each chroma place of a block is fed once. W by H are the sizes of the padded picture, and of the auxiliary view that a split makes.
--
--   Fed m W H         the two maps undo each other: every place that the auxiliary view carries lives at a spot of it which holds that
--                     place, and every spot holds a place that it carries and that lives there
--   BlockFed m W H k i j   of the chroma plane k, the 2x2 block at rows 2i, 2i+1 and columns 2j, 2j+1: three samples live in the
--                     auxiliary view, at three spots, and no spot of it holds the even-even one, which lives in the main view
--   FedOnce m W H     that of every block, and of every spot that exactly one place lives there
--   Clash m W H       two places of a picture W wide, in the columns of its whole blocks, live at one spot: no view could hold both
use Rattle.std.specs.Prelude.{ℕ, ◌+◌, ◌*◌, ◌<◌, ◌≡◌, true}
use Rattle.lent.specs.Sizes.{round_up}
use Rattle.layout.specs.Maps.{Place, Spot, place, to_main, from_main, Maps}
use Rattle.layout.specs.Exists.{present, carried}
use Rattle.layout.specs.declared.Chroma.{Chroma}

pub record Fed (m : Maps) (W H : ℕ) : Type 0 where
  pub lands : (l : Place) → carried W H l ≡ true → present W H (m.spot l) ≡ true
  pub undone : (l : Place) → carried W H l ≡ true → m.place (m.spot l) ≡ l
  pub returns : (s : Spot) → present W H s ≡ true → carried W H (m.place s) ≡ true
  pub redone : (s : Spot) → present W H s ≡ true → m.spot (m.place s) ≡ s

-- the three samples of a block that are not the even-even one
abbrev pub beside_of : Chroma → ℕ → ℕ → Place
beside_of k i j = place k (2 * i) (2 * j + 1)

abbrev pub below_of : Chroma → ℕ → ℕ → Place
below_of k i j = place k (2 * i + 1) (2 * j)

abbrev pub across_of : Chroma → ℕ → ℕ → Place
across_of k i j = place k (2 * i + 1) (2 * j + 1)

pub record BlockFed (m : Maps) (W H : ℕ) (k : Chroma) (i j : ℕ) : Type 0 where
  pub beside : present W H (m.spot (beside_of k i j)) ≡ true
  pub below : present W H (m.spot (below_of k i j)) ≡ true
  pub across : present W H (m.spot (across_of k i j)) ≡ true
  pub beside_below : m.spot (beside_of k i j) ≡ m.spot (below_of k i j) → ⊥
  pub beside_across : m.spot (beside_of k i j) ≡ m.spot (across_of k i j) → ⊥
  pub below_across : m.spot (below_of k i j) ≡ m.spot (across_of k i j) → ⊥
  pub main : present W H (to_main k (2 * i) (2 * j)) ≡ true
  pub main_holds : from_main k (to_main k (2 * i) (2 * j)).row (to_main k (2 * i) (2 * j)).col ≡ place k (2 * i) (2 * j)
  pub even_even : (s : Spot) → present W H s ≡ true → m.place s ≡ place k (2 * i) (2 * j) → ⊥

pub record FedOnce (m : Maps) (W H : ℕ) : Type 0 where
  pub blocks : (k : Chroma) (i j : ℕ) → 2 * i + 1 < H → 2 * j + 1 < W → BlockFed m W H k i j
  pub holds : (s : Spot) → present W H s ≡ true → (l : Place) × (carried W H l ≡ true) × (m.spot l ≡ s)
  pub exactly : (l l' : Place) → carried W H l ≡ true → carried W H l' ≡ true → m.spot l ≡ m.spot l' → l ≡ l'

pub record Clash (m : Maps) (W H : ℕ) : Type 0 where
  pub one : Place
  pub other : Place
  pub one_carried : carried (round_up 2 W) H one ≡ true
  pub other_carried : carried (round_up 2 W) H other ≡ true
  pub together : m.spot one ≡ m.spot other
  pub apart : one ≡ other → ⊥
