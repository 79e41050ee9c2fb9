-- What an apply call does to one block (R75, R76). Block i, j has the rows 2i and 2i + 1 and the columns 2j and 2j + 1.
--
--   any_of t i j                 t takes any of the block's four samples
--   other_of t i j               t takes all three of the block's other samples: those that are not the even-even one
--   main_marks z w rects         "A main view sets 1 where it takes any chroma of the block"
--   auxiliary_completes t z w rects      "where it takes all three of the block's other samples", t being the layout: each by some rectangle of the list
--   Call                        an accepted call that may change the map: a main view, or an auxiliary view with its layout; and the list
--   marked, completed z c i j   the call takes any chroma of the block as a main view; all three others as an auxiliary one
--   after z c s i j             what block i, j is after the call c, where s says what it was
--   map_after z c m              the map's buffer after an accepted call
use Rattle.std.specs.Prelude.{ℕ, ◌+◌, ◌*◌, Bool, false, cond, ◌&&◌, ◌||◌, List, eqb}
use Rattle.picture.specs.declared.Size.{Size}
use Rattle.view.specs.declared.View.{View}
use Rattle.layout.specs.declared.Layout.{Layout}
use Rattle.rects.specs.Rects.{taken}
use Rattle.apply_main.specs.Main.{main_chroma}
use Rattle.apply_auxiliary.specs.Auxiliary.{auxiliary_rule}
use Rattle.map.specs.Map.{map_of, held_of}

abbrev pub any_of : (ℕ → ℕ → Bool) → ℕ → ℕ → Bool
any_of t i j = t (2 * i) (2 * j) || t (2 * i) (2 * j + 1) || t (2 * i + 1) (2 * j) || t (2 * i + 1) (2 * j + 1)

abbrev pub other_of : (ℕ → ℕ → Bool) → ℕ → ℕ → Bool
other_of t i j = t (2 * i) (2 * j + 1) && t (2 * i + 1) (2 * j) && t (2 * i + 1) (2 * j + 1)

abbrev pub main_marks : Size → View → List ℕ → ℕ → ℕ → Bool
main_marks z w rects = any_of (taken (main_chroma z w) rects)

abbrev pub auxiliary_completes : Layout → Size → View → List ℕ → ℕ → ℕ → Bool
auxiliary_completes t z w rects = other_of (taken (auxiliary_rule t z w) rects)

pub data Call : Type 0 where
  Main : View → List ℕ → Call
  Auxiliary : Layout → View → List ℕ → Call

abbrev pub marked : Size → Call → ℕ → ℕ → Bool
marked z (Main w rects) i j = main_marks z w rects i j
marked z (Auxiliary t w rects) i j = false

abbrev pub completed : Size → Call → ℕ → ℕ → Bool
completed z (Main w rects) i j = false
completed z (Auxiliary t w rects) i j = auxiliary_completes t z w rects i j

-- "A main view sets 1 .. An auxiliary view turns 1 into 2 ..; anything else stays"
abbrev pub after : Size → Call → (ℕ → ℕ → ℕ) → ℕ → ℕ → ℕ
after z c s i j = cond (marked z c i j) 1 (cond (completed z c i j && eqb (s i j) 1) 2 (s i j))

unfoldable pub map_after : Size → Call → List ℕ → List ℕ
map_after z c m = map_of z (after z c (held_of z m)) m
