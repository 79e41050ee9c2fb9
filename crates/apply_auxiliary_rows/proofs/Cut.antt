-- The parts that a row function cuts from planes by the same start. Assumes nothing.
use Prim.Native.Nat.{ℕ, ◌+◌, ◌-◌, ◌/◌, ◌%◌, ◌≤◌}
use native.Mathlib.Omega.{arith}
use mathlib.Core.Path.{◌≡◌, sym, ◌∙◌}
use mathlib.Core.List.{List}
use lib.ListN.{length, drop, length-drop}
use lib.Seq.{length-take-le}
use Rattle.columns.specs.Fits.{OddsFit}
use Rattle.apply_auxiliary_rows.proofs.Area.{part}

-- what the row writers ask of the parts
part_long : (xs : List ℕ) (a e n : ℕ) → a + n ≡ e → e ≤ length xs → length (part xs a e) ≡ n
part_long xs a e n is fits = length-take-le (e - a) (drop a xs) (simp length-drop (omega arith)) ∙ omega arith

pub copy_fits : (xs src : List ℕ) (line at left stop : ℕ) → line + stop ≤ length xs → at + stop ≤ length src → left ≤ stop
    → length (part xs (line + left) (line + stop)) ≡ length (part src (at + left) (at + stop))
copy_fits xs src line at left stop room seen ordered =
    part_long xs (line + left) (line + stop) (stop - left) (omega arith) room ∙ sym (part_long src (at + left) (at + stop) (stop - left) (omega arith) seen)

module _ (xs : List ℕ) (line left stop : ℕ) (room : line + stop ≤ length xs) (by_two : left % 2 ≡ 0) (to-two : stop % 2 ≡ 0) (ordered : left ≤ stop) where
  lent_long : length (part xs (line + left) (line + stop)) ≡ stop - left
  lent_long = part_long xs (line + left) (line + stop) (stop - left) (omega arith) room

  pub odds_fit : (src : List ℕ) (at : ℕ) → at + stop / 2 ≤ length src
      → OddsFit (length (part xs (line + left) (line + stop))) (length (part src (at + left / 2) (at + stop / 2)))
  odds_fit src at seen =
      rw (lent_long, part_long src (at + left / 2) (at + stop / 2) ((stop - left) / 2) (omega arith) seen)
      record { pairs = omega arith; seen = omega arith }
