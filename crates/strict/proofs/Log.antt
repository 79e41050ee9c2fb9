-- What `first_unsound_of` answers: 7 exactly when the list is not in fours; a rectangle exactly when some of the list is unsound, and then the one at
-- its index has its fault, and every one before it is sound; else all is 0. A strict call answers 12 exactly when there is such a one.
-- Assumes nothing.
use Prim.Native.Nat.{ℕ, ◌/◌, ◌%◌, ◌<◌}
use native.Mathlib.Omega.{arith}
use mathlib.Core.Path.{◌≡◌, refl, sym, ◌∙◌}
use mathlib.Core.Bool.{Bool, true, false, cond, true≢false, false≢true}
use mathlib.Core.Logic.Iff
use mathlib.Core.Logic.{◌↔◌}
use mathlib.Core.List.{List}
use lib.ListN.{length}
use Rattle.lent.specs.Counts.{first_where}
use Rattle.lent.proofs.First.{first_exactly, first_holds, first_before}
use Rattle.picture.specs.declared.Size.{Size}
use Rattle.view.specs.declared.View.{View}
use Rattle.rects.specs.Number.{not_fours}
use Rattle.rects.specs.Rects.{rect_at_of}
use Rattle.map.specs.Map.{PictureFits}
use Rattle.map_apply.proofs.Number.{fours_exactly, not_fours_exactly}
use Rattle.strict.specs.declared.Unsound.{Unsound}
use Rattle.strict.specs.Sound.{fault_of, Sound, unsound_at, unsound, SomeFaulty, none_unsound, first_unsound_of}
use Rattle.strict.specs.Calls.{strict_number_of}
use Rattle.strict.proofs.Faults.{fault_exactly, unsound_at_exactly, sound_at_exactly, unsound_exactly}
use Rattle.strict.proofs.Number.{strict_12_exactly}

-- ---- the three answers, by the two tests: a list that is not in fours, and one that is unsound, whose first is u

module _ (u : Unsound) (number : u.number ≡ 0) (present : u.present ≡ true) where
  abbrev logged : Bool → Bool → Unsound
  logged odd some = cond odd (none_unsound 7) (cond some u (none_unsound 0))

  refused : (odd some : Bool) → ((logged odd some).number ≡ 7) ↔ (odd ≡ true)
  refused true some = (λ e. refl, λ e. refl)
  refused false true = (λ e. absurd (omega arith), λ e. absurd (false≢true e))
  refused false false = (λ e. absurd (omega arith), λ e. absurd (false≢true e))

  answered : (odd some : Bool) → ((logged odd some).number ≡ 0) ↔ (odd ≡ false)
  answered true some = (λ e. absurd (omega arith), λ e. absurd (true≢false e))
  answered false true = (λ e. refl, λ e. number)
  answered false false = (λ e. refl, λ e. refl)

  there : (odd some : Bool) → ((logged odd some).present ≡ true) ↔ ((odd ≡ false) × (some ≡ true))
  there true some = (λ e. absurd (false≢true e), λ f. absurd (true≢false f.0))
  there false true = (λ e. (refl, refl), λ f. present)
  there false false = (λ e. absurd (false≢true e), λ f. absurd (false≢true f.1))

  it : (odd some : Bool) → odd ≡ false → some ≡ true → logged odd some ≡ u
  it true some e f = absurd (true≢false e)
  it false true e f = refl
  it false false e f = absurd (false≢true f)

  nothing : (odd some : Bool) → (logged odd some).present ≡ false → ((logged odd some).fault ≡ 0) × ((logged odd some).index ≡ 0)
  nothing true some e = (refl, refl)
  nothing false true e = absurd (true≢false (sym present ∙ e))
  nothing false false e = (refl, refl)

-- ---- the laws

-- an answer u that names a rectangle: it is one of the list, the fault is its first, and every one before it is sound
pub record Named (z : Size) (rects : List ℕ) (u : Unsound) : Type 0 where
  pub in_list : u.index < length rects / 4
  pub its_fault : u.fault ≡ fault_of z (rect_at_of rects u.index)
  pub some_fault : u.fault ≡ 0 → ⊥
  pub before : (j : ℕ) → j < u.index → Sound z (rect_at_of rects j)

module _ (z : Size) (rects : List ℕ) where
  abbrev k : ℕ
  k = first_where (length rects / 4) (unsound_at z rects)

  abbrev first : Unsound
  first = record { number = 0; present = true; fault = fault_of z (rect_at_of rects k); index = k }

  pub first_unsound_7_exactly : ((first_unsound_of z rects).number ≡ 7) ↔ (length rects % 4 ≡ 0 → ⊥)
  unfolding first_unsound_of
  first_unsound_7_exactly = Iff.trans (refused first refl refl (not_fours (length rects)) (unsound z rects)) (not_fours_exactly (length rects))

  pub first_unsound_0_exactly : ((first_unsound_of z rects).number ≡ 0) ↔ (length rects % 4 ≡ 0)
  unfolding first_unsound_of
  first_unsound_0_exactly = Iff.trans (answered first refl refl (not_fours (length rects)) (unsound z rects)) (fours_exactly (length rects))

  pub first_unsound_exactly : ((first_unsound_of z rects).present ≡ true) ↔ ((length rects % 4 ≡ 0) × SomeFaulty z rects)
  unfolding first_unsound_of
  first_unsound_exactly =
      Iff.trans (there first refl refl (not_fours (length rects)) (unsound z rects)) (Iff.and (fours_exactly (length rects)) (unsound_exactly z rects))

  pub first_unsound_facts : (first_unsound_of z rects).present ≡ true → Named z rects (first_unsound_of z rects)
  unfolding first_unsound_of unsound
  first_unsound_facts e =
      let t = (there first refl refl (not_fours (length rects)) (unsound z rects)).0 e in
      let low = (first_exactly (length rects / 4) (unsound_at z rects)).1 t.1 in
      rw (it first refl refl (not_fours (length rects)) (unsound z rects) t.0 t.1)
      (record {
        in_list = low;
        its_fault = refl;
        some_fault = (fault_exactly z (rect_at_of rects k)).1 ((unsound_at_exactly z rects k).0 (first_holds (length rects / 4) (unsound_at z rects) low));
        before = λ j lt. (sound_at_exactly z rects j).0 (first_before (length rects / 4) (unsound_at z rects) j lt);
      })

  pub first_unsound_none : (first_unsound_of z rects).present ≡ false → ((first_unsound_of z rects).fault ≡ 0) × ((first_unsound_of z rects).index ≡ 0)
  unfolding first_unsound_of
  first_unsound_none e = nothing first refl refl (not_fours (length rects)) (unsound z rects) e

  -- what a strict call refuses with 12 is what the log names
  pub strict_12_named : (w : View) (ny nu nv nm my mu mv : ℕ)
      → (strict_number_of z w rects ny nu nv nm my mu mv ≡ 12) ↔ (PictureFits z ny nu nv nm × ((first_unsound_of z rects).present ≡ true))
  strict_12_named w ny nu nv nm my mu mv = (
    λ e. let f = (strict_12_exactly z w rects ny nu nv nm my mu mv).0 e in (f.0.0, first_unsound_exactly.1 (f.0.1, f.1)),
    λ f. let s = first_unsound_exactly.0 f.1 in (strict_12_exactly z w rects ny nu nv nm my mu mv).1 ((f.0, s.0), s.1),
  )
