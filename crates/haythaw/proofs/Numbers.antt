-- A call whose count is always 0 may answer its number alone: nothing is lost. An auxiliary view's layout is the one that was found for it.
-- Assumes nothing.
use Prim.Native.Nat.{ℕ}
use mathlib.Core.Path.{◌≡◌, subst}
use mathlib.Core.List.{List}
use Rattle.lent.specs.declared.Answer.{Answer}
use Rattle.lent.specs.Outcome.{Outcome, answer_of}
use Rattle.picture.specs.declared.Size.{Size}
use Rattle.view.specs.declared.View.{View}
use Rattle.layout.specs.declared.Layout.{Layout}
use Rattle.map_apply.specs.Calls.{MapAuxiliaryOutcome}
use Rattle.haythaw.specs.Apply.{HaythawApplyAuxiliaryOutcome}

pub number_alone : {n : ℕ} {bs rs : List (List ℕ)} {r : Answer} → Outcome (answer_of n 0) bs r rs → Outcome n bs r.number rs
number_alone x = record { answer = λ i. (x.answer i).number; buffers = x.buffers }

pub auxiliary_number : {l t : Layout} → l ≡ t → (z : Size) (w : View) (rects vy vu vv y u v m : List ℕ) {r : Answer} {rs : List (List ℕ)}
    → MapAuxiliaryOutcome l z w rects vy vu vv y u v m r rs → HaythawApplyAuxiliaryOutcome t z w rects vy vu vv y u v m r.number rs
auxiliary_number found z w rects vy vu vv y u v m {r} {rs} x = number_alone (subst (λ (k : Layout). MapAuxiliaryOutcome k z w rects vy vu vv y u v m r rs) found x)
