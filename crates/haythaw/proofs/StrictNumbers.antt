-- As Numbers.antt, of the strict auxiliary calls: the number alone is answered, and the layout is the one that was found.
-- Assumes nothing.
use Prim.Native.Nat.{ℕ}
use mathlib.Core.Path.{◌≡◌, subst}
use mathlib.Core.List.{List}
use Rattle.lent.specs.declared.Answer.{Answer}
use Rattle.picture.specs.declared.Size.{Size}
use Rattle.view.specs.declared.View.{View}
use Rattle.layout.specs.declared.Layout.{Layout}
use Rattle.strict.specs.Calls.{StrictAuxiliaryOutcome}
use Rattle.haythaw.specs.Strict.{HaythawApplyAuxiliaryStrictOutcome}
use Rattle.haythaw.proofs.Numbers.{number_alone}

pub strict_number : {l t : Layout} → l ≡ t → (z : Size) (w : View) (rects vy vu vv y u v m : List ℕ) {r : Answer} {rs : List (List ℕ)}
    → StrictAuxiliaryOutcome l z w rects vy vu vv y u v m r rs → HaythawApplyAuxiliaryStrictOutcome t z w rects vy vu vv y u v m r.number rs
strict_number found z w rects vy vu vv y u v m {r} {rs} x = number_alone (subst (λ (k : Layout). StrictAuxiliaryOutcome k z w rects vy vu vv y u v m r rs) found x)
