-- The rules of V2: by the 16 rule a call ends as it did before there were rules, whatever the picture's width; by the 32 rule the
-- view's width has no say in W; by the rule Exact, W is the 16 rule's where the view's width rounds up to the picture's. Assumes nothing.
use Prim.Native.Nat.{ℕ}
use mathlib.Core.Path.{◌≡◌, refl, sym, ap}
use mathlib.Core.Logic.Iff
use mathlib.Core.Logic.{◌↔◌}
use mathlib.Core.List.{List}
use Rattle.lent.specs.declared.Answer.{Answer}
use Rattle.lent.specs.Sizes.{round_up}
use Rattle.picture.specs.declared.Size.{Size}
use Rattle.view.specs.declared.View.{View}
use Rattle.layout.specs.declared.Layout.TheVariants.{V2}
use Rattle.layout.specs.declared.Way.TheVariants.{AsV2}
use Rattle.layout.specs.declared.WidthRule.TheVariants.{To16, To32}
use Rattle.layout.specs.Maps.{layout_of, exact_layout_of}
use Rattle.layout.specs.Exists.{fed}
use Rattle.apply_auxiliary_rows.specs.Rows.{auxiliary_source}
use Rattle.apply_auxiliary.specs.Auxiliary.{auxiliary_in, ApplyAuxiliaryViewOutcome}
use Rattle.apply_auxiliary.specs.Before.{ApplyBefore}

pub apply_16 : (pw : ℕ) (z : Size) (w : View) (rects vy vu vv y u v : List ℕ) (r : Answer) (rs : List (List ℕ))
    → ApplyAuxiliaryViewOutcome (layout_of (AsV2 To16) pw w.width) z w rects vy vu vv y u v r rs ↔ ApplyBefore z w rects vy vu vv y u v r rs
unfolding auxiliary_in auxiliary_source fed
apply_16 pw z w rects vy vu vv y u v r rs = Iff.rfl

pub apply_32_view : (pw vw vw' : ℕ) → layout_of (AsV2 To32) pw vw ≡ layout_of (AsV2 To32) pw vw'
apply_32_view pw vw vw' = refl

pub apply_exact_16 : (pw vw : ℕ) → round_up 16 vw ≡ pw → exact_layout_of pw ≡ layout_of (AsV2 To16) pw vw
apply_exact_16 pw vw e = sym (ap V2 e)
