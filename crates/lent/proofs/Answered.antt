-- What the answer of a call says of its number: Ok is 0, an error the number of its refusal, which is not 0.
-- Assumes nothing.
use Prim.Native.Nat.{ℕ, ◌≤◌}
use native.Mathlib.Omega.{arith}
use mathlib.Core.Path.{◌≡◌, sym, ap, ◌∙◌}
use Rattle.std.specs.Prelude.{Result, Ok, Err}
use Rattle.lent.specs.declared.refused.Refusal.{Refusal}
use Rattle.lent.specs.declared.refused.Refusal.TheVariants.{
  PictureShort,
  PixelsShort,
  StrideNarrow,
  ViewShort,
  PictureLarge,
  OutputShort,
  ListUneven,
  KindUnknown,
  PayloadShort,
  StreamShort,
  PayloadLong,
  RectangleUnsound,
}
use Rattle.lent.specs.Refused.{number_of, number_in}

-- no refusal has the number 0
pub above_0 : (r : Refusal) → 1 ≤ number_of r
above_0 PictureShort = omega arith
above_0 PixelsShort = omega arith
above_0 StrideNarrow = omega arith
above_0 ViewShort = omega arith
above_0 PictureLarge = omega arith
above_0 OutputShort = omega arith
above_0 ListUneven = omega arith
above_0 KindUnknown = omega arith
above_0 PayloadShort = omega arith
above_0 StreamShort = omega arith
above_0 PayloadLong = omega arith
above_0 RectangleUnsound = omega arith

pub never_0 : (r : Refusal) → number_of r ≡ 0 → ⊥
never_0 r e = let h = above_0 r in omega arith

-- after a call whose answer has the number n
module _ {A : Type 0} {x : Result A Refusal} {n : ℕ} (says : number_in x ≡ n) where
  pub accepted : {a : A} → x ≡ Ok a → n ≡ 0
  accepted e = sym says ∙ ap number_in e

  pub refused_as : {r : Refusal} → x ≡ Err r → number_of r ≡ n
  refused_as e = sym (ap number_in e) ∙ says

  pub refused_above : {r : Refusal} → x ≡ Err r → n ≡ 0 → ⊥
  refused_above {r} e z = never_0 r (refused_as e ∙ z)
