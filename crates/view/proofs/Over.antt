-- An accepted view lies over the planes that it was made of. Assumes nothing.
use Prim.Native.Nat.{ℕ}
use mathlib.Core.Path.{◌≡◌}
use mathlib.Core.List.{List}
use denote.Ref.{Bor}
use Rattle.std.specs.Prelude.{Result, IfOk}
use Rattle.std.proofs.lemmas.Result.{IfOk-weaker}
use Rattle.lent.specs.declared.refused.Refusal.{Refusal}
use Rattle.view.specs.declared.View.{View}
use Rattle.view.specs.declared.frame.Frame.{Frame}
use Rattle.view.specs.Over.{Over}

-- what `Frame::new` says of the view that it answers
pub lies_over : (w : View) (y u v : Bor (List ℕ)) (r : Result Frame Refusal) → IfOk r (λ f. (f.sizes ≡ w) × (f.y ≡ y) × (f.u ≡ u) × (f.v ≡ v)) → IfOk r (λ f. Over f w y u v)
lies_over w y u v r h = IfOk-weaker r _ _ (λ f e. record { sizes = e.0; over_y = e.1; over_u = e.2; over_v = e.3 }) h
