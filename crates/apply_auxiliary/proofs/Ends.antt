-- How the call ends: refused, with every lent byte as it was; or done, with U and V painted and Y as it was. An accepted view gives what
-- the lent planes give. Assumes nothing.
use Prim.Native.Nat.{ℕ}
use mathlib.Core.Path.{◌≡◌, sym, ◌∙◌}
use mathlib.Core.List.{List, [], ◌∷◌}
use denote.Ref.{Bor}
use Rattle.picture.specs.declared.Size.{Size}
use Rattle.view.specs.declared.View.{View}
use Rattle.view.specs.declared.frame.Frame.{Frame}
use Rattle.view.specs.Over.{Over}
use Rattle.layout.specs.declared.Chroma.{Chroma}
use Rattle.layout.specs.declared.Chroma.TheVariants.{CU, CV}
use Rattle.layout.specs.declared.Layout.{Layout}
use Rattle.lent.proofs.Ends.{answer_none, lent_refused, lent_done}
use Rattle.rects.specs.Number.{lent_number_of}
use Rattle.apply_auxiliary.specs.Auxiliary.{auxiliary_after, ApplyAuxiliaryViewOutcome}

pub after_over : (t : Layout) (k : Chroma) (z : Size) (f : Frame) (w : View) (y u v : Bor (List ℕ)) → Over f w y u v → (rects plane : List ℕ)
    → auxiliary_after t k z f.sizes rects f.y.now f.u.now f.v.now plane ≡ auxiliary_after t k z w rects y.now u.now v.now plane
after_over t k z f w y u v over rects plane = λ i. auxiliary_after t k z (over.sizes i) rects (over.over_y i).now (over.over_u i).now (over.over_v i).now plane

module _ (t : Layout) (z : Size) (w : View) (rects vy vu vv y u v : List ℕ) where
  abbrev after_u : List ℕ
  after_u = auxiliary_after t CU z w rects vy vu vv u

  abbrev after_v : List ℕ
  after_v = auxiliary_after t CV z w rects vy vu vv v

  pub auxiliary_refused : {n : ℕ} → n ≡ lent_number_of z w rects vy vu vv y u v → (n ≡ 0 → ⊥)
      → ApplyAuxiliaryViewOutcome t z w rects vy vu vv y u v (record { number = n; count = 0 }) (y ∷ u ∷ v ∷ [])
  auxiliary_refused is f =
      let not-zero : lent_number_of z w rects vy vu vv y u v ≡ 0 → ⊥ = λ e. f (is ∙ e) in
      record { answer = answer_none is; buffers = λ i. y ∷ lent_refused _ u after_u not-zero i ∷ lent_refused _ v after_v not-zero i ∷ [] }

  pub auxiliary_done : {u' v' : List ℕ} → lent_number_of z w rects vy vu vv y u v ≡ 0 → u' ≡ after_u → v' ≡ after_v
      → ApplyAuxiliaryViewOutcome t z w rects vy vu vv y u v (record { number = 0; count = 0 }) (y ∷ u' ∷ v' ∷ [])
  auxiliary_done is a b = record {
    answer = answer_none (sym is);
    buffers = λ i. y ∷ (a ∙ lent_done _ u after_u is) i ∷ (b ∙ lent_done _ v after_v is) i ∷ [];
  }
