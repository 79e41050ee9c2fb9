-- The walks end in one way; and two earlier pictures that were alike are left alike, whatever the two ways. Assumes nothing.
use Prim.Native.Nat.{ℕ}
use mathlib.Core.Path.{◌≡◌}
use mathlib.Core.List.{List, ◌++◌}
use Rattle.lent.specs.declared.Answer.{Answer}
use Rattle.lent.specs.Outcome.{answer_of}
use Rattle.lent.proofs.Outcome.{outcome_unique}
use Rattle.picture.specs.declared.Size.{Size}
use Rattle.layout.specs.declared.Way.{Way}
use Rattle.split.specs.Split.{Planes}
use Rattle.agree_law.specs.Agrees.{picture_of, Same}
use Rattle.agree_law.specs.Through.{buffers_in, picture_in, through_number_of, through_buffers_of, ThroughOutcome}
use Rattle.agree_law.specs.Both.{both_number_of, both_buffers_of, BothOutcome}
use Rattle.agree_law.proofs.Agree.{agrees_same}

pub through_unique : (t : Way) (z : Size) (rects : List ℕ) (p m a q : Planes) (k : List ℕ) (r r' : Answer) (m₁ a₁ x₁ m₂ a₂ x₂ : Planes) (l₁ l₂ : List ℕ)
    → ThroughOutcome t z rects p m a q k r m₁ a₁ x₁ l₁ → ThroughOutcome t z rects p m a q k r' m₂ a₂ x₂ l₂
    → (r ≡ r') × ((buffers_in m₁ ++ (buffers_in a₁ ++ picture_in x₁ l₁)) ≡ (buffers_in m₂ ++ (buffers_in a₂ ++ picture_in x₂ l₂)))
through_unique t z rects p m a q k r r' m₁ a₁ x₁ m₂ a₂ x₂ l₁ l₂ one two =
    outcome_unique (λ (n : ℕ). answer_of n 0) (λ n. through_buffers_of n t z rects p m a q k) (through_number_of t z rects p m a q k) r r' _ _ one.ends two.ends

module _ (t t' : Way) (z : Size) (rects : List ℕ) (p m a q : Planes) (k : List ℕ) (q' : Planes) (k' : List ℕ) where
  pub both_unique : (r r' : Answer) (m₁ a₁ x₁ x₁' m₂ a₂ x₂ x₂' : Planes) (l₁ l₁' l₂ l₂' : List ℕ)
      → BothOutcome t t' z rects p m a q k q' k' r m₁ a₁ x₁ l₁ x₁' l₁' → BothOutcome t t' z rects p m a q k q' k' r' m₂ a₂ x₂ l₂ x₂' l₂'
      → (r ≡ r')
      × ((buffers_in m₁ ++ (buffers_in a₁ ++ (picture_in x₁ l₁ ++ picture_in x₁' l₁'))) ≡ (buffers_in m₂ ++ (buffers_in a₂ ++ (picture_in x₂ l₂ ++ picture_in x₂' l₂'))))
  both_unique r r' m₁ a₁ x₁ x₁' m₂ a₂ x₂ x₂' l₁ l₁' l₂ l₂' one two =
      outcome_unique (λ (n : ℕ). answer_of n 0) (λ n. both_buffers_of n t t' z rects p m a q k q' k') (both_number_of t t' z rects p m a q k q' k') r r' _ _ one.ends two.ends

-- one earlier picture, lent twice: the two ways leave the same luma of the picture's pixels and the same chroma, whatever the maps held
pub both_same : (t t' : Way) (z : Size) (rects : List ℕ) (p m a q : Planes) (k k' : List ℕ) (r : Answer) (m' a' x x' : Planes) (l l' : List ℕ)
    → BothOutcome t t' z rects p m a q k q k' r m' a' x l x' l' → r.number ≡ 0
    → Same z (picture_of z x) (picture_of z x')
both_same t t' z rects p m a q k k' r m' a' x x' l l' ends zero =
    agrees_same z rects (picture_of z p) (picture_of z q) (picture_of z x) (picture_of z x') (ends.first zero) (ends.second zero)
