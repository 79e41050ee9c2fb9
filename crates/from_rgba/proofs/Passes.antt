-- One pass over a plane after the other: what a pass makes of the samples is what it makes of those that the pass before it wrote.
-- Assumes nothing.
use Prim.Native.Nat.{ℕ, ◌*◌, ◌<◌, ◌≤◌}
use mathlib.Core.Path.{◌≡◌, refl, ap, ◌∙◌}
use mathlib.Core.List.{List}
use lib.ListN.{length}
use Rattle.lent.specs.Paint.{painted, whole}
use Rattle.lent.specs.Samples.{sample}
use Rattle.lent.proofs.Painted.{painted_at, painted_ext, painted-painted}

-- a pass that reads no sample from outside the plane of h rows and w columns
abbrev pub Local : ℕ → ℕ → ((ℕ → ℕ → ℕ) → ℕ → ℕ → ℕ) → Type 0
Local w h F = (p q : ℕ → ℕ → ℕ) → ((r c : ℕ) → r < h → c < w → p r c ≡ q r c) → (r c : ℕ) → r < h → c < w → F p r c ≡ F q r c

-- one such pass after the other
pub local_after : (w h : ℕ) (F G : (ℕ → ℕ → ℕ) → ℕ → ℕ → ℕ) → Local w h F → Local w h G → Local w h (λ p. F (G p))
local_after w h F G f g p q same = f (G p) (G q) (g p q same)

-- a plane that was written whole, then gone over
pub gone_over : (w h : ℕ) (F : (ℕ → ℕ → ℕ) → ℕ → ℕ → ℕ) (p : ℕ → ℕ → ℕ) (xs : List ℕ) {ys zs : List ℕ} → Local w h F → h * w ≤ length xs
    → ys ≡ painted w h whole p xs → zs ≡ painted w h whole (F (sample ys w)) ys
    → zs ≡ painted w h whole (F p) xs
unfolding sample
gone_over w h F p xs local fits ys-is zs-is =
    zs-is
    ∙ ap (λ (l : List ℕ). painted w h whole (F (sample l w)) l) ys-is
    ∙ painted-painted w h whole whole p _ xs
    ∙ painted_ext w h _ whole _ (F p) xs (λ r c hr hc. refl)
    (λ r c hr hc t. local (sample (painted w h whole p xs) w) p (λ a b ha hb. painted_at w h whole p xs a b ha hb fits) r c hr hc)
