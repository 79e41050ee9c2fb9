-- A view that was accepted: over which planes it lies.
--
--   Over f w y u v    the accepted view f has the sizes w, and its planes are the lent ones, not copies
use Rattle.std.specs.Prelude.{◌≡◌, List, ℕ}
use Rattle.std.specs.Borrow.{Bor}
use Rattle.view.specs.declared.View.{View}
use Rattle.view.specs.declared.frame.Frame.{Frame}

pub record Over (f : Frame) (w : View) (y u v : Bor (List ℕ)) : Type 0 where
  pub sizes : f.sizes ≡ w
  pub over_y : f.y ≡ y
  pub over_u : f.u ≡ u
  pub over_v : f.v ≡ v
