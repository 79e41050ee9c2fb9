-- Two accepted views of equal size that agree on the visible samples give the same RGBA: number, count and every byte, by any colour
-- matrix. Bytes between width and stride, or after the last row, are not read.
-- Assumes nothing.
use Prim.Native.Nat.{ℕ, ◌*◌, ◌/◌}
use native.Mathlib.Omega.{arith}
use mathlib.Core.Path.{◌≡◌, sym, ◌∙◌}
use mathlib.Core.Logic.{⊎_elim}
use mathlib.Core.List.{List}
use lib.ListN.{length}
use Rattle.lent.proofs.Bools.{split}
use Rattle.view.specs.declared.View.{View}
use Rattle.view.specs.View.{view_number_of}
use Rattle.view.specs.Alike.{Alike}
use Rattle.to_rgba.specs.Pictured.{pictured}
use Rattle.to_rgba_rows.specs.Rules.{view_pixel_at}
use Rattle.to_rgba.specs.View.{view_to_rgba_count_of, view_to_rgba_number_of, view_to_rgba_of}
use Rattle.to_rgba.proofs.Pictured.{pictured_ext}
use Rattle.to_rgba.proofs.Exactly.{view_rgba_0_exactly, view_rgba_6_exactly}

module _ {w w' : View} {y u v y' u' v' : List ℕ} (alike : Alike w y u v w' y' u' v') where
  pub count_alike : view_to_rgba_count_of w ≡ view_to_rgba_count_of w'
  count_alike = λ i. 4 * (alike.width i * alike.height i)

  pub bytes_alike : (m : ℕ → ℕ → ℕ → List ℕ) (out : List ℕ) → view_to_rgba_of m w y u v out ≡ view_to_rgba_of m w' y' u' v' out
  unfolding view_to_rgba_of view_pixel_at
  bytes_alike m out =
      pictured_ext w.width w.height _ out _
      (λ r c hr hc i. m (alike.y_same r c hr hc i) (alike.u_same (r / 2) (c / 2) (omega arith) (omega arith) i) (alike.v_same (r / 2) (c / 2) (omega arith) (omega arith) i))
      ∙ (λ i. pictured (alike.width i) (alike.height i) (view_pixel_at m w'.luma_stride w'.chroma_stride y' u' v') out)

  pub number_alike : view_number_of w (length y) (length u) (length v) ≡ 0 → view_number_of w' (length y') (length u') (length v') ≡ 0 → (nout : ℕ)
      → view_to_rgba_number_of w (view_to_rgba_count_of w) (length y) (length u) (length v) nout ≡ view_to_rgba_number_of w' (view_to_rgba_count_of w') (length y') (length u') (length v') nout
  number_alike done done' nout = ⊎_elim
      (λ lt. (view_rgba_6_exactly w _ _ _ _ nout).1 (done, lt) ∙ sym ((view_rgba_6_exactly w' _ _ _ _ nout).1 (done', omega (arith, count_alike))))
      (λ ge. (view_rgba_0_exactly w _ _ _ _ nout).1 (done, ge) ∙ sym ((view_rgba_0_exactly w' _ _ _ _ nout).1 (done', omega (arith, count_alike))))
      (split nout (view_to_rgba_count_of w))
