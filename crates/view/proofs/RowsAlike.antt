-- Two accepted views that agree on the visible samples answer every row call alike: a row reads the samples of its columns below the
-- width alone, so that bytes between width and stride, and after the last row, reach no answer.
-- Assumes nothing.
use Prim.Native.Nat.{ℕ, ◌*◌, ◌≤◌, ◌<◌}
use native.Mathlib.Omega.{arith}
use mathlib.Core.Path.{◌≡◌, refl, sym, ap, ◌∙◌}
use mathlib.Core.Logic.{⊎_elim}
use mathlib.Core.List.{List}
use lib.ListN.{length}
use lib.Seq.{ext_get_or}
use Rattle.lent.specs.Sizes.{half_up}
use Rattle.lent.proofs.Bools.{split}
use Rattle.view.specs.declared.View.{View}
use Rattle.view.specs.declared.Plane.{Plane}
use Rattle.view.specs.View.{luma_of, chroma_of, view_number_of, PlaneFits}
use Rattle.view.specs.Starts.{Values, a_row, no_row, length_in, bytes_in}
use Rattle.view.specs.Rows.{find_row_of}
use Rattle.view.specs.Alike.{SameSamples, Alike}
use Rattle.view.specs.SameRow.{SameRow}
use Rattle.view.proofs.Exactly.{luma_fits, u_fits, v_fits}
use Rattle.view.proofs.Starts.{row_start_holds, row_start_none}
use Rattle.view.proofs.RowLaws.{find_row_accepted, row_length, row_sample}

module _ {n m : ℕ} (p q : Plane) (xs ys : List ℕ) (done : n ≡ 0) (done' : m ≡ 0) (wide : p.width ≡ q.width) (high : p.height ≡ q.height)
    (fits : PlaneFits p (length xs)) (fits' : PlaneFits q (length ys)) (same : SameSamples p xs q ys) (r : ℕ) where
  bytes_same : r < p.height → bytes_in (a_row (r * p.stride)) p.width xs ≡ bytes_in (a_row (r * q.stride)) q.width ys
  bytes_same h =
      let long = row_length p xs r fits h in
      let h' : r < q.height = omega arith in
      ext_get_or 0 _ _ (long ∙ wide ∙ sym (row_length q ys r fits' h'))
      (λ c hc. let k : c < p.width = omega arith in
      row_sample p xs r c k ∙ same r c h k ∙ sym (row_sample q ys r c (omega arith)))

  -- two rows that were found, or two that are absent
  case : (s t : Values) → find_row_of n p r ≡ s → find_row_of m q r ≡ t → s.present ≡ t.present → length_in s p.width ≡ length_in t q.width → bytes_in s p.width xs ≡ bytes_in t q.width ys → SameRow n p xs m q ys r
  case s t e e' a b c = record {
    number = done ∙ sym done';
    present = ap (λ (v : Values). v.present) e ∙ a ∙ sym (ap (λ (v : Values). v.present) e');
    length = ap (λ (v : Values). length_in v p.width) e ∙ b ∙ sym (ap (λ (v : Values). length_in v q.width) e');
    bytes = ap (λ (v : Values). bytes_in v p.width xs) e ∙ c ∙ sym (ap (λ (v : Values). bytes_in v q.width ys) e');
  }

  pub plane_alike : SameRow n p xs m q ys r
  plane_alike = ⊎_elim
      (λ h. let h' : r < q.height = omega arith in
      case (a_row (r * p.stride)) (a_row (r * q.stride))
      (find_row_accepted n p r done ∙ row_start_holds p.stride p.height r h)
      (find_row_accepted m q r done' ∙ row_start_holds q.stride q.height r h')
      refl wide (bytes_same h))
      (λ h. let h' : q.height ≤ r = omega arith in
      case no_row no_row
      (find_row_accepted n p r done ∙ row_start_none p.stride p.height r h)
      (find_row_accepted m q r done' ∙ row_start_none q.stride q.height r h')
      refl refl refl)
      (split r p.height)

module _ {w w' : View} {y u v y' u' v' : List ℕ} (done : view_number_of w (length y) (length u) (length v) ≡ 0)
    (done' : view_number_of w' (length y') (length u') (length v') ≡ 0) (alike : Alike w y u v w' y' u' v') (row : ℕ) where
  pub luma_row_alike : SameRow (view_number_of w (length y) (length u) (length v)) (luma_of w) y (view_number_of w' (length y') (length u') (length v')) (luma_of w') y' row
  luma_row_alike =
      plane_alike (luma_of w) (luma_of w') y y' done done' alike.width alike.height (luma_fits w _ _ _ done) (luma_fits w' _ _ _ done') alike.y_same row

  pub u_row_alike : SameRow (view_number_of w (length y) (length u) (length v)) (chroma_of w) u (view_number_of w' (length y') (length u') (length v')) (chroma_of w') u' row
  u_row_alike =
      plane_alike (chroma_of w) (chroma_of w') u u' done done' (ap half_up alike.width) (ap half_up alike.height) (u_fits w _ _ _ done) (u_fits w' _ _ _ done') alike.u_same row

  pub v_row_alike : SameRow (view_number_of w (length y) (length u) (length v)) (chroma_of w) v (view_number_of w' (length y') (length u') (length v')) (chroma_of w') v' row
  v_row_alike =
      plane_alike (chroma_of w) (chroma_of w') v v' done done' (ap half_up alike.width) (ap half_up alike.height) (v_fits w _ _ _ done) (v_fits w' _ _ _ done') alike.v_same row
