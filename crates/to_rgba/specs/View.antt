-- View to RGBA: its number, its count and every byte of its output (R22, R53).
--
--   view_to_rgba_count_of w      bytes written: 4 x the view's pixels
--   view_to_rgba_number_of w count ny nu nv nout      3, 4, then 6: those of the view, and the output, of nout bytes, is shorter than what
--                            would be written
--   view_to_rgba_of m w y u v out      the output after a call that is not refused, by the colour matrix m
--   ViewToRgbaOutcome m w y u v out      how the call ends, refusals included
use Rattle.std.specs.Prelude.{ℕ, ◌*◌, List, [], ◌∷◌, ltb, length}
use Rattle.lent.specs.declared.Answer.{Answer}
use Rattle.lent.specs.Outcome.{Outcome, answer_of, lent_after}
use Rattle.lent.specs.Refusal.{refusal}
use Rattle.view.specs.declared.View.{View}
use Rattle.view.specs.View.{narrow, plane_short}
use Rattle.to_rgba.specs.Pictured.{pictured}
use Rattle.to_rgba_rows.specs.Rules.{view_pixel_at}

abbrev pub view_to_rgba_count_of : View → ℕ
view_to_rgba_count_of w = 4 * (w.width * w.height)

unfoldable pub view_to_rgba_number_of : View → ℕ → ℕ → ℕ → ℕ → ℕ → ℕ
view_to_rgba_number_of w count ny nu nv nout = refusal ((narrow w, 3) ∷ (plane_short w ny nu nv, 4) ∷ (ltb nout count, 6) ∷ [])

unfoldable pub view_to_rgba_of : (ℕ → ℕ → ℕ → List ℕ) → View → List ℕ → List ℕ → List ℕ → List ℕ → List ℕ
view_to_rgba_of m w y u v out = pictured w.width w.height (view_pixel_at m w.luma_stride w.chroma_stride y u v) out

abbrev pub ViewToRgbaOutcome : (ℕ → ℕ → ℕ → List ℕ) → View → List ℕ → List ℕ → List ℕ → List ℕ → Answer → List (List ℕ) → Type 0
ViewToRgbaOutcome m w y u v out =
    let n = view_to_rgba_number_of w (view_to_rgba_count_of w) (length y) (length u) (length v) (length out) in
    Outcome (answer_of n (view_to_rgba_count_of w)) (lent_after n out (view_to_rgba_of m w y u v out) ∷ [])
