-- The kinds of a payload (R111): "the top two bits say what is carried (0 both, 1 luma only, 2 chroma only)".
--
--   number_of k      the number of a kind
--   Decodes n r      r is the kind with this number, or says that no kind has it
use Rattle.std.specs.Prelude.{◌≡◌, ℕ, ◌<◌, Result, MatchResult}
use Rattle.wire_fields.specs.declared.kinds.Kind.{Kind}
use Rattle.wire_fields.specs.declared.kinds.Kind.TheVariants.{Both, Luma, Chroma}
use Rattle.wire_fields.specs.declared.kinds.UnknownKind.{UnknownKind}

abbrev pub number_of : Kind → ℕ
number_of Both = 0
number_of Luma = 1
number_of Chroma = 2

abbrev pub Decodes : ℕ → Result Kind UnknownKind → Type 0
Decodes n r = MatchResult r (λ k. number_of k ≡ n) (λ e. (e.0 ≡ n) × (2 < n))
