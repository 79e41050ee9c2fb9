-- `wire_fields::quantiser_byte` meets its contract: the three fields do not meet, so `|` adds them.
-- Assumes nothing.
use Prim.Native.Nat.{◌*◌, ◌%◌}
use mathlib.Core.Path.{◌≡◌, refl, ◌∙◌}
use mathlib.Core.Bool.{Bool, true, false}
use mir.Val.{bool_byte}
use lib.Bits.{bit_and, bit_or}
use Rattle.wire_fields.specs.Fields.{bit_of}
use Rattle.wire_fields.proofs.Fields.{bit_small, byte_is}
use Rattle.wire_fields.proofs.quantiser_byte.Goals as goal

as_bit : (flag : Bool) → bool_byte flag ≡ bit_of flag
as_bit true = refl
as_bit false = refl

pub returns : goal.returns
returns c =
    let q = c.args.q in
    (λ i. bit_or (bit_or ((c.from.ensures ∙ as_bit q.progressive) i * 128 % 256) ((c.from-2.ensures ∙ as_bit q.reserved) i * 64 % 256)) (bit_and q.value 63))
    ∙ byte_is (bit_of q.progressive) (bit_of q.reserved) q.value (bit_small q.progressive) (bit_small q.reserved)
