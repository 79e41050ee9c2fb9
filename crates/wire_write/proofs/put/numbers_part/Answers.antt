-- `wire_write::put::numbers_part` meets its contract: what went into the array comes out of it.
-- Assumes nothing.
use Prim.Native.Nat.{ℕ}
use native.Mathlib.Omega.{arith}
use mathlib.Core.Path.{refl, ap, ◌∙◌}
use mathlib.Core.List.{List}
use lib.ListN.{length, take}
use Rattle.wire_write.proofs.Front.{take-paint}
use Rattle.wire_write.specs.Stream.{number_bytes}
use Rattle.wire_write.proofs.put.numbers_part.Goals as goal

pub returns : goal.returns
returns c =
    let ns = c.args.numbers.now in
    c.numbers_out.ensures ∙ ap (λ (t : List ℕ). number_bytes (take (length ns) t)) c.numbers_in.ensures ∙ ap number_bytes (take-paint _ ns (length ns) refl (omega arith))
