-- The number of a kind is at most 2. Assumes nothing.
use Prim.Native.Nat.{◌≤◌}
use native.Mathlib.Omega.{arith}
use Rattle.wire_fields.specs.declared.kinds.Kind.{Kind}
use Rattle.wire_fields.specs.declared.kinds.Kind.TheVariants.{Both, Luma, Chroma}
use Rattle.wire_fields.specs.Kinds.{number_of}

pub number_small : (k : Kind) → number_of k ≤ 2
number_small Both = omega arith
number_small Luma = omega arith
number_small Chroma = omega arith
