use Rattle.lent.specs.Sizes.{round_up}
use Rattle.from_rgba.specs.Rows.{input_at}
use Rattle.from_rgba.proofs.Converted.{RowsSoFar}
use Rattle.from_rgba.proofs.rows.forward_rows.Given as goal

abbrev pub invariant-loop-row : goal.invariant-loop-row
invariant-loop-row l =
    RowsSoFar l.stride (round_up 16 l.height) l.width l.height (λ r c. (input_at l.matrix l.rgba l.width r c).y) l.initial.y l.y l.row
    × RowsSoFar l.stride (round_up 16 l.height) l.width l.height (λ r c. (input_at l.matrix l.rgba l.width r c).u) l.initial.u l.u l.row
    × RowsSoFar l.stride (round_up 16 l.height) l.width l.height (λ r c. (input_at l.matrix l.rgba l.width r c).v) l.initial.v l.v l.row
