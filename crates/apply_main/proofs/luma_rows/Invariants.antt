use Rattle.lent.specs.Samples.{sample}
use Rattle.picture.specs.Sizes.{stride_of, rows_of}
use Rattle.apply_main.proofs.RectRows.{BoxRows}
use Rattle.apply_main.proofs.luma_rows.Given as goal

abbrev pub invariant-loop-row : goal.invariant-loop-row
invariant-loop-row l = BoxRows (stride_of l.size) (rows_of l.size) l.area l.from.height (sample l.vy l.from.stride) l.initial.y l.y l.row
