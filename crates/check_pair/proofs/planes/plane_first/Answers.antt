-- `check_pair::planes::plane_first` meets its contract. The invariant: no sample of the rows before `line` is wrong.
-- Assumes nothing.
use Prim.Native.Nat.{ℕ}
use native.Mathlib.Omega.{arith}
use Rattle.check_pair.specs.Verdict.{part_of, held_of}
use Rattle.check_pair.specs.Rows.{planes_in}
use Rattle.check_pair.proofs.Walk.{line_whole, row_long, walk_end, walk_found, walk_more}
use Rattle.check_pair.proofs.planes.plane_first.Goals.{Start}
use Rattle.check_pair.proofs.planes.plane_first.Goals as goal

-- what the plane is to hold
abbrev held : Start → ℕ → ℕ → ℕ
held s = let a = s.args in held_of a.sent a.layout a.from.stride (planes_in a.from) (part_of a.name)

pub held_row-found-requires-clause-line_fits : goal.held_row-found-requires-clause-line_fits
held_row-found-requires-clause-line_fits c =
    let low = c.loop-line-test.true in
    let line = c.loop-line.line in
    let long = row_long (held (goal.at.held_row-found-requires-clause-line_fits c).Start) c.args.p c.args.plane.now c.requires.y.lent line low in
    record { y = line_whole c.requires.y line _ low long; u = line_whole c.requires.u line _ low long; v = line_whole c.requires.v line _ low long }

pub returns-then-found-n : goal.returns-then-found-n
returns-then-found-n c = walk_found (held (goal.at.returns-then-found-n c).Start) c.args.p c.args.plane.now c.requires.y.lent c.loop-line.line c.loop-line-test.true c.loop-line.invariant c.held_row-found.ensures c.if-found-n.true

pub loop-line-preserved : goal.loop-line-preserved
loop-line-preserved c = walk_more (held (goal.at.loop-line-preserved c).Start) c.args.p c.args.plane.now c.requires.y.lent c.loop-line.line c.loop-line-test.true c.loop-line.invariant c.held_row-found.ensures c.if-found-n.false

pub returns : goal.returns
returns c = walk_end (held (goal.at.returns c).Start) c.args.p c.args.plane.now c.requires.y.lent c.loop-line.line (omega arith) c.loop-line.invariant
