-- `strict::lists::fault_of` meets its contract: each return is the first of the four tests that held, which is when that fault is the rectangle's
-- (proofs/Faults.antt); where none held the rectangle is sound.
-- Assumes nothing.
use mathlib.Core.Path.{sym}
use Rattle.strict.proofs.Faults.{fault_0_exactly, fault_1_exactly, fault_2_exactly, fault_3_exactly, fault_4_exactly}
use Rattle.strict.proofs.lists.fault_of.Goals as goal

pub returns-then-rect : goal.returns-then-rect
returns-then-rect c =
    let a = c.args in
    sym ((fault_1_exactly a.size a.rect).1 c.if-rect.true)

pub returns-then-rect-2 : goal.returns-then-rect-2
returns-then-rect-2 c =
    let a = c.args in
    sym ((fault_2_exactly a.size a.rect).1 (c.if-rect.false, c.if-rect-2.true))

pub returns-then-size-rect : goal.returns-then-size-rect
returns-then-size-rect c =
    let a = c.args in
    sym ((fault_3_exactly a.size a.rect).1 ((c.if-rect.false, c.if-rect-2.false), c.if-size-rect.true))

pub returns-then-size-rect-2 : goal.returns-then-size-rect-2
returns-then-size-rect-2 c =
    let a = c.args in
    sym ((fault_4_exactly a.size a.rect).1 ((c.if-rect.false, (c.if-rect-2.false, c.if-size-rect.false)), c.if-size-rect-2.true))

pub returns : goal.returns
returns c =
    let a = c.args in
    sym ((fault_0_exactly a.size a.rect).1 (record { wide = c.if-rect.false; high = c.if-rect-2.false; right_inside = c.if-size-rect.false; bottom_inside = c.if-size-rect-2.false }))
