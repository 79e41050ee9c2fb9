-- `from_rgba::edges::fill_edge` meets its contract: where a side is 0 the plane has no byte; else the columns, then the rows, are filled.
-- Assumes nothing.
use Prim.Native.Nat.{◌<◌}
use native.Mathlib.Omega.{arith}
use mathlib.Core.Path.{ap, ◌∙◌}
use mathlib.Core.Logic.{inl, inr}
use Rattle.lent.specs.Sizes.{round_up}
use Rattle.from_rgba.proofs.EdgeLaws.{edge_none, edge_filled}
use Rattle.from_rgba.proofs.edges.fill_edge.Goals.{Else-height-eq0}
use Rattle.from_rgba.proofs.edges.fill_edge.Goals as goal

pub returns-then-width-eq0 : goal.returns-then-width-eq0
returns-then-width-eq0 c = edge_none _ _ _ _ (inl (ap (round_up 16) c.if-width-eq0.true))

pub returns-then-height-eq0 : goal.returns-then-height-eq0
returns-then-height-eq0 c = edge_none _ _ _ _ (inr (ap (round_up 16) c.if-height-eq0.true))

-- no side is 0
some : (c : Else-height-eq0) → let a = c.args in (0 < a.width) × (0 < a.height)
some c = (omega (arith, c.if-width-eq0.false), omega (arith, c.if-height-eq0.false))

pub fill_columns-requires : goal.fill_columns-requires
fill_columns-requires c =
    record {
      width_in_bounds = c.requires;
      width_nonzero = (some (goal.at.fill_columns-requires c).Else-height-eq0).0;
    }

pub fill_rows-requires : goal.fill_rows-requires
fill_rows-requires c =
    record {
      width_in_bounds = omega (arith, c.requires, c.fill_columns.auto.plane);
      height_nonzero = (some (goal.at.fill_rows-requires c).Else-height-eq0).1;
    }

pub shape_of-plane : goal.shape_of-plane
shape_of-plane c = c.fill_rows.auto.plane ∙ c.fill_columns.auto.plane

pub returns : goal.returns
returns c =
    let a = c.args in
    edge_filled (round_up 16 a.width) (round_up 16 a.height) a.width a.height a.plane.now c.requires (some (goal.at.returns c).Else-height-eq0).0 (omega arith) (some (goal.at.returns c).Else-height-eq0).1 (omega arith) c.fill_columns.ensures c.fill_rows.ensures
