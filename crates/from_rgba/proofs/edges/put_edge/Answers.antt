-- `from_rgba::edges::put_edge` meets its contract: a fresh edge stays, a filled one is filled.
-- Assumes nothing.
use Rattle.lent.specs.Sizes.{round_up}
use Rattle.from_rgba.proofs.EdgeLaws.{plane_kept}
use Rattle.from_rgba.proofs.edges.put_edge.Goals as goal

pub fill_edge-requires : goal.fill_edge-requires
fill_edge-requires c = c.requires

pub returns-in-Fresh : goal.returns-in-Fresh
returns-in-Fresh c = rw c.in-Fresh.is (plane_kept (round_up 16 c.args.width) (round_up 16 c.args.height) c.args.plane.now c.requires)

pub shape_of-plane : goal.shape_of-plane
shape_of-plane c = c.fill_edge.auto.plane

pub returns-in-Filled : goal.returns-in-Filled
returns-in-Filled c = rw c.in-Filled.is c.fill_edge.ensures
