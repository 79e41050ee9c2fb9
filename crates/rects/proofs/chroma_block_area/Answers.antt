-- `rects::chroma_block_area` meets its contract: each edge comes from its own call.
-- Assumes nothing.
use Rattle.rects.proofs.chroma_block_area.Goals as goal

pub returns : goal.returns
returns c = λ i. record {
  left = c.edge_down.ensures i;
  top = c.edge_down-2.ensures i;
  right = c.edge_up.ensures i;
  bottom = c.edge_up-2.ensures i;
}
