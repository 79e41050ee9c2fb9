-- `to_rgba::put_lines` meets its contract: each matrix has its own rows. Assumes nothing.
use Rattle.to_rgba.proofs.put_lines.Goals as goal

pub returns-in-Full : goal.returns-in-Full
returns-in-Full c = rw c.in-Full.is c.view_lines.ensures

pub returns-in-Limited : goal.returns-in-Limited
returns-in-Limited c = rw c.in-Limited.is c.limited_lines.ensures
