-- `colour::forward_by` meets its contract: each matrix has its own rules. Assumes nothing.
use Rattle.colour.proofs.forward_by.Goals as goal

pub returns-in-Full : goal.returns-in-Full
returns-in-Full c = rw c.in-Full.is c.forward.ensures

pub returns-in-Limited : goal.returns-in-Limited
returns-in-Limited c = rw c.in-Limited.is c.forward-in-Limited.ensures
