-- `view::chroma` meets its contract: the halves are those that `lent::half_up` answers.
-- Assumes nothing.
use Rattle.view.proofs.chroma.Goals as goal

pub returns : goal.returns
returns c = cc
