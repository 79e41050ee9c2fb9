-- One byte stored, and the place after it. Assumes nothing.
use Rattle.colours.proofs.Text.{put_one}
use Rattle.colours.proofs.put.Goals as goal

pub returns : goal.returns
returns c = put_one c.args.out.now c.args.at c.args.b c.requires
