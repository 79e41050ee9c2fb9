-- `picture::fill_plane` meets its contract: the front of the buffer, painted whole, is the plane painted whole.
-- Assumes nothing.
use mathlib.Core.Path.{sym}
use lib.Seq.{length-take-le}
use Rattle.lent.proofs.Parts.{painted_front}
use Rattle.picture.proofs.fill_plane.Goals as goal

pub slice_bounds-fill-end-2 : goal.slice_bounds-fill-end-2
slice_bounds-fill-end-2 c = sym (length-take-le _ _ c.requires)

pub returns : goal.returns
returns c = painted_front c.args.stride c.args.rows _ c.args.plane.now _ c.requires c.fill.ensures
