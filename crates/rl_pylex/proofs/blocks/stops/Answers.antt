-- The top bit of each lane is the answer of the test.
use Rattle.std.proofs.Common.{refl}
use Rattle.rl_pylex.proofs.Lanes.{mask_is, stop_lanes}
use Rattle.rl_pylex.proofs.blocks.stops.Goals as goal

pub returns : goal.returns
returns c =
    mask_is _ _ (stop_lanes c.args.first c.args.second c.args.block c.args.behind c.args.after c.odd_kinds.result c.fits-block.0 c.fits-behind.0 c.fits-after c.odd_kinds.ensures) refl
