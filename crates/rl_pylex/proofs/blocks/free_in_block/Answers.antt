-- The lowest bit of the mask is the first stop.
use Rattle.rl_pylex.proofs.Lanes.{clear_lanes}
use Rattle.rl_pylex.proofs.blocks.free_in_block.Goals as goal

pub returns-clause-few : goal.returns-clause-few
returns-clause-few c =
    (clear_lanes c.args.name.now c.args.text.now c.args.at c.lowest.result c.stops.result c.requires.room c.requires.long c.stops.ensures c.lowest.ensures).0

pub returns-clause-free : goal.returns-clause-free
returns-clause-free c =
    (clear_lanes c.args.name.now c.args.text.now c.args.at c.lowest.result c.stops.result c.requires.room c.requires.long c.stops.ensures c.lowest.ensures).1
