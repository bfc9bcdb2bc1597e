-- The lowest bit of the mask is the end of the run.
use Rattle.rl_pylex.specs.internal.Bodies.{is_plain}
use Rattle.rl_pylex.proofs.Lanes.{front}
use Rattle.rl_pylex.proofs.blocks.plain_in_block.Goals as goal

pub returns : goal.returns
returns c = front is_plain c.args.at c.lowest.result c.plain_stops.result c.args.text.now c.requires c.plain_stops.ensures c.lowest.ensures
