-- The lowest bit of the mask is the end of the run.
use Rattle.rl_pylex.specs.Bytes.{in_line}
use Rattle.rl_pylex.proofs.Lanes.{front}
use Rattle.rl_pylex.proofs.blocks.line_in_block.Goals as goal

pub returns : goal.returns
returns c = front in_line c.args.at c.lowest.result c.line_stops.result c.args.text.now c.requires c.line_stops.ensures c.lowest.ensures
