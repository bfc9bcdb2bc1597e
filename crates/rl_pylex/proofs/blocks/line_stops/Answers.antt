-- The top bit of each lane is the answer of the test.
use Rattle.std.proofs.Common.{not, ◌∙◌}
use Rattle.std.proofs.lemmas.List.{length-map}
use Rattle.rl_pylex.specs.Bytes.{in_line}
use Rattle.rl_pylex.proofs.Lanes.{mask_is, line_lanes}
use Rattle.rl_pylex.proofs.blocks.line_stops.Goals as goal

pub returns : goal.returns
returns c = mask_is _ _ (line_lanes c.args.block c.fits-block) (length-map c.args.block (λ x. not (in_line x)) ∙ c.fits-block.0)
