-- The top bit of each lane is the answer of the test.
use Rattle.std.proofs.Common.{not, ◌∙◌}
use Rattle.std.proofs.lemmas.List.{length-map}
use Rattle.rl_pylex.specs.internal.Bodies.{is_plain}
use Rattle.rl_pylex.proofs.Lanes.{mask_is, plain_lanes}
use Rattle.rl_pylex.proofs.blocks.plain_stops.Goals as goal

pub returns : goal.returns
returns c = mask_is _ _ (plain_lanes c.args.block c.fits-block) (length-map c.args.block (λ x. not (is_plain x)) ∙ c.fits-block.0)
