use Rattle.std.proofs.Common.{refl}
use Rattle.rl_lanes.proofs.WordLemmas.{any_lane_is}
use Rattle.rl_lanes.proofs.words.any_lane.Goals as goal

pub returns : goal.returns
returns c = any_lane_is c.args.lanes _ refl
