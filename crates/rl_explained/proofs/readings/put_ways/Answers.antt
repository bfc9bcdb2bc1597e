use Rattle.std.proofs.Common.{ap, ◌∙◌}
use Rattle.serde_json.specs.Written.{members_have_float}
use Rattle.rl_explained.proofs.Plain.{reading-plain}
use Rattle.rl_explained.proofs.readings.put_ways.Goals as goal

pub returns-clause-no_float : goal.returns-clause-no_float
returns-clause-no_float c =
    λ h. ap members_have_float c.in_ok-put_reading.ensures ∙ reading-plain c.args.universe c.pumps_of.result.now c.args.explained.now.reading _ h
