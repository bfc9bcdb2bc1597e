use Rattle.std.proofs.Common.{arith, ◌<◌, length}
use Rattle.std.proofs.lemmas.Grind.{common_steps}
use Rattle.rl_source.proofs.Progress.{Progress-more, GainsLess-stopped}
use Rattle.rl_source.proofs.sinks.write_all.Goals as goal

pub loop-rest-preserved : goal.loop-rest-preserved
loop-rest-preserved g c =
    Progress-more _ _ _ _ _ _ _ _ c.in-Ok.taken c.loop-rest.invariant c.in-Ok.ensures.bytes c.in-Ok.ensures.cause.later

pub returns-in-Err-clause-err : goal.returns-in-Err-clause-err
returns-in-Err-clause-err g c =
    let left : 0 < length c.loop-rest.rest.now = grind (arith, common_steps) in
    GainsLess-stopped _ _ _ _ _ _ _ c.loop-rest.invariant left c.in-Err.ensures.bytes
