use Rattle.std.proofs.Common.{◌≡◌, ◌++◌, map, take}
use Rattle.rl_prio.specs.internal.Plans.{target_of}
use Rattle.rl_prio.proofs.build.plan.Plan.put_targets.Given as goal

abbrev pub invariant-loop-attempt : goal.invariant-loop-attempt
invariant-loop-attempt l =
    l.rows ≡ record l.initial.rows { open_row = l.initial.rows.open_row ++ map (target_of l.self l.letter) (take l.attempt-index l.attempts) }
