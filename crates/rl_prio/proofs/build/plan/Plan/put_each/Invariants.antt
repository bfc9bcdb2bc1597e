use Rattle.std.proofs.Common.{◌≡◌, ◌++◌, take}
use Rattle.rl_prio.specs.internal.Plans.{moves_of}
use Rattle.rl_prio.proofs.build.plan.Plan.put_each.Given as goal

abbrev pub invariant-loop-attempt : goal.invariant-loop-attempt
invariant-loop-attempt l =
    l.rows ≡ record l.initial.rows { open_row = l.initial.rows.open_row ++ moves_of l.self l.held l.letter (take l.attempt-index l.attempts) }
