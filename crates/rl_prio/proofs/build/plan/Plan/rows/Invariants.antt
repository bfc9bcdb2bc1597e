use Rattle.std.proofs.Common.{◌≡◌, []}
use Rattle.rl_prio.specs.internal.Plans.{rows_before}
use Rattle.rl_prio.proofs.build.plan.Plan.rows.Given as goal

abbrev pub invariant-loop-state : goal.invariant-loop-state
invariant-loop-state l = l.rows ≡ record { rows = rows_before l.self l.state; open_row = [] }
