use Rattle.std.proofs.Common.{◌≡◌, ◌++◌, [], map}
use Rattle.std.specs.List.{range_with_len}
use Rattle.rl_prio.specs.internal.Plans.{row_of}
use Rattle.rl_prio.proofs.build.plan.Plan.put_guarded.Given as goal

abbrev pub invariant-loop-letter : goal.invariant-loop-letter
invariant-loop-letter l =
    l.rows ≡ record { rows = l.initial.rows.rows ++ map (row_of l.self l.before l.attempts) (range_with_len 0 l.letter); open_row = [] }
