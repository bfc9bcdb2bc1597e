use Rattle.std.proofs.Common.{◌≡◌, ◌-◌, ◌≤◌, false, length, filter, get_or}
use Rattle.rl_sets.specs.Live.{below}
use Rattle.rl_sets.proofs.rows.members.Given as goal

abbrev pub invariant-loop-state : goal.invariant-loop-state
invariant-loop-state l = (l.members.items ≡ filter (λ q. get_or l.row q false) (below l.from)) × (l.from ≤ length l.row)

abbrev pub decreases-loop-state : goal.decreases-loop-state
decreases-loop-state l = length l.row - l.from
