use Rattle.std.proofs.Common.{◌≡◌}
use Rattle.rl_spans.specs.internal.HeldSights.{sight_sought_in}
use Rattle.rl_spans.proofs.finding.sight_sought.Given as goal

abbrev pub invariant-loop-start : goal.invariant-loop-start
invariant-loop-start l = sight_sought_in l.count l.side l.text l.start ≡ sight_sought_in l.count l.side l.text 0
