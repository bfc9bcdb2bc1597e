use Rattle.std.proofs.Common.{◌≡◌}
use Rattle.std.proofs.Math.ListN.{drop}
use Rattle.rl_spans.specs.internal.Shown.{all_met}
use Rattle.rl_spans.proofs.threads.are_allowed.Given as goal

abbrev pub invariant-loop-act : goal.invariant-loop-act
invariant-loop-act l = all_met (drop l.act-index l.acts) l.before l.next ≡ all_met l.acts l.before l.next
