use Rattle.std.proofs.Common.{◌≡◌, ◌++◌}
use Rattle.std.proofs.Math.ListN.{drop}
use Rattle.rl_marks.specs.internal.Caps.{put}
use Rattle.rl_spans.specs.internal.Puts.{put_unless}
use Rattle.rl_spans.proofs.caps.with_span.Given as goal

abbrev pub invariant-loop-other : goal.invariant-loop-other
invariant-loop-other l = l.list ++ put_unless l.placed l.span (drop l.other-index l.held) ≡ put l.span l.held
