use Rattle.std.proofs.Common.{◌≡◌}
use Rattle.std.proofs.Math.ListN.{drop}
use Rattle.rl_marks.specs.internal.MarkItems.{performed}
use Rattle.rl_spans.proofs.caps.after_acts.Given as goal

abbrev pub invariant-loop-act : goal.invariant-loop-act
invariant-loop-act l = performed (drop l.act-index l.acts) l.place l.known ≡ performed l.acts l.place l.caps
