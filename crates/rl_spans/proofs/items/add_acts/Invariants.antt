use Rattle.std.proofs.Common.{◌≡◌, ◌++◌, take}
use Rattle.rl_spans.proofs.items.add_acts.Given as goal

abbrev pub invariant-loop-act : goal.invariant-loop-act
invariant-loop-act l = l.list ≡ l.fn.list ++ take l.act-index l.acts
