use Rattle.std.proofs.Common.{◌≡◌, map, suc, take}
use Rattle.rl_marks.specs.internal.Caps.{span_named}
use Rattle.rl_spans.proofs.stepping.shifted_spans.Given as goal

abbrev pub invariant-loop-span : goal.invariant-loop-span
invariant-loop-span l = l.list ≡ map (span_named suc) (take l.span-index l.spans)
