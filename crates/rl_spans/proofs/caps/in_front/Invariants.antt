use Rattle.std.proofs.Common.{◌≡◌, ◌∷◌, take}
use Rattle.rl_spans.proofs.caps.in_front.Given as goal

abbrev pub invariant-loop-other : goal.invariant-loop-other
invariant-loop-other l = l.list ≡ l.fn.item ∷ take l.other-index l.items
