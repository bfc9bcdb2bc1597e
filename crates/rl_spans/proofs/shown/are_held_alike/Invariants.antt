use Rattle.std.proofs.Common.{◌≡◌, map}
use Rattle.std.proofs.Math.ListN.{drop}
use Rattle.rl_ranges.specs.Codes.{has}
use Rattle.rl_ranges.specs.Letters.{alike}
use Rattle.rl_spans.proofs.shown.are_held_alike.Given as goal

abbrev pub invariant-loop-set : goal.invariant-loop-set
invariant-loop-set l = alike (map has (drop l.set-index l.sets)) l.code l.other ≡ alike (map has l.sets) l.code l.other
