use Rattle.std.proofs.Common.{◌≡◌, map, replicate}
use Rattle.rl_marks.specs.Marked.{marked_of}
use Rattle.rl_marks.proofs.marking.repeated.Given as goal

abbrev pub invariant-loop : goal.invariant-loop
invariant-loop l = map marked_of l.copies ≡ replicate l.counter (marked_of l.body)
