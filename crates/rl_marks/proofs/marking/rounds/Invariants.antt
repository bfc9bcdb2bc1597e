use Rattle.std.proofs.Common.{◌≡◌}
use Rattle.rl_marks.specs.Marked.{marked_of}
use Rattle.rl_marks.specs.Marking.{options}
use Rattle.rl_marks.specs.internal.Parts.{marked_of_option}
use Rattle.rl_marks.proofs.marking.rounds.Given as goal

abbrev pub invariant-loop : goal.invariant-loop
invariant-loop l = marked_of_option l.rest ≡ options l.greedy (marked_of l.body) l.counter
