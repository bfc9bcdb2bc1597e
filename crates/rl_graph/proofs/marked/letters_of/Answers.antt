use Rattle.std.proofs.Common.{◌≡◌, ◌+◌, [], ◌∷◌, ◌++◌, sym, subst}
use Rattle.std.proofs.lemmas.Bool.{both_ways}
use Rattle.rl_graph.specs.internal.Marked.{AreLettersUpTo}
use Rattle.rl_graph.proofs.MarkedLaws.{letters-more, letters-passed}
use Rattle.rl_graph.proofs.marked.letters_of.Goals as goal
use Rattle.rl_graph.proofs.marked.letters_of.Goals.{then-has_moves+in_ok-push, else-has_moves}

pub loop-letter-preserved : goal.loop-letter-preserved
loop-letter-preserved c =
    let g = c.args.g.now in
    let l = c.loop-letter.letter in
    let letters = c.loop-letter.letters.items in
    elim c.if-has_moves.branch [
      | then-has_moves+in_ok-push w ↦
          let e : c.if-has_moves.letters.items ≡ letters ++ l ∷ [] = rw w.letters-is w.in_ok-push.ensures.items in
          subst (AreLettersUpTo g (l + 1)) (sym e) (letters-more g l letters c.loop-letter.invariant)
      | else-has_moves w ↦
          rw w.letters-is (letters-passed g l letters (λ h. both_ways c.has_moves.result w.if-has_moves.false (c.has_moves.ensures.1 h)) c.loop-letter.invariant)
    ]
