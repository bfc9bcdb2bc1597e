use Rattle.std.proofs.Common.{◌≡◌, true, arith}
use Rattle.rl_judge.specs.internal.Conditions.{has_suggestion}
use Rattle.rl_judge.specs.Analysis.{question_of}
use Rattle.rl_judge.proofs.Suggestions.{small_beside}
use Rattle.rl_judge.proofs.Wrapping.{small_whole}
use Rattle.rl_judge.proofs.suggestion.suggestion_beside.Goals as goal

pub suggestion_for-requires-clause-small : goal.suggestion_for-requires-clause-small
suggestion_for-requires-clause-small c =
    let beside : has_suggestion c.args.verdict.now ≡ true = grind (arith, c.has_suggestion.ensures, c.if-not-has_suggestion.false) in
    small_whole c.args.pattern.now c.args.options
    (small_beside (question_of c.args.pattern.now c.args.options) c.args.verdict.now c.requires.verdict beside)
