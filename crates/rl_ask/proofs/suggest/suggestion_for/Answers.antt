use Rattle.std.specs.Str.{chars}
use Rattle.rl_rewrite.specs.RightSuggestion.{IsRightSuggestion}
use Rattle.rl_ask.proofs.AnswerLemmas.{some-right}
use Rattle.rl_ask.proofs.suggest.suggestion_for.Goals as goal

pub returns-in-Some-clause-right : goal.returns-in-Some-clause-right
returns-in-Some-clause-right c =
    some-right c.in_ok-suggestion.field-0 c.in-Some.suggestion (λ flags w limit s. IsRightSuggestion flags c.args.pattern.now w limit s) c.in-Some.is c.in_ok-suggestion.ensures.right c.args.terms.flags (chars c.args.word.now) c.args.pairs
