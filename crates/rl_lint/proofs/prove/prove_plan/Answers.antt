use Rattle.std.proofs.Common.{subst}
use Rattle.std.specs.Str.{chars}
use Rattle.rl_lint.specs.ProveEnding.{ProveEnds}
use Rattle.rl_lint.specs.Patterns.{text_question}
use Rattle.rl_lint.specs.internal.Parsed.{IsArgument}
use Rattle.rl_lint.proofs.PatternLemmas.{ends-refused, ends-parsed}
use Rattle.rl_lint.proofs.prove.prove_plan.Goals as goal

pub returns-in-Refused : goal.returns-in-Refused
returns-in-Refused c =
    let read = subst (λ w. IsArgument (chars c.args.pattern.now) w) c.in-Refused.is c.in_ok-message.ensures in
    ends-refused _ _ (λ t at. ProveEnds (text_question _ t at)) c.in-Refused.message read

pub returns-in-Parsed : goal.returns-in-Parsed
returns-in-Parsed c =
    let read = subst (λ w. IsArgument (chars c.args.pattern.now) w) c.in-Parsed.is c.in_ok-message.ensures in
    ends-parsed _ _ (λ t at. ProveEnds (text_question _ t at)) _ c.in-Parsed.pattern read c.pattern_plan-plan.ensures
