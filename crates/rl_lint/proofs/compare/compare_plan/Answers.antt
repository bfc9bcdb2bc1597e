use Rattle.std.proofs.Common.{subst}
use Rattle.std.specs.Str.{chars}
use Rattle.rl_lint.specs.CompareEnding.{CompareEnds}
use Rattle.rl_lint.specs.Patterns.{ParsesThen}
use Rattle.rl_lint.specs.internal.Parsed.{IsArgument}
use Rattle.rl_lint.proofs.PatternLemmas.{ends-refused, ends-parsed}
use Rattle.rl_lint.proofs.compare.compare_plan.Goals as goal

pub returns-in-Refused : goal.returns-in-Refused
returns-in-Refused c =
    let read = subst (λ w. IsArgument (chars c.args.first.now) w) c.in-Refused.is c.in_ok-message.ensures in
    ends-refused _ _ (λ s e. ParsesThen (chars c.args.second.now) c.args.mode (CompareEnds s e)) c.in-Refused.message read

pub returns-in-Parsed : goal.returns-in-Parsed
returns-in-Parsed c =
    let read = subst (λ w. IsArgument (chars c.args.first.now) w) c.in-Parsed.is c.in_ok-message.ensures in
    ends-parsed _ _ (λ s e. ParsesThen (chars c.args.second.now) c.args.mode (CompareEnds s e)) _ c.in-Parsed.first read c.second_plan-plan.ensures
