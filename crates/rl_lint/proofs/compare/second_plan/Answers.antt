use Rattle.std.proofs.Common.{subst}
use Rattle.std.specs.Str.{chars}
use Rattle.rl_syntax.specs.Pattern.{pattern_ending, pattern_tree}
use Rattle.rl_lint.specs.CompareEnding.{CompareEnds}
use Rattle.rl_lint.specs.internal.Parsed.{IsArgument}
use Rattle.rl_lint.proofs.PatternLemmas.{ends-refused, ends-parsed}
use Rattle.rl_lint.proofs.compare.second_plan.Goals as goal

pub returns-in-Refused : goal.returns-in-Refused
returns-in-Refused c =
    let read = subst (λ w. IsArgument (chars c.args.second.now) w) c.in-Refused.is c.in_ok-message.ensures in
    ends-refused _ _ (CompareEnds (pattern_tree c.args.first.now c.args.mode) (pattern_ending c.args.first.now c.args.mode)) c.in-Refused.message read

pub returns-in-Parsed : goal.returns-in-Parsed
returns-in-Parsed c =
    let read = subst (λ w. IsArgument (chars c.args.second.now) w) c.in-Parsed.is c.in_ok-message.ensures in
    ends-parsed _ _ (CompareEnds (pattern_tree c.args.first.now c.args.mode) (pattern_ending c.args.first.now c.args.mode)) _ c.in-Parsed.second read c.patterns_plan-plan.ensures
