use Rattle.std.proofs.Common.{List, ℕ, Option, length, subst}
use Rattle.std.specs.Prelude.{IfSome}
use Rattle.rl_syntax.specs.declared.verdict.Suggestion.{Suggestion}
use Rattle.rl_pattern.specs.declared.flags.Flags.{Flags}
use Rattle.rl_rewrite.specs.RightSuggestion.{IsRightSuggestion}
use Rattle.rl_judge.proofs.Spans.{placed_within}
use Rattle.rl_judge.proofs.Suggestions.{right_reads}
use Rattle.rl_judge.proofs.suggestion.suggestion_for.Goals as goal

pub unreachable-requires : goal.unreachable-requires
unreachable-requires c =
    c.requires.small c.in-Err-Limit.field-0-0 (c.in-Err-Limit.ensures.passed c.in-Err-Limit.field-0-0 c.in-Err-Limit.field-0-is)

pub returns-in-Ok-clause-within : goal.returns-in-Ok-clause-within
returns-in-Ok-clause-within c = record {
  dropped = placed_within (length c.args.codes.now) c.in-Ok.suggestion.dropped c.in-Ok.ensures.dropped_placed;
  passed = placed_within (length c.args.codes.now) c.in-Ok.suggestion.passed c.in-Ok.ensures.passed_placed;
}

pub returns-in-Ok-clause-readable : goal.returns-in-Ok-clause-readable
returns-in-Ok-clause-readable c =
    right_reads c.args.flags c.args.pattern.now c.args.codes.now 20000 c.in-Ok.suggestion c.in-Ok.ensures.right

pub returns-in-Some-clause-right : goal.returns-in-Some-clause-right
returns-in-Some-clause-right c =
    subst (λ (o : Option Suggestion). IfSome o (λ s. (flags : Flags) (codes : List ℕ) (limit : ℕ) → IsRightSuggestion flags c.args.pattern.now codes limit s)) c.in-Some.is c.in_ok-suggestion.ensures.right
    c.args.flags c.args.codes.now 20000
