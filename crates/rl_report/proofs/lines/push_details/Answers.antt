use Rattle.std.proofs.Common.{Bor}
use Rattle.std.specs.Prelude.{IfSome}
use Rattle.rl_ranges.specs.Text.{IsText}
use Rattle.rl_syntax.specs.declared.verdict.Suggestion.{Suggestion}
use Rattle.rl_syntax.specs.declared.verdict.Verdict.{Verdict}
use Rattle.rl_report.specs.Verdicts.{IsVerdictOf}
use Rattle.rl_report.proofs.PartLemmas.{if_referred}
use Rattle.rl_report.proofs.lines.push_details.Goals as goal

pub push_family_of-requires : goal.push_family_of-requires
push_family_of-requires c =
    if_referred (λ (v : Bor Verdict). v.now) (IsVerdictOf c.args.entry.now.universe) c.verdict.result _ c.verdict.ensures c.requires.0

pub push_suggestion-requires : goal.push_suggestion-requires
push_suggestion-requires c =
    if_referred (λ (s : Bor Suggestion). s.now) (λ (s : Suggestion). IfSome s.text (IsText c.args.entry.now.universe)) c.suggestion.result _ c.suggestion.ensures c.requires.1
