use Rattle.std.proofs.Common.{Bor}
use Rattle.std.specs.Prelude.{IfSome}
use Rattle.rl_ranges.specs.Text.{IsText}
use Rattle.rl_syntax.specs.declared.verdict.Suggestion.{Suggestion}
use Rattle.rl_syntax.specs.declared.verdict.Verdict.{Verdict}
use Rattle.rl_report.specs.Verdicts.{IsVerdictOf}
use Rattle.rl_report.proofs.PartLemmas.{if_referred}
use Rattle.rl_report.proofs.document.put_judged.Goals as goal

pub put_family_of-requires : goal.put_family_of-requires
put_family_of-requires c =
    if_referred (λ (v : Bor Verdict). v.now) (IsVerdictOf c.args.entry.now.universe) c.verdict.result _ c.verdict.ensures c.requires.0

pub put_suggestion-requires : goal.put_suggestion-requires
put_suggestion-requires c =
    if_referred (λ (s : Bor Suggestion). s.now) (λ (s : Suggestion). IfSome s.text (IsText c.args.entry.now.universe)) c.suggestion.result _ c.suggestion.ensures c.requires.1
