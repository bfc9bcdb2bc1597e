use Rattle.std.proofs.Common.{sym, subst, rules}
use Rattle.rl_ranges.specs.Text.{IsText}
use Rattle.rl_judge.specs.Analysis.{IsSuggestedVerdict, text_to_judge}
use Rattle.rl_judge.proofs.Parsing.{parsed_universe}
use Rattle.rl_judge.proofs.analysis.with_pattern.Goals as goal

pub suggestion_beside-requires-clause-text : goal.suggestion_beside-requires-clause-text
suggestion_beside-requires-clause-text c =
    subst (λ u. IsText u c.args.literal.now.codes)
    (sym (parsed_universe c.args.flags c.args.literal.now.universe c.args.literal.now.codes c.args.pattern.now c.requires.parsed))
    c.requires.text

pub returns-clause-right : goal.returns-clause-right
returns-clause-right c = record {
  verdict = c.in_ok-verdict.verdict;
  suggestion = c.in_ok-suggestion.suggestion;
  becomes = c.in_ok-becomes.becomes;
  right = c.in_ok-verdict.ensures.right;
  suggested = c.in_ok-suggestion.ensures.right;
  next =
      subst (λ s. IsSuggestedVerdict c.args.flags c.args.options c.args.literal.now.universe (text_to_judge c.args.options s) c.in_ok-becomes.becomes)
      c.as_ref.ensures.value c.in_ok-becomes.ensures;
  is = search rules;
}
