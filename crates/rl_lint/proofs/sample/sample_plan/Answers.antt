use Rattle.std.proofs.Common.{◌∙◌, false, None, ap, subst}
use Rattle.std.specs.List.{list_any}
use Rattle.rl_report.specs.Findings.{is_finding}
use Rattle.rl_report.specs.Layouts.{last_line}
use Rattle.rl_sample.specs.Generator.{source_of}
use Rattle.rl_judge.specs.RightEntries.{AreRight}
use Rattle.rl_lint.specs.Endings.{writes}
use Rattle.rl_lint.proofs.sample.sample_plan.Goals as goal

pub returns : goal.returns
returns c =
    let s = c.args.settings.now in
    let source = source_of c.args.seed c.args.count in
    let entries = c.in_ok-entries.entries in
    record {
      entries = entries;
      right = subst (λ p. AreRight p source s entries) c.in_ok-path.ensures (subst (λ t. AreRight c.in_ok-path.path t s entries) (c.as_slice.ensures ∙ c.in_ok-source.ensures) c.in_ok-entries.ensures.right);
      ends = ap (λ t. writes t c.has_finding-finding.result false) c.in_ok-text.ensures
          ∙ ap (λ f. writes (last_line s.max_degree None entries) f false) (c.has_finding-finding.ensures ∙ ap (list_any (is_finding s.max_degree)) c.as_slice-2.ensures);
    }
