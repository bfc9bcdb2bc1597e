use Rattle.std.proofs.Common.{◌≡◌, IfOk, ap, subst, ◌∙◌}
use Rattle.rl_pattern.specs.Cut.{remaining}
use Rattle.rl_pattern.specs.Suggested.{among, no_span, merged_in}
use Rattle.rl_rewrite.proofs.suggesting.merged_of.Goals as goal

pub returns : goal.returns
returns c =
    subst (λ spans. IfOk c.all_merged-merged.result (λ all. all ≡ spans))
    (ap merged_in (c.in_ok-left.ensures ∙ ap (remaining (among c.args.dropped.now) no_span) c.body.ensures.same))
    c.all_merged-merged.ensures
