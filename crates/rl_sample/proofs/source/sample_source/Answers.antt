use Rattle.std.proofs.Common.{◌++◌, ◌∙◌, ap, sym}
use Rattle.rl_sample.specs.Generator.{line_of, next_value, source_of}
use Rattle.rl_sample.proofs.SourceLemmas.{source_of-more, value_at-more}
use Rattle.rl_sample.proofs.source.sample_source.Goals as goal

pub loop-line-preserved : goal.loop-line-preserved
loop-line-preserved c =
    let so_far = c.loop-line.invariant in
    let next = c.next_value-value.ensures.follows ∙ ap next_value so_far.value_is ∙ sym (value_at-more c.args.seed c.loop-line._line) in
    record {
      value_is = next;
      below = c.next_value-value.ensures.below;
      text_is = c.in_ok-push_line.ensures ∙ ap (λ t. t ++ line_of c.next_value-value.result) so_far.text_is
          ∙ ap (λ x. source_of c.args.seed c.loop-line._line ++ line_of x) next ∙ sym (source_of-more c.args.seed c.loop-line._line);
    }
