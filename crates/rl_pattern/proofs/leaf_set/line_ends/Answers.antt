use Rattle.std.proofs.Common.{ap, ◌∙◌, sym, ◌&&◌, ◌==◌}
use Rattle.std.specs.Prelude.{Some}
use Rattle.rl_ranges.specs.Codes.{is_between}
use Rattle.rl_pattern.specs.Looks.{is_line_end}
use Rattle.rl_pattern.proofs.LeafLaws.{between_one, codes_same}
use Rattle.rl_pattern.proofs.leaf_set.line_ends.Goals as goal

pub returns-then-multiline : goal.returns-then-multiline
returns-then-multiline c =
    codes_same c.range.result (is_between 10 10) (λ x. is_line_end c.args.multiline (Some x)) (λ x. between_one 10 x ∙ sym (ap (λ b. b && x == 10) c.if-multiline.true)) c.range.ensures.members
