use Rattle.rl_pattern.specs.internal.Views.{whole_of}
use Rattle.rl_pattern.proofs.InnerBare.{left_pattern}
use Rattle.rl_pattern.proofs.parsing.outcome.Goals as goal

pub pattern_of-requires : goal.pattern_of-requires
pattern_of-requires c =
    left_pattern c.args.profile c.args.universe c.args.flags c.is_text.result (whole_of c.args.whole) c.in_ok-fault.field-0 c.in-Left.left c.is_text.ensures c.requires (c.in_ok-fault.ensures {u = tt}) c.in-Left.is
