use Rattle.std.proofs.Common.{◌∙◌, ap}
use Rattle.rl_syntax.specs.declared.verdict.Limit.TheVariants as exceeded
use Rattle.rl_rewrite.specs.declared.suggesting.SuggestError.TheVariants as error
use Rattle.rl_ask.proofs.suggest.pattern_answer.Goals as goal

pub unreachable-requires : goal.unreachable-requires
unreachable-requires c =
    c.in-Err-Limit-Sets.ensures.exceeded exceeded.Sets (c.in-Err-Limit-Sets.field-0-is ∙ ap error.Limit c.in-Err-Limit-Sets.field-0-0-is)

pub unreachable-requires-in-Err-Limit-Pairs : goal.unreachable-requires-in-Err-Limit-Pairs
unreachable-requires-in-Err-Limit-Pairs c =
    c.in-Err-Limit-Pairs.ensures.exceeded exceeded.Pairs (c.in-Err-Limit-Pairs.field-0-is ∙ ap error.Limit c.in-Err-Limit-Pairs.field-0-0-is)

pub returns-in-Err-Limit-Size : goal.returns-in-Err-Limit-Size
returns-in-Err-Limit-Size c =
    c.in-Err-Limit-Size.ensures.exceeded exceeded.Size (c.in-Err-Limit-Size.field-0-is ∙ ap error.Limit c.in-Err-Limit-Size.field-0-0-is)

pub returns-in-Err-Limit-Letters : goal.returns-in-Err-Limit-Letters
returns-in-Err-Limit-Letters c =
    c.in-Err-Limit-Letters.ensures.exceeded exceeded.Letters (c.in-Err-Limit-Letters.field-0-is ∙ ap error.Limit c.in-Err-Limit-Letters.field-0-0-is)

pub returns-in-Err-Limit-Moves : goal.returns-in-Err-Limit-Moves
returns-in-Err-Limit-Moves c =
    c.in-Err-Limit-Moves.ensures.exceeded exceeded.Moves (c.in-Err-Limit-Moves.field-0-is ∙ ap error.Limit c.in-Err-Limit-Moves.field-0-0-is)
