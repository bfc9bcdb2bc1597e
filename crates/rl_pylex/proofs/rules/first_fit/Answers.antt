-- The first byte can't begin a piece of any other rule.
use Rattle.rl_pylex.proofs.Firsts.{operator_at, name_at}
use Rattle.rl_pylex.proofs.FirstBytes.{literal_rows_at, number_rows_at, new_line_at, comment_at}
use Rattle.rl_pylex.proofs.rules.first_fit.Goals as goal

pub returns-in-len1-up : goal.returns-in-len1-up
returns-in-len1-up c =
    name_at c.args.depth c.name_size.result c.args.text.now c.in-len1-up.len_at_least c.if-starts_plain_name.ensures c.name_size.ensures

pub returns-in-len1-up-2 : goal.returns-in-len1-up-2
returns-in-len1-up-2 c =
    operator_at c.args.depth c.args.text.now c.in-len1-up.len_at_least c.if-is_plain_operator.ensures

pub returns-in-len1-up-3 : goal.returns-in-len1-up-3
returns-in-len1-up-3 c =
    literal_rows_at c.args.depth c.try_literal_on.result c.args.text.now c.in-len1-up.len_at_least c.if-starts_literal.ensures c.try_literal_on.ensures

pub returns-in-len1-up-4 : goal.returns-in-len1-up-4
returns-in-len1-up-4 c =
    number_rows_at c.args.depth c.try_number_on.result c.args.text.now c.in-len1-up.len_at_least c.if-starts_number.ensures c.try_number_on.ensures

pub returns-in-len1-up-5 : goal.returns-in-len1-up-5
returns-in-len1-up-5 c =
    new_line_at c.args.depth c.line_end.result c.line_end_kind.result c.args.text.now c.in-len1-up.len_at_least c.if-ends_line.ensures c.line_end_kind.ensures c.line_end.ensures.value

pub returns-in-len1-up-6 : goal.returns-in-len1-up-6
returns-in-len1-up-6 c =
    comment_at c.args.depth c.line_size.result c.args.text.now c.in-len1-up.len_at_least c.if-byte-eq35.true c.line_size.ensures.value
