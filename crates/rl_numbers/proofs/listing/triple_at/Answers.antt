use Rattle.std.proofs.Common.{arith}
use Rattle.rl_numbers.proofs.TripleLaws.{some-states, first-below, middle-below, last-below}
use Rattle.rl_numbers.proofs.listing.triple_at.Goals as goal

pub nonzero_div-result : goal.nonzero_div-result
nonzero_div-result c = omega (arith, c.from-count.ensures, some-states c.args.states c.args.code c.requires.inside)

pub nonzero_div-result-2 : goal.nonzero_div-result-2
nonzero_div-result-2 c = omega (arith, c.from-count.ensures, some-states c.args.states c.args.code c.requires.inside)

pub nonzero_div-result-3 : goal.nonzero_div-result-3
nonzero_div-result-3 c = omega (arith, c.from-count.ensures, some-states c.args.states c.args.code c.requires.inside)

pub nonzero_rem-result : goal.nonzero_rem-result
nonzero_rem-result c = omega (arith, c.from-count.ensures, some-states c.args.states c.args.code c.requires.inside)

pub nonzero_rem-result-2 : goal.nonzero_rem-result-2
nonzero_rem-result-2 c = omega (arith, c.from-count.ensures, some-states c.args.states c.args.code c.requires.inside)

pub overflow_cast-result : goal.overflow_cast-result
overflow_cast-result c = omega (arith, c.requires.few, first-below c.args.states c.from-count.result c.args.code c.from-count.ensures c.requires.inside)

pub overflow_cast-result-2 : goal.overflow_cast-result-2
overflow_cast-result-2 c = omega (arith, c.requires.few, middle-below c.args.states c.from-count.result c.args.code c.from-count.ensures c.requires.inside)

pub overflow_cast-result-3 : goal.overflow_cast-result-3
overflow_cast-result-3 c = omega (arith, c.requires.few, last-below c.args.states c.from-count.result c.args.code c.from-count.ensures c.requires.inside)
