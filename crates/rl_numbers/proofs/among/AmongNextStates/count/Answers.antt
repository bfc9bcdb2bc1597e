use Rattle.std.proofs.Common.{length, sym, ap, arith}
use Rattle.rl_graph.proofs.Sums.{at-get_or}
use Rattle.rl_numbers.proofs.TripleLaws.{triples-few}
use Rattle.rl_numbers.proofs.AmongLaws.{among-count, among-none}
use Rattle.rl_numbers.proofs.among.AmongNextStates.count.Goals as goal

pub overflow_add-result : goal.overflow_add-result
overflow_add-result c =
    omega (arith, c.count.ensures, triples-few c.args.self.now.level.now c.index-triple.result.now c.args.letter (record { few_states = c.graph-graph.ensures.few_states; few_moves = c.graph-graph.ensures.few_moves }))

pub returns-then-triple-states : goal.returns-then-triple-states
returns-then-triple-states c =
    let keys = c.args.self.now.keys.now.keys in
    among-count c.args.self.now.level.now keys c.args.from c.args.letter c.index-triple.result.now c.count.result c.requires.state_in
    (sym (at-get_or keys c.args.from c.index-triple.result.now 0 c.index-triple.ensures)) (omega (arith, c.states.ensures.number, c.if-triple-states.true)) c.requires.letter_in c.count.ensures

pub returns-else-triple-states : goal.returns-else-triple-states
returns-else-triple-states c =
    let keys = c.args.self.now.keys.now.keys in
    sym (ap length (among-none c.args.self.now.level.now keys c.args.from c.args.letter c.index-triple.result.now
    (sym (at-get_or keys c.args.from c.index-triple.result.now 0 c.index-triple.ensures)) (omega (arith, c.states.ensures.number, c.if-triple-states.false))))
