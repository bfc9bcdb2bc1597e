use Rattle.std.proofs.Common.{◌/◌, ◌%◌, get_or, false, true≢false, sym, ◌∙◌}
use Rattle.std.proofs.lemmas.Bool.{and_from}
use Rattle.std.proofs.lemmas.Nat.{div_below, mod_below}
use Rattle.rl_graph.proofs.MarkedLaws.{listed-loop}
use Rattle.rl_graph.proofs.ProductLaws.{some-width}
use Rattle.rl_graph.proofs.marked.MarkedPairsNextStates.may_loop.Goals as goal

pub returns-else-self-from : goal.returns-else-self-from
returns-else-self-from c =
    let m = c.args.self.now in
    λ l h. absurd (true≢false (sym (listed-loop m.graph.now m.marks.now m.letters.now m.repeats.now c.args.from l c.states-states.ensures.whole h).0 ∙ c.if-self-from.false))

pub returns-then-self-from : goal.returns-then-self-from
returns-then-self-from c =
    let m = c.args.self.now in
    let n = m.graph.now.states in
    let x = c.args.from in
    let some = some-width n n x c.requires in
    λ l h.
    let a = listed-loop m.graph.now m.marks.now m.letters.now m.repeats.now x l c.states-states.ensures.whole h in
    c.loop_both.ensures
    ∙ and_from (get_or m.loops.now (x / n) false) (get_or m.loops.now (x % n) false)
    (m.looping (x / n) (get_or m.letters.now l 0) (div_below x n n some c.requires) a.1) (m.looping (x % n) (get_or m.letters.now l 0) (mod_below x n some) a.2)
