use Rattle.std.proofs.Common.{◌<◌, ◌≡◌, length, get_or, sym, refl, arith, true≢false}
use Rattle.rl_graph.proofs.PartLaws.{inner-there, inner-none}
use Rattle.rl_graph.proofs.parts.has_inner_on.Goals as goal

pub returns-then-numbers-target : goal.returns-then-numbers-target
returns-then-numbers-target g c =
    let next = g.M.NextStates.next c.args.m.now in
    let lt : c.loop-number.number < length (next c.args.state c.args.letter) = omega (arith, c.count-number-end.ensures) in
    let same : get_or c.args.numbers.now c.target-target.result 0 ≡ get_or c.args.numbers.now c.args.state 0 = cc in
    (λ _. inner-there next c.args.numbers.now c.args.state c.args.letter c.loop-number.number c.target-target.result lt c.target-target.ensures.target same, λ _. refl)

pub returns : goal.returns
returns g c =
    let next = g.M.NextStates.next c.args.m.now in
    (λ e. absurd (true≢false (sym e)), λ m. absurd (inner-none next c.args.numbers.now c.args.state c.args.letter (λ i h. c.loop-number.invariant i (omega (arith, c.count-number-end.ensures))) m))
