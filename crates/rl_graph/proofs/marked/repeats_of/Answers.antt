use Rattle.std.proofs.Common.{◌≡◌, ℕ, ◌+◌, ◌*◌, length, sym, subst, arith, mul_comm}
use Rattle.rl_graph.specs.Graph.{edges_of}
use Rattle.rl_graph.specs.internal.Marked.{AreRepeatsUpTo}
use Rattle.rl_graph.proofs.MarkedLaws.{repeats-more}
use Rattle.rl_graph.proofs.marked.repeats_of.Goals as goal

pub loop-place-init : goal.loop-place-init
loop-place-init c =
    subst (λ (z : ℕ). AreRepeatsUpTo (edges_of c.args.g.now) z c.args.letters.now c.loop-state.repeats.items) (omega arith) c.loop-state.invariant

pub loop-place-preserved : goal.loop-place-preserved
loop-place-preserved c =
    let next = edges_of c.args.g.now in
    let letters = c.args.letters.now in
    let q = c.loop-state.state in
    let k = c.loop-place.place in
    let more = repeats-more next letters c.loop-place.repeats.items q k c.is_repeat.result (omega (arith, c.loop-place-test.true)) c.is_repeat.ensures c.loop-place.invariant in
    subst (λ (z : ℕ). AreRepeatsUpTo next z letters c.push.new.self.items) (omega arith)
    (subst (AreRepeatsUpTo next (q * length letters + k + 1) letters) (sym c.in_ok-push.ensures.items) more)

pub loop-state-preserved : goal.loop-state-preserved
loop-state-preserved c =
    let w = length c.args.letters.now in
    let q = c.loop-state.state in
    let e : q * w + c.loop-place.place ≡ (q + 1) * w = omega (arith, mul_comm q w, mul_comm (q + 1) w) in
    subst (λ (z : ℕ). AreRepeatsUpTo (edges_of c.args.g.now) z c.args.letters.now c.loop-place.repeats.items) e c.loop-place.invariant

pub returns : goal.returns
returns c =
    let w = length c.args.letters.now in
    let e : c.loop-state.state ≡ c.args.g.now.states = omega (arith, c.states-state-end.ensures.number) in
    subst (λ (z : ℕ). AreRepeatsUpTo (edges_of c.args.g.now) (z * w) c.args.letters.now c.loop-state.repeats.items) e c.loop-state.invariant
