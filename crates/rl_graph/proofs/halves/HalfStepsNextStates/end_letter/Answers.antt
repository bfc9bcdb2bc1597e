use Rattle.std.proofs.Common.{◌≡◌, ℕ, ◌*◌, ◌∙◌, ap, arith}
use Rattle.rl_graph.proofs.halves.HalfStepsNextStates.end_letter.Goals as goal

pub bounds-self-from : goal.bounds-self-from
bounds-self-from c =
    let h = c.args.self.now in
    let e : c.from-count.result ≡ h.graph.now.states = c.from-count.ensures ∙ c.states.ensures.number in
    omega (arith, h.marked, ap (λ (k : ℕ). k * k) e)
