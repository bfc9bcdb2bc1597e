use Rattle.std.proofs.Common.{ℕ, ◌<◌, List, length, sym, subst, refl, arith, true≢false}
use Rattle.rl_graph.specs.Paths.{Has}
use Rattle.rl_graph.proofs.Sums.{Has-get_or, at-has, at-short, at-get_or}
use Rattle.rl_graph.proofs.marked.has_loop_on.Goals as goal

pub returns-then-target-state : goal.returns-then-target-state
returns-then-target-state c =
    let row = c.edges-target-items.result.now in
    let lt : c.loop-target.target-index < length row = omega arith in
    let here = subst (λ (z : ℕ). Has z row) c.if-target-state.true (Has-get_or row c.loop-target.target-index 0 lt) in
    (λ _. subst (λ (r : List ℕ). Has c.args.state r) c.edges-target-items.ensures.targets here, λ _. refl)

pub returns : goal.returns
returns c =
    let row = c.edges-target-items.result.now in
    let q = c.args.state in (
      λ e. absurd (true≢false (sym e)),
      λ h.
          let i = at-has q row (subst (λ (r : List ℕ). Has q r) (sym c.edges-target-items.ensures.targets) h) in
          let short = at-short row i.0 q i.1 in
          absurd (c.loop-target.invariant i.0 (omega arith) (at-get_or row i.0 q 0 i.1)),
    )
