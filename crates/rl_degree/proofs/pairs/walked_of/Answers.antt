use Rattle.std.proofs.Common.{◌≡◌, ℕ, ◌∙◌, subst}
use Rattle.rl_degree.specs.internal.Pairs.{lists_of, IsPlaced}
use Rattle.rl_degree.proofs.PairLaws.{placed-some}
use Rattle.rl_degree.proofs.pairs.walked_of.Goals as goal

pub returns : goal.returns
returns c =
    let inner = c.args.inner.now in
    let levels = c.args.levels.now in
    let parts = c.in_ok-parts.parts in
    let p = lists_of c.in_ok-placed.placed in
    let count : c.from-count.result ≡ inner.states = c.from-count.ensures ∙ c.states.ensures.number in
    let placed : IsPlaced levels parts inner.states p = subst (λ (z : ℕ). IsPlaced levels parts z p) count c.in_ok-placed.ensures in
    record {
      parts = c.in_ok-parts.ensures;
      placed = placed;
      moves = λ x lt w. c.in_ok-moves.ensures (placed-some levels parts inner.states x p placed lt w);
    }
