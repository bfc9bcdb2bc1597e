use Rattle.std.proofs.Common.{◌≡◌, ℕ, List, IfOk, ap, ◌∙◌, subst, arith}
use Rattle.rl_sets.specs.Walk.{Walk, set_at}
use Rattle.rl_sets.proofs.WalkLemmas.{row_at, row_wide}
use Rattle.rl_sets.proofs.walk.SetWalk.members.Goals as goal

pub members-requires : goal.members-requires
members-requires c = omega (arith, row_wide c.self.inside.states c.self.inside.limit c.self.inside.rows.keys c.index.result.now c.args.set c.self.invariant.rows c.index.ensures)

pub returns : goal.returns
returns c =
    subst (λ (s : List ℕ). IfOk c.members.result (λ (m : List ℕ). m ≡ s)) (row_at c.self.inside.rows.keys c.index.result.now c.args.set c.index.ensures ∙ ap (λ (w : Walk). set_at w c.args.set) c.self.view_is) c.members.ensures
