use Rattle.std.proofs.Common.{get_or, [], false, length, ap, sym, ◌∙◌}
use Rattle.std.specs.List.{list_any}
use Rattle.rl_sets.specs.Walk.{Walk, set_at}
use Rattle.rl_sets.proofs.RowLemmas.{image-members}
use Rattle.rl_sets.proofs.WalkLemmas.{row_at, row_wide}
use Rattle.rl_sets.proofs.walk.SetWalk.union_of_rows.Goals as goal

pub image-requires-clause-rows : goal.image-requires-clause-rows
image-requires-clause-rows c =
    row_wide c.self.inside.states c.self.inside.limit c.self.inside.rows.keys c.index.result.now c.args.set c.self.invariant.rows c.index.ensures
    ∙ ap (λ (w : Walk). w.kept.states) c.self.view_is
    ∙ sym c.requires.high

pub returns-clause-union : goal.returns-clause-union
returns-clause-union c k lt =
    let table = c.args.table.now in
    ap (λ r. get_or r k false) c.image.ensures.image
    ∙ image-members c.index.result.now table (length c.args.into.now) k c.requires.wide
    ∙ ap (list_any (λ q. get_or (get_or table q []) k false)) (row_at c.self.inside.rows.keys c.index.result.now c.args.set c.index.ensures ∙ ap (λ (w : Walk). set_at w c.args.set) c.self.view_is)
