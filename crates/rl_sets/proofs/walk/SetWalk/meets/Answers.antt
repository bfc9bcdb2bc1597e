use Rattle.std.proofs.Common.{get_or, false, ap, sym, ◌∙◌}
use Rattle.std.specs.List.{list_any}
use Rattle.rl_sets.specs.Walk.{Walk, set_at}
use Rattle.rl_sets.proofs.RowLemmas.{meets-members}
use Rattle.rl_sets.proofs.WalkLemmas.{row_at, row_wide}
use Rattle.rl_sets.proofs.walk.SetWalk.meets.Goals as goal

pub meets-requires : goal.meets-requires
meets-requires c =
    row_wide c.self.inside.states c.self.inside.limit c.self.inside.rows.keys c.index.result.now c.args.set c.self.invariant.rows c.index.ensures
    ∙ ap (λ (w : Walk). w.kept.states) c.self.view_is
    ∙ sym c.requires.wide

pub returns : goal.returns
returns c =
    meets-members c.index.result.now c.args.states.now c.meets.result c.meets.ensures.meets
    ∙ ap (list_any (λ q. get_or c.args.states.now q false)) (row_at c.self.inside.rows.keys c.index.result.now c.args.set c.index.ensures ∙ ap (λ (w : Walk). set_at w c.args.set) c.self.view_is)
