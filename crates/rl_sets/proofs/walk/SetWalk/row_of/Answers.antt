use Rattle.std.proofs.Common.{◌≡◌, Bool, List, false, replicate, length, ap, sym, ◌∙◌}
use Rattle.std.proofs.lemmas.List.{length-replicate}
use Rattle.rl_lanes.specs.Rows.{list_or}
use Rattle.rl_sets.specs.Rows.{members_of}
use Rattle.rl_sets.specs.Walk.{Walk, set_at}
use Rattle.rl_sets.proofs.RowLemmas.{list_or-zeros}
use Rattle.rl_sets.proofs.WalkLemmas.{row_at, row_wide}
use Rattle.rl_sets.proofs.walk.SetWalk.row_of.Goals as goal

pub or_into-requires : goal.or_into-requires
or_into-requires c =
    let row = c.index.result.now in
    let wide = row_wide c.self-2.inside.states c.self-2.inside.limit c.self-2.inside.rows.keys row c.args.set c.self-2.invariant.rows c.index.ensures in
    let long : length c.in_ok-row.row ≡ length row = c.in_ok-row.ensures.len ∙ ap (λ (w : Walk). w.kept.states) (c.self.view_is ∙ sym c.take_row.ensures.same ∙ sym c.self-2.view_is) ∙ sym wide in
    ap length c.clear.ensures ∙ length-replicate (length c.in_ok-row.row) false ∙ long

pub returns-clause-members : goal.returns-clause-members
returns-clause-members c =
    let row = c.index.result.now in
    let keys = c.self-2.inside.rows.keys in
    let wide = row_wide c.self-2.inside.states c.self-2.inside.limit keys row c.args.set c.self-2.invariant.rows c.index.ensures in
    let long : length c.in_ok-row.row ≡ length row = c.in_ok-row.ensures.len ∙ ap (λ (w : Walk). w.kept.states) (c.self.view_is ∙ sym c.take_row.ensures.same ∙ sym c.self-2.view_is) ∙ sym wide in
    ap members_of (c.or_into.ensures.union ∙ ap (λ (r : List Bool). list_or r row) (c.clear.ensures ∙ ap (λ n. replicate n false) long) ∙ list_or-zeros row)
    ∙ row_at keys row c.args.set c.index.ensures
    ∙ ap (λ (w : Walk). set_at w c.args.set) (c.self-2.view_is ∙ c.take_row.ensures.same)
