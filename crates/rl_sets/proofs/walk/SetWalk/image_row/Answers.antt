use Rattle.std.proofs.Common.{ℕ, List, get_or, [], ◌-◌, false, set, ap, ◌∙◌}
use Rattle.rl_sets.specs.Live.{image}
use Rattle.rl_sets.specs.Rows.{members_of}
use Rattle.rl_sets.specs.Walk.{Walk, set_at}
use Rattle.rl_sets.proofs.RowLemmas.{members-reached}
use Rattle.rl_sets.proofs.walk.SetWalk.image_row.Goals as goal

pub returns-clause-image : goal.returns-clause-image
returns-clause-image c =
    let a = c.args.a.now in
    ap members_of (c.set.ensures ∙ ap (λ n. set c.mark_targets.new.row (n - 1) false) c.states-states.ensures.count)
    ∙ members-reached a c.args.letter (set_at c.take_row.new.self c.args.set) c.mark_targets.new.row c.in_ok-mark_targets.ensures.reached
    ∙ ap (λ (w : Walk). image a (set_at w c.args.set) c.args.letter) c.take_row.ensures.same
    ∙ ap (λ (l : List (List ℕ)). image a (get_or l c.args.set []) c.args.letter) c.split_moves.ensures.sets
