use Rattle.std.proofs.Common.{◌≡◌, Bool, List, false, replicate, set, sym, ap, ◌∙◌}
use Rattle.rl_lanes.specs.Rows.{list_and_not, row_eq_decides}
use Rattle.rl_prio.specs.Automaton.{dead_state, moves_at}
use Rattle.rl_sets.specs.Rows.{marked}
use Rattle.rl_sets.proofs.SplitLemmas.{IsSplitOn-rows}
use Rattle.rl_sets.proofs.split.is_split_on.Goals as goal

pub returns : goal.returns
returns c same =
    let a = c.args.a.now in
    let targets = c.args.targets.now in
    let barred = c.args.barred.now in
    let own_is : c.set.new.self ≡ set (marked (replicate a.states false) (moves_at a c.args.state c.args.letter)) (dead_state a) false =
    c.set.ensures
    ∙ ap (λ n. set c.mark.new.row n false) c.dead-dead.ensures.state
    ∙ ap (λ (r : List Bool). set r (dead_state a) false) (c.mark.ensures.marked ∙ ap (λ (r : List Bool). marked r c.moves.result.now) (c.in_ok-own.ensures ∙ ap (λ n. replicate n false) c.states.ensures.count) ∙ ap (marked (replicate a.states false)) c.moves.ensures.moves) in
    let left_is : c.set-2.new.self ≡ set (list_and_not targets barred) (dead_state a) false =
    c.set-2.ensures
    ∙ ap (λ n. set c.subtract.new.self n false) c.dead-dead.ensures.state
    ∙ ap (λ (r : List Bool). set r (dead_state a) false) (c.subtract.ensures.difference ∙ ap (λ (r : List Bool). list_and_not r barred) c.in_ok-left.ensures) in
    IsSplitOn-rows a c.args.state c.args.letter targets barred c.set.new.self c.set-2.new.self c.requires.targets_wide c.requires.barred_wide own_is left_is ((row_eq_decides c.set.new.self c.set-2.new.self).0 (sym c.eq.ensures ∙ same))
