use Rattle.std.proofs.Common.{◌≡◌, true, ap, sym, ◌∙◌}
use Rattle.rl_prio.specs.Automaton.{accepting_state}
use Rattle.rl_sets.specs.Live.{holds}
use Rattle.rl_sets.specs.Walk.{set_at}
use Rattle.rl_sets.proofs.LiveLemmas.{accepting-dead}
use Rattle.rl_sets.proofs.walk.SetWalk.route_from.Goals as goal

pub returns-then-holds-clause-none : goal.returns-then-holds-clause-none
returns-then-holds-clause-none c =
    let set = set_at c.args.self.now c.args.set in
    let in' : holds set (accepting_state c.args.a.now) ≡ true = ap (holds set) (sym c.accepting.ensures.state) ∙ sym c.holds.ensures ∙ c.if-holds.true in
    accepting-dead c.args.a.now set in'
