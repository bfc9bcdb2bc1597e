use Rattle.std.proofs.Common.{sym, ◌∙◌}
use Rattle.rl_expo.proofs.SearchLaws.{off_cycle-none_stay}
use Rattle.rl_expo.proofs.stays.stays_twice_from.Goals as goal

pub returns-then-not-on_cycle : goal.returns-then-not-on_cycle
returns-then-not-on_cycle c =
    λ e l hl. off_cycle-none_stay c.args.g.now c.args.components.now c.args.state c.states-states.ensures.whole c.requires.parts c.requires.state_in (sym c.on_cycle.ensures ∙ c.if-not-on_cycle.true) l
