use Rattle.rl_trim.proofs.TwinLaws.{twin-after}
use Rattle.rl_trim.proofs.twins.has_twin.Goals as goal

pub returns-then-leads_to_twin : goal.returns-then-leads_to_twin
returns-then-leads_to_twin c =
    λ e. twin-after c.args.automaton.now c.args.before.now c.args.keep.now _ c.requires.before (c.leads_to_twin.ensures c.if-leads_to_twin.true)
