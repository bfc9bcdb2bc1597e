use Rattle.std.proofs.Common.{◌∙◌, sym, ap}
use Rattle.rl_trim.specs.Twins.{is_kept}
use Rattle.rl_trim.proofs.TwinLaws.{all-after}
use Rattle.rl_trim.proofs.twins.Shift.leads_to_twin.Goals as goal

pub returns-then-late : goal.returns-then-late
returns-then-late c =
    let self = c.args.self.now in
    λ e. all-after self.automaton.now self.before.now self.keep.now self.distance c.args.first c.states.result c.states.ensures.count
    (ap (is_kept self.keep.now) (sym c.accepting.ensures.state) ∙ sym c.is_kept.ensures ∙ c.if-not-is_kept.false) (c.all_stand_in-late.ensures c.if-late.true) (c.all_stand_in.ensures e)
