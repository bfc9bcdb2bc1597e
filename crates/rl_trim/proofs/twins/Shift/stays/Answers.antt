use Rattle.std.proofs.Common.{◌≡◌, ◌∙◌, false, not, ◌&&◌, All, sym, subst}
use Rattle.std.proofs.lemmas.List.{take_all}
use Rattle.std.proofs.lemmas.List.Elements.{All-more}
use Rattle.rl_trim.specs.Twins.{is_kept}
use Rattle.rl_trim.proofs.TwinLaws.{listed-stays}
use Rattle.rl_trim.proofs.twins.Shift.stays.Goals as goal

pub loop-target-preserved : goal.loop-target-preserved
loop-target-preserved c =
    let self = c.args.self.now in
    All-more (λ t. (is_kept self.before.now t && not (is_kept self.keep.now t)) ≡ false) c.as_slice-target-items.result.now c.loop-target.target-index 0 c.loop-target-test.true c.loop-target.invariant
    (sym c.goes.ensures ∙ c.if-goes.false)

pub returns : goal.returns
returns c =
    let self = c.args.self.now in
    let list = c.as_slice-target-items.result.now in
    λ e. listed-stays self.automaton.now self.before.now self.keep.now self.distance c.args.state self.targets.now.lists.items c.index.result.now (sym c.if-not-is_kept.ensures) c.requires self.are_targets c.index.ensures
    (subst (All (λ t. (is_kept self.before.now t && not (is_kept self.keep.now t)) ≡ false)) (take_all c.loop-target.target-index list c.loop-target-test.false ∙ c.as_slice-target-items.ensures) c.loop-target.invariant)
