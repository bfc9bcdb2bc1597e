use Rattle.std.proofs.Common.{◌≡◌, ◌∙◌, true, get_or, ap, sym}
use Rattle.std.proofs.lemmas.Bool.{both_ways}
use Rattle.std.proofs.lemmas.List.Elements.{All-more}
use Rattle.rl_sets.specs.Live.{holds}
use Rattle.rl_trim.specs.Twins.{is_kept}
use Rattle.rl_trim.specs.internal.Twins.{stand_in}
use Rattle.rl_trim.proofs.TwinLaws.{follows-all, target-stays}
use Rattle.rl_trim.proofs.twins.Shift.follows.Goals as goal

pub loop-target-preserved : goal.loop-target-preserved
loop-target-preserved c =
    let self = c.args.self.now in
    let targets = c.moves-target-items.result.now in
    let found = c.moves-found.result.now in
    let i = c.loop-target.target-index in
    let here : holds found (stand_in self.keep.now self.distance (get_or targets i 0)) ≡ true = ap (holds found) (sym c.stand_in-wanted.ensures) ∙ sym c.holds.ensures ∙ c.if-not-holds.false in
    All-more (λ t. is_kept self.before.now t ≡ true → holds found (stand_in self.keep.now self.distance t) ≡ true) targets i 0 c.loop-target-test.true c.loop-target.invariant (λ k. here)

pub loop-target-preserved-then-not-is_kept : goal.loop-target-preserved-then-not-is_kept
loop-target-preserved-then-not-is_kept c =
    let self = c.args.self.now in
    let targets = c.moves-target-items.result.now in
    let found = c.moves-found.result.now in
    let i = c.loop-target.target-index in
    All-more (λ t. is_kept self.before.now t ≡ true → holds found (stand_in self.keep.now self.distance t) ≡ true) targets i 0 c.loop-target-test.true c.loop-target.invariant
    (λ k. absurd (both_ways (is_kept self.before.now (get_or targets i 0)) (sym c.is_kept.ensures ∙ c.if-not-is_kept.true) k))

pub loop-target-preserved-then-wanted-target : goal.loop-target-preserved-then-wanted-target
loop-target-preserved-then-wanted-target c =
    let self = c.args.self.now in
    let targets = c.moves-target-items.result.now in
    let found = c.moves-found.result.now in
    let i = c.loop-target.target-index in
    let stays =
    target-stays self.automaton.now c.args.state c.args.other c.args.letter i c.stand_in-wanted.result found targets c.moves-found.ensures.moves c.moves-target-items.ensures.moves
    c.if-other-state.true c.loop-target-test.true c.if-wanted-target.true in
    let here : holds found (stand_in self.keep.now self.distance (get_or targets i 0)) ≡ true = ap (holds found) (sym c.stand_in-wanted.ensures) ∙ stays in
    All-more (λ t. is_kept self.before.now t ≡ true → holds found (stand_in self.keep.now self.distance t) ≡ true) targets i 0 c.loop-target-test.true c.loop-target.invariant (λ k. here)

pub returns : goal.returns
returns c =
    let self = c.args.self.now in
    λ e. follows-all self.automaton.now self.before.now (stand_in self.keep.now self.distance) c.args.state c.args.other c.args.letter c.loop-target.target-index
    c.moves-found.result.now c.moves-target-items.result.now c.moves-found.ensures.moves c.moves-target-items.ensures.moves c.requires.other c.loop-target-test.false c.loop-target.invariant
