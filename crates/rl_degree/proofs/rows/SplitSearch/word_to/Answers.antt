use Rattle.std.proofs.Common.{sym, ◌∙◌, subst}
use Rattle.rl_degree.proofs.RowLaws.{IsWayBack, way-none, way-more, way-done}
use Rattle.rl_degree.proofs.rows.SplitSearch.word_to.Goals as goal

pub loop-at-init : goal.loop-at-init
loop-at-init c =
    let steps = c.args.self.now.steps.items in
    let step = c.args.found.now.step in
    subst (IsWayBack steps step step) (sym c.new-letters.ensures.items) (way-none steps step c.requires.step_in)

pub loop-at-preserved : goal.loop-at-preserved
loop-at-preserved c =
    way-more c.args.self.now.steps.items c.loop-at.at c.args.found.now.step c.index-step.result.now c.loop-at.letters.items c.push.new.self.items c.requires.rooted c.loop-at-test.true c.index-step.ensures c.loop-at.invariant c.in_ok-push.ensures.items

pub returns : goal.returns
returns c =
    way-done c.args.self.now.steps.items c.loop-at.at c.args.found.now.step c.loop-at.letters.items c.from_vec.result c.loop-at-test.false c.loop-at.invariant (c.from_vec.ensures ∙ c.reverse.ensures.items)
