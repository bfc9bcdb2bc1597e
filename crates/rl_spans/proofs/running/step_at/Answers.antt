use Rattle.std.proofs.Common.{◌<◌, ◌∙◌, length, sym, ap, ap₂, subst, Some, arith}
use Rattle.rl_marks.specs.Marked.{marked_of}
use Rattle.rl_marks.specs.internal.Threads.{spread, distinct}
use Rattle.rl_spans.specs.internal.Shown.{taken_by}
use Rattle.rl_spans.proofs.StepLaws.{tests-few}
use Rattle.rl_spans.proofs.StateLaws.{AreInside, distinct-inside, taken-inside}
use Rattle.rl_spans.proofs.TestLaws.{tests-count}
use Rattle.rl_spans.proofs.HitLaws.{taken-at}
use Rattle.rl_spans.proofs.running.step_at.Goals as goal

pub taken_of-requires : goal.taken_of-requires
taken_of-requires c =
    tests-few (marked_of c.args.side.now.tree) c.args.code c.as_slice-2.result.now (c.as_slice-2.ensures ∙ c.in_ok-tests.ensures) c.requires.side.few

pub returns-clause-threads : goal.returns-clause-threads
returns-clause-threads c =
    c.in_ok-threads.ensures
    ∙ ap distinct
    (c.as_slice-4.ensures ∙ c.in_ok-taken.ensures
    ∙ ap₂ (λ tests tries. taken_by tests c.args.accepts tries) (c.as_slice-2.ensures ∙ c.in_ok-tests.ensures)
    (c.as_slice-3.ensures ∙ c.in_ok-tries.ensures ∙ ap (λ n. spread (marked_of c.args.side.now.tree) c.args.before.code n c.args.place c.args.threads.now) c.requires.code)
    ∙ taken-at (marked_of c.args.side.now.tree) c.args.before.code (Some c.args.code) c.args.place c.args.code c.args.accepts c.args.threads.now)

pub returns-clause-inside : goal.returns-clause-inside
returns-clause-inside c =
    let m = marked_of c.args.side.now.tree in
    let n = length c.args.side.now.rows in
    let few : length c.as_slice-2.result.now < n =
    omega (arith, ap length (c.as_slice-2.ensures ∙ c.in_ok-tests.ensures), tests-count m c.args.code, c.requires.side.items.count) in
    subst (AreInside n) (sym (c.in_ok-threads.ensures ∙ ap distinct (c.as_slice-4.ensures ∙ c.in_ok-taken.ensures)))
    (distinct-inside n (taken_by c.as_slice-2.result.now c.args.accepts c.as_slice-3.result.now)
    (taken-inside n c.as_slice-2.result.now few c.args.accepts c.as_slice-3.result.now))
