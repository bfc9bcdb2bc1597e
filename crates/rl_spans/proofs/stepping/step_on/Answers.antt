use Rattle.std.proofs.Common.{◌∙◌, ap, ap₂, suc, Some}
use Rattle.rl_marks.specs.Marked.{marked_of}
use Rattle.rl_marks.specs.internal.Threads.{spread, named, distinct}
use Rattle.rl_spans.specs.internal.Shown.{taken_by}
use Rattle.rl_spans.proofs.StepLaws.{tests-few, taken-side}
use Rattle.rl_spans.proofs.stepping.step_on.Goals as goal

pub taken_of-requires : goal.taken_of-requires
taken_of-requires c = tests-few (marked_of c.args.side.now.tree) c.args.code c.args.tests.now c.requires.tests c.requires.side.few

pub returns-clause-threads : goal.returns-clause-threads
returns-clause-threads c =
    c.in_ok-threads.ensures
    ∙ ap distinct
    (c.as_slice-3.ensures ∙ c.in_ok-taken.ensures
    ∙ ap₂ (λ tests tries. taken_by tests c.args.accepts tries) c.requires.tests
    (c.as_slice-2.ensures ∙ c.in_ok-tries.ensures ∙ ap (λ n. spread (marked_of c.args.side.now.tree) c.args.before.code n 0 (named suc c.args.threads.now)) c.requires.code)
    ∙ taken-side (marked_of c.args.side.now.tree) c.args.before.code (Some c.args.code) c.args.code c.args.accepts (named suc c.args.threads.now))
