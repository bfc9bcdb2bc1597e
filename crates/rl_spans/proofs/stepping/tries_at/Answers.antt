use Rattle.std.proofs.Common.{◌∙◌, ap₂, suc}
use Rattle.rl_marks.specs.Marked.{marked_of}
use Rattle.rl_marks.specs.internal.Threads.{named}
use Rattle.rl_spans.specs.internal.Shown.{shown_spread}
use Rattle.rl_spans.proofs.StepLaws.{spread-side}
use Rattle.rl_spans.proofs.stepping.tries_at.Goals as goal

pub returns : goal.returns
returns c =
    c.in_ok-tries.ensures
    ∙ ap₂ (λ rows l. shown_spread rows c.args.before c.args.next 0 l) c.as_slice.ensures c.as_slice-2.ensures
    ∙ spread-side (marked_of c.args.side.now.tree) c.args.side.now.rows c.requires.side.items c.args.before c.args.next c.requires.before c.requires.next c.len-states.result c.len-states.ensures
    c.in_ok-moved.moved (named suc c.args.threads.now) c.in_ok-moved.ensures.inside c.in_ok-moved.ensures.named
