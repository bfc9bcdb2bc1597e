use Rattle.std.proofs.Common.{◌++◌, sym, ap, ◌∙◌, append_assoc}
use Rattle.rl_rewrite.specs.internal.Keeping.{repeated}
use Rattle.rl_rewrite.proofs.EachPlace.{once_more}
use Rattle.rl_rewrite.proofs.keeping.put_copies.Goals as goal

pub loop-preserved : goal.loop-preserved
loop-preserved c =
    let n = c.loop.counter in
    let flags = c.args.flags.now in
    let found = c.args.found.now.items in
    c.in_ok-extend_from_slice.ensures.items ∙ ap (λ l. l ++ flags) c.loop.invariant ∙ append_assoc found (repeated n flags) flags ∙ ap (λ l. found ++ l) (sym (once_more n flags))
