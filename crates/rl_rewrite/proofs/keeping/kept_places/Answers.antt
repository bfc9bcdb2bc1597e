use Rattle.std.proofs.Common.{◌++◌, true, sym, ap, ◌∙◌}
use Rattle.rl_syntax.specs.PatTree.{pat_of}
use Rattle.rl_pattern.specs.Suggested.{among}
use Rattle.rl_rewrite.specs.internal.Keeping.{flags_in}
use Rattle.rl_rewrite.proofs.KeptParts.{kept_lists}
use Rattle.rl_rewrite.proofs.keeping.kept_places.Goals as goal

pub returns : goal.returns
returns c =
    let e = c.from_vec.ensures ∙ c.in_ok-put_flags.ensures ∙ ap (λ l. l ++ flags_in (among c.args.dropped.now) (among c.args.gone.now) true (pat_of c.args.part.now)) c.new-keep.ensures.items in
    rw e (kept_lists c.args.dropped.now c.args.gone.now (pat_of c.args.part.now) c.requires.may (sym c.may_lose_empty.ensures ∙ c.if-may_lose_empty.false))
