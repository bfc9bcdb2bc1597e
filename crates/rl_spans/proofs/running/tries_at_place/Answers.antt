use Rattle.std.proofs.Common.{◌≡◌, ◌∙◌, IfOk, length, ap, refl, subst}
use Rattle.rl_marks.specs.Marked.{marked_of}
use Rattle.rl_spans.specs.internal.Shown.{shown_spread}
use Rattle.rl_spans.proofs.HitLaws.{spread-at}
use Rattle.rl_spans.proofs.running.tries_at_place.Goals as goal

pub returns : goal.returns
returns c =
    subst (λ tries. IfOk c.spread_of.result (λ l. l ≡ tries))
    (ap (λ rows. shown_spread rows c.args.before c.args.next c.args.place c.args.threads.now) c.as_slice.ensures
    ∙ spread-at (marked_of c.args.side.now.tree) c.args.side.now.rows c.requires.side.items c.args.before c.args.next c.requires.before c.requires.next c.args.place (length c.args.side.now.rows) refl c.args.threads.now c.requires.inside)
    c.spread_of.ensures
