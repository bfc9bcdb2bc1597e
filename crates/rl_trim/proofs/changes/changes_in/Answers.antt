use Rattle.std.proofs.Common.{◌≡◌, ◌∙◌, false, length, sym, ap, subst, ◌<◌}
use Rattle.std.proofs.lemmas.List.{length-replicate}
use Rattle.rl_prio.specs.Automaton.{letters_count}
use Rattle.rl_ranges.specs.Letters.{LetterTable}
use Rattle.rl_trim.proofs.ChangeLaws.{union-same}
use Rattle.rl_trim.proofs.changes.changes_in.Goals as goal

pub union_of_rows-requires-clause-wide : goal.union_of_rows-requires-clause-wide
union_of_rows-requires-clause-wide c =
    let e : length c.in_ok-row.row ≡ letters_count c.args.a.now = ap length c.in_ok-row.ensures ∙ length-replicate c.count.result false ∙ c.count.ensures ∙ ap (λ (t : LetterTable). length t.samples) c.letters.ensures in
    λ i d lt. c.requires.changes.wide i d lt ∙ sym e

pub returns-clause-same : goal.returns-clause-same
returns-clause-same c =
    let e : length c.in_ok-row.row ≡ letters_count c.args.a.now = ap length c.in_ok-row.ensures ∙ length-replicate c.count.result false ∙ c.count.ensures ∙ ap (λ (t : LetterTable). length t.samples) c.letters.ensures in
    union-same c.args.a.now c.args.walk.now c.args.set c.args.changes.now.rows c.union_of_rows.new.into c.requires.made c.requires.set_in c.requires.changes (λ k lt. c.union_of_rows.ensures.union k (subst (λ n. k < n) (sym e) lt))
