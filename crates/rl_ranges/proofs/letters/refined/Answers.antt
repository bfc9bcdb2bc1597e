use Rattle.std.proofs.Common.{length, subst, ◌<◌}
use Rattle.std.proofs.lemmas.Result.{IfErr-weaker, IfOk-weaker}
use Rattle.rl_ranges.proofs.LetterLemmas.{NumbersLetters-more, values_many}
use Rattle.rl_ranges.specs.Numbering.{IsNumbered, firsts, same_value}
use Rattle.rl_ranges.specs.internal.Splitting.{value_in}
use Rattle.rl_ranges.specs.declared.letters.TheConstants.{MOST_LETTERS}
use Rattle.rl_ranges.specs.Text.{code_count}
use Rattle.rl_ranges.proofs.letters.refined.Goals as goal

pub returns-clause-ok : goal.returns-clause-ok
returns-clause-ok c =
    let s = c.args.set.now in
    let n = code_count c.args.universe in
    let old = c.args.known.now in
    IfOk-weaker c.split.result _ _
    (λ v numbers sets told. NumbersLetters-more sets s n old.stretches.items v.stretches.items old.least.items v.least.items told
    (subst (λ l. IsNumbered (value_in old.stretches.items l) n v.stretches.items v.least.items) c.as_ranges.ensures.value
    (subst (λ m. IsNumbered (value_in old.stretches.items c.as_ranges.result.now) m v.stretches.items v.least.items) c.count.ensures numbers))) c.split.ensures.ok

pub returns-clause-too_many : goal.returns-clause-too_many
returns-clause-too_many c =
    let s = c.args.set.now in
    let n = code_count c.args.universe in
    let old = c.args.known.now in
    IfErr-weaker c.split.result _ _
    (λ e many too_many sets told. values_many sets s n old.stretches.items old.least.items told
    (subst (λ l. MOST_LETTERS < length (firsts (same_value (value_in old.stretches.items l)) n)) c.as_ranges.ensures.value
    (subst (λ m. MOST_LETTERS < length (firsts (same_value (value_in old.stretches.items c.as_ranges.result.now)) m)) c.count.ensures (many too_many)))) c.split.ensures.too_many
