-- Every universe contains the printable ASCII codes.
use Rattle.std.proofs.Common.{[], arith, get_or, length, lit<, map, subst, sym, ℕ, ◌++◌, ◌<◌, ◌∙◌}
use Rattle.std.proofs.lemmas.Result.{err_from_is_err_and}
use Rattle.rl_ranges.proofs.LetterLemmas.{IsLetters-from, NumbersLetters-none}
use Rattle.rl_ranges.proofs.OrderLemmas.{NumbersLetters-congr, alike-order, in_passes, many-congr, many-later, many-more}
use Rattle.rl_ranges.specs.Codes.{has}
use Rattle.rl_ranges.specs.internal.Splitting.{IsPreferred}
use Rattle.rl_ranges.specs.internal.Order.{is_taken, picked}
use Rattle.rl_ranges.specs.declared.letters.Pass.TheVariants.{Middle, Narrow, Wide}
use Rattle.rl_ranges.specs.Text.{code_count}
use Rattle.rl_ranges.specs.declared.universe.Universe.{Universe}
use Rattle.rl_ranges.specs.declared.universe.Universe.TheVariants.{Bytes, Str}
use Rattle.rl_ranges.proofs.letters.Letters.of.Goals as goal

some_codes : (u : Universe) → 126 < code_count u
some_codes Str = lit< tt
some_codes Bytes = lit< tt

pub returns-in_err-narrow-clause-too_many : goal.returns-in_err-narrow-clause-too_many
returns-in_err-narrow-clause-too_many c =
    let n = code_count c.args.universe in
    let sets = c.args.sets.now.items in
    let narrow = picked (is_taken Narrow) sets in
    let middle = picked (is_taken Middle) sets in
    let start = NumbersLetters-none n (omega (arith, some_codes c.args.universe)) _ _ c.in_ok-from_slice.ensures.items c.in_ok-from_slice-2.ensures.items in
    let p = err_from_is_err_and c.from_residual-in_err-narrow.result c.from_residual-in_err-narrow.ensures.1 in
    rw p.1 (λ e. many-congr (in_passes sets) (map has sets) n (alike-order sets)
    (many-more (narrow ++ middle) (picked (is_taken Wide) sets) n _ _ (many-more narrow middle n _ _ (c.in_err-narrow.ensures.too_many (sym p.2 ∙ e))) [] start))

pub returns-in_err-middle-clause-too_many : goal.returns-in_err-middle-clause-too_many
returns-in_err-middle-clause-too_many c =
    let n = code_count c.args.universe in
    let sets = c.args.sets.now.items in
    let narrow = picked (is_taken Narrow) sets in
    let middle = picked (is_taken Middle) sets in
    let start = NumbersLetters-none n (omega (arith, some_codes c.args.universe)) _ _ c.in_ok-from_slice.ensures.items c.in_ok-from_slice-2.ensures.items in
    let p = err_from_is_err_and c.from_residual-in_err-middle.result c.from_residual-in_err-middle.ensures.1 in
    rw p.1 (λ e. many-congr (in_passes sets) (map has sets) n (alike-order sets)
    (many-more (narrow ++ middle) (picked (is_taken Wide) sets) n _ _ (many-later narrow middle n _ _ _ _ c.in_ok-narrow.ensures.ok (c.in_err-middle.ensures.too_many (sym p.2 ∙ e))) [] start))

pub returns-in_err-stretches-clause-too_many : goal.returns-in_err-stretches-clause-too_many
returns-in_err-stretches-clause-too_many c =
    let n = code_count c.args.universe in
    let sets = c.args.sets.now.items in
    let narrow = picked (is_taken Narrow) sets in
    let start = NumbersLetters-none n (omega (arith, some_codes c.args.universe)) _ _ c.in_ok-from_slice.ensures.items c.in_ok-from_slice-2.ensures.items in
    let p = err_from_is_err_and c.from_residual-in_err-stretches.result c.from_residual-in_err-stretches.ensures.1 in
    rw p.1 (λ e. many-congr (in_passes sets) (map has sets) n (alike-order sets)
    (c.in_err-stretches.ensures.too_many (sym p.2 ∙ e) (narrow ++ picked (is_taken Middle) sets) (c.in_ok-middle.ensures.ok narrow (c.in_ok-narrow.ensures.ok [] start))))

pub returns-clause-ok : goal.returns-clause-ok
returns-clause-ok c =
    let n = code_count c.args.universe in
    let sets = c.args.sets.now.items in
    let narrow = picked (is_taken Narrow) sets in
    let found = c.in_ok-stretches.field-0 in
    let start = NumbersLetters-none n (omega (arith, some_codes c.args.universe)) _ _ c.in_ok-from_slice.ensures.items c.in_ok-from_slice-2.ensures.items in
    let told = NumbersLetters-congr (in_passes sets) (map has sets) n found.stretches.items found.least.items (alike-order sets)
    (c.in_ok-stretches.ensures.ok (narrow ++ picked (is_taken Middle) sets) (c.in_ok-middle.ensures.ok narrow (c.in_ok-narrow.ensures.ok [] start))) in
    let prefer = λ (j : ℕ) (lt : j < length found.least.items). subst (λ l. IsPreferred l 32 j (get_or found.least.items j 0) (get_or c.prefer_plain.new.samples.items j 0)) c.deref.ensures.value (c.prefer_plain.ensures.each j lt) in
    IsLetters-from (map has sets) n _ found.least.items told c.count.ensures (some_codes c.args.universe) c.prefer_plain.ensures.len prefer
