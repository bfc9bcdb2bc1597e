use Rattle.std.proofs.Common.{ap₂, sym, ◌∙◌}
use Rattle.rl_ranges.proofs.TableLemmas.{ASCII_DIGITS-named, ASCII_DIGITS-sorted, ASCII_SPACES-named, ASCII_SPACES-sorted, ASCII_WORDS-named, ASCII_WORDS-sorted, DIGITS-named, DIGITS-sorted, SPACES-named, SPACES-sorted, WORDS-named, WORDS-sorted}
use Rattle.rl_ranges.specs.Named.{is_named}
use Rattle.rl_ranges.proofs.named.Named.ranges.Goals as goal

pub returns-in-Digit-true-clause-members : goal.returns-in-Digit-true-clause-members
returns-in-Digit-true-clause-members c = λ x. ASCII_DIGITS-named x ∙ ap₂ (λ k a. is_named k a x) (sym c.in-Digit-true.is-0) (sym c.in-Digit-true.is-1)

pub returns-in-Digit-true-clause-sorted : goal.returns-in-Digit-true-clause-sorted
returns-in-Digit-true-clause-sorted c = ASCII_DIGITS-sorted

pub returns-in-Digit-false-clause-members : goal.returns-in-Digit-false-clause-members
returns-in-Digit-false-clause-members c = λ x. DIGITS-named x ∙ ap₂ (λ k a. is_named k a x) (sym c.in-Digit-false.is-0) (sym c.in-Digit-false.is-1)

pub returns-in-Digit-false-clause-sorted : goal.returns-in-Digit-false-clause-sorted
returns-in-Digit-false-clause-sorted c = DIGITS-sorted

pub returns-in-Space-true-clause-members : goal.returns-in-Space-true-clause-members
returns-in-Space-true-clause-members c = λ x. ASCII_SPACES-named x ∙ ap₂ (λ k a. is_named k a x) (sym c.in-Space-true.is-0) (sym c.in-Space-true.is-1)

pub returns-in-Space-true-clause-sorted : goal.returns-in-Space-true-clause-sorted
returns-in-Space-true-clause-sorted c = ASCII_SPACES-sorted

pub returns-in-Space-false-clause-members : goal.returns-in-Space-false-clause-members
returns-in-Space-false-clause-members c = λ x. SPACES-named x ∙ ap₂ (λ k a. is_named k a x) (sym c.in-Space-false.is-0) (sym c.in-Space-false.is-1)

pub returns-in-Space-false-clause-sorted : goal.returns-in-Space-false-clause-sorted
returns-in-Space-false-clause-sorted c = SPACES-sorted

pub returns-in-Word-true-clause-members : goal.returns-in-Word-true-clause-members
returns-in-Word-true-clause-members c = λ x. ASCII_WORDS-named x ∙ ap₂ (λ k a. is_named k a x) (sym c.in-Word-true.is-0) (sym c.in-Word-true.is-1)

pub returns-in-Word-true-clause-sorted : goal.returns-in-Word-true-clause-sorted
returns-in-Word-true-clause-sorted c = ASCII_WORDS-sorted

pub returns-in-Word-false-clause-members : goal.returns-in-Word-false-clause-members
returns-in-Word-false-clause-members c = λ x. WORDS-named x ∙ ap₂ (λ k a. is_named k a x) (sym c.in-Word-false.is-0) (sym c.in-Word-false.is-1)

pub returns-in-Word-false-clause-sorted : goal.returns-in-Word-false-clause-sorted
returns-in-Word-false-clause-sorted c = WORDS-sorted
