-- Letters, kinds, items and moves of small patterns, computed from the definitions, for a universe of 128 codes.
use Rattle.std.proofs.Common.{◌≡◌, ◌==◌, true, [], ◌∷◌, refl}
use Rattle.rl_ranges.specs.Named.{is_named, is_between}
use Rattle.rl_ranges.specs.Letters.{classes, class_of}
use Rattle.rl_syntax.specs.declared.anchors.Guard.TheVariants.{Word}
use Rattle.rl_syntax.specs.declared.re.Ending.TheVariants.{AtEnd}
use Rattle.rl_syntax.specs.Guards.{is_in, is_word, holds}
use Rattle.rl_syntax.specs.Tree.{Tree, empty, one, guard, both, either, many}
use Rattle.rl_prio.specs.Items.{test_at, pass, first, after, longest}
use Rattle.rl_prio.specs.Letters.{letters, kinds}
use Rattle.rl_prio.specs.States.{moves, state_count}

-- `(a|a)*`.
abbrev doubled_star : Tree
doubled_star = many (either (one (λ c. c == 97)) (one (λ c. c == 97))) true

-- `a\b`.
abbrev word_end : Tree
word_end = both (one (λ c. c == 97)) (guard (Word true))

-- The nested repetition of `a` and an empty branch, whose items repeat.
abbrev empty_branch : Tree
empty_branch = many (both (one (λ c. c == 97)) (many (either (one (λ c. c == 98)) empty) true)) true

items : (first doubled_star 0 ≡ test_at [] 0 ∷ test_at [] 1 ∷ pass [] ∷ []) × (after doubled_star 0 1 ≡ test_at [] 0 ∷ test_at [] 1 ∷ pass [] ∷ [])
items = (refl, refl)

repeated_items : (after empty_branch 0 0 ≡ test_at [] 1 ∷ test_at [] 0 ∷ pass [] ∷ test_at [] 0 ∷ pass [] ∷ []) × (longest empty_branch ≡ 5)
repeated_items = (refl, refl)

letters_and_kinds : (letters word_end 128 ≡ 0 ∷ 48 ∷ 97 ∷ []) × (kinds word_end 128 ≡ 0 ∷ 48 ∷ []) × (state_count word_end 128 ≡ 5)
unfolding classes is_word is_named is_between
letters_and_kinds = (refl, refl, refl)

-- On an `a` the start goes to the state of the place and the second kind; there, between words, the end letter is accepted,
-- and a further `a` leaves no move.
word_end_moves : (moves word_end AtEnd 128 0 2 ≡ 2 ∷ []) × (moves word_end AtEnd 128 2 3 ≡ 3 ∷ []) × (moves word_end AtEnd 128 2 2 ≡ []) × (moves word_end AtEnd 128 2 0 ≡ 4 ∷ [])
unfolding classes class_of is_in is_word is_named is_between holds
word_end_moves = (refl, refl, refl, refl)
