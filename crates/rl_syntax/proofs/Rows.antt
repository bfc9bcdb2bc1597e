-- Worked examples of costs, computed from the definitions.
use Rattle.std.proofs.Common.{◌≡◌, ◌==◌, ℕ, Bool, true, false, List, [], ◌∷◌, None, Some, refl}
use Rattle.rl_ranges.specs.Named.{is_named, is_between}
use Rattle.rl_ranges.specs.declared.universe.Universe.TheVariants.{Str}
use Rattle.rl_syntax.specs.declared.anchors.Guard.TheVariants.{LineStart, Word, NotWord}
use Rattle.rl_syntax.specs.declared.anchors.Trail.TheVariants.{None as NoTrail, Dollar}
use Rattle.rl_syntax.specs.declared.re.Ending.TheVariants.{AtEnd}
use Rattle.rl_syntax.specs.declared.re.Mode.TheVariants.{Fullmatch, Match, Search}
use Rattle.rl_syntax.specs.Guards.{is_in, is_word, holds}
use Rattle.rl_syntax.specs.Tree.{Tree, empty, one, guard, both, either, many}
use Rattle.rl_syntax.specs.Cost.{cost, matched, all_tests}
use Rattle.rl_syntax.specs.Lowering.{times}
use Rattle.rl_syntax.specs.Modes.{wrapped, ending_of, is_code}

-- The set of a single code.
abbrev only : ℕ → Tree
only code = one (λ c. c == code)

abbrev a : Tree
a = only 97

abbrev b : Tree
b = only 98

-- The cost in search mode, without anchors.
abbrev sought_cost : Tree → List ℕ → ℕ
sought_cost t w = cost (wrapped Search Str false NoTrail t) (ending_of Search NoTrail) w

abbrev sought_match : Tree → List ℕ → Bool
sought_match t w = matched (wrapped Search Str false NoTrail t) (ending_of Search NoTrail) w

-- The empty pattern.
empty_pattern : (cost empty AtEnd [] ≡ 2) × (matched empty AtEnd [] ≡ true)
unfolding all_tests
empty_pattern = (refl, refl)

-- `a*`
star : (cost (many a true) AtEnd (97 ∷ 97 ∷ []) ≡ 5) × (matched (many a true) AtEnd (97 ∷ 97 ∷ []) ≡ true)
unfolding all_tests is_in
star = (refl, refl)

-- `(a|a)*`
doubled_star : (cost (many (either a a) true) AtEnd (97 ∷ 97 ∷ 98 ∷ []) ≡ 22) × (matched (many (either a a) true) AtEnd (97 ∷ 97 ∷ 98 ∷ []) ≡ false)
unfolding all_tests is_in
doubled_star = (refl, refl)

-- `a*a*`
two_stars : (cost (both (many a true) (many a true)) AtEnd (97 ∷ 97 ∷ 98 ∷ []) ≡ 16) × (matched (both (many a true) (many a true)) AtEnd (97 ∷ 97 ∷ 98 ∷ []) ≡ false)
unfolding all_tests is_in
two_stars = (refl, refl)

-- `(a(b?)*)*`, which is also `(a(b|)*)*`
nested_star : (cost (many (both a (many (either b empty) true)) true) AtEnd (97 ∷ 97 ∷ 99 ∷ []) ≡ 18) × (matched (many (both a (many (either b empty) true)) true) AtEnd (97 ∷ 97 ∷ 99 ∷ []) ≡ false)
unfolding all_tests is_in
nested_star = (refl, refl)

-- `a*?`
lazy_star : (cost (many a false) AtEnd (97 ∷ 97 ∷ []) ≡ 6) × (matched (many a false) AtEnd (97 ∷ 97 ∷ []) ≡ true)
unfolding all_tests is_in
lazy_star = (refl, refl)

-- `a{2,3}`, `a{,3}` and `a+`
counted : (cost (times 2 (Some 3) true a) AtEnd (97 ∷ 97 ∷ 97 ∷ 97 ∷ []) ≡ 6) × (cost (times 0 (Some 3) true a) AtEnd (97 ∷ 97 ∷ 97 ∷ []) ≡ 5)
    × (cost (times 1 None true a) AtEnd (97 ∷ []) ≡ 4)
unfolding all_tests is_in
counted = (refl, refl, refl)

-- `b` in search, `a$` in match and in fullmatch
modes : (sought_cost b (97 ∷ 98 ∷ []) ≡ 5) × (cost (wrapped Match Str false Dollar a) (ending_of Match Dollar) (97 ∷ 10 ∷ []) ≡ 5)
    × (cost (wrapped Fullmatch Str false Dollar a) (ending_of Fullmatch Dollar) (97 ∷ 10 ∷ []) ≡ 3)
unfolding all_tests is_in is_code
modes = (refl, refl, refl)

-- `a\b`, `\b` and `\B` with ASCII words
boundaries : (cost (both a (guard (Word true))) AtEnd (97 ∷ []) ≡ 3) × (cost (both a (guard (Word true))) AtEnd (97 ∷ 97 ∷ []) ≡ 2)
    × (cost (guard (Word true)) AtEnd [] ≡ 1) × (cost (guard (NotWord true)) AtEnd [] ≡ 2)
unfolding all_tests is_in is_word is_named is_between holds
boundaries = (refl, refl, refl, refl)

-- `\bb`, and `^b` with MULTILINE, in search
guards_in_search : (sought_cost (both (guard (Word true)) b) (97 ∷ 98 ∷ 32 ∷ 98 ∷ []) ≡ 8) × (sought_match (both (guard (Word true)) b) (97 ∷ 98 ∷ 32 ∷ 98 ∷ []) ≡ true)
    × (sought_cost (both (guard LineStart) b) (97 ∷ 10 ∷ 98 ∷ []) ≡ 6)
unfolding all_tests is_in is_word is_named is_between holds is_code
guards_in_search = (refl, refl, refl)
