-- Worked examples of right suggestions, by computation.
use Rattle.std.proofs.Common.{◌≡◌, ℕ, true, false, List, [], ◌∷◌, Option, Some, None, refl, codes}
use Rattle.rl_ranges.specs.declared.universe.Universe.TheVariants.{Str}
use Rattle.rl_pattern.specs.Tree.{Whole, span}
use Rattle.rl_pattern.specs.Codes.{no_flags, sign, numeral, is_digit, hex, begins_name, goes_in_name, slashed, on_letter, off_letter, headed, with_letter, joined, scoped_flags, counts, count_of}
use Rattle.rl_pattern.specs.internal.Machine.{reads}
use Rattle.rl_pattern.specs.Shape.{shape}
use Rattle.rl_syntax.specs.PatTree.{PatTree, nothing}
use Rattle.rl_pattern.specs.Suggested.{branches_in, merged_in, text_of, may_go, among}

body_of : Option Whole → PatTree
body_of None = nothing (span 0 0)
body_of (Some p) = shape Str p.body

pub body : List ℕ → PatTree
unfolding sign numeral is_digit hex begins_name goes_in_name slashed on_letter off_letter headed with_letter joined scoped_flags counts count_of body_of
body w = body_of (reads no_flags true w)

-- `(?:ab|a|ab)c` without its last branch, and without its first two.
first_gone : (branches_in (body (codes "(?:ab|a|ab)c")) ≡ span 3 5 ∷ span 6 7 ∷ span 8 10 ∷ []) × (text_of (body (codes "(?:ab|a|ab)c")) (span 8 10 ∷ []) [] (codes "(?:ab|a|ab)c") ≡ codes "(?:ab|a)c") × (text_of (body (codes "(?:ab|a|ab)c")) (span 3 5 ∷ span 6 7 ∷ []) [] (codes "(?:ab|a|ab)c") ≡ codes "(?:ab)c")
unfolding body
first_gone = (refl, refl, refl)

star_gone : (merged_in (body (codes "(?:x*?)*y")) ≡ span 4 6 ∷ []) × (text_of (body (codes "(?:x*?)*y")) [] (span 4 6 ∷ []) (codes "(?:x*?)*y") ≡ codes "(?:x)*y")
unfolding body
star_gone = (refl, refl)

last_stays : (may_go (among (span 3 4 ∷ span 5 6 ∷ [])) (body (codes "(?:a|b){0}c")) ≡ false) × (may_go (among (span 5 6 ∷ [])) (body (codes "(?:a|b){0}c")) ≡ true) × (text_of (body (codes "(?:a|b){0}c")) (span 5 6 ∷ []) [] (codes "(?:a|b){0}c") ≡ codes "(?:a){0}c")
unfolding body
last_stays = (refl, refl, refl)

empty_ones : (text_of (body (codes "(?:|a|)*")) (span 3 3 ∷ span 6 6 ∷ []) [] (codes "(?:|a|)*") ≡ codes "(?:a)*") × (text_of (body (codes "(?:|a|)*")) (span 3 3 ∷ []) [] (codes "(?:|a|)*") ≡ codes "(?:a|)*")
unfolding body
empty_ones = (refl, refl)
