-- The costs of matches that begin at the places of a text, from its start to its end. The match from a place is that of the
-- rest of the text from there on. The cost of a match is one more than the number of steps that a backtracking matcher takes
-- up to the first hit, or in all if there is none.
use Rattle.std.specs.Prelude.{ℕ, ◌+◌, List, [], ◌∷◌, if◌then◌else◌}
use Rattle.rl_syntax.specs.declared.re.Ending.{Ending}
use Rattle.rl_ranges.specs.declared.universe.Universe.{Universe}
use Rattle.rl_syntax.specs.Tree.{Tree, one, both}
use Rattle.rl_syntax.specs.Cost.{cost, matched}
use Rattle.rl_syntax.specs.Modes.{is_code}

-- The cost of a match of the whole text, plus the costs of the matches of all its rests down to the empty one.
abbrev pub cost_of_all : Tree → Ending → List ℕ → ℕ
cost_of_all t ending [] = cost t ending []
cost_of_all t ending (c ∷ w) = cost t ending (c ∷ w) + cost_of_all t ending w

-- The costs of the matches from the start of the text and from each later place in turn, up to and including the first that
-- succeeds. If none does, there is one more step at the end of the text: no character is left to skip.
abbrev pub cost_in_turn : Tree → Ending → List ℕ → ℕ
cost_in_turn t ending [] = cost t ending [] + (if matched t ending [] then 0 else 1)
cost_in_turn t ending (c ∷ w) = cost t ending (c ∷ w) + (if matched t ending (c ∷ w) then 0 else cost_in_turn t ending w)

-- The tree, preceded by exactly one character of the universe. Its match behind that character sees what a search sees there,
-- also through guards that look behind.
abbrev pub after_one : Universe → Tree → Tree
after_one universe t = both (one (is_code universe)) t
