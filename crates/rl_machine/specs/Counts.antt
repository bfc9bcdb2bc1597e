-- What the program's numbers of steps mean. In a step, a matcher either tests a character or has come to an end of the tree.
-- An end is a hit if a match may end there; any other step is a miss. A list of steps has a flag for each, which is `true` if
-- the step is a hit. The cost of a text is one more than the number of steps up to and including the first hit, or than the
-- number of all steps if there is no hit.
use Rattle.std.specs.Prelude.{◌≡◌, ℕ, ◌^◌, ◌≤◌, Bool, List}
use Rattle.rl_syntax.specs.declared.re.Ending.{Ending}
use Rattle.rl_syntax.specs.Tree.{Tree}
use Rattle.rl_syntax.specs.Cost.{up_to_hit, has_hit, cost, matched}
use Rattle.rl_machine.specs.declared.steps.Steps.{Steps}
use Rattle.rl_machine.specs.declared.steps.Steps.TheVariants.{Exact, Past}
use Rattle.rl_machine.specs.declared.steps.Counted.{Counted}

-- Holds if the program's number of steps is right for `n`: `Exact k` if `k` is `n`, and `Past` if `n` is 2^128 or more.
abbrev pub Counts : Steps → ℕ → Type 0
Counts (Exact k) n = k ≡ n
Counts Past n = 2 ^ 128 ≤ n

-- Holds if `c` has the number of steps in the list `l` up to and including the first hit, or of all its steps if there is no
-- hit, and says whether there is a hit.
pub record Shows (c : Counted) (l : List Bool) : Type 0 where
  pub counted : Counts c.steps (up_to_hit l)
  pub hit : c.matched ≡ has_hit l

-- Holds if `c` has the cost of the text for the tree and the ending, and says whether the tree matches the text.
pub record ShowsCost (c : Counted) (t : Tree) (ending : Ending) (text : List ℕ) : Type 0 where
  pub steps : Counts c.steps (cost t ending text)
  pub matches : c.matched ≡ matched t ending text
