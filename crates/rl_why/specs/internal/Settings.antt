-- What is known where ways are made: the tree, its automaton, and the graph of the automaton's live pairs.
use Rattle.std.specs.Prelude.{◌≡◌, ℕ, zero, suc, ◌^◌, ◌<◌, ◌≤◌, ◌+◌, List, [], ◌∷◌, length, All, Option}
use Rattle.rl_syntax.specs.declared.re.Ending.{Ending}
use Rattle.rl_syntax.specs.declared.limits.TheConstants.{MOST_NODES}
use Rattle.rl_syntax.specs.Tree.{Tree, places, size}
use Rattle.rl_prio.specs.Automaton.{Automaton, IsAutomaton, moves_at, letters_count}
use Rattle.rl_prio.specs.StandsFor.{StandsFor}
use Rattle.rl_pairs.specs.PairTable.{PairTable, moves_in}
use Rattle.rl_pairs.specs.Families.{spelled}
use Rattle.rl_graph.specs.Paths.{IsPath}
use Rattle.rl_graph.specs.Twins.{IsSplit}
use Rattle.rl_degree.specs.declared.chains.Split.{Split}
use Rattle.rl_growth.specs.Questions.{IsLed}
use Rattle.rl_ways.specs.declared.item.ToldItem.{ToldItem}
use Rattle.rl_ways.specs.Ways.{Leads, place_of_state}
use Rattle.rl_why.specs.Readings.{way_again}
use Rattle.rl_why.specs.internal.Numbers.{state_in, numbers_in}

-- Holds if the tree isn't too large, the automaton stands for it and has no long list of moves, and the graph is that of its live
-- pairs.
pub record IsSetting (t : Tree) (a : Automaton) (g : PairTable) : Type 0 where
  pub few : places t ≤ MOST_NODES
  pub small : size t ≤ MOST_NODES
  pub ending : Ending
  pub stands : StandsFor a t ending
  pub whole : IsAutomaton a
  pub led : IsLed a g
  pub letters : g.graph.letters ≡ letters_count a + 1
  pub short : (q letter : ℕ) → length (moves_at a q letter) < 2 ^ 32

-- The place of the state of the pair with the number `i`.
abbrev pub place_of : Tree → Automaton → PairTable → ℕ → Option ℕ
place_of t a g i = place_of_state t a.table.codes (state_in g i)

-- The pair from which the pump with the number `k` is read: the first one of its split, or, past the splits, the end of the
-- last one. It is `q` if there are no splits.
abbrev pub from_at : List Split → ℕ → ℕ → ℕ
from_at [] q k = q
from_at (s ∷ splits) q zero = s.from
from_at (s ∷ splits) q (suc k) = from_at splits s.to k

-- Holds if the way reads the text, which is repeated, from the place of one pair's state to that of another one, along a path of
-- the graph on the word.
pub record IsWayAlong (t : Tree) (a : Automaton) (g : PairTable) (from to : ℕ) (word text : List ℕ) (l : List ToldItem) : Type 0 where
  pub path : List ℕ
  pub goes : IsPath (moves_in g) from to path word
  pub numbers : List ℕ
  pub counted : numbers ≡ numbers_in a g from word path
  pub leads : Leads (place_of_state t a.table.codes (state_in g from)) (place_of_state t a.table.codes (state_in g to)) text l
  pub same : l ≡ way_again t text (place_of_state t a.table.codes (state_in g from)) numbers

-- Holds if the split is one of the graph's, and the text spells its word.
pub record IsPumped (a : Automaton) (g : PairTable) (text : List ℕ) (s : Split) : Type 0 where
  pub split : IsSplit (moves_in g) s.from s.to s.word
  pub from_in : s.from < g.graph.states
  pub to_in : s.to < g.graph.states
  pub letters : All (λ letter. letter < letters_count a) s.word
  pub spells : text ≡ spelled a s.word
