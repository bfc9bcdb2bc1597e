-- The words of a family in the graph of live pairs, as letters of the automaton. The heads are the words before, between and
-- after the pumps, and the pumps are the words that are repeated. A pair is a state of the automaton with a set: the states
-- that were tried before it. A rest is a list of letters followed by the end letter; a set refuses it if none of its members
-- accepts it. A live pair is the first pair, or a pair whose set refuses some rest and to which a live pair has a move. A twin
-- is two different paths from a state back to itself along one word. A split is two different states with paths along one word
-- from the first to itself, from the first to the second, and from the second to itself. A link is a split with a word that
-- leads to it.
use Rattle.std.specs.Prelude.{◌≡◌, ℕ, ◌<◌, ◌≤◌, true, List, [], ◌∷◌, length, map, All}
use Rattle.rl_prio.specs.Automaton.{Automaton, letters_count}
use Rattle.rl_graph.specs.Paths.{paths}
use Rattle.rl_graph.specs.Twins.{Link}
use Rattle.rl_sets.specs.Live.{IsRest}
use Rattle.rl_degree.specs.declared.chains.Split.{Split}
use Rattle.rl_degree.specs.Chains.{links_of}
use Rattle.rl_pairs.specs.declared.pair.Pair.{Pair}
use Rattle.rl_pairs.specs.LivePairs.{refused}
use Rattle.rl_pairs.specs.Families.{Chained, chain_heads, chain_pumps, to_end}
use Rattle.rl_growth.specs.Routes.{state_after, bare}

-- The words consist of letters of the automaton other than the end letter.
abbrev pub AreLetters : Automaton → List (List ℕ) → Type 0
AreLetters a words = All (All (λ letter. letter < letters_count a)) words

-- The heads and pumps are the words of a twin at the state. The heads are a word `lead` that leads from the state 0 to this
-- state and a word `last` such that the set of the state refuses `last` followed by the end letter. The only pump is a word
-- `round` along which at least two paths lead from the state back to itself.
pub record IsTwinWords (a : Automaton) (next : ℕ → ℕ → List ℕ) (at : ℕ → Pair) (state : ℕ) (heads pumps : List (List ℕ)) : Type 0 where
  pub lead : List ℕ
  pub round : List ℕ
  pub last : List ℕ
  pub same_heads : heads ≡ lead ∷ (last ∷ [])
  pub same_pumps : pumps ≡ round ∷ []
  pub leads : 1 ≤ paths next 0 state lead
  pub twice : 2 ≤ paths next state state round
  pub rest : IsRest a (to_end a last)
  pub refuses : refused a at state (to_end a last) ≡ true

-- The heads and pumps are the words of a chain of splits that ends on a cycle at the end of the last split, or at the state
-- `alone` if there are no splits. Each pump is the word of a split, and the last one is the word of the cycle. The last head
-- is a word such that the set of the cycle's state refuses it followed by the end letter.
pub record IsChainWords (a : Automaton) (next : ℕ → ℕ → List ℕ) (at : ℕ → Pair) (splits : List Split) (alone : ℕ) (heads pumps : List (List ℕ)) : Type 0 where
  pub links : List Link
  pub lead : List ℕ
  pub state : ℕ
  pub round : List ℕ
  pub last : List ℕ
  pub same_heads : heads ≡ chain_heads links lead last
  pub same_pumps : pumps ≡ chain_pumps links round
  pub count : length links ≡ length splits
  pub ends : map bare links ≡ links_of splits
  pub at_end : state ≡ state_after splits alone
  pub chained : Chained next 0 links lead state
  pub cycle : 1 ≤ paths next state state round
  pub some : 1 ≤ length round
  pub rest : IsRest a (to_end a last)
  pub refuses : refused a at state (to_end a last) ≡ true
