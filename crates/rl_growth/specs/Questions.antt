-- The question that a call asks, and the automata and graphs that answer it. A question is a tree with an ending, a universe
-- of texts, and the greatest number of live pairs allowed. A pair is a state of the automaton with a set: the states that were
-- tried before it. A rest is a list of letters followed by the end letter; a set refuses it if none of its members accepts it.
-- A live pair is the first pair, or a pair whose set refuses some rest and to which a live pair has a move.
use Rattle.std.specs.Prelude.{◌≡◌, ℕ, ◌<◌, ◌≤◌, true, List}
use Rattle.rl_ranges.specs.declared.universe.Universe.{Universe}
use Rattle.rl_syntax.specs.declared.re.Ending.{Ending}
use Rattle.rl_syntax.specs.declared.re.Lowered.{Lowered}
use Rattle.rl_syntax.specs.declared.verdict.Verdict.{Verdict}
use Rattle.rl_syntax.specs.declared.verdict.Limit.{Limit}
use Rattle.rl_syntax.specs.Tree.{Tree, tree_of}
use Rattle.rl_syntax.specs.declared.limits.TheConstants.{MOST_PAIRS}
use Rattle.rl_prio.specs.Automaton.{Automaton, IsAutomaton}
use Rattle.rl_prio.specs.StandsFor.{StandsFor}
use Rattle.rl_graph.specs.Paths.{paths}
use Rattle.rl_sets.specs.Live.{IsRest}
use Rattle.rl_pairs.specs.declared.pair.Pair.{Pair}
use Rattle.rl_pairs.specs.LivePairs.{refused}
use Rattle.rl_pairs.specs.PairGraph.{IsPairGraph, IsNumbered}
use Rattle.rl_pairs.specs.PairTable.{PairTable, moves_in, pair_in, lead_in, rest_in}
use Rattle.rl_pairs.specs.RightVerdict.{Question, IsMachine, IsExceeded, RightVerdict}

-- The question about a lowered tree with its ending, for the texts of a universe, with at most `max_pairs` live pairs.
abbrev pub question_of : Lowered → Universe → ℕ → Question
question_of l universe max_pairs = record { tree = tree_of l.tree; ending = l.ending; universe = universe; max_pairs = max_pairs }

-- The automaton is well formed and stands for some tree and ending.
abbrev pub StandsForSome : Automaton → Type 0
StandsForSome a = (t : Tree) × (ending : Ending) × IsAutomaton a × StandsFor a t ending

-- A numbered graph of the live pairs of an automaton, with at most `MOST_PAIRS` pairs, and with a word that leads to each
-- pair and a rest that the set of the pair refuses.
pub record IsLedGraph (a : Automaton) (next : ℕ → ℕ → List ℕ) (at : ℕ → Pair) (n : ℕ) (lead rest : ℕ → List ℕ) : Type 0 where
  pub graph : IsPairGraph a next at n
  pub numbered : IsNumbered a next at n
  pub few : n ≤ MOST_PAIRS
  pub leads : (i : ℕ) → i < n → 1 ≤ paths next 0 i (lead i)
  pub rests : (i : ℕ) → i < n → IsRest a (rest i)
  pub refuses : (i : ℕ) → i < n → refused a at i (rest i) ≡ true

-- The program's graph is a numbered graph of the live pairs, with right leads and rests (`IsLedGraph`).
abbrev pub IsLed : Automaton → PairTable → Type 0
IsLed a g = IsLedGraph a (moves_in g) (pair_in g) g.graph.states (lead_in g) (rest_in g)

-- The verdict is right for each question for whose tree, ending and universe the automaton stands (`IsMachine`) and for which
-- no limit is exceeded.
abbrev pub DecidesFor : Automaton → Verdict → Type 0
DecidesFor a verdict = (q : Question) → IsMachine q a → ((limit : Limit) → IsExceeded q limit → ⊥) → RightVerdict q verdict
