-- The class of growth, as the graph of live pairs shows it. A pair is a state of the automaton with a set: the states that
-- were tried before it. A rest is a list of letters followed by the end letter; a set refuses it if none of its members
-- accepts it. A live pair is the first pair, or a pair whose set refuses some rest and to which a live pair has a move. A pair
-- has a twin if two different paths lead from it back to itself along one word. A split is two different pairs with paths
-- along one word from the first to itself, from the first to the second, and from the second to itself. A chain is a list of
-- splits, each of which is reached from the one before it.
use Rattle.std.specs.Prelude.{ℕ, zero, suc, ◌≤◌, List}
use Rattle.rl_syntax.specs.declared.verdict.Verdict.{Verdict}
use Rattle.rl_syntax.specs.declared.verdict.Verdict.TheVariants.{Degree, Expo, Undecided}
use Rattle.rl_prio.specs.Automaton.{Automaton, IsAutomaton}
use Rattle.rl_graph.specs.Paths.{paths, OnCycle}
use Rattle.rl_graph.specs.Twins.{HasNoTwin, IsRank}
use Rattle.rl_degree.specs.Chains.{HasNoCycle}
use Rattle.rl_pairs.specs.declared.pair.Pair.{Pair}
use Rattle.rl_pairs.specs.PairGraph.{IsPairGraph, IsNumbered}
use Rattle.rl_pairs.specs.RightVerdict.{Question, IsMachine}

-- The graph with the given moves has the given degree. The degree is 0 if no pair is on a cycle. Otherwise it is 1 or more,
-- some pair is on a cycle, no pair has a twin, and the degree is one more than the length of a longest chain of splits from
-- the pair 0.
abbrev pub IsDegreeOf : (ℕ → ℕ → List ℕ) → ℕ → Type 0
IsDegreeOf next zero = HasNoCycle next
IsDegreeOf next (suc d) = HasNoTwin next × ((i : ℕ) × OnCycle next i) × IsRank next 0 d

-- Some pair has at least two paths to itself along one word, where `paths` counts the paths. By the law `counts_are_paths` of
-- `rl_graph`, this is true if and only if some pair has a twin in the sense of `IsTwin`.
abbrev pub HasTwin : (ℕ → ℕ → List ℕ) → Type 0
HasTwin next = (i : ℕ) × (w : List ℕ) × (2 ≤ paths next i i w)

-- The class of the verdict is the class that the moves of the live pairs show: a degree is their degree, and for exponential
-- growth some pair has a twin. Nothing is required of an undecided verdict.
abbrev pub IsClassOf : (ℕ → ℕ → List ℕ) → Verdict → Type 0
IsClassOf next (Degree d f) = IsDegreeOf next d
IsClassOf next (Expo f) = HasTwin next
IsClassOf next (Undecided limit) = Unit {0}

-- The class of the verdict is the class that the moves show in the numbered graph of live pairs of some automaton that stands
-- for the tree of the question. Here `moves` gives the moves of the graph, `pairs` its pairs, and `count` their number.
pub record IsClassOfPairs (q : Question) (verdict : Verdict) : Type 0 where
  pub automaton : Automaton
  pub moves : ℕ → ℕ → List ℕ
  pub pairs : ℕ → Pair
  pub count : ℕ
  pub machine : IsMachine q automaton
  pub whole : IsAutomaton automaton
  pub graph : IsPairGraph automaton moves pairs count
  pub numbered : IsNumbered automaton moves pairs count
  pub class : IsClassOf moves verdict

-- A verdict that isn't undecided has the class that the question's graph of live pairs shows (`IsClassOfPairs`). Nothing is
-- required of an undecided verdict.
abbrev pub HasClass : Question → Verdict → Type 0
HasClass q (Degree d f) = IsClassOfPairs q (Degree d f)
HasClass q (Expo f) = IsClassOfPairs q (Expo f)
HasClass q (Undecided limit) = Unit {0}
