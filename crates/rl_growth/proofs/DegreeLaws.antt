-- The class that the graph of live pairs shows.
use Rattle.std.proofs.Common.{◌≡◌, ℕ, suc, ◌+◌, ◌<◌, ◌≤◌, List, [], ◌∷◌, length, Result, Ok, Err, IfOk, sym, subst, arith}
use Rattle.rl_graph.specs.Paths.{paths, OnCycle}
use Rattle.rl_graph.specs.Twins.{HasNoTwin, IsTwin, Link, ChainFrom}
use Rattle.rl_graph.proofs.TwinPaths.{two-count}
use Rattle.rl_degree.specs.declared.chains.Split.{Split}
use Rattle.rl_syntax.specs.declared.verdict.Verdict.{Verdict}
use Rattle.rl_syntax.specs.declared.verdict.Verdict.TheVariants.{Degree, Expo, Undecided}
use Rattle.rl_prio.specs.Automaton.{Automaton, IsAutomaton}
use Rattle.rl_pairs.specs.declared.pair.Pair.{Pair}
use Rattle.rl_pairs.specs.PairGraph.{IsPairGraph, IsNumbered}
use Rattle.rl_pairs.specs.RightVerdict.{Question, IsMachine}
use Rattle.rl_growth.specs.FamilyWords.{IsChainWords}
use Rattle.rl_growth.specs.Degrees.{IsDegreeOf, HasTwin, IsClassOf, HasClass}
use Rattle.rl_growth.proofs.RouteLaws.{chained-from}

on-cycle : (next : ℕ → ℕ → List ℕ) (q : ℕ) (w : List ℕ) → 1 ≤ length w → 1 ≤ paths next q q w → OnCycle next q
on-cycle next q [] some h = absurd (omega arith)
on-cycle next q (l ∷ w) some h = (l, w, h)

-- The words of a chain show the rank of the first pair if no chain is longer.
pub chain_degree : (a : Automaton) (next : ℕ → ℕ → List ℕ) (at : ℕ → Pair) (n : ℕ) (splits : List Split) (alone r : ℕ) (heads pumps : List (List ℕ)) → 0 < n → IsChainWords a next at splits alone heads pumps → HasNoTwin next
    → ((s : ℕ) (ms : List Link) → s < n → ChainFrom next s ms → length ms ≤ length splits) → r ≡ length splits + 1 → IsDegreeOf next r
chain_degree a next at n splits alone r heads pumps some w none longest e =
    let same : r ≡ suc (length splits) = omega (arith, e) in
    subst (IsDegreeOf next) (sym same) (
      none,
      (w.state, on-cycle next w.state w.round w.some w.cycle),
      record {
        chain = w.links;
        goes = chained-from next 0 w.links w.lead w.state w.chained;
        long = w.count;
        longest = λ ms goes. longest 0 ms some goes;
      },
    )

pub twin_class : (next : ℕ → ℕ → List ℕ) (q : ℕ) (w p r : List ℕ) → IsTwin next q w p r → HasTwin next
twin_class next q w p r twin = (q, w, two-count next q q p r w twin.apart twin.one_way twin.other_way)

-- The class of the graph is the class of the question.
pub classed : {E : Type 0} (q : Question) (a : Automaton) (next : ℕ → ℕ → List ℕ) (at : ℕ → Pair) (n : ℕ) (r : Result Verdict E) → IsMachine q a → IsAutomaton a → IsPairGraph a next at n → IsNumbered a next at n
    → IfOk r (IsClassOf next) → IfOk r (HasClass q)
classed q a next at n (Err e) machine whole graph numbered h = tt
classed q a next at n (Ok (Undecided limit)) machine whole graph numbered h = tt
classed q a next at n (Ok (Degree d f)) machine whole graph numbered h =
    record { automaton = a; moves = next; pairs = at; count = n; machine = machine; whole = whole; graph = graph; numbered = numbered; class = h }
classed q a next at n (Ok (Expo f)) machine whole graph numbered h =
    record { automaton = a; moves = next; pairs = at; count = n; machine = machine; whole = whole; graph = graph; numbered = numbered; class = h }
