-- From what was looked at to whether a certificate holds.
use Rattle.std.proofs.Common.{◌≡◌, ◌∙◌, ℕ, ◌<◌, ◌≤◌, ◌⊎◌, inl, inr, ◌↔◌, Bool, true, false, IsTrue, List, ◌∷◌, length, Result, Ok, Err, IfOk, refl, sym, ap, arith, true≢false}
use Rattle.std.proofs.lemmas.Bool.{cases_lt}
use Rattle.rl_graph.specs.Graph.{Graph, edges_of, IsWhole}
use Rattle.rl_graph.specs.Parts.{PartTable, IsParts, cycle_of}
use Rattle.rl_graph.specs.Paths.{paths, total}
use Rattle.rl_graph.proofs.GraphLaws.{edges-state}
use Rattle.rl_degree.specs.Chains.{HasNoCycle}
use Rattle.rl_ranges.specs.Text.{code_count}
use Rattle.rl_ranges.specs.declared.letters.TheConstants.{MOST_LETTERS}
use Rattle.rl_syntax.specs.declared.verdict.Limit.{Limit}
use Rattle.rl_syntax.specs.Tree.{size}
use Rattle.rl_syntax.specs.declared.limits.TheConstants.{MOST_COUNTED_SETS, MOST_MOVES, MOST_NODES}
use Rattle.rl_prio.specs.Automaton.{Automaton, IsAutomaton}
use Rattle.rl_prio.specs.Items.{longest}
use Rattle.rl_prio.specs.StandsFor.{StandsFor}
use Rattle.rl_prio.specs.Letters.{letters}
use Rattle.rl_pairs.specs.declared.pair.Pair.{Pair}
use Rattle.rl_pairs.specs.PairGraph.{IsPairGraph, IsNumbered}
use Rattle.rl_pairs.specs.Counted.{CountedSet, MoreThan}
use Rattle.rl_pairs.specs.RightVerdict.{Question, IsMachine, IsExceeded, RightVerdict}
use Rattle.rl_growth.proofs.VerdictLaws.{small, none_passed}
use Rattle.rl_cert.specs.declared.certificate.Certificate.{Certificate}
use Rattle.rl_cert.specs.Holds.{Holds, IsPairGraphOf, Shows}
use Rattle.rl_cert.proofs.Soundness.{sound}
use Rattle.rl_cert.proofs.SameShows.{shows-same}

no-cycle-state : (g : Graph) (p : PartTable) → IsParts (edges_of g) g.states p → IsWhole g → ((q : ℕ) → q < g.states → cycle_of p q ≡ false) → HasNoCycle (edges_of g)
no-cycle-state g p parts whole none q l w = by (cases_lt q g.states)
  where
    zero-or : (n : ℕ) → (1 ≤ n → ⊥) → n ≡ 0
    zero-or n h = by-cases (cases_lt n 1)
      where
        by-cases : (n < 1) ⊎ (1 ≤ n) → n ≡ 0
        by-cases (inl lt) = omega (arith, lt)
        by-cases (inr le) = absurd (h le)

    by : (q < g.states) ⊎ (g.states ≤ q) → paths (edges_of g) q q (l ∷ w) ≡ 0
    by (inl lt) = zero-or (paths (edges_of g) q q (l ∷ w)) (λ le. true≢false (sym ((parts.on_cycle q lt).1 (l, w, le)) ∙ none q lt))
    by (inr past) = ap (total (λ m. paths (edges_of g) m q w)) (edges-state g q l past)

pub flat-graph : (g : Graph) (p : PartTable) (k : ℕ) → IsParts (edges_of g) g.states p → IsWhole g → g.states ≤ k → ((q : ℕ) → q < k → cycle_of p q ≡ false) → IsTrue true ↔ HasNoCycle (edges_of g)
flat-graph g p k parts whole past none = (λ e. no-cycle-state g p parts whole (λ q lt. none q (omega (arith, lt, past))), λ h. refl)

-- If a limit is exceeded, no certificate holds.
pub none-holds : (q : Question) (c : Certificate) (limit : Limit) → IsExceeded q limit → IsTrue false ↔ Holds q c
none-holds q c limit passed = (λ e. absurd (true≢false (sym e)), λ h. absurd (h.within limit passed))

-- Else what the graph that was found shows decides.
pub shown-decides : (q : Question) (c : Certificate) (a : Automaton) (next : ℕ → ℕ → List ℕ) (at : ℕ → Pair) (n : ℕ) → StandsFor a q.tree q.ending → a.table.codes ≡ code_count q.universe → IsAutomaton a
    → size q.tree ≤ MOST_NODES → length (letters q.tree (code_count q.universe)) ≤ MOST_LETTERS → longest q.tree ≤ MOST_MOVES → IsPairGraph a next at n → IsNumbered a next at n → n ≤ q.max_pairs → (MoreThan MOST_COUNTED_SETS (CountedSet a) → ⊥)
    → (held : Bool) → IsTrue held ↔ Shows q a next at n c c.verdict → IsTrue held ↔ Holds q c
shown-decides q c a next at n stands codes whole s l m g numbered few sets held iff =
    let machine : IsMachine q a = record { stands = stands; same_codes = codes } in
    let field : IsPairGraphOf q a next at n = record { machine = machine; whole = whole; graph = g; numbered = numbered } in (
      λ e. record { within = none_passed q a next at n machine (small q s l m) g few sets; automaton = a; moves = next; pairs = at; count = n; field = field; shows = iff.0 e },
      λ h. iff.1 (shows-same q h.automaton a h.moves next h.pairs at h.count n h.field field c c.verdict h.shows),
    )

pub result-decides : {E : Type 0} (q : Question) (c : Certificate) (a : Automaton) (next : ℕ → ℕ → List ℕ) (at : ℕ → Pair) (n : ℕ) (r : Result Bool E) → StandsFor a q.tree q.ending → a.table.codes ≡ code_count q.universe → IsAutomaton a
    → size q.tree ≤ MOST_NODES → length (letters q.tree (code_count q.universe)) ≤ MOST_LETTERS → longest q.tree ≤ MOST_MOVES → IsPairGraph a next at n → IsNumbered a next at n → n ≤ q.max_pairs → (MoreThan MOST_COUNTED_SETS (CountedSet a) → ⊥)
    → IfOk r (λ held. (p : Question) → p.universe ≡ q.universe → IsTrue held ↔ Shows p a next at n c c.verdict) → IfOk r (λ held. IsTrue held ↔ Holds q c)
result-decides q c a next at n (Ok held) stands codes whole s l m g numbered few sets h =
    shown-decides q c a next at n stands codes whole s l m g numbered few sets held (h q refl)
result-decides q c a next at n (Err e) stands codes whole s l m g numbered few sets h = tt

-- Yes says that the verdict is right.
pub held-sound : {E : Type 0} (q : Question) (c : Certificate) (r : Result Bool E) → IfOk r (λ held. IsTrue held ↔ Holds q c) → IfOk r (λ held. IsTrue held → RightVerdict q c.verdict)
held-sound q c (Ok held) h = λ yes. sound q c (h.0 yes)
held-sound q c (Err e) h = tt
