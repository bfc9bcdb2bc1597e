-- From the words, ranks and numbers that were found to a certificate that holds.
use Rattle.std.proofs.Common.{◌≡◌, ◌∙◌, ℕ, suc, ◌+◌, ◌<◌, ◌≤◌, List, [], ◌∷◌, ◌++◌, length, map, take, get_or, slice_index, Result, Ok, Err, IfOk, IfErr, refl, sym, ap, subst, arith}
use Rattle.std.proofs.lemmas.List.{map-append, take_more, take_all}
use Rattle.rl_graph.specs.Graph.{Graph, edges_of}
use Rattle.rl_graph.specs.Bounds.{bound_k}
use Rattle.rl_graph.specs.Paths.{Each, paths, OnCycle}
use Rattle.rl_graph.specs.Twins.{HasNoTwin, Link, ChainFrom}
use Rattle.rl_degree.specs.declared.chains.Chain.{Chain}
use Rattle.rl_degree.specs.declared.chains.Split.{Split}
use Rattle.rl_degree.specs.Chains.{links_of, HasNoCycle, AreRanks}
use Rattle.rl_degree.specs.Leavers.{HasNoEqualSplit}
use Rattle.rl_degree.proofs.FiveTimes.{falls-along}
use Rattle.rl_degree.proofs.SplitLaws.{ranks-fall, ranks-split}
use Rattle.rl_syntax.specs.declared.verdict.Family.{Family}
use Rattle.rl_syntax.specs.declared.verdict.Limit.{Limit}
use Rattle.rl_syntax.specs.declared.verdict.Limit.TheVariants.{Size, Letters, Moves}
use Rattle.rl_syntax.specs.declared.verdict.Verdict.{Verdict}
use Rattle.rl_syntax.specs.declared.verdict.Verdict.TheVariants.{Degree, Expo, Undecided as Open}
use Rattle.rl_ranges.specs.Text.{code_count}
use Rattle.rl_ranges.specs.declared.letters.TheConstants.{MOST_LETTERS}
use Rattle.rl_prio.specs.Automaton.{IsAutomaton}
use Rattle.rl_prio.specs.Items.{longest as longest_list}
use Rattle.rl_prio.specs.Letters.{letters}
use Rattle.rl_prio.specs.StandsFor.{StandsFor}
use Rattle.rl_pairs.specs.Counted.{CountedSet, MoreThan}
use Rattle.rl_pairs.specs.PairGraph.{IsNumbered}
use Rattle.rl_pairs.specs.PairTable.{PairTable, moves_in, pair_in}
use Rattle.rl_pairs.specs.RightVerdict.{IsNamed}
use Rattle.rl_cert.specs.declared.making.CertError.{CertError}
use Rattle.rl_cert.specs.declared.making.CertError.TheVariants.{Undecided, TooLarge, OutOfMemory}
use Rattle.rl_cert.specs.Form.{IsDecided}
use Rattle.rl_cert.specs.internal.Made.{IsMade, IsLarge}
use Rattle.rl_growth.proofs.VerdictLaws.{small, none_passed}
use Rattle.rl_syntax.specs.Tree.{size}
use Rattle.rl_syntax.specs.Family.{IsFamily, IsExpoFamily}
use Rattle.rl_syntax.specs.declared.limits.TheConstants.{MOST_COUNTED_SETS, MOST_MOVES, MOST_NODES}
use Rattle.rl_prio.specs.Automaton.{Automaton}
use Rattle.rl_prio.specs.Letters.{all_sets}
use Rattle.rl_pairs.specs.declared.pair.Pair.{Pair}
use Rattle.rl_pairs.specs.PairGraph.{IsPairGraph}
use Rattle.rl_pairs.specs.Families.{Chained, chain_heads, chain_pumps, Spells}
use Rattle.rl_pairs.specs.RightVerdict.{Question, IsExceeded, measure_of}
use Rattle.rl_prio.specs.Measure.{measure}
use Rattle.rl_pairs.proofs.StillLaws.{still_of}
use Rattle.rl_pairs.proofs.CostLaws.{twin-inside, chain-inside}
use Rattle.rl_pairs.proofs.FamilyLaws.{spells-reads}
use Rattle.rl_pairs.proofs.VerdictLaws.{graph-within, machine-within}
use Rattle.rl_growth.specs.Questions.{StandsForSome}
use Rattle.rl_growth.specs.Routes.{bare, state_after, IsLongest}
use Rattle.rl_growth.specs.FamilyWords.{IsTwinWords, IsChainWords}
use Rattle.rl_growth.proofs.VerdictLaws.{twin_right, chain_right, flat_right}
use Rattle.rl_numbers.specs.declared.double.Double.{Double}
use Rattle.rl_numbers.specs.declared.triple.Triple.{Triple}
use Rattle.rl_numbers.specs.Doubled.{AreDoubles}
use Rattle.rl_numbers.specs.Least.{LeastTriple, AreMoreThan}
use Rattle.rl_numbers.specs.Numbered.{AreTriples}
use Rattle.rl_numbers.specs.declared.numbering.TheConstants.{MOST_TRIPLES}
use Rattle.rl_cert.specs.declared.certificate.Anchor.{Anchor}
use Rattle.rl_cert.specs.declared.certificate.Certificate.{Certificate}
use Rattle.rl_cert.specs.Ways.{IsWay, IsTwinWay, chain_anchors}
use Rattle.rl_cert.specs.Holds.{Holds, IsPairGraphOf, Shows, ShowsDegree, ShowsDegreeOf, words_of}
use Rattle.rl_cert.specs.TooLarge.{IsTooLarge}
use Rattle.rl_cert.proofs.OneGraph.{moves-same}
use Rattle.rl_cert.proofs.WayLaws.{same-way}
use Rattle.rl_cert.proofs.ChainWays.{way_of, levels_of}
use Rattle.rl_cert.proofs.TooLargeLaws.{too_large}

-- The anchors of splits

abbrev pub anchor_at : Split → Anchor
anchor_at s = record { r = s.from; q = s.to }

pub anchors-more : (splits : List Split) (k : ℕ) (x : Split) (old new : List Anchor) → k < length splits → x ≡ get_or splits k x → old ≡ map anchor_at (take k splits) → new ≡ old ++ anchor_at x ∷ [] → new ≡ map anchor_at (take (k + 1) splits)
anchors-more splits k x old new lt is so_far pushed =
    pushed ∙ (ap (λ (l : List Anchor). l ++ anchor_at x ∷ []) so_far ∙ (ap (λ (y : Split). map anchor_at (take k splits) ++ anchor_at y ∷ []) is
    ∙ sym (ap (map anchor_at) (take_more splits k x lt) ∙ map-append anchor_at (take k splits) (get_or splits k x ∷ []))))

abbrev pub single : ℕ → Anchor
single z = record { r = z; q = z }

anchors-end : (splits : List Split) (z : ℕ) → map anchor_at splits ++ (record { r = z; q = z }) ∷ [] ≡ chain_anchors (links_of splits) z
anchors-end [] z = refl
anchors-end (s ∷ splits) z = ap (λ (l : List Anchor). anchor_at s ∷ l) (anchors-end splits z)

pub anchors-all : (splits : List Split) (k z : ℕ) (old new : List Anchor) (a : Anchor) → length splits ≤ k → old ≡ map anchor_at (take k splits) → a ≡ record { r = z; q = z } → new ≡ old ++ a ∷ [] → new ≡ chain_anchors (links_of splits) z
anchors-all splits k z old new a past so_far same pushed =
    pushed ∙ (ap (λ (l : List Anchor). l ++ a ∷ []) (so_far ∙ ap (map anchor_at) (take_all k splits past))
    ∙ (ap (λ (b : Anchor). map anchor_at splits ++ b ∷ []) same ∙ anchors-end splits z))

bare-anchors : (links : List Link) (z : ℕ) → chain_anchors links z ≡ chain_anchors (map bare links) z
bare-anchors [] z = refl
bare-anchors (m ∷ links) z = ap (λ (l : List Anchor). (record { r = m.from; q = m.to }) ∷ l) (bare-anchors links z)

pub one-pushed : (old new : List Anchor) (a : Anchor) → old ≡ [] → new ≡ old ++ a ∷ [] → new ≡ a ∷ []
one-pushed old new a none pushed = pushed ∙ ap (λ (l : List Anchor). l ++ a ∷ []) none

-- A twin's certificate

same-twin-way : (a : Automaton) (next : ℕ → ℕ → List ℕ) (at : ℕ → Pair) (n : ℕ) (anchors others : List Anchor) (heads tops pumps turns : List (List ℕ)) → anchors ≡ others → heads ≡ tops → pumps ≡ turns
    → IsTwinWay a next at n anchors heads pumps → IsTwinWay a next at n others tops turns
same-twin-way a next at n anchors others heads tops pumps turns e f g w =
    subst (λ (v : List (List ℕ)). IsTwinWay a next at n others tops v) g
    (subst (λ (v : List (List ℕ)). IsTwinWay a next at n others v pumps) f (subst (λ (v : List Anchor). IsTwinWay a next at n v heads pumps) e w))

same-spells : (a : Automaton) (f : Family) (heads tops pumps turns : List (List ℕ)) → heads ≡ tops → pumps ≡ turns → Spells a f heads pumps → Spells a f tops turns
same-spells a f heads tops pumps turns e g s = subst (Spells a f tops) g (subst (λ (v : List (List ℕ)). Spells a f v pumps) e s)

module _ (q : Question) (a : Automaton) (next : ℕ → ℕ → List ℕ) (at : ℕ → Pair) (n : ℕ) (field : IsPairGraphOf q a next at n) (within : (limit : Limit) → IsExceeded q limit → ⊥) where
  no-moves : (t : IsTooLarge q) → HasNoTwin next
  no-moves t = subst HasNoTwin (moves-same q t.automaton a t.moves next t.pairs at t.count n t.field field) t.no_twin

  pub twin-made : (f : Family) (anchors : List Anchor) (state : ℕ) (heads pumps : List (List ℕ)) → state < n → IsTwinWords a next at state heads pumps → Spells a f heads pumps → anchors ≡ record { r = state; q = state } ∷ []
      → (IsExpoFamily q.universe f × IsTwinWay a next at n anchors (words_of a f.heads) (words_of a f.pumps)) × (IsTooLarge q → ⊥)
  twin-made f anchors state heads pumps lt w spells same =
      let still = still_of a q.tree q.ending (all_sets q.tree) field.whole field.machine.stands in
      let inside = twin-inside a still next at n field.graph state w.lead w.round w.last w.leads w.twice w.rest in
      let reads = spells-reads a (all_sets q.tree) f (w.lead ∷ (w.last ∷ [])) (w.round ∷ []) field.machine.stands.same_letters inside.0 inside.1 (same-spells a f _ _ _ _ w.same_heads w.same_pumps spells) in
      let way = same-twin-way a next at n _ _ _ _ _ _ (sym same) (sym reads.same_heads) (sym reads.same_pumps) (lt, refl, w.leads, w.twice, w.refuses) in
      let right = twin_right q a next at n field.machine field.whole field.graph field.numbered within f state heads pumps w spells in
      ((right.family, way), λ t. two-paths state w.round w.twice (no-moves t))
    where
      two-paths : (s : ℕ) (y : List ℕ) → 2 ≤ paths next s s y → HasNoTwin next → ⊥
      two-paths s y two none = absurd (omega (arith, two, none s y))

  -- The same for a graph without a cycle.
  pub flat-made : (f : Family) → HasNoCycle next → f.heads ≡ [] ∷ [] → f.pumps ≡ [] → (IsFamily q.universe 0 f × HasNoCycle next) × (IsTooLarge q → ⊥)
  flat-made f none heads pumps =
      let right = flat_right q a next at n field.machine field.whole field.graph field.numbered within f heads pumps none in
      ((right.0.family, none), λ t. flat t.state (cycle-here t))
    where
      cycle-here : (t : IsTooLarge q) → OnCycle next t.state
      cycle-here t = subst (λ (m : ℕ → ℕ → List ℕ). OnCycle m t.state) (moves-same q t.automaton a t.moves next t.pairs at t.count n t.field field) t.cycle

      flat : (s : ℕ) → OnCycle next s → ⊥
      flat s c = absurd (omega (arith, c.2, none s c.0 c.1))

  -- The states along a chain are among the first `n`.
  module _ (ranks : List ℕ) (ranked : AreRanks next n ranks) where
    ends : (s t : ℕ) (w : List ℕ) → s < n → 1 ≤ paths next s t w → t < n
    ends s t w lt h =
        let k = bound_k (measure_of q) in
        let in-graph = machine-within q a next at n field.machine field.graph in
        (falls-along next n k (λ s. get_or ranks s 0) in-graph (ranks-fall next n k (λ s. get_or ranks s 0) in-graph ranked.right) s t w lt h).0

    links-in : (s : ℕ) (links : List Link) (x : List ℕ) (z : ℕ) → s < n → Chained next s links x z → Each (λ m. (m.from < n) × (m.to < n)) links × (z < n)
    links-in s [] x z lt c = (tt, ends s z x lt c)
    links-in s (m ∷ links) x z lt c =
        let from = ends s m.from m.lead lt c.0 in
        let to = ends m.from m.to m.word from c.1.over in
        let rest = links-in m.to links x z to c.2 in
        (((from, to), rest.0), rest.1)

    chain-shows : (f : Family) (anchors : List Anchor) (splits : List Split) (alone : ℕ) (heads pumps : List (List ℕ)) → IsChainWords a next at splits alone heads pumps → Spells a f heads pumps
        → anchors ≡ chain_anchors (links_of splits) (state_after splits alone) → IsWay a next at n 0 anchors (words_of a f.heads) (words_of a f.pumps)
    chain-shows f anchors splits alone heads pumps w spells same =
        let still = still_of a q.tree q.ending (all_sets q.tree) field.whole field.machine.stands in
        let inside = chain-inside a still next at n field.graph w.links w.lead w.state w.round w.last w.chained w.cycle w.some w.rest in
        let reads = spells-reads a (all_sets q.tree) f (chain_heads w.links w.lead w.last) (chain_pumps w.links w.round) field.machine.stands.same_letters inside.0 inside.1 (same-spells a f _ _ _ _ w.same_heads w.same_pumps spells) in
        let states = links-in 0 w.links w.lead w.state field.graph.some w.chained in
        let there : chain_anchors w.links w.state ≡ anchors = bare-anchors w.links w.state ∙ (ap (λ (l : List Link). chain_anchors l w.state) w.ends ∙ (ap (chain_anchors (links_of splits)) w.at_end ∙ sym same)) in
        same-way a next at n 0 _ _ _ _ _ _ there (sym reads.same_heads) (sym reads.same_pumps) (way_of a next at n 0 w.links w.lead w.state w.round w.last states.0 states.1 w.chained w.cycle w.refuses)

  pub chain-made : (f : Family) (anchors : List Anchor) (ranks : List ℕ) (doubles : List Double) (triples : List Triple) (splits : List Split) (alone power : ℕ) (heads pumps : List (List ℕ)) → IsChainWords a next at splits alone heads pumps
      → Spells a f heads pumps → HasNoTwin next → ((s : ℕ) (ms : List Link) → s < n → ChainFrom next s ms → length ms ≤ length splits) → AreRanks next n ranks → power ≡ length splits + 1
      → anchors ≡ chain_anchors (links_of splits) (state_after splits alone) → AreDoubles next n doubles → AreTriples next n (slice_index ranks) triples → (AreMoreThan MOST_TRIPLES (LeastTriple next n (slice_index ranks)) → ⊥)
      → (IsFamily q.universe power f × ShowsDegreeOf a next at n (record { verdict = Degree power f; anchors = anchors; ranks = ranks; doubles = doubles; triples = triples }) f power) × (IsTooLarge q → ⊥)
  chain-made f anchors ranks doubles triples splits alone power heads pumps w spells none longest ranked count same_anchors are_doubles are_triples few =
      let c : Certificate = record { verdict = Degree power f; anchors = anchors; ranks = ranks; doubles = doubles; triples = triples } in
      let right = chain_right q a next at n field.machine field.whole field.graph field.numbered within f splits alone power heads pumps ranks w spells none longest ranked.size ranked.right count in
      let shows : ShowsDegree a next at n (suc (length splits)) c f = record {
        way = chain-shows ranks ranked f anchors splits alone heads pumps w spells same_anchors;
        ranks = levels_of q a next at n (length splits) ranks field ranked longest;
        doubles = are_doubles;
        triples = are_triples;
      } in
      let same : power ≡ suc (length splits) = omega (arith, count) in
      ((right.0.family, subst (ShowsDegreeOf a next at n c f) (sym same) shows), λ t. few (too_large q a next at n (slice_index ranks) field ranked.right t))

  on-cycle : (s : ℕ) (w : List ℕ) → 1 ≤ length w → 1 ≤ paths next s s w → OnCycle next s
  on-cycle s [] some h = absurd (omega (arith, some))
  on-cycle s (l ∷ w) some h = (l, w, h)

  pub large-made : (ranks : List ℕ) (state : ℕ) (word : List ℕ) → HasNoTwin next → AreRanks next n ranks → 1 ≤ length word → 1 ≤ paths next state state word → AreMoreThan MOST_TRIPLES (LeastTriple next n (slice_index ranks)) → IsTooLarge q
  large-made ranks state word none ranked some cycle more = record {
    within = within;
    automaton = a;
    moves = next;
    pairs = at;
    count = n;
    field = field;
    no_twin = none;
    state = state;
    cycle = on-cycle state word some cycle;
    rank = slice_index ranks;
    ranks = ranked.right;
    more = more;
  }

-- Ranks allow no split between states of one rank.
pub no-equal-split : (a : Automaton) (next : ℕ → ℕ → List ℕ) (at : ℕ → Pair) (n : ℕ) (ranks : List ℕ) → StandsForSome a → IsPairGraph a next at n → AreRanks next n ranks → HasNoEqualSplit next n (slice_index ranks)
no-equal-split a next at n ranks stands g ranked =
    ranks-split next n (bound_k (measure a.table.codes stands.0)) (slice_index ranks) (graph-within a stands.0 stands.1 (all_sets stands.0) next at n stands.3 g) ranked.right

-- What was made answers the question

pub made-holds : (q : Question) (a : Automaton) (g : PairTable) (r : Result Certificate CertError) → StandsFor a q.tree q.ending → a.table.codes ≡ code_count q.universe → IsAutomaton a
    → size q.tree ≤ MOST_NODES → length (letters q.tree (code_count q.universe)) ≤ MOST_LETTERS → longest_list q.tree ≤ MOST_MOVES → IsPairGraph a (moves_in g) (pair_in g) g.graph.states → IsNumbered a (moves_in g) (pair_in g) g.graph.states → g.graph.states ≤ q.max_pairs → (MoreThan MOST_COUNTED_SETS (CountedSet a) → ⊥)
    → IfOk r (IsMade a g) → IfOk r (λ c. Holds q c × (IsTooLarge q → ⊥))
made-holds q a g (Ok c) stands codes whole s l m graph numbered few sets made =
    let field : IsPairGraphOf q a (moves_in g) (pair_in g) g.graph.states = record { machine = record { stands = stands; same_codes = codes }; whole = whole; graph = graph; numbered = numbered } in
    let within = none_passed q a (moves_in g) (pair_in g) g.graph.states field.machine (small q s l m) graph few sets in
    let shows = made q field within in
    (record { within = within; automaton = a; moves = moves_in g; pairs = pair_in g; count = g.graph.states; field = field; shows = shows.0 }, shows.1)
made-holds q a g (Err e) stands codes whole s l m graph numbered few sets made = tt

pub made-large : (q : Question) (a : Automaton) (g : PairTable) (r : Result Certificate CertError) → StandsFor a q.tree q.ending → a.table.codes ≡ code_count q.universe → IsAutomaton a
    → size q.tree ≤ MOST_NODES → length (letters q.tree (code_count q.universe)) ≤ MOST_LETTERS → longest_list q.tree ≤ MOST_MOVES → IsPairGraph a (moves_in g) (pair_in g) g.graph.states → IsNumbered a (moves_in g) (pair_in g) g.graph.states → g.graph.states ≤ q.max_pairs → (MoreThan MOST_COUNTED_SETS (CountedSet a) → ⊥)
    → (r ≡ Err TooLarge → IsLarge a g) → IfErr r (λ e. e ≡ TooLarge → IsTooLarge q)
made-large q a g (Ok c) stands codes whole s l m graph numbered few sets large = tt
made-large q a g (Err e) stands codes whole s l m graph numbered few sets large = λ same.
    let field : IsPairGraphOf q a (moves_in g) (pair_in g) g.graph.states = record { machine = record { stands = stands; same_codes = codes }; whole = whole; graph = graph; numbered = numbered } in
    large (ap (λ (x : CertError). Err x) same) q field (none_passed q a (moves_in g) (pair_in g) g.graph.states field.machine (small q s l m) graph few sets)

pub made-told : (q : Question) (r : Result Certificate CertError) → ((limit : Limit) → r ≡ Err (Undecided limit) → ⊥) → IfErr r (λ e. (limit : Limit) → e ≡ Undecided limit → IsNamed q limit)
made-told q (Ok c) told = tt
made-told q (Err e) told = λ limit same. absurd (told limit (ap (λ (x : CertError). Err x) same))

limit_of : CertError → Limit
limit_of (Undecided limit) = limit
limit_of TooLarge = Size
limit_of OutOfMemory = Size

-- The limit that is named.
pub limit-named : (q : Question) (limit other : Limit) → IsNamed q limit → Undecided limit ≡ Undecided other → IsNamed q other
unfolding limit_of
limit-named q limit other named same = subst (IsNamed q) (ap limit_of same) named

-- A verdict that is shown isn't undecided.
pub shown-told : (q : Question) (a : Automaton) (next : ℕ → ℕ → List ℕ) (at : ℕ → Pair) (n : ℕ) (c : Certificate) (v : Verdict) → Shows q a next at n c v → IsDecided v
shown-told q a next at n c (Degree d f) shows = tt
shown-told q a next at n c (Expo f) shows = tt
shown-told q a next at n c (Open limit) shows = absurd shows

-- The same of what the calls answered.
module _ (a : Automaton) (g : PairTable) (chain : Chain) (longest : IsLongest (moves_in g) g.graph.states chain) where
  ranks-right : (ranks : List ℕ) → ranks ≡ chain.ranks → AreRanks (moves_in g) g.graph.states ranks
  ranks-right ranks same = subst (AreRanks (moves_in g) g.graph.states) (sym same) (record { size = longest.long; right = longest.ranked })

  pub no-split : (h : Graph) (ranks given : List ℕ) → StandsForSome a → IsPairGraph a (moves_in g) (pair_in g) g.graph.states → h ≡ g.graph → ranks ≡ chain.ranks → given ≡ ranks → HasNoEqualSplit (edges_of h) h.states (slice_index given)
  no-split h ranks given stands graph here same slice =
      subst (λ (x : Graph). HasNoEqualSplit (edges_of x) x.states (slice_index given)) (sym here)
      (no-equal-split a (moves_in g) (pair_in g) g.graph.states given stands graph (ranks-right given (slice ∙ same)))

  pub graded-made : (h k : Graph) (splits : List Split) (ranks given : List ℕ) (f : Family) (anchors : List Anchor) (doubles : List Double) (triples : List Triple) (alone power : ℕ) (heads pumps : List (List ℕ)) → h ≡ g.graph → k ≡ g.graph → splits ≡ chain.links
      → ranks ≡ chain.ranks → given ≡ ranks → HasNoTwin (moves_in g) → IsChainWords a (moves_in g) (pair_in g) splits alone heads pumps → Spells a f heads pumps → power ≡ length splits + 1
      → anchors ≡ chain_anchors (links_of splits) (state_after splits alone) → AreDoubles (edges_of h) h.states doubles → AreTriples (edges_of k) k.states (slice_index given) triples
      → (AreMoreThan MOST_TRIPLES (LeastTriple (edges_of k) k.states (slice_index given)) → ⊥) → IsMade a g (record { verdict = Degree power f; anchors = anchors; ranks = ranks; doubles = doubles; triples = triples })
  graded-made h k splits ranks given f anchors doubles triples alone power heads pumps here there links same slice none w spells count same_anchors are_doubles are_triples few = λ q field within.
      let n = g.graph.states in
      let in-h : AreDoubles (moves_in g) n doubles = subst (λ (x : Graph). AreDoubles (edges_of x) x.states doubles) here are_doubles in
      let in-k : AreTriples (moves_in g) n (slice_index given) triples = subst (λ (x : Graph). AreTriples (edges_of x) x.states (slice_index given) triples) there are_triples in
      let few-k : AreMoreThan MOST_TRIPLES (LeastTriple (moves_in g) n (slice_index given)) → ⊥ = subst (λ (x : Graph). AreMoreThan MOST_TRIPLES (LeastTriple (edges_of x) x.states (slice_index given)) → ⊥) there few in
      chain-made q a (moves_in g) (pair_in g) n field within f anchors ranks doubles triples splits alone power heads pumps w spells none
      (subst (λ (l : List Split). (s : ℕ) (ms : List Link) → s < n → ChainFrom (moves_in g) s ms → length ms ≤ length l) (sym links) longest.longest) (ranks-right ranks same) count same_anchors in-h
      (subst (λ (r : List ℕ). AreTriples (moves_in g) n (slice_index r) triples) slice in-k) (subst (λ (r : List ℕ). AreMoreThan MOST_TRIPLES (LeastTriple (moves_in g) n (slice_index r)) → ⊥) slice few-k)

  pub graded-large : (k : Graph) (ranks given : List ℕ) (state : ℕ) (word : List ℕ) → k ≡ g.graph → ranks ≡ chain.ranks → given ≡ ranks → HasNoTwin (moves_in g) → 1 ≤ length word → 1 ≤ paths (moves_in g) state state word
      → AreMoreThan MOST_TRIPLES (LeastTriple (edges_of k) k.states (slice_index given)) → IsLarge a g
  graded-large k ranks given state word there same slice none some cycle more = λ q field within.
      large-made q a (moves_in g) (pair_in g) g.graph.states field within given state word none (ranks-right given (slice ∙ same)) some cycle
      (subst (λ (x : Graph). AreMoreThan MOST_TRIPLES (LeastTriple (edges_of x) x.states (slice_index given))) there more)

-- Of a result

pub ok-holds : (q : Question) (r : Result Certificate CertError) → IfOk r (λ c. Holds q c × (IsTooLarge q → ⊥)) → IfOk r (Holds q)
ok-holds q (Ok c) h = h.0
ok-holds q (Err e) h = tt

pub ok-fits : (q : Question) (r : Result Certificate CertError) → IfOk r (λ c. Holds q c × (IsTooLarge q → ⊥)) → IfOk r (λ c. IsTooLarge q → ⊥)
ok-fits q (Ok c) h = h.1
ok-fits q (Err e) h = tt

pub ok-told : (q : Question) (r : Result Certificate CertError) → IfOk r (λ c. Holds q c × (IsTooLarge q → ⊥)) → IfOk r (λ c. IsDecided c.verdict)
ok-told q (Ok c) h = shown-told q h.0.automaton h.0.moves h.0.pairs h.0.count c c.verdict h.0.shows
ok-told q (Err e) h = tt

-- The limits that are named

pub letters-named : (q : Question) → size q.tree ≤ MOST_NODES → MOST_LETTERS < length (letters q.tree (code_count q.universe)) → IsNamed q Letters
letters-named q s h = (λ over. absurd (omega (arith, over, s)), h)

pub moves-named : (q : Question) → size q.tree ≤ MOST_NODES → length (letters q.tree (code_count q.universe)) ≤ MOST_LETTERS → MOST_MOVES < longest_list q.tree → IsNamed q Moves
moves-named q s l h = (λ over. absurd (omega (arith, over, s)), λ over. absurd (omega (arith, over, l)), h)
