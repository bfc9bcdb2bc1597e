-- From the parts of an explanation to the whole.
use Rattle.std.proofs.Common.{◌≡◌, ℕ, suc, ◌<◌, ◌≤◌, List, [], ◌∷◌, length, map, get_or, All, Option, Result, Ok, Err, IfOk, sym, ap, ◌∙◌, subst, arith}
use Rattle.std.proofs.lemmas.List.Elements.{All-head}
use Rattle.rl_ranges.specs.Text.{code_count}
use Rattle.rl_ranges.specs.declared.letters.TheConstants.{MOST_LETTERS}
use Rattle.rl_syntax.specs.declared.limits.TheConstants.{MOST_COUNTED_SETS, MOST_MOVES, MOST_NODES}
use Rattle.rl_syntax.specs.declared.verdict.Family.{Family}
use Rattle.rl_syntax.specs.declared.verdict.Verdict.TheVariants.{Degree, Expo}
use Rattle.rl_syntax.specs.Tree.{Tree, empty, one, guard, both, either, many, places, size}
use Rattle.rl_prio.specs.Automaton.{Automaton, letters_count}
use Rattle.rl_prio.specs.Items.{longest}
use Rattle.rl_prio.specs.Letters.{letters}
use Rattle.rl_prio.specs.StandsFor.{StandsFor}
use Rattle.rl_pairs.specs.declared.pair.Pair.{Pair}
use Rattle.rl_pairs.specs.PairGraph.{IsPairGraph}
use Rattle.rl_pairs.specs.PairTable.{PairTable, moves_in, pair_in}
use Rattle.rl_pairs.specs.Counted.{CountedSet, MoreThan}
use Rattle.rl_pairs.specs.Families.{Spells, spelled}
use Rattle.rl_pairs.specs.RightVerdict.{Question, IsMachine, RightVerdict}
use Rattle.rl_growth.specs.Texts.{HasTexts}
use Rattle.rl_growth.specs.Questions.{StandsForSome, DecidesFor}
use Rattle.rl_degree.specs.declared.chains.Split.{Split}
use Rattle.rl_growth.specs.FamilyWords.{AreLetters, IsTwinWords, IsChainWords}
use Rattle.rl_growth.specs.Routes.{split_at, IsRoute}
use Rattle.rl_growth.proofs.FamilyLaws.{twin_letters, chain_letters}
use Rattle.rl_growth.proofs.VerdictLaws.{small, none_passed, texts_ok}
use Rattle.rl_ways.specs.declared.origin.Origin.{Origin}
use Rattle.rl_why.specs.Readings.{TwinReading, ChainReading, Twin, Chain, AreTwinWays, AreChainWays, IsTwinReading, IsChainReading, IsReadingOf}
use Rattle.rl_why.specs.declared.explaining.Explained.{Explained}
use Rattle.rl_why.specs.internal.Settings.{IsSetting, place_of, from_at}
use Rattle.rl_why.proofs.ChainLaws.{texts-many}
use Rattle.rl_why.proofs.HeadLaws.{twin-entered, chain-first, chain-later}

-- The automaton stands for the tree.
pub stands-some : (t : Tree) (a : Automaton) (g : PairTable) → IsSetting t a g → StandsForSome a
stands-some t a g s = (t, s.ending, s.whole, s.stands)

-- The only pump of a twin's family spells the word of the twin.
pub first-text : (a : Automaton) (texts words : List (List ℕ)) (word x : List ℕ) → texts ≡ map (spelled a) words → words ≡ word ∷ []
    → (0 < length texts) × (get_or texts 0 x ≡ spelled a word)
first-text a texts words word x spells is =
    let same : texts ≡ spelled a word ∷ [] = spells ∙ ap (map (spelled a)) is in
    (subst (λ l. 0 < length l) (sym same) (omega arith), ap (λ l. get_or l 0 x) same)

pub first-letters : (a : Automaton) (words : List (List ℕ)) (word : List ℕ) → AreLetters a words → words ≡ word ∷ [] → All (λ letter. letter < letters_count a) word
first-letters a words word letters is =
    All-head (All (λ letter. letter < letters_count a)) word [] (subst (AreLetters a) is letters)

-- What is decided for the automaton is right for the question.
pub right-explained : {E : Type 0} (q : Question) (a : Automaton) (next : ℕ → ℕ → List ℕ) (at : ℕ → Pair) (n : ℕ) (r : Result Explained E) → StandsFor a q.tree q.ending → a.table.codes ≡ code_count q.universe
    → size q.tree ≤ MOST_NODES → length (letters q.tree (code_count q.universe)) ≤ MOST_LETTERS → longest q.tree ≤ MOST_MOVES → IsPairGraph a next at n → n ≤ q.max_pairs
    → (MoreThan MOST_COUNTED_SETS (CountedSet a) → ⊥) → IfOk r (λ e. DecidesFor a e.verdict) → IfOk r (λ e. RightVerdict q e.verdict)
right-explained q a next at n (Ok e) stands codes s l m g few sets h =
    let machine : IsMachine q a = record { stands = stands; same_codes = codes } in
    h q machine (none_passed q a next at n machine (small q s l m) g few sets)
right-explained q a next at n (Err e) stands codes s l m g few sets h = tt

pub texts-explained : {E : Type 0} (q : Question) (r : Result Explained E) → IfOk r (λ e. RightVerdict q e.verdict) → IfOk r (λ e. HasTexts q.universe e.verdict)
texts-explained {E = E} q (Ok e) h = texts_ok {E = E} q (Ok e.verdict) h
texts-explained q (Err e) h = tt

-- A tree has no more places than nodes.
pub places-few : (t : Tree) → places t ≤ size t
places-few empty = omega arith
places-few (one set) = omega arith
places-few (guard g) = omega arith
places-few (both e f) = omega (arith, places-few e, places-few f)
places-few (either e f) = omega (arith, places-few e, places-few f)
places-few (many e greedy) = omega (arith, places-few e)

-- The reading of a chain is that of a degree of 1 or more.
pub chain-reading : (t : Tree) (a : Automaton) (g : PairTable) (s : IsSetting t a g) (nodes : List Origin) (m d : ℕ) (f : Family) (splits : List Split) (alone : ℕ) (heads words pumps : List (List ℕ)) (r : ChainReading)
    → IsRoute (moves_in g) g.graph.states splits → alone < g.graph.states → IsChainWords a (moves_in g) (pair_in g) splits alone heads words → Spells a f heads words
    → m ≡ suc d → pumps ≡ f.pumps → AreChainWays t nodes pumps (λ k. place_of t a g (from_at splits alone k)) (λ k. place_of t a g (split_at splits k).to) r
    → IsReadingOf t nodes (Degree m f) (Chain r)
chain-reading t a g s nodes m d f splits alone heads words pumps r route alone_in w spells e same h =
    let letters = chain_letters a (moves_in g) (pair_in g) g.graph.states splits alone heads words (stands-some t a g s) s.led.graph w in
    let from : ℕ → Option ℕ = λ k. place_of t a g (from_at splits alone k) in
    let to : ℕ → Option ℕ = λ k. place_of t a g (split_at splits k).to in
    let ways : AreChainWays t nodes f.pumps from to r = subst (λ x. AreChainWays t nodes x from to r) same h in
    let first = chain-first t a g s splits alone heads words f.heads f.pumps route alone_in w letters.0 letters.1 spells.head_samples spells.pump_samples in
    let later = chain-later t a g s splits alone heads words f.heads f.pumps route alone_in w letters.0 letters.1 spells.head_samples spells.pump_samples in
    let many : length r.splits ≡ length splits =
    omega (arith, ways.count, texts-many a g splits alone heads words f.pumps route w letters.1 spells.pump_samples) in
    let whole : IsChainReading t nodes f.heads f.pumps r = record { from = from; to = to; ways = ways; first = first; later = λ k lt. later k (omega (arith, lt, many)) } in
    subst (λ x. IsReadingOf t nodes (Degree x f) (Chain r)) (sym e) whole

-- The reading of a twin is that of exponential growth.
pub twin-reading : (t : Tree) (a : Automaton) (g : PairTable) (s : IsSetting t a g) (nodes : List Origin) (f : Family) (i : ℕ) (heads words : List (List ℕ)) (text : List ℕ) (r : TwinReading)
    → i < g.graph.states → IsTwinWords a (moves_in g) (pair_in g) i heads words → Spells a f heads words → text ≡ get_or f.pumps 0 [] → AreTwinWays t nodes text (place_of t a g i) r
    → IsReadingOf t nodes (Expo f) (Twin r)
twin-reading t a g s nodes f i heads words text r lt w spells same h =
    let letters = twin_letters a (moves_in g) (pair_in g) g.graph.states i heads words (stands-some t a g s) s.led.graph w in
    let whole : IsTwinReading t nodes f.heads f.pumps r =
    record {
      place = place_of t a g i;
      entered = twin-entered t a g s i heads words f.heads f.pumps lt w letters.0 letters.1 spells.head_samples spells.pump_samples;
      ways = subst (λ x. AreTwinWays t nodes x (place_of t a g i) r) same h;
    } in
    whole
