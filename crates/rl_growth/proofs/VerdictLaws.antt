-- From what the graph of live pairs is found to have to a right verdict.
use Rattle.std.proofs.Common.{◌≡◌, ◌≢◌, ℕ, zero, suc, ◌+◌, ◌*◌, ◌^◌, ◌<◌, ◌≤◌, ◌⊎◌, inl, inr, List, [], ◌∷◌, length, get_or, All, Result, Ok, Err, IfOk, sym, ap, subst, arith}
use Rattle.std.proofs.lemmas.Bool.{cases_lt}
use Rattle.std.proofs.lemmas.List.{get_or_past}
use Rattle.rl_graph.specs.Paths.{paths, IsWithin}
use Rattle.rl_graph.specs.Twins.{HasNoTwin, Link, ChainFrom, IsRank}
use Rattle.rl_graph.specs.Bounds.{bound_n, bound_k, bound_h}
use Rattle.rl_degree.specs.declared.chains.Split.{Split}
use Rattle.rl_degree.proofs.RankPaths.{by_degree}
use Rattle.rl_degree.proofs.WithoutSplit.{without_cycle}
use Rattle.rl_degree.proofs.SplitLaws.{rank_still, chain_short}
use Rattle.rl_ranges.specs.Text.{code_count, IsText}
use Rattle.rl_ranges.specs.declared.letters.TheConstants.{MOST_LETTERS}
use Rattle.rl_syntax.specs.declared.verdict.Family.{Family}
use Rattle.rl_syntax.specs.declared.verdict.Limit.{Limit}
use Rattle.rl_syntax.specs.declared.verdict.Limit.TheVariants.{Size, Letters, Moves, Sets, Pairs}
use Rattle.rl_syntax.specs.declared.verdict.Verdict.{Verdict}
use Rattle.rl_syntax.specs.declared.verdict.Verdict.TheVariants.{Degree, Expo, Undecided}
use Rattle.rl_syntax.specs.Tree.{size}
use Rattle.rl_syntax.specs.Family.{IsFamily}
use Rattle.rl_syntax.specs.declared.limits.TheConstants.{MOST_COUNTED_SETS, MOST_MOVES, MOST_NODES}
use Rattle.rl_prio.specs.Automaton.{Automaton, IsAutomaton}
use Rattle.rl_prio.specs.Items.{longest}
use Rattle.rl_prio.specs.StandsFor.{StandsFor}
use Rattle.rl_prio.specs.Letters.{all_sets, letters}
use Rattle.rl_pairs.specs.declared.pair.Pair.{Pair}
use Rattle.rl_pairs.specs.PairGraph.{IsPairGraph, IsNumbered}
use Rattle.rl_pairs.specs.Counted.{CountedSet, MoreThan}
use Rattle.rl_pairs.specs.Families.{Spells, chain_heads}
use Rattle.rl_pairs.specs.RightVerdict.{Question, IsMachine, IsExceeded, IsSmall, HasDegree, IsBounded, RightVerdict, measure_of}
use Rattle.rl_pairs.proofs.SameLaws.{sets-passed}
use Rattle.rl_pairs.proofs.VerdictLaws.{twin_verdict, chain_verdict, flat_verdict, pairs-within, graph-within, machine-bounded, machine-few, bounded_degree, bounded_flat}
use Rattle.rl_prio.specs.Measure.{measure}
use Rattle.rl_growth.specs.Texts.{HasTexts}
use Rattle.rl_growth.specs.Questions.{StandsForSome, DecidesFor}
use Rattle.rl_growth.specs.FamilyWords.{IsTwinWords, IsChainWords}
use Rattle.rl_growth.proofs.RouteLaws.{chained-from}

-- The limits

pub small : (q : Question) → size q.tree ≤ MOST_NODES → length (letters q.tree (code_count q.universe)) ≤ MOST_LETTERS → longest q.tree ≤ MOST_MOVES → IsSmall q
small q s l m = record { size = λ h. omega arith; letters = λ h. omega arith; moves = λ h. omega arith }

pub none_passed : (q : Question) (a : Automaton) (next : ℕ → ℕ → List ℕ) (at : ℕ → Pair) (n : ℕ) → IsMachine q a → IsSmall q → IsPairGraph a next at n → n ≤ q.max_pairs → (MoreThan MOST_COUNTED_SETS (CountedSet a) → ⊥) → (limit : Limit) → IsExceeded q limit → ⊥
none_passed q a next at n machine small g few sets Size h = small.size h
none_passed q a next at n machine small g few sets Letters h = small.letters h
none_passed q a next at n machine small g few sets Moves h = small.moves h
none_passed q a next at n machine small g few sets Sets h = sets (sets-passed q a machine h)
none_passed q a next at n machine small g few sets Pairs h = pairs-within q a next at n machine g few h

-- A longest chain from the first pair is a longest one of all.
pub top_rank : (next : ℕ → ℕ → List ℕ) (n d r : ℕ) (links : List Link) → 0 < n → ((s : ℕ) (ms : List Link) → s < n → ChainFrom next s ms → length ms ≤ d) → ChainFrom next 0 links → length links ≡ d → IsRank next 0 r → r ≡ d
top_rank next n d r links some longest chain count rank =
    let most = longest 0 rank.chain some rank.goes in
    let least = rank.longest links chain in
    omega (arith, most, least, rank.long)

module _ (q : Question) (a : Automaton) (next : ℕ → ℕ → List ℕ) (at : ℕ → Pair) (n : ℕ) (machine : IsMachine q a) (whole : IsAutomaton a) (g : IsPairGraph a next at n) (numbered : IsNumbered a next at n) where
  within-bounds : IsWithin next (bound_n (measure_of q)) (bound_k (measure_of q))
  within-bounds = machine-bounded q a next at n machine g whole numbered

  some-bound : 0 < bound_n (measure_of q)
  some-bound = omega (arith, g.some, machine-few q a next at n machine g whole numbered)

  ranks-all : (ranks : List ℕ) → length ranks ≡ n → ((s : ℕ) → s < n → IsRank next s (get_or ranks s 0)) → (s : ℕ) → IsRank next s (get_or ranks s 0)
  ranks-all ranks long each s = by (cases_lt s n)
    where
      by : (s < n) ⊎ (n ≤ s) → IsRank next s (get_or ranks s 0)
      by (inl lt) = each s lt
      by (inr out) = subst (IsRank next s) (sym (get_or_past ranks s 0 (omega arith))) (rank_still next s (λ l. g.empty s l (inl out)))

  -- The bound of the degree that is one more than the rank of the first pair.
  pub rank_bound : (ranks : List ℕ) (d : ℕ) → HasNoTwin next → length ranks ≡ n → ((s : ℕ) → s < n → IsRank next s (get_or ranks s 0)) → get_or ranks 0 0 ≡ d → IsBounded q (suc d)
  rank_bound ranks d none long each e =
      bounded_degree q a next at n machine whole g numbered d
      (λ p u. subst (λ r. paths next 0 p u ≤ (bound_h (bound_n (measure_of q)) (bound_k (measure_of q)) * (1 + bound_n (measure_of q) * bound_k (measure_of q))) ^ suc r * suc (length u) ^ r) e
      (by_degree next (bound_n (measure_of q)) (bound_k (measure_of q)) (λ s. get_or ranks s 0) within-bounds none (λ s lt. ranks-all ranks long each s) 0 p u some-bound))

  pub flat_bound : ((p l : ℕ) (u : List ℕ) → paths next p p (l ∷ u) ≡ 0) → IsBounded q 0
  flat_bound none =
      bounded_flat q a next at n machine whole g numbered none
      (λ p u. without_cycle next (bound_n (measure_of q)) (bound_k (measure_of q)) within-bounds none 0 p u some-bound)

  module _ (within : (limit : Limit) → IsExceeded q limit → ⊥) (f : Family) where
    pub twin_right : (p : ℕ) (heads pumps : List (List ℕ)) → IsTwinWords a next at p heads pumps → Spells a f heads pumps → RightVerdict q (Expo f)
    twin_right p heads pumps w spells =
        twin_verdict q a next at n machine whole g within f p w.lead w.round w.last
        (subst (Spells a f (w.lead ∷ (w.last ∷ []))) w.same_pumps (subst (λ (h : List (List ℕ)). Spells a f h pumps) w.same_heads spells)) w.leads w.twice w.rest w.refuses

    pub chain_right : (splits : List Split) (alone r : ℕ) (heads pumps : List (List ℕ)) (ranks : List ℕ) → IsChainWords a next at splits alone heads pumps → Spells a f heads pumps → HasNoTwin next
        → ((s : ℕ) (ms : List Link) → s < n → ChainFrom next s ms → length ms ≤ length splits) → length ranks ≡ n → ((s : ℕ) → s < n → IsRank next s (get_or ranks s 0)) → r ≡ length splits + 1 → RightVerdict q (Degree r f)
    chain_right splits alone r heads pumps ranks w spells none longest long each e =
        let d : ℕ = length splits in
        let same : r ≡ suc d = omega arith in
        let below : HasDegree q (suc (length w.links)) f = chain_verdict q a next at n machine whole g within f w.links w.lead w.state w.round w.last
        (subst (Spells a f (chain_heads w.links w.lead w.last)) w.same_pumps (subst (λ (h : List (List ℕ)). Spells a f h pumps) w.same_heads spells)) w.chained w.cycle w.some w.rest w.refuses in
        let top = top_rank next n d (get_or ranks 0 0) w.links g.some longest (chained-from next 0 w.links w.lead w.state w.chained) w.count (each 0 g.some) in
        let above : IsBounded q (suc d) = rank_bound ranks d none long each top in
        subst (λ (m : ℕ). HasDegree q m f × IsBounded q m) (sym same) (subst (λ (m : ℕ). HasDegree q (suc m) f) w.count below, above)

    pub flat_right : f.heads ≡ [] ∷ [] → f.pumps ≡ [] → ((p l : ℕ) (u : List ℕ) → paths next p p (l ∷ u) ≡ 0) → RightVerdict q (Degree 0 f)
    flat_right heads pumps none = (flat_verdict q within f family, flat_bound none)
      where
        no-text : All (IsText q.universe) ([] ∷ [])
        no-text zero d lt k e small = absurd (omega arith)
        no-text (suc j) d lt k e small = absurd (omega arith)

        family : IsFamily q.universe 0 f
        family =
            record {
              heads = ap length heads;
              pumps = ap length pumps;
              head_texts = subst (All (IsText q.universe)) (sym heads) no-text;
              pump_texts = subst (All (IsText q.universe)) (sym pumps) (λ k d lt. absurd (omega arith));
              no_empty_pump = subst (All (λ (pump : List ℕ). pump ≢ [])) (sym pumps) (λ k d lt. absurd (omega arith));
            }

-- A chain of splits is shorter than the graph.
pub chain_fits : (a : Automaton) (next : ℕ → ℕ → List ℕ) (at : ℕ → Pair) (n : ℕ) (splits : List Split) (alone : ℕ) (heads pumps : List (List ℕ)) → StandsForSome a → IsPairGraph a next at n → HasNoTwin next → IsChainWords a next at splits alone heads pumps → length splits < n
chain_fits a next at n splits alone heads pumps stands g none w =
    let short = chain_short next n (bound_k (measure a.table.codes stands.0)) (graph-within a stands.0 stands.1 (all_sets stands.0) next at n stands.3 g) none 0 w.links g.some (chained-from next 0 w.links w.lead w.state w.chained) in
    omega (arith, short, w.count)

pub decided : {E : Type 0} (q : Question) (a : Automaton) (next : ℕ → ℕ → List ℕ) (at : ℕ → Pair) (n : ℕ) (r : Result Verdict E) → StandsFor a q.tree q.ending → a.table.codes ≡ code_count q.universe
    → size q.tree ≤ MOST_NODES → length (letters q.tree (code_count q.universe)) ≤ MOST_LETTERS → longest q.tree ≤ MOST_MOVES → IsPairGraph a next at n → n ≤ q.max_pairs → (MoreThan MOST_COUNTED_SETS (CountedSet a) → ⊥) → IfOk r (DecidesFor a) → IfOk r (RightVerdict q)
decided q a next at n (Ok v) stands codes s l m g few sets h =
    let machine : IsMachine q a = record { stands = stands; same_codes = codes } in
    h q machine (none_passed q a next at n machine (small q s l m) g few sets)
decided q a next at n (Err e) stands codes s l m g few sets h = tt

-- The texts of a right verdict.
texts-right : (q : Question) (v : Verdict) → RightVerdict q v → HasTexts q.universe v
texts-right q (Degree d f) h = (h.0.family.head_texts, h.0.family.pump_texts)
texts-right q (Expo f) h = (h.family.head_texts, h.family.pump_texts)
texts-right q (Undecided limit) h = tt

pub texts_ok : {E : Type 0} (q : Question) (r : Result Verdict E) → IfOk r (RightVerdict q) → IfOk r (HasTexts q.universe)
texts_ok q (Ok v) h = texts-right q v h
texts_ok q (Err e) h = tt
