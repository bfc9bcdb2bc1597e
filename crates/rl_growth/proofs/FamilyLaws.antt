-- The words of a family: what ends them, and that they are letters.
use Rattle.std.proofs.Common.{◌≡◌, ◌∙◌, ℕ, zero, suc, ◌+◌, ◌-◌, ◌<◌, ◌≤◌, inl, inr, List, [], ◌∷◌, ◌++◌, length, map, take, get_or, All, true, refl, sym, ap, ap₂, subst, arith}
use Rattle.rl_graph.specs.Paths.{paths}
use Rattle.rl_graph.specs.Twins.{Link, IsTwin}
use Rattle.rl_graph.proofs.PathLaws.{split-word}
use Rattle.rl_graph.proofs.TwinPaths.{two-count}
use Rattle.rl_prio.specs.Automaton.{Automaton, letters_count}
use Rattle.rl_prio.specs.Letters.{all_sets}
use Rattle.rl_sets.specs.Live.{IsRest}
use Rattle.rl_pairs.specs.declared.pair.Pair.{Pair}
use Rattle.rl_pairs.specs.LivePairs.{refused}
use Rattle.rl_pairs.specs.PairGraph.{IsPairGraph}
use Rattle.rl_pairs.specs.Families.{Chained, chain_heads, chain_pumps, to_end}
use Rattle.rl_pairs.proofs.StillLaws.{still_of, has-All}
use Rattle.rl_pairs.proofs.FamilyLaws.{Inside}
use Rattle.rl_pairs.proofs.CostLaws.{twin-inside, chain-inside}
use Rattle.rl_degree.specs.declared.chains.Split.{Split}
use Rattle.rl_growth.specs.Questions.{StandsForSome, IsLedGraph}
use Rattle.rl_degree.specs.Chains.{links_of}
use Rattle.rl_growth.specs.Routes.{split_at, state_after, bare, IsRoute, IsWay}
use Rattle.rl_growth.specs.FamilyWords.{AreLetters, IsTwinWords, IsChainWords}
use Rattle.rl_growth.proofs.RouteLaws.{before-more, read-at, after-none, after-last, ends-all}

-- A rest without its last letter.
front : (a : Automaton) (m : ℕ) (r : List ℕ) → IsRest a r → m + 1 ≡ length r → to_end a (take m r) ≡ r
front a m [] rest e = absurd rest
front a zero (l ∷ []) (inl (same, last)) e = ap (λ (c : ℕ). c ∷ []) (sym same)
front a zero (l ∷ []) (inr (lt, rest)) e = absurd rest
front a zero (l ∷ (c ∷ w)) rest e = absurd (omega arith)
front a (suc m) (l ∷ []) rest e = absurd (omega arith)
front a (suc m) (l ∷ (c ∷ w)) (inl (same, last)) e = cc
front a (suc m) (l ∷ (c ∷ w)) (inr (lt, rest)) e = ap (λ (v : List ℕ). l ∷ v) (front a m (c ∷ w) rest (omega arith))

rest-some : (a : Automaton) (r : List ℕ) → IsRest a r → 0 < length r
rest-some a [] rest = absurd rest
rest-some a (l ∷ w) rest = omega arith

pub rest-front : (a : Automaton) (r : List ℕ) → IsRest a r → to_end a (take (length r - 1) r) ≡ r
rest-front a r rest = front a (length r - 1) r rest (omega (arith, rest-some a r rest))

heads-of : (links : List Link) (x last : List ℕ) → map (λ (m : Link). m.lead) links ++ (x ∷ (last ∷ [])) ≡ chain_heads links x last
heads-of [] x last = refl
heads-of (m ∷ links) x last = ap (λ (l : List (List ℕ)). m.lead ∷ l) (heads-of links x last)

pumps-of : (links : List Link) (y : List ℕ) → map (λ (m : Link). m.word) links ++ y ∷ [] ≡ chain_pumps links y
pumps-of [] y = refl
pumps-of (m ∷ links) y = ap (λ (l : List (List ℕ)). m.word ∷ l) (pumps-of links y)

module _ (a : Automaton) (next : ℕ → ℕ → List ℕ) (at : ℕ → Pair) (n : ℕ) (lead rest : ℕ → List ℕ) (led : IsLedGraph a next at n lead rest) where
  -- What the set of a state refuses, without the end letter.
  last-rest : (q : ℕ) → q < n → IsRest a (to_end a (take (length (rest q) - 1) (rest q)))
  last-rest q lt = subst (IsRest a) (sym (rest-front a (rest q) (led.rests q lt))) (led.rests q lt)

  last-refused : (q : ℕ) → q < n → refused a at q (to_end a (take (length (rest q) - 1) (rest q))) ≡ true
  last-refused q lt = ap (refused a at q) (rest-front a (rest q) (led.rests q lt)) ∙ led.refuses q lt

  pub twin_words : (q : ℕ) (y p r : List ℕ) → q < n → IsTwin next q y p r → IsTwinWords a next at q (lead q ∷ (take (length (rest q) - 1) (rest q) ∷ [])) (y ∷ [])
  twin_words q y p r lt twin =
      record {
        lead = lead q;
        round = y;
        last = take (length (rest q) - 1) (rest q);
        same_heads = refl;
        same_pumps = refl;
        leads = led.leads q lt;
        twice = two-count next q q p r y twin.apart twin.one_way twin.other_way;
        rest = last-rest q lt;
        refuses = last-refused q lt;
      }

  closed : (links : List Link) (x : List ℕ) (z : ℕ) (y : List ℕ) (splits : List Split) (alone : ℕ) (heads pumps : List (List ℕ)) → z < n → Chained next 0 links x z → 1 ≤ paths next z z y → 1 ≤ length y
      → heads ≡ map (λ (m : Link). m.lead) links → pumps ≡ map (λ (m : Link). m.word) links → length links ≡ length splits
      → map bare links ≡ links_of (take (length splits) splits) → z ≡ state_after splits alone → IsChainWords a next at splits alone (heads ++ (x ∷ (take (length (rest z) - 1) (rest z) ∷ []))) (pumps ++ y ∷ [])
  closed links x z y splits alone heads pumps lt chained cycle some leads rounds count ends at_end =
      record {
        links = links;
        lead = x;
        state = z;
        round = y;
        last = take (length (rest z) - 1) (rest z);
        same_heads = ap (λ (l : List (List ℕ)). l ++ (x ∷ (take (length (rest z) - 1) (rest z) ∷ []))) leads ∙ heads-of links x (take (length (rest z) - 1) (rest z));
        same_pumps = ap (λ (l : List (List ℕ)). l ++ y ∷ []) rounds ∙ pumps-of links y;
        count = count;
        ends = ends-all splits links ends;
        at_end = at_end;
        chained = chained;
        cycle = cycle;
        some = some;
        rest = last-rest z lt;
        refuses = last-refused z lt;
      }

  -- A cycle without a split.
  pub cycle_words : (splits : List Split) (z : ℕ) (y : List ℕ) (heads pumps : List (List ℕ)) → length splits ≡ 0 → IsWay next splits (length splits) heads pumps → z < n → 1 ≤ paths next z z y → 1 ≤ length y
      → IsChainWords a next at splits z (heads ++ (lead z ∷ (take (length (rest z) - 1) (rest z) ∷ []))) (pumps ++ y ∷ [])
  cycle_words splits z y heads pumps none way lt cycle some =
      closed way.links (lead z) z y splits z heads pumps lt (alone way.links (omega (arith, way.count))) cycle some way.leads way.rounds way.count way.ends (after-none splits z none)
    where
      alone : (links : List Link) → length links ≡ 0 → Chained next 0 links (lead z) z
      alone [] e = led.leads z lt
      alone (m ∷ links) e = absurd (omega arith)

  -- A chain that ends on the loop of its last split.
  pub split_words : (splits : List Split) (k other : ℕ) (heads pumps : List (List ℕ)) → IsRoute next n splits → length splits ≡ k + 1 → IsWay next splits (length splits) heads pumps → 1 ≤ length (split_at splits k).word
      → IsChainWords a next at splits other (heads ++ ([] ∷ (take (length (rest (split_at splits k).to) - 1) (rest (split_at splits k).to) ∷ []))) (pumps ++ (split_at splits k).word ∷ [])
  split_words splits k other heads pumps route e way some =
      closed way.links [] (split_at splits k).to (split_at splits k).word splits other heads pumps (route.to_in k (omega arith))
      (subst (Chained next 0 way.links []) (before-more splits (length splits) k e) way.chained)
      (route.split k (omega arith)).behind some way.leads way.rounds way.count way.ends (after-last splits k other e)

letters-all : (a : Automaton) (words : List (List ℕ)) → Inside a words → AreLetters a words
letters-all a words inside = has-All (All (λ l. l < letters_count a)) words (λ w i. has-All (λ l. l < letters_count a) w (inside w i))

pub twin_letters : (a : Automaton) (next : ℕ → ℕ → List ℕ) (at : ℕ → Pair) (n q : ℕ) (heads pumps : List (List ℕ)) → StandsForSome a → IsPairGraph a next at n → IsTwinWords a next at q heads pumps → AreLetters a heads × AreLetters a pumps
twin_letters a next at n q heads pumps stands g words =
    let still = still_of a stands.0 stands.1 (all_sets stands.0) stands.2 stands.3 in
    let inside = twin-inside a still next at n g q words.lead words.round words.last words.leads words.twice words.rest in
    (subst (AreLetters a) (sym words.same_heads) (letters-all a (words.lead ∷ (words.last ∷ [])) inside.0), subst (AreLetters a) (sym words.same_pumps) (letters-all a (words.round ∷ []) inside.1))

pub chain_letters : (a : Automaton) (next : ℕ → ℕ → List ℕ) (at : ℕ → Pair) (n : ℕ) (splits : List Split) (alone : ℕ) (heads pumps : List (List ℕ)) → StandsForSome a → IsPairGraph a next at n → IsChainWords a next at splits alone heads pumps → AreLetters a heads × AreLetters a pumps
chain_letters a next at n splits alone heads pumps stands g words =
    let still = still_of a stands.0 stands.1 (all_sets stands.0) stands.2 stands.3 in
    let inside = chain-inside a still next at n g words.links words.lead words.state words.round words.last words.chained words.cycle words.some words.rest in
    (subst (AreLetters a) (sym words.same_heads) (letters-all a (chain_heads words.links words.lead words.last) inside.0), subst (AreLetters a) (sym words.same_pumps) (letters-all a (chain_pumps words.links words.round) inside.1))

-- Lists that were put together item by item

pub twin-pushed : (a : Automaton) (next : ℕ → ℕ → List ℕ) (at : ℕ → Pair) (n : ℕ) (lead rest : ℕ → List ℕ) (q : ℕ) (y p r : List ℕ) (heads pumps : List (List ℕ)) → q < n → IsTwin next q y p r
    → heads ≡ lead q ∷ (take (length (rest q) - 1) (rest q) ∷ []) → pumps ≡ y ∷ [] → IsLedGraph a next at n lead rest → IsTwinWords a next at q heads pumps
twin-pushed a next at n lead rest q y p r heads pumps lt twin same_heads same_pumps led =
    let words = twin_words a next at n lead rest led q y p r lt twin in
    subst (IsTwinWords a next at q heads) (sym same_pumps) (subst (λ (h : List (List ℕ)). IsTwinWords a next at q h (y ∷ [])) (sym same_heads) words)

pub cycle-pushed : (a : Automaton) (next : ℕ → ℕ → List ℕ) (at : ℕ → Pair) (n : ℕ) (lead rest : ℕ → List ℕ) (splits : List Split) (z : ℕ) (x y : List ℕ) (heads pumps heads2 pumps2 : List (List ℕ)) → length splits ≡ 0 → IsWay next splits (length splits) heads pumps → z < n → 1 ≤ paths next z z y → 1 ≤ length y
    → x ≡ lead z → heads2 ≡ heads ++ (x ∷ (take (length (rest z) - 1) (rest z) ∷ [])) → pumps2 ≡ pumps ++ y ∷ [] → IsLedGraph a next at n lead rest → IsChainWords a next at splits z heads2 pumps2
cycle-pushed a next at n lead rest splits z x y heads pumps heads2 pumps2 e way lt cycle some same_lead same_heads same_pumps led =
    let words = cycle_words a next at n lead rest led splits z y heads pumps e way lt cycle some in
    let heads_here : heads2 ≡ heads ++ (lead z ∷ (take (length (rest z) - 1) (rest z) ∷ [])) = same_heads ∙ ap (λ (l : List ℕ). heads ++ (l ∷ (take (length (rest z) - 1) (rest z) ∷ []))) same_lead in
    subst (IsChainWords a next at splits z heads2) (sym same_pumps) (subst (λ (h : List (List ℕ)). IsChainWords a next at splits z h (pumps ++ y ∷ [])) (sym heads_here) words)

pub split-pushed : (a : Automaton) (next : ℕ → ℕ → List ℕ) (at : ℕ → Pair) (n : ℕ) (lead rest : ℕ → List ℕ) (splits : List Split) (k other : ℕ) (s : Split) (x : List ℕ) (heads pumps heads2 pumps2 : List (List ℕ)) → IsRoute next n splits → length splits ≡ k + 1 → IsWay next splits (length splits) heads pumps → s ≡ get_or splits k s
    → x ≡ [] → heads2 ≡ heads ++ (x ∷ (take (length (rest s.to) - 1) (rest s.to) ∷ [])) → pumps2 ≡ pumps ++ s.word ∷ [] → IsLedGraph a next at n lead rest → IsChainWords a next at splits other heads2 pumps2
split-pushed a next at n lead rest splits k other s x heads pumps heads2 pumps2 route e way here same_lead same_heads same_pumps led =
    let p : Split = split_at splits k in
    let same : s ≡ p = here ∙ read-at splits k s (omega arith) in
    let split = route.split k (omega arith) in
    let words = split_words a next at n lead rest led splits k other heads pumps route e way (split-word next p.from p.to p.word split) in
    let heads_here : heads2 ≡ heads ++ ([] ∷ (take (length (rest p.to) - 1) (rest p.to) ∷ [])) = same_heads ∙ ap₂ (λ (l : List ℕ) (t : Split). heads ++ (l ∷ (take (length (rest t.to) - 1) (rest t.to) ∷ []))) same_lead same in
    let pumps_here : pumps2 ≡ pumps ++ p.word ∷ [] = same_pumps ∙ ap (λ (t : Split). pumps ++ t.word ∷ []) same in
    subst (IsChainWords a next at splits other heads2) (sym pumps_here) (subst (λ (h : List (List ℕ)). IsChainWords a next at splits other h (pumps ++ p.word ∷ [])) (sym heads_here) words)
