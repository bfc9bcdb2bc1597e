-- A certificate that holds has a right verdict: the way shows the bound from below, the numbers show the bound from above.
use Rattle.std.proofs.Common.{◌≡◌, ◌≢◌, ◌∙◌, ℕ, zero, suc, ◌<◌, ◌≤◌, ◌⊎◌, inl, inr, List, [], ◌∷◌, length, get_or, All, true, refl, sym, ap, subst, arith}
use Rattle.std.proofs.lemmas.Bool.{cases_lt}
use Rattle.std.proofs.lemmas.List.{length-map}
use Rattle.rl_graph.specs.Paths.{Has, paths, IsWithin, IsBounded}
use Rattle.rl_graph.specs.Twins.{HasNoTwin, IsSplit, Link}
use Rattle.rl_graph.specs.Bounds.{bound_n, bound_k}
use Rattle.rl_graph.proofs.Sums.{has-map, total-there}
use Rattle.rl_graph.proofs.PathLaws.{nil-same}
use Rattle.rl_syntax.specs.declared.verdict.Family.{Family}
use Rattle.rl_syntax.specs.declared.verdict.Limit.{Limit}
use Rattle.rl_syntax.specs.declared.verdict.Verdict.{Verdict}
use Rattle.rl_syntax.specs.declared.verdict.Verdict.TheVariants.{Degree, Expo, Undecided}
use Rattle.rl_syntax.specs.Family.{IsFamily}
use Rattle.rl_prio.specs.Automaton.{Automaton, letters_count}
use Rattle.rl_prio.specs.Letters.{all_sets}
use Rattle.rl_degree.specs.Chains.{HasNoCycle}
use Rattle.rl_degree.specs.Leavers.{NeverRises, HasNoEqualSplit}
use Rattle.rl_degree.proofs.FallingLaws.{doubles_exclude, triples_exclude}
use Rattle.rl_degree.proofs.RankPaths.{by_ranks}
use Rattle.rl_degree.proofs.WithoutSplit.{without_cycle}
use Rattle.rl_pairs.specs.declared.pair.Pair.{Pair}
use Rattle.rl_pairs.specs.Families.{Chained, chain_heads, chain_pumps, letters_in, to_end, Reads}
use Rattle.rl_pairs.specs.LivePairs.{refused}
use Rattle.rl_pairs.specs.RightVerdict.{Question, IsExceeded, HasDegree, IsExpo, IsBounded as IsBoundedCost, RightVerdict, measure_of}
use Rattle.rl_pairs.proofs.StillLaws.{All-has}
use Rattle.rl_pairs.proofs.CostLaws.{twin_reads, chain_reads}
use Rattle.rl_pairs.proofs.VerdictLaws.{flat_verdict, bounded_degree, bounded_flat, machine-bounded, machine-within, machine-few}
use Rattle.rl_cert.specs.declared.certificate.Anchor.{Anchor}
use Rattle.rl_cert.specs.declared.certificate.Certificate.{Certificate}
use Rattle.rl_numbers.specs.Numbered.{AreTriples, is_triple, triple_number}
use Rattle.rl_numbers.specs.Doubled.{AreDoubles, is_double, double_number}
use Rattle.rl_cert.specs.Numbered.{AreLevels}
use Rattle.rl_cert.specs.Ways.{IsWay, IsTwinWay}
use Rattle.rl_cert.specs.Holds.{IsPairGraphOf, words_of, ShowsDegreeOf, Shows, Holds}

-- The chain along a way.
record IsChainOf (a : Automaton) (next : ℕ → ℕ → List ℕ) (at : ℕ → Pair) (s : ℕ) (heads pumps : List (List ℕ)) : Type 0 where
  pub links : List Link
  pub lead : List ℕ
  pub state : ℕ
  pub round : List ℕ
  pub last : List ℕ
  pub same_heads : heads ≡ chain_heads links lead last
  pub same_pumps : pumps ≡ chain_pumps links round
  pub chained : Chained next s links lead state
  pub cycle : 1 ≤ paths next state state round
  pub refuses : refused a at state (to_end a last) ≡ true

chain_of : (a : Automaton) (next : ℕ → ℕ → List ℕ) (at : ℕ → Pair) (n s : ℕ) (anchors : List Anchor) (heads pumps : List (List ℕ)) → IsWay a next at n s anchors heads pumps → IsChainOf a next at s heads pumps
chain_of a next at n s [] heads pumps w = absurd w
chain_of a next at n s (z ∷ []) [] pumps w = absurd w
chain_of a next at n s (z ∷ []) (x ∷ []) pumps w = absurd w
chain_of a next at n s (z ∷ []) (x ∷ (last ∷ [])) [] w = absurd w
chain_of a next at n s (z ∷ []) (x ∷ (last ∷ [])) (y ∷ []) w = record {
  links = [];
  lead = x;
  state = z.q;
  round = y;
  last = last;
  same_heads = refl;
  same_pumps = refl;
  chained = subst (λ (t : ℕ). 1 ≤ paths next s t x) w.1 w.2;
  cycle = w.3;
  refuses = w.4;
}
chain_of a next at n s (z ∷ []) (x ∷ (last ∷ [])) (y ∷ (v ∷ pumps)) w = absurd w
chain_of a next at n s (z ∷ []) (x ∷ (last ∷ (u ∷ heads))) pumps w = absurd w
chain_of a next at n s (m ∷ (k ∷ anchors)) [] pumps w = absurd w
chain_of a next at n s (m ∷ (k ∷ anchors)) (x ∷ heads) [] w = absurd w
chain_of a next at n s (m ∷ (k ∷ anchors)) (x ∷ heads) (y ∷ pumps) w =
    let r = chain_of a next at n m.q (k ∷ anchors) heads pumps w.4 in
    record {
      links = record { lead = x; from = m.r; to = m.q; word = y } ∷ r.links;
      lead = r.lead;
      state = r.state;
      round = r.round;
      last = r.last;
      same_heads = ap (λ (l : List (List ℕ)). x ∷ l) r.same_heads;
      same_pumps = ap (λ (l : List (List ℕ)). y ∷ l) r.same_pumps;
      chained = (w.2, w.3, r.chained);
      cycle = r.cycle;
      refuses = r.refuses;
    }

no-member : (r : List ℕ) (m : ℕ) → r ≡ [] → Has m r → ⊥
no-member r m e h = subst (Has m) e h

pumps-count : (links : List Link) (y : List ℕ) → length (chain_pumps links y) ≡ suc (length links)
pumps-count [] y = refl
pumps-count (m ∷ links) y = ap suc (pumps-count links y)

last-pump : (links : List Link) (y : List ℕ) → Has y (chain_pumps links y)
last-pump [] y = inl refl
last-pump (m ∷ links) y = inr (last-pump links y)

some-letters : (a : Automaton) (w : List ℕ) → w ≢ [] → 1 ≤ length (letters_in a w)
some-letters a [] ne = absurd (ne refl)
some-letters a (c ∷ w) ne = omega arith

module _ (q : Question) (a : Automaton) (next : ℕ → ℕ → List ℕ) (at : ℕ → Pair) (n : ℕ) (field : IsPairGraphOf q a next at n) (within : (limit : Limit) → IsExceeded q limit → ⊥) where
  reads : (d : ℕ) (f : Family) (heads pumps : List (List ℕ)) → IsFamily q.universe d f → words_of a f.heads ≡ heads → words_of a f.pumps ≡ pumps → Reads a f heads pumps
  reads d f heads pumps family e h = record {
    head_codes = subst (λ (m : ℕ). All (All (λ c. c < m)) f.heads) (sym field.machine.same_codes) family.head_texts;
    pump_codes = subst (λ (m : ℕ). All (All (λ c. c < m)) f.pumps) (sym field.machine.same_codes) family.pump_texts;
    same_heads = e;
    same_pumps = h;
  }

  within-bounds : IsWithin next (bound_n (measure_of q)) (bound_k (measure_of q))
  within-bounds = machine-bounded q a next at n field.machine field.graph field.whole field.numbered

  some-bound : 0 < bound_n (measure_of q)
  some-bound = omega (arith, field.graph.some, machine-few q a next at n field.machine field.graph field.whole field.numbered)

  bounded : IsBounded next n (suc (letters_count a))
  bounded = record { targets = targets; letters = λ s l le. field.graph.empty s l (inr (omega arith)) }
    where
      targets : (s l m : ℕ) → Has m (next s l) → m < n
      targets s l m h = by (cases_lt s n)
        where
          by : (s < n) ⊎ (n ≤ s) → m < n
          by (inl lt) = field.graph.targets s l m lt h
          by (inr out) = absurd (no-member (next s l) m (field.graph.empty s l (inl out)) h)

  -- The bound from above.
  upper : (d : ℕ) (c : Certificate) → AreLevels next n (suc d) c.ranks → AreDoubles next n c.doubles → AreTriples next n (λ s. get_or c.ranks s 0) c.triples → IsBoundedCost q (suc d)
  upper d c levels doubles triples =
      bounded_degree q a next at n field.machine field.whole field.graph field.numbered d
      (λ p u. by_ranks next (bound_n (measure_of q)) (bound_k (measure_of q)) rank within-bounds none falls no_split d 0 p u some-bound (omega (arith, levels.low 0 field.graph.some)))
    where
      rank : ℕ → ℕ
      rank s = get_or c.ranks s 0

      none : HasNoTwin next
      none = doubles_exclude next n (suc (letters_count a)) (is_double c.doubles) (double_number c.doubles) bounded doubles.numbers

      falls : NeverRises next (bound_n (measure_of q)) rank
      falls s l m lt h = by (cases_lt s n)
        where
          by : (s < n) ⊎ (n ≤ s) → rank m ≤ rank s
          by (inl small) = levels.never_rises s l m small h
          by (inr out) = absurd (no-member (next s l) m (field.graph.empty s l (inl out)) h)

      no_split : HasNoEqualSplit next (bound_n (measure_of q)) rank
      no_split r t y lt e split = by (cases_lt r n) y split
        where
          by : (r < n) ⊎ (n ≤ r) → (y : List ℕ) → IsSplit next r t y → ⊥
          by (inl small) y split = triples_exclude next n (bound_k (measure_of q)) rank (is_triple c.triples) (triple_number c.triples) (machine-within q a next at n field.machine field.graph) levels.never_rises triples.numbers r t y small e split
          by (inr out) [] split = split.apart (nil-same next r t split.over)
          by (inr out) (l ∷ y) split =
              let m = total-there (λ m. paths next m t y) (next r l) split.over in
              no-member (next r l) m.0 (field.graph.empty r l (inl out)) m.1

  flat : (f : Family) → IsFamily q.universe 0 f → HasNoCycle next → HasDegree q 0 f × IsBoundedCost q 0
  flat f family none = (
    flat_verdict q within f family,
    bounded_flat q a next at n field.machine field.whole field.graph field.numbered none
        (λ p u. without_cycle next (bound_n (measure_of q)) (bound_k (measure_of q)) within-bounds none 0 p u some-bound),
  )

  lower : (d : ℕ) (c : Certificate) (f : Family) → IsFamily q.universe (suc d) f → IsWay a next at n 0 c.anchors (words_of a f.heads) (words_of a f.pumps) → HasDegree q (suc d) f
  lower d c f family way =
      let h = chain_of a next at n 0 c.anchors (words_of a f.heads) (words_of a f.pumps) way in
      let long : suc d ≡ suc (length h.links) = sym family.pumps ∙ (sym (length-map f.pumps (letters_in a)) ∙ (ap length h.same_pumps ∙ pumps-count h.links h.round)) in
      let pump = has-map (letters_in a) h.round f.pumps (subst (λ (l : List (List ℕ)). Has h.round l) (sym h.same_pumps) (last-pump h.links h.round)) in
      let some : 1 ≤ length h.round = subst (λ (w : List ℕ). 1 ≤ length w) (sym pump.2) (some-letters a pump.0 (All-has (λ (w : List ℕ). w ≢ []) f.pumps pump.0 family.no_empty_pump pump.1)) in
      let cost = chain_reads a q.tree q.ending next at n field.whole field.machine.stands field.graph f h.links h.lead h.state h.round h.last
      (reads (suc d) f (chain_heads h.links h.lead h.last) (chain_pumps h.links h.round) family h.same_heads h.same_pumps) h.chained h.cycle some h.refuses in
      subst (λ (m : ℕ). HasDegree q m f) (sym long) (record { within = within; family = subst (λ (m : ℕ). IsFamily q.universe m f) long family; lower = cost })

  degree : (d : ℕ) (c : Certificate) (f : Family) → IsFamily q.universe d f → ShowsDegreeOf a next at n c f d → HasDegree q d f × IsBoundedCost q d
  degree zero c f family shows = flat f family shows
  degree (suc d) c f family shows = (lower d c f family shows.way, upper d c shows.ranks shows.doubles shows.triples)

  twin : (f : Family) (anchors : List Anchor) (heads pumps : List (List ℕ)) → IsFamily q.universe 1 f → words_of a f.heads ≡ heads → words_of a f.pumps ≡ pumps → IsTwinWay a next at n anchors heads pumps → IsExpo q f
  twin f [] heads pumps family e h w = absurd w
  twin f (z ∷ (k ∷ anchors)) heads pumps family e h w = absurd w
  twin f (z ∷ []) [] pumps family e h w = absurd w
  twin f (z ∷ []) (x ∷ []) pumps family e h w = absurd w
  twin f (z ∷ []) (x ∷ (last ∷ (u ∷ heads))) pumps family e h w = absurd w
  twin f (z ∷ []) (x ∷ (last ∷ [])) [] family e h w = absurd w
  twin f (z ∷ []) (x ∷ (last ∷ [])) (y ∷ (v ∷ pumps)) family e h w = absurd w
  twin f (z ∷ []) (x ∷ (last ∷ [])) (y ∷ []) family e h w = record {
    within = within;
    family = family;
    lower = twin_reads a q.tree q.ending next at n field.whole field.machine.stands field.graph f z.q x y last (reads 1 f (x ∷ (last ∷ [])) (y ∷ []) family e h) w.2 w.3 w.4;
  }

  pub shown_right : (c : Certificate) (v : Verdict) → Shows q a next at n c v → RightVerdict q v
  shown_right c (Degree d f) shows = degree d c f shows.0 shows.1
  shown_right c (Expo f) shows = twin f c.anchors (words_of a f.heads) (words_of a f.pumps) shows.0 refl refl shows.1
  shown_right c (Undecided limit) shows = absurd shows

pub sound : (q : Question) (c : Certificate) → Holds q c → RightVerdict q c.verdict
sound q c h = shown_right q h.automaton h.moves h.pairs h.count h.field h.within c c.verdict h.shows
