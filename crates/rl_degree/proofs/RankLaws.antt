-- The longest chains by components.
use Rattle.std.proofs.Common.{◌≡◌, ℕ, true, false, zero, suc, true≢false, Option, Some, None, is_some, MatchOption, ◌+◌, ◌<◌, ◌≤◌, ◌⊎◌, inl, inr, List, [], ◌∷◌, ◌++◌, length, get_or, refl, sym, ◌∙◌, ap, subst, arith}
use Rattle.std.proofs.lemmas.Bool.{cases_lt}
use Rattle.std.proofs.lemmas.List.{length_push, get_or_push, get_or_append_left}
use Rattle.rl_graph.specs.Paths.{Has, paths, Reaches, IsBounded}
use Rattle.rl_graph.specs.Parts.{PartTable, IsParts, number_of}
use Rattle.rl_graph.specs.Twins.{HasNoTwin, IsSplit, Link, ChainFrom, IsRank}
use Rattle.rl_graph.proofs.Sums.{at-has, at-short, at-get_or}
use Rattle.rl_graph.proofs.PathLaws.{along_moves, Reaches-self, Reaches-move, Reaches-trans}
use Rattle.rl_degree.specs.internal.Splits.{HasSplit}
use Rattle.rl_degree.specs.internal.Ranks.{best_at, no_best, IsFirst, IsGood, BeatsLetter, BeatsMoves, BeatsSplits, IsBest, AreBests}
use Rattle.rl_degree.specs.declared.ranks.Best.{Best}
use Rattle.rl_kernel.specs.Members.{is_member}
use Rattle.rl_kernel.proofs.MemberLaws.{member-there}
use Rattle.rl_degree.proofs.SearchLaws.{split-below}

-- The better one of two good chains is good.
pub good-better : (next : ℕ → ℕ → List ℕ) (n : ℕ) (p : PartTable) (bests : List Best) (q : ℕ) (a b r : Best) → (r ≡ a) ⊎ (r ≡ b) → IsGood next n p bests q a → IsGood next n p bests q b → IsGood next n p bests q r
good-better next n p bests q a b r (inl e) ga gb = subst (IsGood next n p bests q) (sym e) ga
good-better next n p bests q a b r (inr e) ga gb = subst (IsGood next n p bests q) (sym e) gb

-- A chain that is good for a state is good for each state that reaches it.
good-reached : (next : ℕ → ℕ → List ℕ) (n : ℕ) (p : PartTable) (bests : List Best) (q m : ℕ) (b : Best) → Reaches next q m → number_of p m ≤ number_of p q → IsGood next n p bests m b → IsGood next n p bests q b
good-reached next n p bests q m b r le g = record { small = omega (arith, g.small); chain = by g.chain }
  where
    by : (b.rank ≡ 0) ⊎ IsFirst next n p bests m b → (b.rank ≡ 0) ⊎ IsFirst next n p bests q b
    by (inl e) = inl e
    by (inr f) = inr (record { from_in = f.from_in; to_in = f.to_in; reached = Reaches-trans next q m b.from r f.reached; split = f.split; rest = f.rest })

pub good-move : (next : ℕ → ℕ → List ℕ) (n : ℕ) (p : PartTable) (bests : List Best) (q l m : ℕ) → AreBests next n p (number_of p q) bests → m < n → Has m (next q l) → number_of p m < number_of p q → IsGood next n p bests q (best_at bests (number_of p m))
good-move next n p bests q l m are hm has lt =
    good-reached next n p bests q m (best_at bests (number_of p m)) (Reaches-move next q m l has) (omega arith) (are.right m hm lt).good

pub good-split : (next : ℕ → ℕ → List ℕ) (n : ℕ) (p : PartTable) (bests : List Best) (q t : ℕ) → AreBests next n p (number_of p q) bests → q < n → t < n → HasSplit next q t → number_of p t < number_of p q
    → IsGood next n p bests q (record { rank = (best_at bests (number_of p t)).rank + 1; from = q; to = t })
good-split next n p bests q t are hq ht s lt = record {
  small = omega (arith, (are.right t ht lt).good.small);
  chain = inr (record { from_in = hq; to_in = ht; reached = Reaches-self next q; split = s; rest = refl });
}

-- A chain that is good for one state of a component is good for all.
pub good-same : (next : ℕ → ℕ → List ℕ) (n : ℕ) (p : PartTable) (bests : List Best) (q s : ℕ) (b : Best) → IsParts next n p → q < n → s < n → number_of p q ≡ number_of p s → IsGood next n p bests s b → IsGood next n p bests q b
good-same next n p bests q s b parts hq hs e g =
    good-reached next n p bests q s b ((parts.same q s hq hs).0 e).0 (omega (arith, e)) g

pub good-none : (next : ℕ → ℕ → List ℕ) (n : ℕ) (p : PartTable) (bests : List Best) (q : ℕ) (b : Best) → b.rank ≡ 0 → IsGood next n p bests q b
good-none next n p bests q b e = record { small = omega (arith, e); chain = inl e }

-- The laws below are about the moves of a state.

-- The first moves of a row lead to no better chain.
abbrev pub BeatsFirst : PartTable → List Best → ℕ → List ℕ → ℕ → ℕ → Type 0
BeatsFirst p bests q row end d =
    (i : ℕ) → i < end → number_of p (get_or row i 0) < number_of p q → (best_at bests (number_of p (get_or row i 0))).rank ≤ d

pub first-more : (p : PartTable) (bests : List Best) (q : ℕ) (row : List ℕ) (end d e : ℕ) → BeatsFirst p bests q row end d → d ≤ e → (number_of p (get_or row end 0) < number_of p q → (best_at bests (number_of p (get_or row end 0))).rank ≤ e) → BeatsFirst p bests q row (end + 1) e
first-more p bests q row end d e old le here i h lt = by (cases_lt i end)
  where
    by : (i < end) ⊎ (end ≤ i) → (best_at bests (number_of p (get_or row i 0))).rank ≤ e
    by (inl a) = omega (arith, old i a lt)
    by (inr a) =
        let k : i ≡ end = omega arith in
        subst (λ (z : ℕ). (best_at bests (number_of p (get_or row z 0))).rank ≤ e) (sym k) (here (subst (λ (z : ℕ). number_of p (get_or row z 0) < number_of p q) k lt))

pub first-all : (next : ℕ → ℕ → List ℕ) (p : PartTable) (bests : List Best) (q l end d : ℕ) → length (next q l) ≤ end → BeatsFirst p bests q (next q l) end d → BeatsLetter next p bests q l d
first-all next p bests q l end d long first m has lt =
    let a = at-has m (next q l) has in
    let e = at-get_or (next q l) a.0 m 0 a.1 in
    subst (λ (z : ℕ). (best_at bests (number_of p z)).rank ≤ d) e
    (first a.0 (omega (arith, at-short (next q l) a.0 m a.1)) (subst (λ (z : ℕ). number_of p z < number_of p q) (sym e) lt))

pub letter-more : (next : ℕ → ℕ → List ℕ) (p : PartTable) (bests : List Best) (q c d e : ℕ) → ((l : ℕ) → l < c → BeatsLetter next p bests q l d) → d ≤ e → BeatsLetter next p bests q c e → (l : ℕ) → l < c + 1 → BeatsLetter next p bests q l e
letter-more next p bests q c d e old le here l h m has lt = by (cases_lt l c)
  where
    by : (l < c) ⊎ (c ≤ l) → (best_at bests (number_of p m)).rank ≤ e
    by (inl a) = omega (arith, old l a m has lt)
    by (inr a) = let k : l ≡ c = omega arith in here m (subst (λ (z : ℕ). Has m (next q z)) k has) lt

pub letters-all : (next : ℕ → ℕ → List ℕ) (n k : ℕ) (p : PartTable) (bests : List Best) (q c d : ℕ) → IsBounded next n k → k ≤ c → ((l : ℕ) → l < c → BeatsLetter next p bests q l d) → BeatsMoves next p bests q d
letters-all next n k p bests q c d b le old l m has lt = by (cases_lt l c)
  where
    by : (l < c) ⊎ (c ≤ l) → (best_at bests (number_of p m)).rank ≤ d
    by (inl a) = old l a m has lt
    by (inr a) = absurd (subst (λ (r : List ℕ). Has m r) (b.letters q l (omega arith)) has)

-- No split from the state to one of the first states of a list begins a better chain.
abbrev pub BeatsListed : (ℕ → ℕ → List ℕ) → PartTable → List Best → ℕ → List ℕ → ℕ → ℕ → Type 0
BeatsListed next p bests q states end d =
    (i : ℕ) → i < end → HasSplit next q (get_or states i 0) → (best_at bests (number_of p (get_or states i 0))).rank + 1 ≤ d

pub splits-more : (next : ℕ → ℕ → List ℕ) (p : PartTable) (bests : List Best) (q : ℕ) (states : List ℕ) (end d e : ℕ) → BeatsListed next p bests q states end d → d ≤ e
    → (HasSplit next q (get_or states end 0) → (best_at bests (number_of p (get_or states end 0))).rank + 1 ≤ e) → BeatsListed next p bests q states (end + 1) e
splits-more next p bests q states end d e old le here i h s = by (cases_lt i end)
  where
    by : (i < end) ⊎ (end ≤ i) → (best_at bests (number_of p (get_or states i 0))).rank + 1 ≤ e
    by (inl a) = omega (arith, old i a s)
    by (inr a) =
        let k : i ≡ end = omega arith in
        subst (λ (z : ℕ). (best_at bests (number_of p (get_or states z 0))).rank + 1 ≤ e) (sym k) (here (subst (λ (z : ℕ). HasSplit next q (get_or states z 0)) k s))

-- If there is no place, the fact for that case holds.
pub none-some : {A : Type 0} (o : Option A) (P : Type 0) (Q : A → Type 0) → is_some o ≡ false → MatchOption o P Q → P
none-some None P Q e h = h
none-some (Some x) P Q e h = absurd (true≢false e)

-- A split leads to a state of the list.
pub splits-all : (next : ℕ → ℕ → List ℕ) (n : ℕ) (p : PartTable) (bests : List Best) (q : ℕ) (states places : List ℕ) (end d : ℕ) → length states ≤ end
    → ((t : ℕ) → t < n → HasSplit next q t → is_member states places t ≡ true) → BeatsListed next p bests q states end d → BeatsSplits next n p bests q d
splits-all next n p bests q states places end d long there old t h s =
    let m = member-there states places t (there t h s) in
    subst (λ (z : ℕ). (best_at bests (number_of p z)).rank + 1 ≤ d) m.1
    (old (get_or places t 0) (omega (arith, m.0)) (subst (λ (z : ℕ). HasSplit next q z) (sym m.1) s))

pub moves-raised : (next : ℕ → ℕ → List ℕ) (p : PartTable) (bests : List Best) (q d e : ℕ) → BeatsMoves next p bests q d → d ≤ e → BeatsMoves next p bests q e
moves-raised next p bests q d e old le l m has lt = omega (arith, old l m has lt)

pub splits-raised : (next : ℕ → ℕ → List ℕ) (n : ℕ) (p : PartTable) (bests : List Best) (q d e : ℕ) → BeatsSplits next n p bests q d → d ≤ e → BeatsSplits next n p bests q e
splits-raised next n p bests q d e old le t h s = omega (arith, old t h s)

-- The laws below are about one more component.

pub best-left : (bests : List Best) (b : Best) (k : ℕ) → k < length bests → best_at (bests ++ b ∷ []) k ≡ best_at bests k
best-left bests b k h = get_or_append_left bests (b ∷ []) no_best k h

best-kept : (next : ℕ → ℕ → List ℕ) (n : ℕ) (p : PartTable) (bests : List Best) (b c : Best) (q : ℕ) → IsParts next n p → HasNoTwin next → q < n → number_of p q ≤ length bests
    → IsBest next n p bests q c → IsBest next n p (bests ++ b ∷ []) q c
best-kept next n p bests b c q parts none hq le best = record {
  good = record { small = best.good.small; chain = by best.good.chain };
  moves = λ l m has lt. subst (λ (z : Best). z.rank ≤ c.rank) (sym (best-left bests b (number_of p m) (omega arith))) (best.moves l m has lt);
  splits = λ t h s. subst (λ (z : Best). z.rank + 1 ≤ c.rank) (sym (best-left bests b (number_of p t) (lower t h s))) (best.splits t h s);
}
  where
    lower : (t : ℕ) → t < n → HasSplit next q t → number_of p t < length bests
    lower t h s = omega (arith, split-below next n p parts none q t s.0 hq h s.1)

    by : (c.rank ≡ 0) ⊎ IsFirst next n p bests q c → (c.rank ≡ 0) ⊎ IsFirst next n p (bests ++ b ∷ []) q c
    by (inl e) = inl e
    by (inr f) =
        let small = split-below next n p parts none c.from c.to f.split.0 f.from_in f.to_in f.split.1 in
        let order = parts.order q c.from hq f.from_in f.reached in
        inr (record {
          from_in = f.from_in;
          to_in = f.to_in;
          reached = f.reached;
          split = f.split;
          rest = ap (λ (z : Best). z.rank + 1) (best-left bests b (number_of p c.to) (omega arith)) ∙ f.rest;
        })

pub bests-none : (next : ℕ → ℕ → List ℕ) (n : ℕ) (p : PartTable) (bests : List Best) → bests ≡ [] → AreBests next n p 0 bests
bests-none next n p bests e = record { size = ap length e; right = λ q hq h. absurd (omega arith) }

pub bests-more : (next : ℕ → ℕ → List ℕ) (n : ℕ) (p : PartTable) (k : ℕ) (bests : List Best) (b : Best) → IsParts next n p → HasNoTwin next → AreBests next n p k bests → ((q : ℕ) → q < n → number_of p q ≡ k → IsBest next n p bests q b)
    → AreBests next n p (k + 1) (bests ++ b ∷ [])
bests-more next n p k bests b parts none are here = record {
  size = length_push bests b ∙ ap (λ (z : ℕ). z + 1) are.size;
  right = λ q hq lt. by q hq (cases_lt (number_of p q) k) lt;
}
  where
    by : (q : ℕ) → q < n → (number_of p q < k) ⊎ (k ≤ number_of p q) → number_of p q < k + 1 → IsBest next n p (bests ++ b ∷ []) q (best_at (bests ++ b ∷ []) (number_of p q))
    by q hq (inl a) lt =
        subst (IsBest next n p (bests ++ b ∷ []) q) (sym (best-left bests b (number_of p q) (omega (arith, are.size))))
        (best-kept next n p bests b (best_at bests (number_of p q)) q parts none hq (omega (arith, are.size)) (are.right q hq a))
    by q hq (inr a) lt =
        let e : number_of p q ≡ k = omega arith in
        let f : best_at (bests ++ b ∷ []) (number_of p q) ≡ b = get_or_push bests b no_best (number_of p q) (are.size ∙ sym e) in
        subst (IsBest next n p (bests ++ b ∷ []) q) (sym f) (best-kept next n p bests b b q parts none hq (omega (arith, are.size)) (here q hq e))

-- The laws below are about ranks.

-- If numbers never rise along a move and fall over a split, they bound the chains.
pub chain-bound : (next : ℕ → ℕ → List ℕ) (n : ℕ) (f : ℕ → ℕ) → ((q l m : ℕ) → q < n → Has m (next q l) → (m < n) × (f m ≤ f q)) → ((r q : ℕ) (y : List ℕ) → r < n → q < n → IsSplit next r q y → f q < f r)
    → (s : ℕ) (ms : List Link) → s < n → ChainFrom next s ms → length ms ≤ f s
chain-bound next n f falls drops s [] hs c = omega arith
chain-bound next n f falls drops s (m ∷ ms) hs c =
    let a = along s m.from c.0.0 hs c.0.1 in
    let b = along m.from m.to m.word a.0 c.1.over in
    let d = drops m.from m.to m.word a.0 b.0 c.1 in
    omega (arith, a.1, d, chain-bound next n f falls drops m.to ms b.0 c.2)
  where
    along : (s t : ℕ) (w : List ℕ) → s < n → 1 ≤ paths next s t w → (t < n) × (f t ≤ f s)
    along s t w hs h =
        along_moves (λ m. (m < n) × (f m ≤ f s)) next (λ q l m i has. let d = falls q l m i.0 has in (d.0, omega (arith, d.1, i.1))) s t w (hs, omega arith) h

-- There is a chain of as many links as the best one has.
pub chain-there : (next : ℕ → ℕ → List ℕ) (n : ℕ) (p : PartTable) (bests : List Best) → AreBests next n p n bests → IsParts next n p → (d q : ℕ) → q < n → (best_at bests (number_of p q)).rank ≡ d → (ms : List Link) × ChainFrom next q ms × (length ms ≡ d)
chain-there next n p bests are parts zero q hq e = ([], tt, refl)
chain-there next n p bests are parts (suc d) q hq e = by (are.right q hq (parts.below q hq)).good.chain (λ t ht f. chain-there next n p bests are parts d t ht f)
  where
    by : ((best_at bests (number_of p q)).rank ≡ 0) ⊎ IsFirst next n p bests q (best_at bests (number_of p q)) → ((t : ℕ) → t < n → (best_at bests (number_of p t)).rank ≡ d → (ms : List Link) × ChainFrom next t ms × (length ms ≡ d)) → (ms : List Link) × ChainFrom next q ms × (length ms ≡ suc d)
    by (inl z) rest = absurd (omega arith)
    by (inr f) rest =
        let b = best_at bests (number_of p q) in
        let r = rest b.to f.to_in (omega (arith, f.rest)) in
        let link : Link = record { lead = []; from = b.from; to = b.to; word = f.split.0 } in
        (link ∷ r.0, (f.reached, f.split.1, r.1), ap suc r.2)

pub best-bound : (next : ℕ → ℕ → List ℕ) (n k : ℕ) (p : PartTable) (bests : List Best) → IsBounded next n k → AreBests next n p n bests → IsParts next n p → (s : ℕ) (ms : List Link) → s < n → ChainFrom next s ms → length ms ≤ (best_at bests (number_of p s)).rank
best-bound next n k p bests b are parts s ms hs c =
    chain-bound next n (λ q. (best_at bests (number_of p q)).rank) falls drops s ms hs c
  where
    falls : (q l m : ℕ) → q < n → Has m (next q l) → (m < n) × ((best_at bests (number_of p m)).rank ≤ (best_at bests (number_of p q)).rank)
    falls q l m hq has = (b.targets q l m has, by (cases_lt (number_of p m) (number_of p q)))
      where
        by : (number_of p m < number_of p q) ⊎ (number_of p q ≤ number_of p m) → (best_at bests (number_of p m)).rank ≤ (best_at bests (number_of p q)).rank
        by (inl lt) = (are.right q hq (parts.below q hq)).moves l m has lt
        by (inr le) =
            let e : number_of p m ≡ number_of p q = omega (arith, parts.order q m hq (b.targets q l m has) (Reaches-move next q m l has)) in
            omega (arith, ap (λ (z : ℕ). (best_at bests z).rank) e)

    drops : (r q : ℕ) (y : List ℕ) → r < n → q < n → IsSplit next r q y → (best_at bests (number_of p q)).rank < (best_at bests (number_of p r)).rank
    drops r q y hr hq s = omega (arith, (are.right r hr (parts.below r hr)).splits q hq (y, s))

pub best-rank : (next : ℕ → ℕ → List ℕ) (n k : ℕ) (p : PartTable) (bests : List Best) → IsBounded next n k → AreBests next n p n bests → IsParts next n p → (q : ℕ) → q < n → IsRank next q (best_at bests (number_of p q)).rank
best-rank next n k p bests b are parts q hq =
    let c = chain-there next n p bests are parts (best_at bests (number_of p q)).rank q hq refl in
    record { chain = c.0; goes = c.1; long = c.2; longest = λ ms goes. best-bound next n k p bests b are parts q ms hq goes }

-- One more rank is right.
pub rank-more : (f : ℕ → ℕ) (old new : List ℕ) (k x : ℕ) → length old ≡ k → new ≡ old ++ x ∷ [] → x ≡ f k → ((q : ℕ) → q < k → get_or old q 0 ≡ f q) → (q : ℕ) → q < k + 1 → get_or new q 0 ≡ f q
rank-more f old new k x size pushed here all q lt = ap (λ (l : List ℕ). get_or l q 0) pushed ∙ by (cases_lt q k)
  where
    by : (q < k) ⊎ (k ≤ q) → get_or (old ++ x ∷ []) q 0 ≡ f q
    by (inl small) = get_or_append_left old (x ∷ []) 0 q (omega (arith, small, size)) ∙ all q small
    by (inr big) =
        let same : q ≡ k = omega (arith, big, lt) in
        get_or_push old x 0 q (omega (arith, size, same)) ∙ (here ∙ ap f (sym same))
