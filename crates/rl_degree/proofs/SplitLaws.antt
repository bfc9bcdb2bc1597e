-- Splits in a graph without a twin: one pair of a part of the product speaks for all of them, no split is undone, ranks fall,
-- and chains are short.
use Rattle.std.proofs.Common.{◌≡◌, ◌≢◌, ◌∙◌, ℕ, suc, ◌*◌, ◌<◌, ◌≤◌, List, [], ◌∷◌, ◌++◌, length, refl, sym, subst, arith}
use Rattle.rl_graph.specs.Paths.{total, paths, Reaches, IsWithin}
use Rattle.rl_graph.specs.Twins.{HasNoTwin, IsSplit, Link, ChainFrom, IsRank}
use Rattle.rl_graph.proofs.PathLaws.{nil-same, through_one, through_two, positive, Reaches-self, Reaches-move, Reaches-trans}
use Rattle.rl_degree.specs.Leavers.{NeverRises, HasNoEqualSplit}
use Rattle.rl_degree.proofs.Leaving.{strictly}
use Rattle.rl_degree.proofs.FiveTimes.{falls-along}
use Rattle.rl_degree.proofs.Levels.{stable, table, IsLevel, level-of, Reached, reach_count}

-- Two paths, one after the other, are a path.
pub ways : (next : ℕ → ℕ → List ℕ) (s m t : ℕ) (u v : List ℕ) → 1 ≤ paths next s m u → 1 ≤ paths next m t v → 1 ≤ paths next s t (u ++ v)
ways next s m t u v a b = omega (arith, positive (paths next s m u) (paths next m t v) a b, through_one next s m t u v)

-- If two different states are reached from a state on one word, and lead back to it on one word, the state has a twin.
pub apart_and_back : (next : ℕ → ℕ → List ℕ) (s a b : ℕ) (t u : List ℕ) → HasNoTwin next → a ≢ b → 1 ≤ paths next s a t → 1 ≤ paths next s b t → 1 ≤ paths next a s u → 1 ≤ paths next b s u → ⊥
apart_and_back next s a b t u none ne to_a to_b from_a from_b =
    absurd (omega (
      arith,
      none s (t ++ u),
      through_two next s a b s t u ne,
      positive (paths next s a t) (paths next a s u) to_a from_a,
      positive (paths next s b t) (paths next b s u) to_b from_b,
    ))

-- A pair that is reached from a split's pair and reaches it is a split.
pub split_in_component : (next : ℕ → ℕ → List ℕ) (r q r2 q2 : ℕ) (v t u : List ℕ) → HasNoTwin next → IsSplit next r q v
    → 1 ≤ paths next r2 r t → 1 ≤ paths next q2 q t → 1 ≤ paths next r r2 u → 1 ≤ paths next q q2 u → IsSplit next r2 q2 (t ++ (v ++ u))
split_in_component next r q r2 q2 v t u none split tr tq ur uq = record {
  apart = λ e. apart_and_back next r2 r q t u none split.apart tr (from_same e) ur (to_same e);
  before = ways next r2 r r2 t (v ++ u) tr (ways next r r r2 v u split.before ur);
  over = ways next r2 r q2 t (v ++ u) tr (ways next r q q2 v u split.over uq);
  behind = ways next q2 q q2 t (v ++ u) tq (ways next q q q2 v u split.behind uq);
}
  where
    from_same : r2 ≡ q2 → 1 ≤ paths next r2 q t
    from_same e = subst (λ (x : ℕ). 1 ≤ paths next x q t) (sym e) tq

    to_same : r2 ≡ q2 → 1 ≤ paths next q r2 u
    to_same e = subst (λ (x : ℕ). 1 ≤ paths next q x u) (sym e) uq

-- No path leads back over a split.
pub split_falls : (next : ℕ → ℕ → List ℕ) (r q : ℕ) (v z : List ℕ) → HasNoTwin next → IsSplit next r q v → 1 ≤ paths next q r z → ⊥
split_falls next r q v z none split back =
    let home : 1 ≤ paths next r r (v ++ (z ++ v)) = ways next r q r v (z ++ v) split.over (ways next q r r z v back split.before) in
    let over : 1 ≤ paths next r q (v ++ (z ++ v)) = ways next r q q v (z ++ v) split.over (ways next q r q z v back split.over) in
    let again : 1 ≤ paths next q r (v ++ (z ++ v)) = ways next q q r v (z ++ v) split.behind (ways next q r r z v back split.before) in
    apart_and_back next r r q (v ++ (z ++ v)) (v ++ (z ++ v)) none split.apart home over home again

-- The laws below are about chains.

-- If a state reaches another one, a chain from that one is a chain from it.
pub chain-before : (next : ℕ → ℕ → List ℕ) (s m : ℕ) (links : List Link) → Reaches next s m → ChainFrom next m links → ChainFrom next s links
chain-before next s m [] r c = tt
chain-before next s m (link ∷ links) r c = (Reaches-trans next s m link.from r c.0, c.1, c.2)

-- A state that is reached has no higher rank.
pub rank_falls : (next : ℕ → ℕ → List ℕ) (s m d e : ℕ) → IsRank next s d → IsRank next m e → Reaches next s m → e ≤ d
rank_falls next s m d e here there r =
    omega (arith, there.long, here.longest there.chain (chain-before next s m there.chain r there.goes))

-- After a split the rank is lower.
pub rank_split : (next : ℕ → ℕ → List ℕ) (r q d e : ℕ) (y : List ℕ) → IsRank next r d → IsRank next q e → IsSplit next r q y → e < d
rank_split next r q d e y here there split =
    let link : Link = record { lead = []; from = r; to = q; word = y } in
    omega (arith, there.long, here.longest (link ∷ there.chain) (Reaches-self next r, split, there.goes))

-- Ranks are numbers that never rise, and no split has equal ones.
pub ranks-fall : (next : ℕ → ℕ → List ℕ) (n k : ℕ) (rank : ℕ → ℕ) → IsWithin next n k → ((q : ℕ) → q < n → IsRank next q (rank q)) → NeverRises next n rank
ranks-fall next n k rank within ranks q l m lt i =
    rank_falls next q m (rank q) (rank m) (ranks q lt) (ranks m (within.targets q l m lt i)) (Reaches-move next q m l i)

pub ranks-split : (next : ℕ → ℕ → List ℕ) (n k : ℕ) (rank : ℕ → ℕ) → IsWithin next n k → ((q : ℕ) → q < n → IsRank next q (rank q)) → HasNoEqualSplit next n rank
ranks-split next n k rank within ranks r q y lt e split =
    let small = falls-along next n k rank within (ranks-fall next n k rank within ranks) r q y lt split.over in
    absurd (omega (arith, e, rank_split next r q (rank r) (rank q) y (ranks r lt) (ranks q small.0) split))

-- A chain has fewer links than the graph has states.
chain-levels : (next : ℕ → ℕ → List ℕ) (n k : ℕ) (level : ℕ → ℕ) → IsWithin next n k → IsLevel next n level → HasNoTwin next → (s : ℕ) (links : List Link) → s < n → ChainFrom next s links → length links < level s
chain-levels next n k level within levels none s [] lt c = omega (arith, levels.some s lt)
chain-levels next n k level within levels none s (m ∷ links) lt c =
    let first = falls-along next n k level within levels.falls s m.from c.0.0 lt c.0.1 in
    let second = falls-along next n k level within levels.falls m.from m.to m.word first.0 c.1.over in
    let rest = chain-levels next n k level within levels none m.to links second.0 c.2 in
    omega (arith, first.1, strictly (level m.to) (level m.from) second.1 (λ e. let back = levels.back m.from m.to first.0 second.0 e (m.word, c.1.over) in split_falls next m.from m.to m.word back.0 none c.1 back.1), rest)

pub chain_short : (next : ℕ → ℕ → List ℕ) (n k : ℕ) → IsWithin next n k → HasNoTwin next → (s : ℕ) (links : List Link) → s < n → ChainFrom next s links → length links < n
chain_short next n k within none s links lt c =
    stable (suc (length links)) n
    (λ no_bound. table (Reached next n) (n * n)
    (λ found. let levels = level-of next n k within found in no_bound (omega (arith, chain-levels next n k (reach_count found.says n) within levels none s links lt c, levels.few s lt))))

-- A state without moves has rank 0.
pub rank_still : (next : ℕ → ℕ → List ℕ) (s : ℕ) → ((l : ℕ) → next s l ≡ []) → IsRank next s 0
rank_still next s still = record { chain = []; goes = tt; long = refl; longest = none }
  where
    -- Each path from it is empty.
    stays : (t l : ℕ) (w : List ℕ) → 1 ≤ paths next s t (l ∷ w) → ⊥
    stays t l w h = nothing (next s l) (still l) h
      where
        nothing : (r : List ℕ) → r ≡ [] → 1 ≤ total (λ m. paths next m t w) r → ⊥
        nothing r e h = let k = rw e at h in no k
          where
            no : 1 ≤ 0 → ⊥
            no h = omega arith

    same : (t : ℕ) (w : List ℕ) → 1 ≤ paths next s t w → s ≡ t
    same t [] h = nil-same next s t h
    same t (l ∷ w) h = absurd (stays t l w h)

    none : (links : List Link) → ChainFrom next s links → length links ≤ 0
    none [] c = omega arith
    none (m ∷ links) c =
        let here : s ≡ m.from = same m.from c.0.0 c.0.1 in
        let over : 1 ≤ paths next s m.to m.word = subst (λ (x : ℕ). 1 ≤ paths next x m.to m.word) (sym here) c.1.over in
        absurd (c.1.apart (sym here ∙ same m.to m.word over))
