-- Spans between two positions, none of which begins before an earlier one in the list.
use Rattle.std.proofs.Common.{ℕ, zero, suc, ◌≤◌, List, [], ◌∷◌, ◌++◌, All, AllPairs, arith}
use Rattle.rl_syntax.specs.declared.span.Span.{Span}
use Rattle.rl_pattern.specs.Placed.{ArePlaced}

abbrev pub Rising : ℕ → ℕ → List Span → Type 0
Rising i j [] = Unit {0}
Rising i j (r ∷ rs) = (i ≤ r.from) × (r.from ≤ r.upto) × (r.upto ≤ j) × Rising r.from j rs

pub rising_more : (rs : List Span) (i j a b : ℕ) → a ≤ i → j ≤ b → Rising i j rs → Rising a b rs
rising_more [] i j a b x y h = tt
rising_more (r ∷ rs) i j a b x y (c, d, e, hs) = (omega (arith, x, c), d, omega (arith, e, y), rising_more rs r.from j r.from b (omega arith) y hs)

pub rising_join : (rs ss : List Span) (i k j : ℕ) → i ≤ k → k ≤ j → Rising i k rs → Rising k j ss → Rising i j (rs ++ ss)
rising_join [] ss i k j x y h m = rising_more ss k j i j x (omega arith) m
rising_join (r ∷ rs) ss i k j x y (c, d, e, hs) m = (c, d, omega (arith, e, y), rising_join rs ss r.from k j (omega (arith, d, e)) y hs m)

rising_within : (rs : List Span) (i j : ℕ) → Rising i j rs → All (λ s. (s.from ≤ s.upto) × (s.upto ≤ j)) rs
rising_within [] i j h k x l = absurd (omega (arith, l))
rising_within (r ∷ rs) i j (c, d, e, hs) zero x l = (d, e)
rising_within (r ∷ rs) i j (c, d, e, hs) (suc k) x l = rising_within rs r.from j hs k x (omega (arith, l))

rising_from : (rs : List Span) (i j : ℕ) → Rising i j rs → All (λ s. i ≤ s.from) rs
rising_from [] i j h k x l = absurd (omega (arith, l))
rising_from (r ∷ rs) i j (c, d, e, hs) zero x l = c
rising_from (r ∷ rs) i j (c, d, e, hs) (suc k) x l = let m = rising_from rs r.from j hs k x (omega (arith, l)) in omega (arith, c, m)

rising_pairs : (rs : List Span) (i j : ℕ) → Rising i j rs → AllPairs (λ s t. s.from ≤ t.from) rs
rising_pairs [] i j h a b x l m = absurd (omega (arith, m))
rising_pairs (r ∷ rs) i j (c, d, e, hs) a zero x l m = absurd (omega (arith, l))
rising_pairs (r ∷ rs) i j (c, d, e, hs) zero (suc b) x l m = rising_from rs r.from j hs b x (omega (arith, m))
rising_pairs (r ∷ rs) i j (c, d, e, hs) (suc a) (suc b) x l m = rising_pairs rs r.from j hs a b x (omega (arith, l)) (omega (arith, m))

-- Such spans are placed, and placed spans are of this kind.
pub rising_placed : (rs : List Span) (i n : ℕ) → Rising i n rs → ArePlaced n rs
rising_placed rs i n h = (rising_within rs i n h, rising_pairs rs i n h)

pub placed_rising : (rs : List Span) (i n : ℕ) → All (λ s. i ≤ s.from) rs → ArePlaced n rs → Rising i n rs
placed_rising [] i n a h = tt
placed_rising (r ∷ rs) i n a (within, pairs) =
    let own = within 0 r (omega arith) in
    (a 0 r (omega arith), own.0, own.1, placed_rising rs r.from n (λ k x l. pairs 0 (suc k) x (omega arith) (omega (arith, l))) (λ k x l. within (suc k) x (omega (arith, l)), λ k m x l y. pairs (suc k) (suc m) x (omega (arith, l)) (omega (arith, y))))

-- A list from which some items were left out.
pub data Fewer {X : Type 0} : List X → List X → Type 0 where
  none_fewer : Fewer [] []
  left_out : {y : X} {xs ys : List X} → Fewer xs ys → Fewer xs (y ∷ ys)
  taken : {y : X} {xs ys : List X} → Fewer xs ys → Fewer (y ∷ xs) (y ∷ ys)

rising_fewer : {rs ss : List Span} (i j : ℕ) → Fewer rs ss → Rising i j ss → Rising i j rs
rising_fewer i j none_fewer h = tt
rising_fewer {rs} i j (left_out {y = y} f) (c, d, e, hs) = rising_more rs y.from j i j c (omega arith) (rising_fewer y.from j f hs)
rising_fewer i j (taken {y = y} f) (c, d, e, hs) = (c, d, e, rising_fewer y.from j f hs)

pub fewer_placed : {rs ss : List Span} (n : ℕ) → Fewer rs ss → ArePlaced n ss → ArePlaced n rs
fewer_placed {rs} {ss} n f h = rising_placed rs 0 n (rising_fewer 0 n f (placed_rising ss 0 n (λ k x l. omega arith) h))
