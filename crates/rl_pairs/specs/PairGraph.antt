-- The graph of live pairs, as a function from the number of a pair and a letter to the numbers of the target pairs. A pair is
-- a state of an automaton with a set: the states that were tried before it on the same text without success. A set is live if
-- it refuses some rest, which is a list of letters followed by the end letter that none of its members accepts. A pair is live
-- if it is the first pair, or if its set is live and a live pair has a move to it.
use Rattle.std.specs.Prelude.{◌≡◌, ℕ, zero, suc, ◌<◌, ◌≤◌, ◌⊎◌, List, [], ◌∷◌, flat_map, max}
use Rattle.rl_prio.specs.Automaton.{Automaton, letters_count}
use Rattle.rl_sets.specs.Live.{below, IsLive}
use Rattle.rl_graph.specs.Paths.{Has}
use Rattle.rl_pairs.specs.declared.pair.Pair.{Pair}
use Rattle.rl_pairs.specs.LivePairs.{first_pair, next_pairs}

-- `numbers` lists the numbers of those of the pairs whose sets are live, in the order of the pairs; `at` gives the pair with a
-- number.
abbrev pub KeptLive : Automaton → (ℕ → Pair) → List Pair → List ℕ → Type 0
KeptLive a at [] numbers = numbers ≡ []
KeptLive a at (p ∷ pairs) numbers =
    ((IsLive a p.set → ⊥) × KeptLive a at pairs numbers) ⊎ ((k : ℕ) × (rest : List ℕ) × IsLive a p.set × (numbers ≡ k ∷ rest) × (at k ≡ p) × KeptLive a at pairs rest)

-- A graph of `n` pairs whose sets are live: its state 0 is the first pair, and the moves of a state are the moves of its pair
-- to pairs with live sets, in order. States from `n` on, and letters after the end letter, have no moves. `at` gives the pair
-- of a state. `IsNumbered` adds that every pair is reached and has only one number.
pub record IsPairGraph (a : Automaton) (next : ℕ → ℕ → List ℕ) (at : ℕ → Pair) (n : ℕ) : Type 0 where
  pub some : 0 < n
  pub first : at 0 ≡ first_pair
  pub live : (i : ℕ) → i < n → IsLive a (at i).set
  pub targets : (i letter k : ℕ) → i < n → Has k (next i letter) → k < n
  pub moves : (i letter : ℕ) → i < n → letter ≤ letters_count a → KeptLive a at (next_pairs a (at i) letter) (next i letter)
  pub empty : (i letter : ℕ) → (n ≤ i) ⊎ (letters_count a < letter) → next i letter ≡ []

-- The targets of the moves of the pair `i`: by letter in increasing order, with the end letter last, and for each letter in
-- the order of the moves.
abbrev pub targets_of : Automaton → (ℕ → ℕ → List ℕ) → ℕ → List ℕ
targets_of a next i = flat_map (next i) (below (suc (letters_count a)))

-- How many numbers have been seen after those of the list, if the numbers below `m` were seen before it, and each new number
-- is the least one that hasn't been seen (`AreFirstSeen`). For any list it is the least number that is at least `m` and
-- greater than each number of the list.
abbrev pub seen_after : ℕ → List ℕ → ℕ
seen_after m [] = m
seen_after m (k ∷ numbers) = seen_after (max m (suc k)) numbers

-- Each number of the list has been seen before it, or is the least one that hasn't. The numbers below `m` were seen before the
-- list.
abbrev pub AreFirstSeen : ℕ → List ℕ → Type 0
AreFirstSeen m [] = Unit {0}
AreFirstSeen m (k ∷ numbers) = (k ≤ m) × AreFirstSeen (max m (suc k)) numbers

-- How many numbers have been seen before the moves of the pair `i` are looked at, pair by pair from the pair 0 on, which
-- counts as seen at the start.
abbrev pub seen_before : Automaton → (ℕ → ℕ → List ℕ) → ℕ → ℕ
seen_before a next zero = 1
seen_before a next (suc i) = seen_after (seen_before a next i) (targets_of a next i)

-- The pairs are numbered from 0 in the order in which they are first seen, breadth first. Each of the `n` pairs is seen, and
-- no pair has two numbers.
pub record IsNumbered (a : Automaton) (next : ℕ → ℕ → List ℕ) (at : ℕ → Pair) (n : ℕ) : Type 0 where
  pub seen : (i : ℕ) → i < n → i < seen_before a next i
  pub in_order : (i : ℕ) → i < n → AreFirstSeen (seen_before a next i) (targets_of a next i)
  pub whole : seen_before a next n ≡ n
  pub apart : (i k : ℕ) → i < n → k < n → at i ≡ at k → i ≡ k
