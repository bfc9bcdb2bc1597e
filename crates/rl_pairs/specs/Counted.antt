-- Counted sets, and what it means that there are more than a certain number of things of a kind. A pair is a state of an
-- automaton with a set: the states that were tried before it on the same text without success. A rest is a list of letters
-- followed by the end letter; a set refuses it if none of its members accepts it. A live pair is the first pair, or a pair
-- whose set refuses some rest and to which a live pair has a move. The image of a set on a letter is the set of the states to
-- which its members move on it.
use Rattle.std.specs.Prelude.{◌≡◌, ◌≢◌, ℕ, suc, ◌≤◌, List, length}
use Rattle.rl_prio.specs.Automaton.{Automaton, letters_count, accepting_state}
use Rattle.rl_sets.specs.Live.{image}
use Rattle.rl_graph.specs.Paths.{Has, Each, Pairs}
use Rattle.rl_pairs.specs.declared.pair.Pair.{Pair}
use Rattle.rl_pairs.specs.LivePairs.{next_pairs, LivePair}

-- Holds if the set is one of the counted sets of the automaton. If a live pair has a move to a pair, on a letter or on the end
-- letter, the set of that pair is counted, whether that pair is live or not. If a counted set doesn't have the accepting
-- state, its image on each letter and on the end letter is counted too.
pub data CountedSet (a : Automaton) : List ℕ → Type 0 where
  moved : {p : Pair} {set : List ℕ} → (state letter : ℕ) → LivePair a p → letter ≤ letters_count a → Has (record { state = state; set = set }) (next_pairs a p letter) → CountedSet a set
  imaged : {set : List ℕ} → (letter : ℕ) → CountedSet a set → letter ≤ letters_count a → (Has (accepting_state a) set → ⊥) → CountedSet a (image a set letter)

-- Holds if there are more than `n` different things for which `P` holds, that is, a list of `n + 1` different ones.
abbrev pub MoreThan : {A : Type 0} → ℕ → (A → Type 0) → Type 0
MoreThan {A} n P = (things : List A) × Pairs (λ x y. x ≢ y) things × Each P things × (length things ≡ suc n)
