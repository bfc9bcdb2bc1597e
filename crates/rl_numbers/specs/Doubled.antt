-- Lists of doubles, which are pairs of states with a number: which doubles a list has, and with which numbers. A twin
-- is a state with two different paths to itself along one word. A step of a double is two moves on one letter, one from
-- each of its states. A graph is given by the function `next` from a state and a letter to the list of the targets of
-- its moves.
use Rattle.std.specs.Prelude.{[], ◌≡◌, ℕ, ◌<◌, Bool, IsTrue, ◌&&◌, nat_eq, if◌then◌else◌, List, ◌∷◌, Option, Some, None, is_some}
use Rattle.std.specs.Option.{option_map_or}
use Rattle.rl_graph.specs.Paths.{Each, Pairs}
use Rattle.rl_degree.specs.FallingNumbers.{IsDoubles}
use Rattle.indexmap.specs.IndexMap.{IndexMap, get_by}
use Rattle.rl_numbers.specs.declared.double.Double.{Double}
use Rattle.rl_numbers.specs.declared.doubling.Pair.{Pair}

-- The number of the first double of the states `p` and `q` in the list, in this order, or `None` if the list doesn't
-- have one.
abbrev pub double_at : List Double → ℕ → ℕ → Option ℕ
double_at [] p q = None
double_at (d ∷ l) p q = if nat_eq d.p p && nat_eq d.q q then Some d.number else double_at l p q

-- True if the list has a double of the states `p` and `q`, in this order.
abbrev pub is_double : List Double → ℕ → ℕ → Bool
is_double l p q = is_some (double_at l p q)

-- The number of the first double of the states `p` and `q` in the list, or 0 if the list doesn't have one.
abbrev pub double_number : List Double → ℕ → ℕ → ℕ
double_number l p q = option_map_or (λ n. n) (double_at l p q) 0

-- Holds if no two doubles of the list have the same two states in the same order.
abbrev pub OnceEach : List Double → Type 0
OnceEach l = Pairs (λ d e. d.p ≡ e.p → d.q ≡ e.q → ⊥) l

-- Holds if both states of the double are below `n`.
abbrev pub IsInside : ℕ → Double → Type 0
IsInside n d = (d.p < n) × (d.q < n)

-- Holds if the list shows that the graph has no twin: no double occurs twice, all states are below `n`, the list has
-- the double of each state below `n` with itself and each double to which a step of its doubles leads, no step leads to
-- a greater number, and any two different moves of one state on one letter lead to a double with a smaller number than
-- the double of that state with itself.
pub record AreDoubles (next : ℕ → ℕ → List ℕ) (n : ℕ) (l : List Double) : Type 0 where
  pub once : OnceEach l
  pub inside : Each (IsInside n) l
  pub numbers : IsDoubles next n (is_double l) (double_number l)

-- Holds if `at`, which looks up the number of a double, has one for each state below `n` with itself.
abbrev pub HasEqualDoubles : ℕ → (ℕ → ℕ → Option ℕ) → Type 0
HasEqualDoubles n at = (r : ℕ) → r < n → IsTrue (is_some (at r r))

module _ {S : Type 0} where
  -- The number of the states `p` and `q` in the index, or `None` if the index doesn't have them.
  abbrev pub number_in : IndexMap Pair ℕ S → ℕ → ℕ → Option ℕ
  number_in m p q = get_by (λ k. nat_eq p k.p && nat_eq q k.q) m

  -- Holds if the index has exactly the doubles of the list, each with its first number in the list.
  abbrev pub IsIndex : List Double → IndexMap Pair ℕ S → Type 0
  IsIndex l m = (p q : ℕ) → number_in m p q ≡ double_at l p q
