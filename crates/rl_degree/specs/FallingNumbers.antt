-- Numbers on pairs (doubles) and triples of states. Some exclude twins, others exclude splits between states of the
-- same rank. A twin is a state with two different paths to itself along one word. A split is two different states `r`
-- and `q` with paths from `r` to `r`, from `r` to `q` and from `q` to `q` along one word. A graph is given by the
-- function `next` from a state and a letter to the list of the targets of its moves, and `rank` gives each state its
-- rank, which can be any number here.
use Rattle.std.specs.Prelude.{◌≡◌, ◌≢◌, ℕ, ◌<◌, ◌≤◌, Bool, IsTrue, List, slice_get, Some}
use Rattle.rl_graph.specs.Paths.{Has, OnCycle}

-- Holds if the pairs for which `holds` is true (the doubles) have numbers that exclude a twin. Each state below `n`
-- with itself is a double. If the states of a double move on one letter, their targets are a double with a number that
-- is no greater. If two different moves of one state on one letter lead to `x` and `y`, the number of `(x, y)` is less
-- than the number of the state with itself.
pub record IsDoubles (next : ℕ → ℕ → List ℕ) (n : ℕ) (holds : ℕ → ℕ → Bool) (number : ℕ → ℕ → ℕ) : Type 0 where
  pub equal : (r : ℕ) → r < n → IsTrue (holds r r)
  pub closed : (p q l x y : ℕ) → IsTrue (holds p q) → Has x (next p l) → Has y (next q l) → IsTrue (holds x y)
  pub never_rises : (p q l x y : ℕ) → IsTrue (holds p q) → Has x (next p l) → Has y (next q l) → number x y ≤ number p q
  pub falls : (r l i j x y : ℕ) → r < n → i ≢ j → slice_get (next r l) i ≡ Some x → slice_get (next r l) j ≡ Some y → number x y < number r r

-- Holds if the triples for which `holds` is true have numbers that exclude a split between states of the same rank. For
-- different states `r` and `q` below `n` of equal rank that both lie on cycles, `(r, r, q)` is such a triple. If the
-- states of such a triple move on one letter to states that have the rank of its first state, the targets are such a
-- triple with a number that is no greater. If `r` and `q` are different and `(r, r, q)` and `(r, q, q)` are such
-- triples, the first one has the smaller number.
pub record IsTriples (next : ℕ → ℕ → List ℕ) (n : ℕ) (rank : ℕ → ℕ) (holds : ℕ → ℕ → ℕ → Bool) (number : ℕ → ℕ → ℕ → ℕ) : Type 0 where
  pub starts : (r q : ℕ) → r < n → q < n → r ≢ q → rank r ≡ rank q → OnCycle next r → OnCycle next q → IsTrue (holds r r q)
  pub closed : (p q r l x y z : ℕ) → IsTrue (holds p q r) → Has x (next p l) → Has y (next q l) → Has z (next r l)
      → rank x ≡ rank p → rank y ≡ rank p → rank z ≡ rank p → IsTrue (holds x y z)
  pub never_rises : (p q r l x y z : ℕ) → IsTrue (holds p q r) → Has x (next p l) → Has y (next q l) → Has z (next r l)
      → rank x ≡ rank p → rank y ≡ rank p → rank z ≡ rank p → number x y z ≤ number p q r
  pub apart : (r q : ℕ) → r ≢ q → IsTrue (holds r r q) → IsTrue (holds r q q) → number r r q < number r q q
