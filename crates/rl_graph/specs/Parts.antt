-- The parts of a graph, that is, its strongly connected components. A graph is given by the function `next` from a
-- state and a letter to the list of the targets of its moves. A state reaches another one if some word leads there;
-- every state reaches itself, by the empty word. A state lies on a cycle if it reaches itself by a non-empty word.
use Rattle.std.specs.Prelude.{◌≡◌, ℕ, ◌<◌, ◌≤◌, ◌↔◌, Bool, false, IsTrue, List, length, slice_index, slice_index_or}
use Rattle.rl_graph.specs.Paths.{Reaches, OnCycle}

-- A table of parts: for each state, the number of its part (`numbers`) and a flag that says whether the state lies on a
-- cycle (`cycles`).
pub record PartTable : Type 0 where
  pub numbers : List ℕ
  pub cycles : List Bool

-- The number of the part of the state `q`, or 0 if the table has no entry for `q`.
abbrev pub number_of : PartTable → ℕ → ℕ
number_of p q = slice_index p.numbers q

-- The cycle flag of the state `q`, or false if the table has no entry for `q`.
abbrev pub cycle_of : PartTable → ℕ → Bool
cycle_of p q = slice_index_or p.cycles q false

-- Holds if the table lists the strongly connected components of a graph of `n` states. Two states have the same number
-- if and only if each reaches the other. Numbers are less than `n`, and a part that is reached from another one has the
-- smaller number. A state's flag is true if and only if the state reaches itself by a non-empty word.
pub record IsParts (next : ℕ → ℕ → List ℕ) (n : ℕ) (p : PartTable) : Type 0 where
  pub size : length p.numbers ≡ n
  pub below : (q : ℕ) → q < n → number_of p q < n
  pub same : (q r : ℕ) → q < n → r < n → (number_of p q ≡ number_of p r) ↔ (Reaches next q r × Reaches next r q)
  pub order : (q r : ℕ) → q < n → r < n → Reaches next q r → number_of p r ≤ number_of p q
  pub on_cycle : (q : ℕ) → q < n → IsTrue (cycle_of p q) ↔ OnCycle next q
