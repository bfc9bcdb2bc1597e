-- For the contracts of private functions: the moves of a graph on one letter as a table of bits. The row of each state
-- has a bit for each state, which is true if a move leads there.
use Rattle.std.specs.Prelude.{◌≡◌, ℕ, ◌<◌, ◌↔◌, Bool, true, false, List, [], length, All, slice_index_or, slice_set}
use Rattle.rl_graph.specs.Paths.{Has}
use Rattle.rl_graph.specs.Graph.{Graph, edges_of}

-- The bit `k` of the row `i` of a table, or false if there is no such bit.
abbrev pub cell : List (List Bool) → ℕ → ℕ → Bool
cell rows i k = slice_index_or (slice_index_or rows i []) k false

-- The table with the bit `k` of the row `i` set to true. If there is no such bit, the table is unchanged.
abbrev pub with_cell : List (List Bool) → ℕ → ℕ → List (List Bool)
with_cell rows i k = slice_set rows i (slice_set (slice_index_or rows i []) k true)

-- Holds if the table has a row of bits for each state, and the bit `t` of the row `q` is true if and only if a move on
-- the letter leads from `q` to `t`.
pub record IsMoveTable (g : Graph) (letter : ℕ) (rows : List (List Bool)) : Type 0 where
  pub high : length rows ≡ g.states
  pub wide : All (λ row. length row ≡ g.states) rows
  pub moves : (q t : ℕ) → (cell rows q t ≡ true) ↔ Has t (edges_of g q letter)

-- Holds if the table has a row of bits for each state, each bit that is true belongs to a move on the letter, and the
-- bits for all moves of the states below `end` on the letter are true.
pub record IsMoveTableUpTo (g : Graph) (letter end : ℕ) (rows : List (List Bool)) : Type 0 where
  pub high : length rows ≡ g.states
  pub wide : All (λ row. length row ≡ g.states) rows
  pub moves : (q t : ℕ) → cell rows q t ≡ true → Has t (edges_of g q letter)
  pub all : (q t : ℕ) → q < end → Has t (edges_of g q letter) → cell rows q t ≡ true

-- Holds if some state of the graph has a move on the letter `l`.
abbrev pub IsUsed : Graph → ℕ → Type 0
IsUsed g l = (q : ℕ) × (m : ℕ) × (q < g.states) × Has m (edges_of g q l)

-- Holds if there is a table for each letter of the graph `g`. It is the table of the moves of `g` on the letter if the
-- graph of inner moves, `inner`, has a move on that letter; otherwise it can be any table.
pub record AreMoveTables (g inner : Graph) (tables : List (List (List Bool))) : Type 0 where
  pub size : length tables ≡ g.letters
  pub right : (l : ℕ) → l < g.letters → IsUsed inner l → IsMoveTable g l (slice_index_or tables l [])
