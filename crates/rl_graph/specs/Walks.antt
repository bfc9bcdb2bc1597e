-- Shortest words from one state to another. A graph is given by the function `next` from a state and a letter to the
-- list of the targets of its moves.
use Rattle.std.specs.Prelude.{ℕ, ◌≤◌, List, length}
use Rattle.rl_graph.specs.Paths.{paths, IsPath}

-- Holds if `word` is a shortest word of at least `least` letters that leads from `from` to `to`, and `moves` has the
-- move numbers of a path along it.
pub record IsShortest (next : ℕ → ℕ → List ℕ) (least from to : ℕ) (moves word : List ℕ) : Type 0 where
  pub path : IsPath next from to moves word
  pub long : least ≤ length word
  pub shortest : (v : List ℕ) → least ≤ length v → 1 ≤ paths next from to v → length word ≤ length v

-- Holds if no word of at least `least` letters leads from `from` to `to`.
abbrev pub NoPath : (ℕ → ℕ → List ℕ) → ℕ → ℕ → ℕ → Type 0
NoPath next least from to = (v : List ℕ) → least ≤ length v → 1 ≤ paths next from to v → ⊥

-- Holds if `word` leads from `from` to `to`, and no shorter word does.
pub record IsShortestWord (next : ℕ → ℕ → List ℕ) (from to : ℕ) (word : List ℕ) : Type 0 where
  pub leads : 1 ≤ paths next from to word
  pub shortest : (v : List ℕ) → 1 ≤ paths next from to v → length word ≤ length v
