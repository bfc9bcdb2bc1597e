-- Paths along one word, each with a time at which it moves from one given state to another. The time 0 is before the
-- first letter. A graph is given by the function `next` from a state and a letter to the list of the targets of its
-- moves. A split is two different states `r` and `q` with paths from `r` to `r`, from `r` to `q` and from `q` to `q`
-- along one word.
use Rattle.std.specs.Prelude.{◌≡◌, ℕ, suc, ◌<◌, List, length}
use Rattle.rl_graph.specs.Paths.{Has, Each, Pairs}
use Rattle.rl_graph.specs.Twins.{IsSplit}
use Rattle.rl_degree.specs.Leavers.{Runs}

-- A path from `s` to `t` along the word `w`, with a time at which it moves from `a` to `b`. `at i` is the path's state
-- after `i` letters; the state is `a` after `time` letters and `b` after one more.
pub record Passage (next : ℕ → ℕ → List ℕ) (s t a b : ℕ) (w : List ℕ) : Type 0 where
  pub time : ℕ
  pub at : ℕ → ℕ
  pub start : at 0 ≡ s
  pub end : at (length w) ≡ t
  pub runs : Runs next w at
  pub within : time < length w
  pub from : at time ≡ a
  pub to : at (suc time) ≡ b

-- Holds if the first passage moves at a later time than the second.
abbrev pub Later : {next : ℕ → ℕ → List ℕ} {s t a b : ℕ} {w : List ℕ} → Passage next s t a b w → Passage next s t a b w → Type 0
Later x y = y.time < x.time

-- Holds if `(r, q)` is the colour of the passages `later` and `earlier`: at the time of `earlier`, the path of `later`
-- is in the state `r`, and at the time of `later`, the path of `earlier` is in the state `q`. Which of the two times is
-- later isn't tested.
abbrev pub HaveColour : {next : ℕ → ℕ → List ℕ} {s t a b : ℕ} {w : List ℕ} → ℕ → ℕ → Passage next s t a b w → Passage next s t a b w → Type 0
HaveColour r q later earlier = (later.at earlier.time ≡ r) × (earlier.at later.time ≡ q)

-- Five of the passages (`five`), latest first. Any two of them have the same colour `(r, q)`, and the states `r` and `q`
-- are a split on `word`.
pub record FiveOfOneColour (next : ℕ → ℕ → List ℕ) (s t a b : ℕ) (w : List ℕ) (passages : List (Passage next s t a b w)) : Type 0 where
  pub r : ℕ
  pub q : ℕ
  pub five : List (Passage next s t a b w)
  pub are_five : length five ≡ 5
  pub members : Each (λ x. Has x passages) five
  pub colour : Pairs (λ x y. Later x y × HaveColour r q x y) five
  pub word : List ℕ
  pub split : IsSplit next r q word
