-- Twins, splits, chains of splits and ranks: the EDA criterion, the IDA criterion and the degree of Weber and Seidl
-- (1991). A graph is given by the function `next` from a state and a letter to the list of the targets of its moves. A
-- twin is a state with two different paths to itself along one word. A split is two different states `r` and `q` with
-- paths from `r` to `r`, from `r` to `q` and from `q` to `q` along one word. In a chain of splits from a state, the
-- state reaches the first state of the first split, and the second state of each split reaches the first state of the
-- next one. The rank of a state is the number of splits in a longest chain from it.
use Rattle.std.specs.Prelude.{◌≡◌, ◌≢◌, ℕ, ◌≤◌, List, [], ◌∷◌, length}
use Rattle.rl_graph.specs.Paths.{paths, Reaches, IsPath}

-- Holds if `q` is a twin on the word `w`: `p` and `r` are two different paths from `q` to itself along `w`, given as
-- lists of move numbers. The word can't be empty, since there is only one path along the empty word.
pub record IsTwin (next : ℕ → ℕ → List ℕ) (q : ℕ) (w p r : List ℕ) : Type 0 where
  pub apart : p ≢ r
  pub one_way : IsPath next q q p w
  pub other_way : IsPath next q q r w

-- Holds if no state is a twin: along any word, at most one path leads from a state to itself.
abbrev pub HasNoTwin : (ℕ → ℕ → List ℕ) → Type 0
HasNoTwin next = (q : ℕ) (w : List ℕ) → paths next q q w ≤ 1

-- Holds if the states `r` and `q` are a split on the word `y`: they are different, and paths along `y` lead from `r` to
-- `r`, from `r` to `q` and from `q` to `q`.
pub record IsSplit (next : ℕ → ℕ → List ℕ) (r q : ℕ) (y : List ℕ) : Type 0 where
  pub apart : r ≢ q
  pub before : 1 ≤ paths next r r y
  pub over : 1 ≤ paths next r q y
  pub behind : 1 ≤ paths next q q y

-- One link of a chain of splits: the split of the states `from` and `to` on `word`, and `lead`, a word meant to lead to
-- `from`, from the second state of the link before or from the start of the chain. `ChainFrom` doesn't test `lead`.
pub record Link : Type 0 where
  pub lead : List ℕ
  pub from : ℕ
  pub to : ℕ
  pub word : List ℕ

-- Holds if the list is a chain of splits: `s` reaches the first state of the first split, and the second state of each
-- split reaches the first state of the next one. The words `lead` aren't tested.
abbrev pub ChainFrom : (ℕ → ℕ → List ℕ) → ℕ → List Link → Type 0
ChainFrom next s [] = Unit {0}
ChainFrom next s (m ∷ ms) = Reaches next s m.from × IsSplit next m.from m.to m.word × ChainFrom next m.to ms

-- Holds if the rank of `s` is `d`, that is, if the longest chains of splits from `s` have `d` links; `chain` is one of
-- them. In a graph without a twin, this is the degree of Weber and Seidl (1991) for the paths from `s`.
pub record IsRank (next : ℕ → ℕ → List ℕ) (s d : ℕ) : Type 0 where
  pub chain : List Link
  pub goes : ChainFrom next s chain
  pub long : length chain ≡ d
  pub longest : (ms : List Link) → ChainFrom next s ms → length ms ≤ d
