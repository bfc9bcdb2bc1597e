-- Words and paths in graphs. A graph is a function `next` from a state and a letter to the ordered list of the targets
-- of its moves. A move's number is its index in this list, from 0, so two moves to the same target have different
-- numbers. A word is a list of letters.
use Rattle.std.specs.Prelude.{◌≡◌, ℕ, ◌+◌, ◌<◌, ◌≤◌, ◌⊎◌, Bool, eqb, if◌then◌else◌, List, [], ◌∷◌, length, filter, slice_get, Option, Some, None}

-- The sum of `f x` over the members `x` of a list.
abbrev pub total : {A : Type 0} → (A → ℕ) → List A → ℕ
total f [] = 0
total f (x ∷ l) = f x + total f l

-- 1 for true and 0 for false.
abbrev pub one : Bool → ℕ
one b = if b then 1 else 0

-- Holds if `x` is a member of the list.
abbrev pub Has : {A : Type 0} → A → List A → Type 0
Has x [] = ⊥
Has x (y ∷ l) = (x ≡ y) ⊎ Has x l

-- Holds if `P` holds for every member of the list.
abbrev pub Each : {A : Type 0} → (A → Type 0) → List A → Type 0
Each P [] = Unit {0}
Each P (x ∷ l) = P x × Each P l

-- Holds if `R x y` holds for every member `x` of the list and every member `y` that comes after it.
abbrev pub Pairs : {A : Type 0} → (A → A → Type 0) → List A → Type 0
Pairs R [] = Unit {0}
Pairs R (x ∷ l) = Each (R x) l × Pairs R l

-- The number of paths from `s` to `t` along a word. Parallel moves make different paths. Along the empty word there is
-- one path, from a state to itself.
abbrev pub paths : (ℕ → ℕ → List ℕ) → ℕ → ℕ → List ℕ → ℕ
paths next s t [] = one (eqb s t)
paths next s t (l ∷ w) = total (λ m. paths next m t w) (next s l)

-- The number of non-empty paths from `s` along prefixes of a word such that `ok` is true for the path's last state and
-- the rest of the word after the prefix.
abbrev pub walked : (ℕ → ℕ → List ℕ) → (ℕ → List ℕ → Bool) → ℕ → List ℕ → ℕ
walked next ok s [] = 0
walked next ok s (l ∷ w) = total (λ m. one (ok m w) + walked next ok m w) (next s l)

-- The sum of `f q v` over all paths from `s` along prefixes of a word, including the empty path, where `q` is the
-- path's last state and `v` is the rest of the word after the prefix.
abbrev pub along : (ℕ → ℕ → List ℕ) → (ℕ → List ℕ → ℕ) → ℕ → List ℕ → ℕ
along next f s [] = f s []
along next f s (l ∷ w) = f s (l ∷ w) + total (λ m. along next f m w) (next s l)

-- The graph that has only the moves of `next` to states for which `p` is true. The state from which a move leads isn't
-- tested.
abbrev pub inside : (ℕ → Bool) → (ℕ → ℕ → List ℕ) → ℕ → ℕ → List ℕ
inside p next q l = filter p (next q l)

-- Holds if some word leads from `q` to `r`. It can be empty, so every state reaches itself.
abbrev pub Reaches : (ℕ → ℕ → List ℕ) → ℕ → ℕ → Type 0
Reaches next q r = (w : List ℕ) × (1 ≤ paths next q r w)

-- Holds if some non-empty word leads from `q` back to `q`.
abbrev pub OnCycle : (ℕ → ℕ → List ℕ) → ℕ → Type 0
OnCycle next q = (l : ℕ) × (w : List ℕ) × (1 ≤ paths next q q (l ∷ w))

-- Holds if the moves of the states below `n` lead only to states below `n`, and each of these states has at most `k`
-- moves on a letter.
pub record IsWithin (next : ℕ → ℕ → List ℕ) (n k : ℕ) : Type 0 where
  pub targets : (q l m : ℕ) → q < n → Has m (next q l) → m < n
  pub moves : (q l : ℕ) → q < n → length (next q l) ≤ k

-- Holds if all moves lead to states below `n`, and only the letters below `k` have moves.
pub record IsBounded (next : ℕ → ℕ → List ℕ) (n k : ℕ) : Type 0 where
  pub targets : (q l m : ℕ) → Has m (next q l) → m < n
  pub letters : (q l : ℕ) → k ≤ l → next q l ≡ []

-- The result of `f` for the value, or `None` if there is no value.
abbrev pub onto : {A B : Type 0} → (A → Option B) → Option A → Option B
onto f None = None
onto f (Some x) = f x

-- The state to which a list of move numbers leads from `s` along a word, or `None` if there is no such path. The list
-- needs one number for each letter.
abbrev pub led : (ℕ → ℕ → List ℕ) → ℕ → List ℕ → List ℕ → Option ℕ
led next s [] [] = Some s
led next s [] (l ∷ w) = None
led next s (i ∷ p) [] = None
led next s (i ∷ p) (l ∷ w) = onto (λ m. led next m p w) (slice_get (next s l) i)

-- Holds if the list of move numbers `p` is a path from `s` to `t` along the word `w`.
abbrev pub IsPath : (ℕ → ℕ → List ℕ) → ℕ → ℕ → List ℕ → List ℕ → Type 0
IsPath next s t p w = led next s p w ≡ Some t
