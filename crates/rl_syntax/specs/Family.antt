-- Families of attack strings. A family has heads and pumps, which are texts and alternate. Its string for a number `k` is the
-- first head, `k` copies of the first pump, the next head, and so on up to the last head. A family of degree `d` has `d`
-- pumps. A text of a universe contains only codes of the universe, `str` or `bytes`.
use Rattle.std.specs.Prelude.{◌≡◌, ◌≢◌, ℕ, zero, suc, List, [], ◌∷◌, ◌++◌, length, All}
use Rattle.rl_ranges.specs.declared.universe.Universe.{Universe}
use Rattle.rl_ranges.specs.Text.{IsText}
use Rattle.rl_syntax.specs.declared.verdict.Family.{Family}

-- `k` copies of the text, one after another. The empty text if `k` is 0.
abbrev pub copies : ℕ → List ℕ → List ℕ
copies zero text = []
copies (suc k) text = text ++ copies k text

-- The heads and pumps (the first and the second list) in turn, beginning with a head, each pump repeated `k` times, until the
-- next head or pump is missing. The empty text if there is no head.
abbrev pub pumped : ℕ → List (List ℕ) → List (List ℕ) → List ℕ
pumped k [] pumps = []
pumped k (head ∷ heads) [] = head
pumped k (head ∷ heads) (pump ∷ pumps) = head ++ copies k pump ++ pumped k heads pumps

-- The string of the family for the number `k`.
abbrev pub family_text : Family → ℕ → List ℕ
family_text f k = pumped k f.heads f.pumps

-- Holds if the family has the degree `degree`: it has this number of pumps and one more head. All heads and pumps are texts of
-- the universe, and no pump is empty. Heads may be empty.
pub record IsFamily (universe : Universe) (degree : ℕ) (f : Family) : Type 0 where
  pub heads : length f.heads ≡ suc degree
  pub pumps : length f.pumps ≡ degree
  pub head_texts : All (IsText universe) f.heads
  pub pump_texts : All (IsText universe) f.pumps
  pub no_empty_pump : All (λ pump. pump ≢ []) f.pumps

-- Holds if the family has the form of one for exponential growth: two heads and one pump, all of them texts of the universe,
-- and the pump isn't empty.
abbrev pub IsExpoFamily : Universe → Family → Type 0
IsExpoFamily universe f = IsFamily universe 1 f
