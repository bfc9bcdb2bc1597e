-- How long the texts of a family are, and that they are texts.
use Rattle.std.proofs.Common.{◌≡◌, ℕ, zero, suc, ◌+◌, ◌*◌, ◌<◌, ◌≤◌, List, [], ◌∷◌, ◌++◌, length, length-append, suc-mul, mul-add, mul-le-mul, zero-mul, arith}
use Rattle.rl_ranges.specs.Text.{code_count, IsText}
use Rattle.rl_ranges.specs.declared.universe.Universe.{Universe}
use Rattle.rl_syntax.specs.declared.verdict.Family.{Family}
use Rattle.rl_syntax.specs.Family.{copies, pumped, family_text, IsFamily}
use Rattle.rl_pairs.proofs.StillLaws.{All-has, has-All}
use Rattle.rl_pairs.proofs.FamilyLaws.{pumped-each}

length-copies : (k : ℕ) (w : List ℕ) → length (copies k w) ≡ k * length w
length-copies zero w = omega (arith, zero-mul (length w))
length-copies (suc k) w = omega (arith, length-append w (copies k w), length-copies k w, suc-mul k (length w))

-- The sum of the lengths.
sizes : List (List ℕ) → ℕ
sizes [] = 0
sizes (w ∷ words) = length w + sizes words

length-pumped : (k : ℕ) (heads pumps : List (List ℕ)) → length (pumped k heads pumps) ≤ sizes heads + k * sizes pumps
unfolding sizes
length-pumped k [] pumps = omega arith
length-pumped k (head ∷ heads) [] = omega arith
length-pumped k (head ∷ heads) (pump ∷ pumps) =
    omega (arith, length-append (head ++ copies k pump) (pumped k heads pumps), length-append head (copies k pump), length-copies k pump, length-pumped k heads pumps, mul-add k (length pump) (sizes pumps))

-- In plain numbers.
spread : (a b k n : ℕ) → 1 ≤ k → n ≤ a + k * b → n + 1 ≤ (a + b + 1) * k
spread a b k n some h = let more : a * 1 ≤ a * k = mul-le-mul same some in omega (arith, more)
  where
    same : a ≤ a
    same = omega arith

-- One more than the codes of all heads and pumps.
pub factor_of : Family → ℕ
factor_of f = sizes f.heads + sizes f.pumps + 1

pub text-short : (f : Family) (k : ℕ) → 1 ≤ k → length (family_text f k) + 1 ≤ factor_of f * k
unfolding factor_of
text-short f k some = spread (sizes f.heads) (sizes f.pumps) k (length (family_text f k)) some (length-pumped k f.heads f.pumps)

pub texts-texts : (universe : Universe) (d : ℕ) (f : Family) → IsFamily universe d f → (k : ℕ) → IsText universe (family_text f k)
texts-texts universe d f family k =
    has-All (λ c. c < code_count universe) (family_text f k) (pumped-each (λ c. c < code_count universe) k f.heads f.pumps
    (λ w i c j. All-has (λ c. c < code_count universe) w c (All-has (IsText universe) f.heads w family.head_texts i) j)
    (λ w i c j. All-has (λ c. c < code_count universe) w c (All-has (IsText universe) f.pumps w family.pump_texts i) j))
