-- The characters of a word are code points of a string.
use Rattle.std.proofs.Common.{◌≡◌, ℕ, zero, suc, ◌<◌, ⊎_elim, true, List, [], ◌∷◌, arith}
use Rattle.std.proofs.Math.Utf8.{scalar, scalar_cases, scalars}
use Rattle.std.proofs.lemmas.Bool.{and_parts}
use Rattle.std.proofs.lemmas.Str.{scalars-chars}
use Rattle.std.specs.Str.{IsUtf8, chars}
use Rattle.rl_ranges.specs.Text.{IsText}
use Rattle.rl_ranges.specs.declared.universe.Universe.TheVariants.{Str}

below_count : (c : ℕ) → scalar c ≡ true → c < 1114112
below_count c h = ⊎_elim (λ low. omega (arith, low)) (λ high. high.1) (scalar_cases c h)

all_below : (cs : List ℕ) → scalars cs ≡ true → IsText Str cs
all_below [] h k d below = absurd (omega arith)
all_below (c ∷ cs) h zero d below = below_count c (and_parts (scalar c) (scalars cs) h).0
all_below (c ∷ cs) h (suc k) d below = all_below cs (and_parts (scalar c) (scalars cs) h).1 k d (omega arith)

pub IsText-chars : (word : List ℕ) → IsUtf8 word → IsText Str (chars word)
IsText-chars word h = all_below (chars word) (scalars-chars word h)
