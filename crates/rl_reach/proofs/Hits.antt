-- Hits of lists of steps that are joined, or moved one place on.
use Rattle.std.proofs.Common.{◌≡◌, ℕ, suc, ◌+◌, ◌≤◌, Bool, true, false, List, [], ◌∷◌, ◌++◌, refl, sym, ap, ap₂, true≢false, arith}
use Rattle.std.proofs.Math.Dec.{eqb-suc-suc}
use Rattle.rl_syntax.specs.declared.re.Ending.{Ending}
use Rattle.rl_syntax.specs.declared.re.Ending.TheVariants.{AtEnd, Anywhere}
use Rattle.rl_syntax.specs.Run.{Step, test, end}
use Rattle.rl_syntax.specs.Cost.{tests, up_to_hit, has_hit, is_hit}
use Rattle.rl_reach.proofs.Later.{later}

pub tests-append : (hit : ℕ → Bool) (l m : List Step) → tests hit (l ++ m) ≡ tests hit l ++ tests hit m
tests-append hit [] m = refl
tests-append hit (test ∷ l) m = ap (λ n. false ∷ n) (tests-append hit l m)
tests-append hit (end j ∷ l) m = ap (λ n. hit j ∷ n) (tests-append hit l m)

same-hit : (ending : Ending) (n j : ℕ) → is_hit ending (suc n) (suc j) ≡ is_hit ending n j
same-hit AtEnd n j = eqb-suc-suc j n
same-hit Anywhere n j = refl

pub tests-later : (ending : Ending) (n : ℕ) (l : List Step) → tests (is_hit ending (suc n)) (later l) ≡ tests (is_hit ending n) l
tests-later ending n [] = refl
tests-later ending n (test ∷ l) = ap (λ m. false ∷ m) (tests-later ending n l)
tests-later ending n (end j ∷ l) = ap₂ (λ b m. b ∷ m) (same-hit ending n j) (tests-later ending n l)

pub up_to_hit-least : (l m : List Bool) → up_to_hit l ≤ up_to_hit (l ++ m)
up_to_hit-least [] m = omega arith
up_to_hit-least (true ∷ l) m = omega arith
up_to_hit-least (false ∷ l) m = omega (arith, up_to_hit-least l m)

pub up_to_hit-found : (l m : List Bool) → has_hit l ≡ true → up_to_hit (l ++ m) ≡ up_to_hit l
up_to_hit-found [] m h = absurd (true≢false (sym h))
up_to_hit-found (true ∷ l) m h = refl
up_to_hit-found (false ∷ l) m h = ap suc (up_to_hit-found l m h)

pub up_to_hit-none : (l m : List Bool) → has_hit l ≡ false → up_to_hit (l ++ m) ≡ up_to_hit l + up_to_hit m
up_to_hit-none [] m h = omega arith
up_to_hit-none (true ∷ l) m h = absurd (true≢false h)
up_to_hit-none (false ∷ l) m h = omega (arith, up_to_hit-none l m h)

pub up_to_hit-most : (l m : List Bool) → up_to_hit (l ++ m) ≤ up_to_hit l + up_to_hit m
up_to_hit-most [] m = omega arith
up_to_hit-most (true ∷ l) m = omega arith
up_to_hit-most (false ∷ l) m = omega (arith, up_to_hit-most l m)
