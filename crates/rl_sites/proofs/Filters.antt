-- The arguments that have a form.
use Rattle.std.proofs.Common.{◌≡◌, ℕ, zero, suc, ◌<◌, ◌≤◌, Bool, true, false, cond, List, [], ◌∷◌, length, refl, arith}
use Rattle.std.specs.Prelude.{filter, ◌||◌, ◌&&◌, not, codes}
use Rattle.std.specs.List.{list_any}
use Rattle.rl_sites.specs.declared.significant.SignificantToken.{SignificantToken}
use Rattle.rl_sites.specs.declared.arguments.Form.TheVariants as form
use Rattle.rl_sites.specs.Significant.{is_word, is_op, is_at}
use Rattle.rl_sites.specs.Flags.{is_named}
use Rattle.rl_sites.specs.internal.Walks.{is_filled, has_form}

-- There is one if and only if the filter leaves one.
pub any-filled : (p : List SignificantToken → Bool) (xs : List (List SignificantToken)) → list_any p xs ≡ is_filled (filter p xs)
any-filled p [] = refl
any-filled p (x ∷ xs) =
    elim (p x) as (λ b. (b || list_any p xs) ≡ is_filled (cond b (x ∷ filter p xs) (filter p xs))) [ true ↦ refl | false ↦ any-filled p xs ]

stands_long : (i : ℕ) (p : SignificantToken → Bool) (ms : List SignificantToken) → is_at i p ms ≡ true → i < length ms
stands_long i p [] h = cc
stands_long zero p (m ∷ ms) h = omega arith
stands_long (suc i) p (m ∷ ms) h = omega (arith, stands_long i p ms h)

middle : (a b c : Bool) → (a && b && c) ≡ true → b ≡ true
middle true true c h = refl
middle true false c h = cc
middle false b c h = cc

-- `flags=` consists of two tokens.
pub flags_long : (s : List ℕ) (a : List SignificantToken) → has_form s form.FlagsNamed a ≡ true → 2 ≤ length a
unfolding is_named
flags_long s a h =
    stands_long 1 (is_op s (codes "=")) a
    (middle (is_at 0 (is_word s (codes "flags")) a) (is_at 1 (is_op s (codes "=")) a) (not (is_at 2 (is_op s (codes "=")) a)) h)

pub ruleset filters = (any-filled, flags_long)
