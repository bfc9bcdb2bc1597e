-- The sets of the line feed and of all codes.
use Rattle.std.proofs.Common.{◌≡◌, ℕ, ◌-◌, List, ap, ◌∙◌, arith}
use Rattle.std.proofs.lemmas.Bool.Decides.{nat_tests}
use Rattle.rl_ranges.specs.declared.universe.Universe.{Universe}
use Rattle.rl_ranges.specs.declared.universe.Universe.TheVariants.{Str, Bytes}
use Rattle.rl_ranges.specs.Text.{code_count}
use Rattle.rl_ranges.specs.Codes.{has, is_between}
use Rattle.rl_syntax.specs.Guards.{is_line_feed}
use Rattle.rl_syntax.specs.Modes.{is_code}

between-ten : (c : ℕ) → is_between 10 10 c ≡ is_line_feed c
unfolding is_between
between-ten c = grind (arith, nat_tests)

pub has-line_feed : (s : List (ℕ × ℕ)) → ((c : ℕ) → has s c ≡ is_between 10 10 c) → has s ≡ is_line_feed
has-line_feed s h = λ i c. (h c ∙ between-ten c) i

between-all : (u : Universe) (c : ℕ) → is_between 0 (code_count u - 1) c ≡ is_code u c
unfolding is_between is_code
between-all Str c = grind (arith, nat_tests)
between-all Bytes c = grind (arith, nat_tests)

pub has-all : (u : Universe) (last : ℕ) (s : List (ℕ × ℕ)) → last ≡ code_count u - 1 → ((c : ℕ) → has s c ≡ is_between 0 last c) → has s ≡ is_code u
has-all u last s e h = λ i c. (h c ∙ ap (λ n. is_between 0 n c) e ∙ between-all u c) i
