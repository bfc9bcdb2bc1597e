use Rattle.std.proofs.Common.{◌≡◌, ℕ, ◌==◌, ◌∙◌, arith}
use Rattle.std.proofs.lemmas.Bool.Decides.{nat_tests}
use Rattle.std.proofs.lemmas.Result.{IfOk-weaker}
use Rattle.rl_ranges.specs.Codes.{has, is_between}
use Rattle.rl_syntax.specs.Guards.{is_line_feed}
use Rattle.rl_prio.proofs.build.sets.line_feeds.Goals as goal

between-ten : (x : ℕ) → is_between 10 10 x ≡ (x == 10)
unfolding is_between
between-ten x = grind (arith, nat_tests)

pub returns : goal.returns
returns c =
    IfOk-weaker c.range.result (λ set. (x : ℕ) → has set x ≡ is_between 10 10 x) (λ set. has set ≡ is_line_feed)
    (λ set h. λ i x. (h x ∙ between-ten x) i) c.range.ensures.members
