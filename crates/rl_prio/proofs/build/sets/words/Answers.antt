use Rattle.std.proofs.Common.{◌≡◌, ℕ}
use Rattle.std.proofs.lemmas.Result.{IfOk-weaker}
use Rattle.rl_ranges.specs.Codes.{has}
use Rattle.rl_syntax.specs.Guards.{is_word}
use Rattle.rl_prio.proofs.build.sets.words.Goals as goal

pub returns : goal.returns
unfolding is_word
returns c =
    IfOk-weaker c.named.result (λ set. (x : ℕ) → has set x ≡ is_word c.args.ascii x) (λ set. has set ≡ is_word c.args.ascii)
    (λ set h. λ i x. h x i) c.named.ensures.members
