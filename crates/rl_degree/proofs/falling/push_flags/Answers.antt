use Rattle.std.proofs.Common.{◌≡◌, ℕ, ◌+◌, ◌*◌, ◌<◌, length, refl, sym, subst, arith}
use Rattle.rl_degree.specs.internal.FallingPairs.{AreFlagsUpTo}
use Rattle.rl_degree.proofs.FallingPairLaws.{flags-more}
use Rattle.rl_degree.proofs.falling.push_flags.Goals as goal

pub loop-second-preserved : goal.loop-second-preserved
loop-second-preserved c =
    let levels = c.args.levels.now in
    let entries = c.args.entries.now in
    let n = length levels in
    let first = c.args.first in
    let second = c.loop-second.second in
    let lt : second < n = omega (arith, c.loop-second-test.true) in
    let e : first * n + second + 1 ≡ first * n + (second + 1) = omega arith in
    let more = flags-more levels entries n first second (first * n + second) c.loop-second.flags.items c.is_walked.result lt refl c.is_walked.ensures c.loop-second.invariant in
    subst (λ (z : ℕ). AreFlagsUpTo levels entries n z c.push.new.self.items) e
    (subst (AreFlagsUpTo levels entries n (first * n + second + 1)) (sym c.in_ok-push.ensures.items) more)
