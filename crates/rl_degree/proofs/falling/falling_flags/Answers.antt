use Rattle.std.proofs.Common.{◌≡◌, ℕ, ◌*◌, length, subst, arith}
use Rattle.rl_degree.specs.internal.FallingPairs.{AreFlagsUpTo}
use Rattle.rl_degree.proofs.falling.falling_flags.Goals as goal

pub push_flags-requires-clause-so_far : goal.push_flags-requires-clause-so_far
push_flags-requires-clause-so_far c = c.loop-first.invariant

pub loop-first-preserved : goal.loop-first-preserved
loop-first-preserved c = c.in_ok-push_flags.ensures

pub returns : goal.returns
returns c =
    let levels = c.args.levels.now in
    let n = length levels in
    let e : c.loop-first.first ≡ n = omega arith in
    subst (λ (z : ℕ). AreFlagsUpTo levels c.args.entries.now n (z * n) c.loop-first.flags.items) e c.loop-first.invariant
