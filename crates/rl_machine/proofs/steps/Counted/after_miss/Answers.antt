use Rattle.std.proofs.Common.{◌≡◌, ◌+◌, suc, refl, arith}
use Rattle.rl_syntax.specs.Cost.{up_to_hit}
use Rattle.rl_machine.proofs.steps.Counted.after_miss.Goals as goal

pub returns : goal.returns
returns c l shown =
    let e : suc (up_to_hit l) ≡ 1 + up_to_hit l = omega arith in
    record { counted = rw e (c.plus.ensures 1 (up_to_hit l) refl shown.counted); hit = shown.hit }
