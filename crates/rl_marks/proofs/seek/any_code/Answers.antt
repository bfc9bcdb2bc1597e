use Rattle.std.proofs.Common.{◌≡◌, ◌-◌, arith}
use Rattle.std.proofs.lemmas.Grind.{common_steps}
use Rattle.rl_ranges.specs.Codes.{has}
use Rattle.rl_syntax.specs.Modes.{is_code}
use Rattle.rl_syntax.proofs.SetTests.{has-all}
use Rattle.rl_marks.proofs.seek.any_code.Goals as goal

pub returns : goal.returns
returns c =
    let e : has c.in_ok-set.set ≡ is_code c.args.universe =
    has-all c.args.universe (c.count.result - 1) _ (grind arith) c.in_ok-set.ensures.members in
    grind (arith, common_steps)
