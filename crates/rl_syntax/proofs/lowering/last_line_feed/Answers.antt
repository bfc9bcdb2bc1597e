use Rattle.std.proofs.Common.{◌≡◌, arith}
use Rattle.std.proofs.lemmas.Grind.{common_steps}
use Rattle.rl_ranges.specs.Codes.{has}
use Rattle.rl_syntax.specs.Guards.{is_line_feed}
use Rattle.rl_syntax.proofs.SetTests.{has-line_feed}
use Rattle.rl_syntax.proofs.lowering.last_line_feed.Goals as goal

pub returns : goal.returns
returns c =
    let e : has c.in_ok-range.field-0 ≡ is_line_feed = has-line_feed _ c.in_ok-range.ensures.members in
    grind (arith, common_steps)
