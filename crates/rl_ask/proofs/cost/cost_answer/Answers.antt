use Rattle.std.proofs.Common.{◌<◌, ◌≤◌, arith, length, subst}
use Rattle.std.specs.Str.{chars}
use Rattle.rl_ask.specs.Costs.{too_long}
use Rattle.rl_ask.specs.declared.limits.TheConstants.{MOST_TEXT_CODES}
use Rattle.rl_ask.proofs.CostLemmas.{counted-so}
use Rattle.rl_ask.proofs.cost.cost_answer.Goals as goal

pub returns-then-len-gt-MOST_TEXT_CODES : goal.returns-then-len-gt-MOST_TEXT_CODES
returns-then-len-gt-MOST_TEXT_CODES c =
    let more : MOST_TEXT_CODES < length c.in_ok-text.text = omega (arith, c.len.ensures, c.if-len-gt-MOST_TEXT_CODES.true) in
    too_long (subst (λ w. MOST_TEXT_CODES < length w) c.in_ok-text.ensures more)

pub returns : goal.returns
returns c =
    let few : length c.in_ok-text.text ≤ MOST_TEXT_CODES = omega (arith, c.len.ensures, c.if-len-gt-MOST_TEXT_CODES.false) in
    counted-so c.read_answer-answer.result c.args.terms c.args.pattern.now c.args.mode c.in_ok-text.text (chars c.args.text.now) c.in_ok-text.ensures few c.read_answer-answer.ensures
