use Rattle.std.proofs.Common.{◌<◌, All, subst, sym}
use Rattle.rl_ask.proofs.codes.is_text.Goals as goal

pub returns-clause-yes : goal.returns-clause-yes
returns-clause-yes c = λ below. subst (λ n. All (λ x. x < n) c.args.codes.now) c.count.ensures (c.are_below.ensures.0 below)

pub returns-clause-no : goal.returns-clause-no
returns-clause-no c = λ text. c.are_below.ensures.1 (subst (λ n. All (λ x. x < n) c.args.codes.now) (sym c.count.ensures) text)
