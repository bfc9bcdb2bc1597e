use Rattle.std.proofs.Common.{nat_lt, ap, ◌∙◌, arith}
use Rattle.rl_prio.proofs.PlanLemmas.{holds_at-read, holds_at-beyond}
use Rattle.rl_prio.proofs.build.plan.Plan.holds.Goals as goal

pub returns-then-letter-len : goal.returns-then-letter-len
returns-then-letter-len c =
    holds_at-read c.args.self.now c.args.place c.args.letter c.as_slice.result.now c.index.result.now c.requires.sound c.requires.place_in
    (omega (arith, c.if-letter-len.true, c.len.ensures, c.args.self.now.kinds_of.ok.0)) (c.as_slice.ensures ∙ c.index.ensures)

pub returns-else-letter-len : goal.returns-else-letter-len
returns-else-letter-len c =
    ap (nat_lt c.args.letter) (c.len.ensures ∙ c.args.self.now.kinds_of.ok.0)
    ∙ holds_at-beyond c.args.self.now c.args.place c.args.letter (omega (arith, c.if-letter-len.false, c.len.ensures, c.args.self.now.kinds_of.ok.0))
