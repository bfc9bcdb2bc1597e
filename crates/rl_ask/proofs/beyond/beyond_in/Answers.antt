use Rattle.std.proofs.Common.{subst, sym}
use Rattle.rl_ask.specs.Beyond.{IsBeyond, within}
use Rattle.rl_ask.proofs.beyond.beyond_in.Goals as goal

pub returns-then-not-refused : goal.returns-then-not-refused
returns-then-not-refused c =
    subst (IsBeyond c.args.grammar c.args.terms c.args.word.now) (sym c.nothing_beyond.ensures)
    (within (c.in_ok-refused.ensures.no c.if-not-refused.true).1)
