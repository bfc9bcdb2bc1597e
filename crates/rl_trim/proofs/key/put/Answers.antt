use Rattle.rl_trim.proofs.PairLaws.{inserted}
use Rattle.rl_trim.proofs.key.put.Goals as goal

pub returns : goal.returns
returns c = inserted c.args.keys.now.keys c.insert.new.self.keys c.args.key c.in_ok-new.ensures.keys
