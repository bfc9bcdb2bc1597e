use Rattle.rl_ask.proofs.AnswerLemmas.{verdict-told}
use Rattle.rl_ask.proofs.document.put_ways.Goals as goal

pub put_entry-requires : goal.put_entry-requires
put_entry-requires c = verdict-told c.args.universe c.args.explained.now.verdict c.requires
