use Rattle.rl_sarif.proofs.ResultLemmas.{one_item}
use Rattle.rl_sarif.proofs.document.array_of.Goals as goal

pub returns : goal.returns
returns c = one_item _ _ c.args.value c.new-values.ensures.items c.in_ok-push.ensures.items
