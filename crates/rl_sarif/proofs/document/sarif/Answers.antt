use Rattle.rl_sarif.proofs.ResultLemmas.{plain_document}
use Rattle.rl_sarif.proofs.document.sarif.Goals as goal

pub line_of-requires : goal.line_of-requires
line_of-requires c = plain_document _ _ c.args.max_degree c.args.max_pairs c.as_slice.result.now c.in_ok-document.ensures c.in_ok-results.ensures
