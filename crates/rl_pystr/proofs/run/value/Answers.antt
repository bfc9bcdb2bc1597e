-- Each token of the run is a token of the source.
use Rattle.std.proofs.Common.{sym, subst}
use Rattle.std.specs.Prelude.{All}
use Rattle.rl_pylex.specs.Source.{IsReadAt}
use Rattle.rl_pystr.proofs.Ends.{run_read}
use Rattle.rl_pystr.proofs.run.value.Goals as goal

pub value_of_run-requires-clause-read : goal.value_of_run-requires-clause-read
value_of_run-requires-clause-read c =
    subst (All (IsReadAt c.args.source.now)) (sym c.run_of-run.ensures) (run_read c.args.source.now c.args.tokens.now c.args.count c.args.first c.requires.tokens)

pub end_of-end-requires-clause-read : goal.end_of-end-requires-clause-read
end_of-end-requires-clause-read c =
    subst (All (IsReadAt c.args.source.now)) (sym c.run_of-run.ensures) (run_read c.args.source.now c.args.tokens.now c.args.count c.args.first c.requires.tokens)
