use Rattle.std.proofs.Common.{refl}
use Rattle.rl_judge.specs.RightEntries.{has_tokens}
use Rattle.rl_judge.proofs.NoEntries.{no_entries}
use Rattle.rl_judge.proofs.entries.judge.Goals as goal

pub returns-then-has_no_sites-clause-right : goal.returns-then-has_no_sites-clause-right
returns-then-has_no_sites-clause-right c =
    no_entries c.args.path.now c.args.source.now c.args.settings.now c.new.result (c.if-has_no_sites.ensures refl) c.new.ensures

pub returns-in_ok-site_entries-in-Ok-clause-right : goal.returns-in_ok-site_entries-in-Ok-clause-right
returns-in_ok-site_entries-in-Ok-clause-right c = has_tokens c.in-Ok.ensures.ok c.in_ok-site_entries-in-Ok.ensures.right

pub returns-in_ok-fault_entries-in-Err-clause-right : goal.returns-in_ok-fault_entries-in-Err-clause-right
returns-in_ok-fault_entries-in-Err-clause-right c = c.in_ok-fault_entries-in-Err.ensures.right c.args.settings.now
