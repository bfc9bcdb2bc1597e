-- The sites of the rest are all sites.
use Rattle.std.proofs.Common.{◌≡◌, length, false}
use Rattle.rl_sites.specs.internal.Parts.{is_hidden}
use Rattle.rl_sites.specs.internal.Walks.{IsNumbered}
use Rattle.rl_sites.specs.Sites.{sites_from}
use Rattle.rl_sites.proofs.reading.from_first_call.Given as goal

abbrev pub invariant-loop-rest : goal.invariant-loop-rest
invariant-loop-rest l = record {
  same : sites_from l.source l.names.aliases.items (is_hidden l.source l.before) l.rest ≡ sites_from l.source l.names.aliases.items false l.tokens;
  numbered : IsNumbered l.rest;
}

abbrev pub decreases-loop-rest : goal.decreases-loop-rest
decreases-loop-rest l = length l.rest
