-- The terms so far are set.
use Rattle.std.proofs.Common.{◌≡◌, length}
use Rattle.rl_sites.specs.Flags.{no_flags, set_all}
use Rattle.rl_sites.specs.internal.Parts.{terms_of}
use Rattle.rl_sites.proofs.terms.flags_by.Given as goal

abbrev pub invariant-terms : goal.invariant-terms
invariant-terms l =
    set_all l.source l.names.aliases.items (terms_of l.source l.argument) no_flags ≡ set_all l.source l.names.aliases.items (terms_of l.source l.rest) l.flags

abbrev pub decreases-terms : goal.decreases-terms
decreases-terms l = length l.rest
