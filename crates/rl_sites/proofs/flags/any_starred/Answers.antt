-- An argument begins with `*` if and only if one is found.
use Rattle.std.proofs.Common.{◌∙◌, ap, sym}
use Rattle.rl_sites.specs.Arguments.{arguments_of}
use Rattle.rl_sites.specs.Flags.{is_starred}
use Rattle.rl_sites.specs.internal.Walks.{is_filled}
use Rattle.rl_sites.proofs.Filters.{any-filled}
use Rattle.rl_sites.proofs.flags.any_starred.Goals as goal

pub returns-in-Some : goal.returns-in-Some
returns-in-Some c =
    sym (any-filled (is_starred c.args.source.now) (arguments_of c.args.source.now c.args.arguments.now) ∙ ap is_filled c.in-Some.ensures.found)

pub returns-in-None : goal.returns-in-None
returns-in-None c =
    sym (any-filled (is_starred c.args.source.now) (arguments_of c.args.source.now c.args.arguments.now) ∙ ap is_filled c.in-None.ensures.found)
