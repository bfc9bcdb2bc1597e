-- None of the arguments so far has the form.
use Rattle.std.proofs.Common.{◌≡◌, length}
use Rattle.std.specs.Prelude.{filter}
use Rattle.rl_sites.specs.Arguments.{arguments_of}
use Rattle.rl_sites.specs.internal.Walks.{IsTable, has_form}
use Rattle.rl_sites.proofs.arguments.find_argument.Given as goal

abbrev pub invariant-arguments : goal.invariant-arguments
invariant-arguments l = record {
  same : filter (has_form l.source l.form) (arguments_of l.source l.arguments) ≡ filter (has_form l.source l.form) (arguments_of l.source l.rest);
  table : IsTable l.source l.rest l.sizes;
}

abbrev pub decreases-arguments : goal.decreases-arguments
decreases-arguments l = length l.rest
