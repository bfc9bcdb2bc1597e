-- For private contracts: adding arguments to a command of `clap`. An option is an argument too. A rule is what contracts see
-- of an argument.
use Rattle.std.specs.Prelude.{◌≡◌, false, List, [], ◌∷◌}
use Rattle.clap.specs.Simple.{App, with_rule}
use Rattle.clap.specs.Walk.{rule_of}
use Rattle.clap.specs.declared.builder.arg.Arg.{Arg}

-- Holds if adding these arguments in turn leads from the command `before` to the command `now`, and none of them is global,
-- that is, accepted by subcommands too.
abbrev pub Makes : App → List Arg → App → Type 0
Makes before [] now = before ≡ now
Makes before (argument ∷ arguments) now =
    (argument.global ≡ false) × Makes (with_rule before (rule_of argument)) arguments now
