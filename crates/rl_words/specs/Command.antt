-- The command line as one simple command, in the terms of `clap`, and what the command finds in a list of words. A rule
-- describes an argument or an option. A row has what was found for one of them.
use Rattle.std.specs.Prelude.{List, [], ◌∷◌, Option, Some, None, true, codes, if◌then◌else◌}
use Rattle.std.specs.List.{fold}
use Rattle.clap.specs.Lexer.{usize_max}
use Rattle.clap.specs.Walk.{Row, Rule, Text, is_empty}
use Rattle.clap.specs.Simple.{App, matches_of, new_app, new_rule, on_top, with_rule}
use Rattle.clap.specs.Faults.{fault_of}
use Rattle.clap.specs.declared.builder.action.ArgAction.TheVariants.{Set}

-- The rule of the argument ACTION, which is required.
abbrev pub action_rule : Rule
action_rule = record (new_rule (codes "action")) { required = true }

-- The rule of the arguments after ACTION, of which there may be any number, or none.
abbrev pub args_rule : Rule
args_rule = record (new_rule (codes "args")) {
  range = Some (record { start_inclusive = 0; end_inclusive = usize_max });
}

-- The rule of the option `--name`, which takes one value and may be given at most once.
abbrev pub option_rule : Text → Rule
option_rule name = record (new_rule name) { long = Some name; action = Some Set }

-- The command without its arguments. The words don't begin with the program's name, and there is no `--help`.
abbrev pub bare_app : App
bare_app = on_top (λ s. record s { disable_help_flag = true })
    (on_top (λ s. record s { no_binary_name = true }) (new_app (codes "relint")))

-- The command `app` with options of these names added, in order, each of which takes one value.
abbrev pub with_options : App → List Text → App
with_options app names = fold (λ app name. with_rule app (option_rule name)) app names

-- The command with ACTION, the arguments after it, and its seven options, which are listed here.
unfoldable pub relint_app : App
relint_app = with_options (with_rule (with_rule bare_app action_rule) args_rule)
    (codes "mode" ∷ codes "format" ∷ codes "max-degree" ∷ codes "max-pairs" ∷ codes "settings" ∷ codes "report" ∷ codes "baseline" ∷ [])

-- What the command finds in the words for each argument and option, or `None` if it doesn't accept the words.
unfoldable pub rows_given : List Text → Option (List Row)
rows_given words = if is_empty (fault_of relint_app words) then Some (matches_of relint_app words) else None
