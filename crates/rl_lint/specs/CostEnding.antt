-- How `cost` ends. It depends on the syntax tree of its pattern and on its text, which is a list of code points. In a
-- pattern's syntax tree `t`, `at` (a `MatchEnd`) says where a match may end. An ending says what the run does: it refuses with
-- a message, it reports an unreadable file with a message, or it writes a text. Letters are classes of characters that the
-- pattern doesn't distinguish.
use Rattle.std.specs.Prelude.{ℕ, false, List, codes, if◌then◌else◌, length, nat_lt}
use Rattle.rl_ranges.specs.Text.{code_count}
use Rattle.rl_ranges.specs.declared.universe.Universe.TheVariants.{Str}
use Rattle.rl_syntax.specs.Cost.{cost, matched}
use Rattle.rl_syntax.specs.Tree.{Tree, size}
use Rattle.rl_syntax.specs.declared.re.Ending.{Ending as MatchEnd}
use Rattle.rl_syntax.specs.declared.verdict.Limit.TheVariants as limit
use Rattle.rl_prio.specs.Items.{longest}
use Rattle.rl_prio.specs.Letters.{letters}
use Rattle.rl_report.specs.Names.{limit_number}
use Rattle.rl_lint.specs.Endings.{Ending, refuses, writes}
use Rattle.rl_lint.specs.Messages.{steps_line, undecided_line}
use Rattle.rl_lint.specs.declared.limits.TheConstants.{MOST_TEXT_CODES}
use Rattle.rl_report.specs.Names.{Text}

-- The line on the first limit that the tree `t` exceeds: that of its nodes (`Size`), that of its letters, or that of the items
-- of its longest list (`Moves`). If it exceeds none of them, the line on the number of steps that the match of `text` takes,
-- and on whether it matches. 0 is given for a limit of live pairs, which isn't used here.
abbrev pub cost_line : Tree → MatchEnd → List ℕ → Text
cost_line t at text =
    if nat_lt (limit_number 0 limit.Size) (size t) then undecided_line 0 limit.Size
    else (if nat_lt (limit_number 0 limit.Letters) (length (letters t (code_count Str))) then undecided_line 0 limit.Letters
    else (if nat_lt (limit_number 0 limit.Moves) (longest t) then undecided_line 0 limit.Moves
    else steps_line (cost t at text) (matched t at text)))

-- The ending of `cost`: a text of more than `MOST_TEXT_CODES` characters is refused, even if the pattern exceeds a limit.
-- Otherwise the line is written, with neither a finding nor a failed call.
abbrev pub cost_ending : List ℕ → Tree → MatchEnd → Ending
cost_ending text t at =
    if nat_lt MOST_TEXT_CODES (length text) then refuses (codes "relint: text too long\n") else writes (cost_line t at text) false false
