-- How `class` ends. It depends on the tree of its pattern and on the limits in force. In a pattern's syntax tree `t`, `at` (a
-- `MatchEnd`) says where a match may end. A question asks how the cost of matching a syntax tree grows with the length of the
-- text; a verdict answers it: a degree, exponential, or undecided because a limit is exceeded. A live pair is a state of the
-- pattern's automaton with the set of states that were tried before it; `max_pairs` is the greatest number of them that is
-- examined. A family is the parts of texts that show a verdict.
use Rattle.std.specs.Prelude.{◌≡◌, ℕ, false, ◌++◌, Some, codes}
use Rattle.rl_ranges.specs.declared.universe.Universe.TheVariants.{Str}
use Rattle.rl_syntax.specs.Tree.{Tree}
use Rattle.rl_syntax.specs.declared.re.Ending.{Ending as MatchEnd}
use Rattle.rl_syntax.specs.declared.verdict.Verdict.{Verdict}
use Rattle.rl_pairs.specs.RightVerdict.{RightVerdict}
use Rattle.rl_report.specs.Findings.{is_found}
use Rattle.rl_report.specs.Layouts.{family_lines}
use Rattle.rl_report.specs.Verdicts.{verdict_text}
use Rattle.rl_lint.specs.Endings.{Ending, writes}
use Rattle.rl_lint.specs.Patterns.{text_question}
use Rattle.rl_report.specs.Names.{Text}

-- The line of the verdict, and then the line of its family. An undecided verdict has no family, so its text is one line.
abbrev pub class_text : ℕ → Verdict → Text
class_text max_pairs verdict = verdict_text max_pairs verdict ++ (codes "\n" ++ family_lines Str (Some verdict))

-- `ending` is to write a right verdict on the tree `t`, for matches that may end as `at` says. The first number is
-- `max_degree`, and the second is `max_pairs`. The run has a finding if the verdict is exponential or a degree above
-- `max_degree`, and it has no failed call.
abbrev pub ClassEnds : ℕ → ℕ → Tree → MatchEnd → Ending → Type 0
ClassEnds max_degree max_pairs t at ending =
    (verdict : Verdict) × RightVerdict (text_question max_pairs t at) verdict
    × (ending ≡ writes (class_text max_pairs verdict) (is_found max_degree verdict) false)
