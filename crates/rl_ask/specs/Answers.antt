-- Answers: when an answer to a question is right, and so what each answer promises. What is promised of each kind of question
-- is said in the file of its kind; how texts are read as patterns is said in `Patterns.antt`.
use Rattle.std.specs.Prelude.{◌≡◌, IfSome, false, ⊤}
use Rattle.std.specs.Str.{chars}
use Rattle.serde_json.specs.View.{view}
use Rattle.serde_json.specs.Written.{has_float}
use Rattle.rl_ranges.specs.Text.{IsText}
use Rattle.rl_ranges.specs.declared.universe.Universe.{Universe}
use Rattle.rl_syntax.specs.Family.{family_text}
use Rattle.rl_growth.specs.Texts.{HasTexts}
use Rattle.rl_syntax.specs.declared.re.Mode.TheVariants.{Search}
use Rattle.rl_report.specs.Verdicts.{IsVerdictOf}
use Rattle.rl_asked.specs.Questions.{Asked, class, ways, tree, compare, spans, found, suggest, cost, family_cost, version}
use Rattle.rl_ask.specs.Comparisons.{AreCompared, AreTexts}
use Rattle.rl_ask.specs.Costs.{IsCostOf, family_named}
use Rattle.rl_ask.specs.Explanations.{IsExplained}
use Rattle.rl_ask.specs.Finds.{IsFoundOn}
use Rattle.rl_ask.specs.Grammars.{grammar_in, grammar_of_finds}
use Rattle.rl_ask.specs.Patterns.{BothReadThen, ReadThen}
use Rattle.rl_ask.specs.Spans.{AreFound}
use Rattle.rl_ask.specs.Suggestions.{IsSuggested}
use Rattle.rl_ask.specs.Trees.{IsTree}
use Rattle.rl_ask.specs.Verdicts.{IsClass, IsLeastOf}
use Rattle.rl_ask.specs.declared.answer.Answer.{Answer}
use Rattle.rl_ask.specs.declared.answer.Answer.TheVariants as answer
use Rattle.rl_ask.specs.declared.grammar.Grammar.TheVariants.{Profile}

-- Holds if the answer is right for the question. The cost of a family is that of its string.
abbrev pub IsRight : Asked → Answer → Type 0
IsRight (class pattern terms mode pairs) a = ReadThen (grammar_in mode) terms pattern (IsClass mode pairs) a
IsRight (ways pattern terms mode pairs) a = ReadThen (grammar_in mode) terms pattern (IsExplained mode pairs) a
IsRight (tree pattern terms) a = ReadThen (grammar_in Search) terms pattern IsTree a
IsRight (compare first second terms mode limit) a = BothReadThen (grammar_in mode) terms first second (AreCompared mode limit) a
IsRight (spans first second terms how limit groups) a = BothReadThen grammar_of_finds terms first second (AreFound how groups) a
IsRight (found pattern terms mode text from advance) a = ReadThen grammar_of_finds terms pattern (IsFoundOn mode (chars text) advance from) a
IsRight (suggest pattern terms pairs) a = ReadThen Profile terms pattern (IsSuggested terms.flags (chars pattern) pairs) a
IsRight (cost pattern terms mode text) a = IsCostOf terms pattern mode (chars text) a
IsRight (family_cost pattern terms mode heads pumps k) a = IsCostOf terms pattern mode (family_text (family_named heads pumps) k) a
IsRight version a = a ≡ answer.Version

-- Holds if the answer can be written: its texts, if it has some, have only codes of the universe, and a reply that is handed on
-- has no floating-point number.
abbrev pub IsTellable : Universe → Answer → Type 0
IsTellable universe (answer.Class verdict bounds) = IsVerdictOf universe verdict × IsLeastOf universe bounds
IsTellable universe (answer.Ways explained) = HasTexts universe explained.verdict
IsTellable universe (answer.Tree reply) = has_float (view reply) ≡ false
IsTellable universe (answer.Compared c) = AreTexts universe c
IsTellable universe (answer.Differ d) = IsText universe d.text
IsTellable universe (answer.Suggested s) = IfSome s.text (IsText universe)
IsTellable universe _ = ⊤
