-- Questions, and the messages on mistakes. The patterns, and other texts, are given by their bytes in UTF-8. The set pairs,
-- live pairs and pairs of thread lists, which the last number of a question limits, are explained where its answer is.
use Rattle.std.specs.Prelude.{◌≡◌, ◌≤◌, ◌+◌, ℕ, Bool, List, ◌++◌, length, codes, All, ⊤}
use Rattle.std.specs.Str.{chars}
use Rattle.serde_json.specs.View.{items_view}
use Rattle.rl_ranges.specs.Text.{IsText}
use Rattle.rl_ranges.specs.declared.universe.Universe.{Universe}
use Rattle.rl_syntax.specs.declared.re.Mode.{Mode}
use Rattle.rl_marks.specs.declared.asked.How.{How}
use Rattle.rl_asked.specs.Values.{texts_of}
use Rattle.rl_asked.specs.Words.{Text}
use Rattle.rl_asked.specs.declared.limits.TheConstants.{LEAST_LIMIT, MOST_COMPARE_LIMIT, MOST_PAIRS, MOST_SPANS_LIMIT}
use Rattle.rl_asked.specs.declared.mistake.Mistake.{Mistake}
use Rattle.rl_asked.specs.declared.mistake.Mistake.TheVariants.{NoObject, UnknownKey, MissingKey, WrongValue}
use Rattle.rl_asked.specs.declared.question.Question.{Question}
use Rattle.rl_asked.specs.declared.question.Question.TheVariants as question
use Rattle.rl_asked.specs.declared.question.Terms.{Terms}

-- A question.
pub data Asked : Type 0 where
  -- How the cost of matching a pattern grows, with a limit on live pairs.
  class : Text → Terms → Mode → ℕ → Asked
  -- The same, and by which ways.
  ways : Text → Terms → Mode → ℕ → Asked
  -- What the parts of a pattern are.
  tree : Text → Terms → Asked
  -- How the texts are related that two patterns match, with a limit on set pairs.
  compare : Text → Text → Terms → Mode → ℕ → Asked
  -- Whether two patterns find the same, with a limit on pairs of thread lists; the flag says whether groups are compared too.
  spans : Text → Text → Terms → How → ℕ → Bool → Asked
  -- What a pattern finds on a text from a position on; the flag says that a match at this position must not be empty.
  found : Text → Terms → Mode → Text → ℕ → Bool → Asked
  -- What can be left out of a pattern, with a limit on set pairs.
  suggest : Text → Terms → ℕ → Asked
  -- How many steps a match of a text takes.
  cost : Text → Terms → Mode → Text → Asked
  -- How many steps a match of the string of a family takes, which is given by its heads, its pumps and a number.
  family_cost : Text → Terms → Mode → List Text → List Text → ℕ → Asked
  -- Which version answers.
  version : Asked

-- The question that the program's `Question` asks.
abbrev pub asked : Question → Asked
asked (question.Class pattern terms mode pairs) = class pattern.now terms mode pairs
asked (question.Ways pattern terms mode pairs) = ways pattern.now terms mode pairs
asked (question.Tree pattern terms) = tree pattern.now terms
asked (question.Compare first second terms mode limit) = compare first.now second.now terms mode limit
asked (question.Spans first second terms how limit groups) = spans first.now second.now terms how limit groups
asked (question.Found pattern terms mode text from advance) = found pattern.now terms mode text.now from advance
asked (question.Suggest pattern terms pairs) = suggest pattern.now terms pairs
asked (question.Cost pattern terms mode text) = cost pattern.now terms mode text.now
asked (question.CostOfFamily pattern terms mode heads pumps k) =
    family_cost pattern.now terms mode (texts_of (items_view heads.now)) (texts_of (items_view pumps.now)) k
asked question.Version = version

-- ---- what holds of each question that is read

-- The number is from `least` to `most`.
abbrev pub IsBetween : ℕ → ℕ → ℕ → Type 0
IsBetween least most n = (least ≤ n) × (n ≤ most)

-- The characters of each text are codes of the universe.
abbrev pub AreTexts : Universe → List Text → Type 0
AreTexts universe texts = All (λ text. IsText universe (chars text)) texts

-- The numbers of the question are in their ranges, and its texts have only codes of the universe. Nothing is said of patterns.
abbrev pub IsAskable : Asked → Type 0
IsAskable (class pattern terms mode pairs) = IsBetween LEAST_LIMIT MOST_PAIRS pairs
IsAskable (ways pattern terms mode pairs) = IsBetween LEAST_LIMIT MOST_PAIRS pairs
IsAskable (tree pattern terms) = ⊤
IsAskable (compare first second terms mode limit) = IsBetween LEAST_LIMIT MOST_COMPARE_LIMIT limit
IsAskable (spans first second terms how limit groups) = IsBetween LEAST_LIMIT MOST_SPANS_LIMIT limit
IsAskable (found pattern terms mode text from advance) = from ≤ length (chars text)
IsAskable (suggest pattern terms pairs) = IsBetween LEAST_LIMIT MOST_PAIRS pairs
IsAskable (cost pattern terms mode text) = IsText terms.universe (chars text)
IsAskable (family_cost pattern terms mode heads pumps k) =
    AreTexts terms.universe heads × AreTexts terms.universe pumps × (length heads ≡ length pumps + 1)
IsAskable version = ⊤

-- ---- mistakes

-- The message on a mistake, which names the key.
abbrev pub message_of : Mistake → Text
message_of NoObject = codes "no object"
message_of (UnknownKey key) = codes "unknown key " ++ key.now
message_of (MissingKey key) = codes "missing key " ++ key.now
message_of (WrongValue key) = codes "wrong value of " ++ key.now
