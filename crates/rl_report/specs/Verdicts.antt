-- Verdicts and families as texts. A verdict says how the cost of matching a pattern grows with the length of the text: with a
-- degree, exponentially, or `undecided`, because a limit was exceeded. A live pair, whose number one of the limits bounds, is
-- a state of the pattern's automaton with the set of states that were tried before it. A family is the parts of texts that
-- show the verdict: heads and pumps that alternate, first a head, then each pump with the next head. The pumps are repeated. A
-- text of the universe `str` is a list of code points, and one of `bytes` a list of bytes.
use Rattle.std.specs.Prelude.{ℕ, ◌+◌, List, [], ◌∷◌, ◌++◌, Option, Some, None, codes, All, IfSome}
use Rattle.std.specs.Fmt.{decimal}
use Rattle.rl_ranges.specs.declared.universe.Universe.{Universe}
use Rattle.rl_ranges.specs.Text.{IsText}
use Rattle.rl_pystr.specs.Quoting.{is_bytes, quoted}
use Rattle.rl_syntax.specs.declared.verdict.Family.{Family}
use Rattle.rl_syntax.specs.declared.verdict.Verdict.{Verdict}
use Rattle.rl_syntax.specs.declared.verdict.Verdict.TheVariants.{Degree, Expo, Undecided}
use Rattle.rl_report.specs.Names.{Text, limit_name, limit_number}

-- The family of a verdict, or none if the verdict is undecided.
abbrev pub family_of : Verdict → Option Family
family_of (Degree d family) = Some family
family_of (Expo family) = Some family
family_of (Undecided limit) = None

-- The text of a verdict: `degree D`, `exponential`, or `undecided L over N`, where L is the name of the exceeded limit and N
-- the number that it allows. `max_pairs` is N if the limit is that of live pairs, and isn't used otherwise.
abbrev pub verdict_text : ℕ → Verdict → Text
verdict_text max_pairs (Degree d family) = codes "degree " ++ decimal d
verdict_text max_pairs (Expo family) = codes "exponential"
verdict_text max_pairs (Undecided limit) =
    codes "undecided " ++ (limit_name limit ++ (codes " over " ++ decimal (limit_number max_pairs limit)))

-- A text of the universe as a quoted Python literal of type `str` or `bytes`.
abbrev pub quoted_text : Universe → List ℕ → Text
quoted_text universe text = quoted (is_bytes universe) text

-- A head or a pump with its number and its quoted text, as in ` x0 r"a"` or ` y1 r"b"`.
abbrev pub family_part : Universe → Text → ℕ → List ℕ → Text
family_part universe letter number text =
    codes " " ++ (letter ++ (decimal number ++ (codes " " ++ quoted_text universe text)))

-- Each pump with the head that follows it, both with the same number, counted from the given one, up to the end of the shorter
-- list.
abbrev pub later_parts : Universe → ℕ → List (List ℕ) → List (List ℕ) → Text
later_parts universe number (pump ∷ pumps) (head ∷ heads) =
    family_part universe (codes "y") number pump ++ family_part universe (codes "x") number head
    ++ later_parts universe (number + 1) pumps heads
later_parts universe number _ _ = []

-- The heads and pumps in order: the first head, then each pump with the head that follows it. Nothing if there is no head.
abbrev pub family_parts : Universe → List (List ℕ) → List (List ℕ) → Text
family_parts universe [] pumps = []
family_parts universe (head ∷ heads) pumps = family_part universe (codes "x") 0 head ++ later_parts universe 1 pumps heads

-- The line of a family, with its line feed, such as ` family x0 r"" y1 r"a" x1 r"b"`. Heads are labelled `x` and pumps `y`.
abbrev pub family_text_line : Universe → Family → Text
family_text_line universe family = codes "  family" ++ (family_parts universe family.heads family.pumps ++ codes "\n")

-- The heads and pumps of the family are texts of the universe.
abbrev pub IsFamilyOf : Universe → Family → Type 0
IsFamilyOf universe family = All (IsText universe) family.heads × All (IsText universe) family.pumps

-- The heads and pumps of the verdict's family are texts of the universe. An undecided verdict has no family, so this holds for
-- it.
abbrev pub IsVerdictOf : Universe → Verdict → Type 0
IsVerdictOf universe verdict = IfSome (family_of verdict) (IsFamilyOf universe)
