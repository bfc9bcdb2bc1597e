-- Comparisons: what is promised of an answer that compares the texts that two patterns match. These texts are in three
-- regions: those that only the first pattern matches, those that only the second matches, and those that both match. A set
-- pair is a set of states of the first automaton with a set of states of the second; a search over the set pairs looks for a
-- text of each region. The matched tree of a pattern is its tree, followed by any text if a match may end anywhere.
use Rattle.std.specs.Prelude.{◌&&◌, ℕ, not, ◌++◌, is_some, IfSome, codes, if◌then◌else◌}
use Rattle.std.specs.Fmt.{decimal}
use Rattle.rl_ranges.specs.Text.{IsText}
use Rattle.rl_ranges.specs.declared.universe.Universe.{Universe}
use Rattle.rl_syntax.specs.Cost.{matched}
use Rattle.rl_syntax.specs.Pattern.{pattern_ending, pattern_tree, universe_of}
use Rattle.rl_syntax.specs.Tree.{Tree}
use Rattle.rl_syntax.specs.declared.pattern.Pattern.{Pattern}
use Rattle.rl_syntax.specs.declared.re.Mode.{Mode}
use Rattle.rl_equiv.specs.Limits.{AreWithin}
use Rattle.rl_equiv.specs.Regions.{AreRegions}
use Rattle.rl_equiv.specs.declared.compared.Compared.{Compared}
use Rattle.rl_compare.specs.Matched.{matched_tree}
use Rattle.rl_compare.specs.Exceeded.{IsCompareExceeded}
use Rattle.rl_compare.specs.Comparison.{IsTrueComparison}
use Rattle.rl_compare.specs.declared.error.CompareError.TheVariants as error
use Rattle.rl_asked.specs.Words.{Text}
use Rattle.rl_ask.specs.declared.answer.Answer.{Answer}
use Rattle.rl_ask.specs.declared.answer.Answer.TheVariants as answer
use Rattle.rl_ask.specs.declared.answer.Limit.{Limit}
use Rattle.rl_ask.specs.declared.answer.Limit.TheVariants as limit

-- The matched tree of a pattern in a mode.
abbrev pub matched_in : Universe → Mode → Pattern → Tree
matched_in universe mode p = matched_tree universe (pattern_tree p mode) (pattern_ending p mode)

-- Each region's text, if it has one, has only codes of the universe.
pub record AreTexts (universe : Universe) (c : Compared) : Type 0 where
  pub first : IfSome c.first (IsText universe)
  pub second : IfSome c.second (IsText universe)
  pub both : IfSome c.both (IsText universe)

-- `c` is a right comparison of what the patterns `p` and `q` match in the mode. `within`: no limit is exceeded. `regions`: the
-- search over at most `most` set pairs gives the texts in `c`. `told`: each text is matched by exactly the patterns that its
-- region names, and a region without a text is empty unless more set pairs are reached.
pub record IsComparison (mode : Mode) (most : ℕ) (p q : Pattern) (c : Compared) : Type 0 where
  pub within : AreWithin (universe_of p) (matched_in (universe_of p) mode p) (matched_in (universe_of p) mode q)
  pub regions : AreRegions (universe_of p) (matched_in (universe_of p) mode p) (matched_in (universe_of p) mode q) most c
  pub told : IsTrueComparison (universe_of p) (matched (pattern_tree p mode) (pattern_ending p mode)) (matched (pattern_tree q mode) (pattern_ending q mode)) c

-- The first limit that the two matched trees exceed: that of nodes (`Size`), of common letters, or of what is tried at a point
-- (`Moves`). A comparison of matched texts has no limit on groups.
abbrev pub ExceedBoth : Universe → Tree → Tree → Limit → Type 0
ExceedBoth universe s t limit.Size = IsCompareExceeded universe s t error.Size
ExceedBoth universe s t limit.Letters = IsCompareExceeded universe s t error.Letters
ExceedBoth universe s t limit.Moves = IsCompareExceeded universe s t error.Moves
ExceedBoth universe s t limit.Groups = ⊥

-- Holds if the answer is right for two patterns of one universe: it names the first limit that they exceed, or has a right
-- comparison.
abbrev pub AreCompared : Mode → ℕ → Pattern → Pattern → Answer → Type 0
AreCompared mode most p q (answer.Undecided exceeded) =
    ExceedBoth (universe_of p) (matched_in (universe_of p) mode p) (matched_in (universe_of p) mode q) exceeded
AreCompared mode most p q (answer.Compared c) = IsComparison mode most p q c
AreCompared mode most p q _ = ⊥

-- The words for the relation of two patterns, by the texts of the regions: `overlapping` if all three regions have a text;
-- otherwise `passed over N` if more than `most` set pairs are reached, which is N; otherwise `equal` if neither of the first
-- two regions has a text, `included` if only the first has none, `includes` if only the second has none, and `disjoint` if both
-- have one.
abbrev pub relation_name : ℕ → Compared → Text
relation_name most c =
    if is_some c.first && (is_some c.second && is_some c.both) then codes "overlapping"
    else (if c.more then codes "passed over " ++ decimal most
    else (if not (is_some c.first) && not (is_some c.second) then codes "equal"
    else (if not (is_some c.first) then codes "included"
    else (if not (is_some c.second) then codes "includes"
    else codes "disjoint"))))
