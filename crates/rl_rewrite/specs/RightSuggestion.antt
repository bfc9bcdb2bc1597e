-- Right suggestions for a pattern: the branches that are dropped and the quantifiers that are taken out follow the rules, and
-- the new text is read as a pattern that matches the same texts. Branches and quantifiers are identified by their spans. A
-- trial of a branch compares the languages of a body with and without it, by looking at set pairs, which are two sets of
-- states to which the same word leads. A suggestion lists the dropped branches, the quantifiers taken out (`merged`), and the
-- branches whose trials exceeded the limit (`passed`).
use Rattle.std.specs.Prelude.{◌≡◌, ◌⊎◌, ℕ, List, Some, Result, Ok, Err}
use Rattle.rl_ranges.specs.Text.{IsText}
use Rattle.rl_syntax.specs.declared.span.Span.{Span}
use Rattle.rl_syntax.specs.declared.pattern.Pattern.{Pattern}
use Rattle.rl_syntax.specs.declared.re.Mode.{Mode}
use Rattle.rl_syntax.specs.declared.verdict.Suggestion.{Suggestion}
use Rattle.rl_syntax.specs.Pattern.{body_of, is_anchored, trail_of, universe_of, pattern_tree, pattern_ending}
use Rattle.rl_syntax.specs.Cost.{matched}
use Rattle.rl_pattern.specs.declared.flags.Flags.{Flags}
use Rattle.rl_pattern.specs.declared.parsing.PatError.{PatError}
use Rattle.rl_pattern.specs.declared.parsing.PatError.TheVariants as error
use Rattle.rl_pattern.specs.Parsed.{IsParsed}
use Rattle.rl_pattern.specs.Reread.{IsRemaining}
use Rattle.rl_pattern.specs.Suggested.{among, IsRight}
use Rattle.rl_rewrite.specs.Verdicts.{IsVerdict}

-- Holds if the pattern `new` has the same outer anchors and the same universe as the pattern `found`, and matches the same
-- texts in every mode.
pub record MatchesAlike (found new : Pattern) : Type 0 where
  pub leading : is_anchored new ≡ is_anchored found
  pub trailing : trail_of new ≡ trail_of found
  pub universe : universe_of new ≡ universe_of found
  pub matched_texts : (mode : Mode) (w : List ℕ) → IsText (universe_of found) w → matched (pattern_tree new mode) (pattern_ending new mode) w ≡ matched (pattern_tree found mode) (pattern_ending found mode) w

-- Holds if `text` is read as the pattern `found` without the dropped branches and the quantifiers taken out (`merged`), and
-- this pattern matches the same texts. Any reading of the text gives such a pattern, unless memory runs out.
pub record ReadsAlike (flags : Flags) (found : Pattern) (dropped merged : List Span) (text : List ℕ) : Type 0 where
  pub pattern : (new : Pattern) × IsParsed flags (universe_of found) text (Ok new) × IsRemaining (among dropped) (among merged) found new × MatchesAlike found new
  pub answers : (r : Result Pattern PatError) → IsParsed flags (universe_of found) text r
      → (r ≡ Err error.OutOfMemory) ⊎ ((new : Pattern) × (r ≡ Ok new) × IsRemaining (among dropped) (among merged) found new × MatchesAlike found new)

-- Holds if the suggestion `s` is right for the pattern `found`, which was read from `codes` under `flags`. Each trial of a
-- branch may look at `limit` set pairs.
pub record IsRightSuggestion (flags : Flags) (found : Pattern) (codes : List ℕ) (limit : ℕ) (s : Suggestion) : Type 0 where
  -- It is what the rules give.
  pub right : IsRight (IsVerdict (universe_of found) limit) (body_of found) codes s.dropped s.merged s.passed s.text
  -- If it has a text, the text is read as a pattern that matches alike.
  pub keeps : (text : List ℕ) → s.text ≡ Some text → ReadsAlike flags found s.dropped s.merged text
