-- The analysis of a site, which is a call of `re` whose first argument begins with string literals. Its outcome is the first
-- of these that holds: the first argument isn't only literals, the literals have no value, the flags aren't known, the value
-- isn't a pattern that can be judged, or the pattern has a verdict. Running out of memory isn't an outcome. A suggestion says
-- what can be left out of a pattern: it has the simpler pattern, if there is one, and mentions parts (branches and
-- quantifiers) of the old one. Whether a branch can be left out is tested by a search over set pairs, which are pairs of sets
-- of states of two automata. A span is a part of the pattern, from one code point up to another. A live pair is a state of the
-- pattern's automaton with the set of states that were tried before it.
use Rattle.std.specs.Prelude.{◌≡◌, ◌≢◌, ◌⊎◌, ◌==◌, ℕ, Bool, true, false, List, [], map, take, drop, ◌-◌, Option, Some, None, Ok, Err, if◌then◌else◌}
use Rattle.rl_ranges.specs.declared.universe.Universe.{Universe}
use Rattle.rl_ranges.specs.declared.universe.Universe.TheVariants as universe
use Rattle.rl_syntax.specs.declared.pattern.Pattern.{Pattern}
use Rattle.rl_syntax.specs.declared.span.Span.{Span}
use Rattle.rl_syntax.specs.declared.verdict.Limit.TheVariants.{Size, Letters, Moves}
use Rattle.rl_syntax.specs.declared.verdict.Suggestion.{Suggestion}
use Rattle.rl_syntax.specs.declared.verdict.Verdict.{Verdict}
use Rattle.rl_syntax.specs.declared.verdict.Verdict.TheVariants.{Undecided}
use Rattle.rl_syntax.specs.Pattern.{pattern_tree, pattern_ending, universe_of}
use Rattle.rl_pattern.specs.declared.flags.Flags.{Flags}
use Rattle.rl_pattern.specs.declared.parsing.PatError.{PatError}
use Rattle.rl_pattern.specs.declared.parsing.PatError.TheVariants as parsing
use Rattle.rl_pattern.specs.Parsed.{IsParsed}
use Rattle.rl_pylex.specs.declared.token_list.Token.{Token}
use Rattle.rl_pystr.specs.declared.fault.StrError.{StrError}
use Rattle.rl_pystr.specs.declared.fault.StrError.TheVariants as valuing
use Rattle.rl_pystr.specs.declared.literal.Literal.{Literal}
use Rattle.rl_pystr.specs.Runs.{value_of_run, IsValue}
use Rattle.rl_pairs.specs.RightVerdict.{Question, RightVerdict}
use Rattle.rl_rewrite.specs.RightSuggestion.{IsRightSuggestion}
use Rattle.rl_sites.specs.declared.site.Site.{Site}
use Rattle.rl_sites.specs.declared.site.SiteFlags.{SiteFlags}
use Rattle.rl_sites.specs.declared.site.SiteFlags.TheVariants.{Known, Unknown}
use Rattle.rl_sites.specs.Runs.{run_of}
use Rattle.rl_report.specs.declared.report.Outcome.{Outcome}
use Rattle.rl_report.specs.declared.report.Outcome.TheVariants as outcome
use Rattle.rl_report.specs.Verdicts.{quoted_text}
use Rattle.rl_judge.specs.declared.analysis.Analysis.{Analysis}
use Rattle.rl_judge.specs.declared.options.AnalysisOptions.{AnalysisOptions}
use Rattle.rl_judge.specs.declared.parts.Part.{Part}
use Rattle.rl_judge.specs.declared.parts.Parts.{Parts}
use Rattle.rl_judge.specs.Faults.{code_place, literal_fault, pattern_fault}
use Rattle.rl_syntax.specs.declared.limits.TheConstants.{MOST_SET_PAIRS}

-- ---- the verdict on a pattern, and the suggestion that comes with it

-- The question how the cost of matching the pattern grows with the length of the text, in the mode and with the limit of live
-- pairs that the options give.
abbrev pub question_of : Pattern → AnalysisOptions → Question
question_of p options = record {
  tree = pattern_tree p options.mode;
  ending = pattern_ending p options.mode;
  universe = universe_of p;
  max_pairs = options.max_pairs;
}

-- A verdict that is `undecided` by size, letters or moves comes with no suggestion. Every other verdict comes with one, which
-- may have no text and mention no parts. It is right for the pattern `p`, which was read from `codes` under `flags`, with
-- tests that look at up to `MOST_SET_PAIRS` set pairs each.
abbrev pub IsSuggested : Flags → Pattern → List ℕ → Verdict → Option Suggestion → Type 0
IsSuggested flags p codes (Undecided Size) suggestion = suggestion ≡ None
IsSuggested flags p codes (Undecided Letters) suggestion = suggestion ≡ None
IsSuggested flags p codes (Undecided Moves) suggestion = suggestion ≡ None
IsSuggested flags p codes v suggestion = (s : Suggestion) × (suggestion ≡ Some s) × IsRightSuggestion flags p codes MOST_SET_PAIRS s

-- The text whose pattern is judged too: the suggested text if there is one and the report has version 2, otherwise none.
abbrev pub text_to_judge : AnalysisOptions → Option Suggestion → Option (List ℕ)
text_to_judge options None = None
text_to_judge options (Some s) = if options.report == 2 then s.text else None

-- The verdict is right for the pattern that the text spells under the same flags and options.
abbrev pub IsTextVerdict : Flags → AnalysisOptions → Universe → List ℕ → Verdict → Type 0
IsTextVerdict flags options u text v = (p : Pattern) × IsParsed flags u text (Ok p) × RightVerdict (question_of p options) v

-- The verdict on the suggested pattern: a right one if there is a text to judge, and none otherwise.
abbrev pub IsSuggestedVerdict : Flags → AnalysisOptions → Universe → Option (List ℕ) → Option Verdict → Type 0
IsSuggestedVerdict flags options u None becomes = becomes ≡ None
IsSuggestedVerdict flags options u (Some text) becomes = (v : Verdict) × (becomes ≡ Some v) × IsTextVerdict flags options u text v

-- ---- the parts that a suggestion mentions

-- The code points of a span: those from the place `span.from` up to the place `span.upto`, which isn't included. Both are
-- counted from 0.
abbrev pub codes_of : Span → List ℕ → List ℕ
codes_of span codes = take (span.upto - span.from) (drop span.from codes)

-- The part of a pattern at a span: the byte place in the source where it begins, without its text.
abbrev pub bare_part : Literal → Span → Part
bare_part literal span = record { byte = code_place literal span.from; text = None }

-- The part of a pattern at a span: the byte place in the source where it begins, and its code points as a quoted literal.
abbrev pub quoted_part : Literal → Span → Part
quoted_part literal span = record { byte = code_place literal span.from; text = Some (quoted_text literal.universe (codes_of span literal.codes)) }

-- No parts: all three lists are empty.
abbrev pub no_parts : Parts
no_parts = record { dropped = []; merged = []; passed = [] }

-- The parts that a suggestion mentions: branches that it drops and branches whose test exceeded its limit, both with their
-- texts, and quantifiers that it removes, without texts. No parts if there is no suggestion.
abbrev pub parts_of : Literal → Option Suggestion → Parts
parts_of literal None = no_parts
parts_of literal (Some s) = record {
  dropped = map (quoted_part literal) s.dropped;
  merged = map (bare_part literal) s.merged;
  passed = map (quoted_part literal) s.passed;
}

-- The analysis `a` is right for the pattern `p`, which the literal spells under `flags`: its outcome has a verdict that is
-- right under `options`, a right suggestion if the verdict comes with one, and a right verdict on the suggested pattern if
-- there is a text to judge; and its parts are those that the suggestion mentions.
pub record IsJudged (flags : Flags) (options : AnalysisOptions) (literal : Literal) (p : Pattern) (a : Analysis) : Type 0 where
  pub verdict : Verdict
  pub suggestion : Option Suggestion
  pub becomes : Option Verdict
  pub right : RightVerdict (question_of p options) verdict
  pub suggested : IsSuggested flags p literal.codes verdict suggestion
  pub next : IsSuggestedVerdict flags options literal.universe (text_to_judge options suggestion) becomes
  pub is : a ≡ record { universe = literal.universe; fault = None; outcome = outcome.Judged verdict suggestion becomes; parts = parts_of literal suggestion }

-- ---- sites

-- The analysis with the outcome `o`, which has no verdict, in the universe `u`. It mentions no parts of a pattern. `fault` is
-- the byte place of the fault, or `None` if it has no place.
abbrev pub refusal : Universe → Option ℕ → Outcome → Analysis
refusal u fault o = record { universe = u; fault = fault; outcome = o; parts = no_parts }

-- The value of a run of literals is a text of the universe `u`. If the run has no value, for another reason than that memory
-- ran out, `u` is `Str`.
abbrev pub IsUniverseOfRun : List ℕ → List Token → Universe → Type 0
IsUniverseOfRun source run u =
    ((literal : Literal) × IsValue source run literal × (u ≡ literal.universe))
    ⊎ ((e : StrError) × (value_of_run source run ≡ Err e) × (e ≢ valuing.OutOfMemory) × (u ≡ universe.Str))

-- The analysis is right for a site of the source with these tokens. One of the cases below applies.
pub data IsAnalysisOf (source : List ℕ) (tokens : List Token) (options : AnalysisOptions) (site : Site) (a : Analysis) : Type 0 where
  -- The first argument isn't only its first run of literals.
  is_not_whole : {u : Universe} → site.whole ≡ false → IsUniverseOfRun source (run_of tokens site) u
      → a ≡ refusal u None outcome.NotWhole → IsAnalysisOf source tokens options site a
  -- The literals have no value.
  has_no_value : {e : StrError} → site.whole ≡ true → value_of_run source (run_of tokens site) ≡ Err e → e ≢ valuing.OutOfMemory
      → a ≡ refusal universe.Str (literal_fault e) (outcome.Literal e) → IsAnalysisOf source tokens options site a
  -- The flags aren't known.
  has_unknown_flags : {literal : Literal} → site.whole ≡ true → IsValue source (run_of tokens site) literal → site.flags ≡ Unknown
      → a ≡ refusal literal.universe None outcome.FlagsUnknown → IsAnalysisOf source tokens options site a
  -- The code points don't spell a pattern that can be judged under the flags.
  has_no_pattern : {literal : Literal} {flags : Flags} {e : PatError} → site.whole ≡ true → IsValue source (run_of tokens site) literal
      → site.flags ≡ Known flags → IsParsed flags literal.universe literal.codes (Err e) → e ≢ parsing.OutOfMemory
      → a ≡ refusal literal.universe (pattern_fault literal e) (outcome.Pattern e) → IsAnalysisOf source tokens options site a
  -- The code points spell a pattern under the flags, and the analysis is right for this pattern.
  is_judged : {literal : Literal} {flags : Flags} {p : Pattern} → site.whole ≡ true → IsValue source (run_of tokens site) literal
      → site.flags ≡ Known flags → IsParsed flags literal.universe literal.codes (Ok p) → IsJudged flags options literal p a
      → IsAnalysisOf source tokens options site a
