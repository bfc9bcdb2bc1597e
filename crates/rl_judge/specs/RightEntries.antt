-- The entries that are right for a source, given its path, its bytes and the settings. A site is a call of `re` whose first
-- argument begins with string literals. Its analysis is the result for it, with byte places, and its entry has lines and
-- columns in their place. A suggestion says what can be left out of a pattern: it has the simpler pattern, if there is one,
-- and mentions parts of the old one. A live pair is a state of the pattern's automaton with the set of states that were tried
-- before it.
use Rattle.std.specs.Prelude.{◌≡◌, ◌≢◌, ◌⊎◌, ◌≤◌, ℕ, List, [], ◌∷◌, map, slice_get, Option, Some, None, option_map, if◌then◌else◌}
use Rattle.std.specs.List.{AllZip, list_any}
use Rattle.rl_ranges.specs.declared.universe.Universe.TheVariants as universe
use Rattle.rl_syntax.specs.declared.re.Mode.{Mode}
use Rattle.rl_syntax.specs.declared.re.Mode.TheVariants.{Fullmatch, Match, Search}
use Rattle.rl_pylex.specs.declared.fault.LexError.{LexError}
use Rattle.rl_pylex.specs.declared.fault.LexError.TheVariants as lexing
use Rattle.rl_pylex.specs.declared.token_list.Token.{Token}
use Rattle.rl_pylex.specs.Source.{IsTokenList, IsFault}
use Rattle.rl_sites.specs.declared.call.Call.{Call}
use Rattle.rl_sites.specs.declared.call.Call.TheVariants as call
use Rattle.rl_sites.specs.declared.site.Site.{Site}
use Rattle.rl_sites.specs.Sites.{sites_of}
use Rattle.rl_report.specs.declared.report.Entry.{Entry}
use Rattle.rl_report.specs.declared.report.Mark.{Mark}
use Rattle.rl_report.specs.declared.report.Marks.{Marks}
use Rattle.rl_report.specs.declared.report.Outcome.{Outcome}
use Rattle.rl_report.specs.declared.report.Outcome.TheVariants as outcome
use Rattle.rl_report.specs.declared.places.Place.{Place}
use Rattle.rl_report.specs.Findings.{is_finding}
use Rattle.rl_report.specs.Places.{place_of}
use Rattle.rl_judge.specs.declared.analysis.Analysis.{Analysis}
use Rattle.rl_judge.specs.declared.options.AnalysisOptions.{AnalysisOptions}
use Rattle.rl_judge.specs.declared.parts.Part.{Part}
use Rattle.rl_judge.specs.declared.parts.Parts.{Parts}
use Rattle.rl_judge.specs.declared.settings.Settings.{Settings}
use Rattle.rl_judge.specs.Faults.{source_fault}
use Rattle.rl_judge.specs.Analysis.{IsAnalysisOf}

-- The settings are ones that a report can be made with: their limit of live pairs is from 1 to 1,000, and their report version
-- is 1 or 2.
pub record IsValid (s : Settings) : Type 0 where
  pub some : 1 ≤ s.max_pairs
  pub few : s.max_pairs ≤ 1000
  pub version : (s.report ≡ 1) ⊎ (s.report ≡ 2)

-- The mode in which the pattern of a call is judged: for `compile` the one that the settings say, for `match` and `fullmatch`
-- the one of the same name, and for every other call `search`.
abbrev pub mode_of : Settings → Call → Mode
mode_of s call.Compile = s.compile_as
mode_of s call.Match = Match
mode_of s call.Fullmatch = Fullmatch
mode_of s _ = Search

-- The options by which the pattern of a call is judged under the settings.
abbrev pub options_of : Settings → Call → AnalysisOptions
options_of s c = record { mode = mode_of s c; max_pairs = s.max_pairs; report = s.report }

-- The entry of a path that has no site, with the outcome `o`. `at` is the place of the fault because of which its source can't
-- be cut into tokens, if there is one.
abbrev pub path_entry : List ℕ → Option Place → Outcome → Entry
path_entry path at o =
    let no_marks : Marks = record { dropped = []; merged = []; passed = [] } in
    record { path = path; at = at; call = None; universe = universe.Str; fault = None; outcome = o; marks = no_marks }

-- The mark of a part of a pattern: its text, and the line and column in `source` of the byte place where it begins.
abbrev pub mark_of : List ℕ → Part → Mark
mark_of source part = record { at = place_of source part.byte; text = part.text }

-- The parts that a suggestion mentions, each with the line and column where it begins.
abbrev pub marks_of : List ℕ → Parts → Marks
marks_of source parts = record {
  dropped = map (mark_of source) parts.dropped;
  merged = map (mark_of source) parts.merged;
  passed = map (mark_of source) parts.passed;
}

-- The entry of the site with the analysis `a`. Its place is that of the site's first literal, or none if `tokens` don't have
-- the number of this literal.
abbrev pub site_entry : List ℕ → List ℕ → List Token → Site → Analysis → Entry
site_entry path source tokens site a = record {
  path = path;
  at = option_map (λ token. place_of source token.from) (slice_get tokens site.first);
  call = Some site.call;
  universe = a.universe;
  fault = option_map (place_of source) a.fault;
  outcome = a.outcome;
  marks = marks_of source a.parts;
}

-- The entry is right for the site under the settings `s`: it is the entry of an analysis that is right for the site. `tokens`
-- are the tokens of `source`, whose path is `path`.
pub record IsSiteEntry (path source : List ℕ) (tokens : List Token) (s : Settings) (site : Site) (entry : Entry) : Type 0 where
  pub analysis : Analysis
  pub right : IsAnalysisOf source tokens (options_of s site.call) site analysis
  pub is : entry ≡ site_entry path source tokens site analysis

-- The entries are right for the source, whose path and bytes are given: one of the cases below applies.
pub data AreRight (path source : List ℕ) (s : Settings) (entries : List Entry) : Type 0 where
  -- The source can't be cut into tokens: one entry says why.
  has_fault : {e : LexError} → IsFault source e → e ≢ lexing.OutOfMemory
      → entries ≡ path_entry path (option_map (place_of source) (source_fault e)) (outcome.Source e) ∷ [] → AreRight path source s entries
  -- The source has these tokens: there is one entry for each site, in their order.
  has_tokens : {tokens : List Token} → IsTokenList source tokens → AllZip (IsSiteEntry path source tokens s) (sites_of source tokens) entries
      → AreRight path source s entries

-- 1 if one of the entries is a finding (exponential, or of a degree above the highest that the settings allow), otherwise 0,
-- as for no entries.
abbrev pub status_of : Settings → List Entry → ℕ
status_of s entries = if list_any (is_finding s.max_degree) entries then 1 else 0
