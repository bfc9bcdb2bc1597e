-- The law that a report in JSON is a baseline with the keys of its entries. A baseline recognizes an entry by its key: the
-- path, and the subject, which is the call, the kind of the outcome, and the degree, the exceeded limit or the cause of a
-- refusal. An entry is one result of a report: for a call of `re` whose pattern is a literal, for a source that can't be cut
-- into tokens, or for a path without a source.
use Rattle.std.specs.Prelude.{◌≡◌, ◌≢◌, ℕ, ◌≤◌, ◌<◌, ◌^◌, ◌⊎◌, List, map, length, All, IfSome, IsUtf8, ⊤}
use Rattle.rl_pattern.specs.declared.parsing.PatError.TheVariants as pattern_error
use Rattle.rl_pylex.specs.declared.fault.LexError.TheVariants as lex_error
use Rattle.rl_pystr.specs.declared.fault.StrError.TheVariants as str_error
use Rattle.rl_syntax.specs.declared.verdict.Verdict.{Verdict}
use Rattle.rl_syntax.specs.declared.verdict.Verdict.TheVariants.{Degree, Expo, Undecided}
use Rattle.rl_report.specs.declared.places.Place.{Place}
use Rattle.rl_report.specs.declared.report.Entry.{Entry}
use Rattle.rl_report.specs.declared.report.Outcome.{Outcome}
use Rattle.rl_report.specs.declared.report.Outcome.TheVariants as outcome
use Rattle.rl_report.specs.Document.{json_report}
use Rattle.rl_report.specs.Findings.{becomes_of, verdict_of}
use Rattle.rl_sarif.specs.declared.limits.TheConstants.{MOST_BASELINE_BYTES}
use Rattle.rl_sarif.specs.Baseline.{IsBaseline}
use Rattle.rl_sarif.specs.Keys.{key_of}

-- The line and column fit in 32 bits.
abbrev pub FitsPlace : Place → Type 0
FitsPlace p = (p.line < 2 ^ 32) × (p.column < 2 ^ 32)

-- The verdict's degree fits in 32 bits. This also holds if the verdict isn't a degree.
abbrev pub FitsVerdict : Verdict → Type 0
FitsVerdict (Degree d family) = d < 2 ^ 32
FitsVerdict (Expo family) = ⊤
FitsVerdict (Undecided limit) = ⊤

-- The outcome is an answer: it isn't that memory ran out.
abbrev pub IsAnswer : Outcome → Type 0
IsAnswer outcome.Unreadable = ⊤
IsAnswer outcome.TooDeepFolder = ⊤
IsAnswer outcome.NotPlain = ⊤
IsAnswer (outcome.Source e) = e ≢ lex_error.OutOfMemory
IsAnswer outcome.NotWhole = ⊤
IsAnswer (outcome.Literal e) = e ≢ str_error.OutOfMemory
IsAnswer outcome.FlagsUnknown = ⊤
IsAnswer (outcome.Pattern e) = e ≢ pattern_error.OutOfMemory
IsAnswer (outcome.Judged verdict suggestion becomes) = ⊤

-- The entry is one that the program can build: its path is UTF-8; the lines and columns of its place, of the place of its
-- fault and of its marks fit in 32 bits, and so do the degrees of its verdict and of the verdict on the suggested pattern; and
-- its outcome isn't that memory ran out. What an entry doesn't have needs nothing.
pub record IsSound (e : Entry) : Type 0 where
  pub path : IsUtf8 e.path
  pub at : IfSome e.at FitsPlace
  pub fault : IfSome e.fault FitsPlace
  pub dropped : All (λ m. FitsPlace m.at) e.marks.dropped
  pub merged : All (λ m. FitsPlace m.at) e.marks.merged
  pub passed : All (λ m. FitsPlace m.at) e.marks.passed
  pub verdict : IfSome (verdict_of e.outcome) FitsVerdict
  pub becomes : IfSome (becomes_of e.outcome) FitsVerdict
  pub answer : IsAnswer e.outcome

-- A report in JSON is a baseline with the keys of its entries, in order, if its version is 1 or 2, it has at most
-- `MOST_BASELINE_BYTES` bytes, `max_pairs` is below 2^32, there are fewer than 2^64 entries, and they are ones that the
-- program can build.
abbrev pub IsOwnBaseline : ℕ → ℕ → ℕ → List Entry → Type 0
IsOwnBaseline max_degree max_pairs report entries =
    max_pairs < 2 ^ 32 → (report ≡ 1) ⊎ (report ≡ 2) → length entries < 2 ^ 64 → All IsSound entries
    → length (json_report max_degree max_pairs report entries) ≤ MOST_BASELINE_BYTES
    → IsBaseline (json_report max_degree max_pairs report entries) (map key_of entries)
