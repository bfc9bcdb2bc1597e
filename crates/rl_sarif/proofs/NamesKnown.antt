-- The names that a report may hold are names that a baseline may hold.
use Rattle.std.proofs.Common.{◌≡◌, Bool, true, false, cond, List, [], ◌∷◌, Some, IsUtf8, refl, sym, ap, ◌∙◌}
use Rattle.std.specs.List.{list_all}
use Rattle.std.specs.Str.{bytes_eq}
use Rattle.std.proofs.lemmas.Bool.{and_parts}
use Rattle.json.proofs.Printed.Utf8.{IsUtf8-are_ascii, are_ascii}
use Rattle.rl_pattern.specs.declared.parsing.PatError.{PatError}
use Rattle.rl_pattern.specs.declared.parsing.PatError.TheVariants as pattern_error
use Rattle.rl_pylex.specs.declared.fault.LexError.{LexError}
use Rattle.rl_pylex.specs.declared.fault.LexError.TheVariants as lex_error
use Rattle.rl_pystr.specs.declared.fault.StrError.{StrError}
use Rattle.rl_pystr.specs.declared.fault.StrError.TheVariants as str_error
use Rattle.rl_sites.specs.declared.call.Call.{Call}
use Rattle.rl_sites.specs.declared.call.Call.TheVariants as call
use Rattle.rl_sites.specs.Names.{call_word}
use Rattle.rl_syntax.specs.declared.feature.Feature.{Feature}
use Rattle.rl_syntax.specs.declared.feature.Feature.TheVariants as feature
use Rattle.rl_syntax.specs.declared.verdict.Limit.{Limit}
use Rattle.rl_syntax.specs.declared.verdict.Limit.TheVariants as limit
use Rattle.rl_syntax.specs.declared.verdict.Verdict.TheVariants.{Degree, Expo, Undecided}
use Rattle.rl_report.specs.declared.report.Outcome.{Outcome}
use Rattle.rl_report.specs.declared.report.Outcome.TheVariants as outcome
use Rattle.rl_report.specs.Names.{Text, feature_name, kind_name, lexing_cause, limit_name, literal_cause, pattern_cause}
use Rattle.rl_sarif.specs.Baseline.{call_names, cause_names, kind_names, limit_names, one_of}

pub call-known : (c : Call) → one_of call_names (call_word c) ≡ Some (call_word c)
call-known call.Compile = refl
call-known call.Match = refl
call-known call.Search = refl
call-known call.Fullmatch = refl
call-known call.Findall = refl
call-known call.Finditer = refl
call-known call.Split = refl
call-known call.Sub = refl
call-known call.Subn = refl

pub limit-known : (l : Limit) → one_of limit_names (limit_name l) ≡ Some (limit_name l)
limit-known limit.Size = refl
limit-known limit.Letters = refl
limit-known limit.Moves = refl
limit-known limit.Sets = refl
limit-known limit.Pairs = refl

pub kind-known : (o : Outcome) → one_of kind_names (kind_name o) ≡ Some (kind_name o)
kind-known outcome.Unreadable = refl
kind-known outcome.TooDeepFolder = refl
kind-known outcome.NotPlain = refl
kind-known (outcome.Source e) = refl
kind-known outcome.NotWhole = refl
kind-known (outcome.Literal e) = refl
kind-known outcome.FlagsUnknown = refl
kind-known (outcome.Pattern e) = refl
kind-known (outcome.Judged (Degree d family) suggestion becomes) = refl
kind-known (outcome.Judged (Expo family) suggestion becomes) = refl
kind-known (outcome.Judged (Undecided l) suggestion becomes) = refl

feature-known : (f : Feature) → one_of cause_names (feature_name f) ≡ Some (feature_name f)
feature-known feature.Locale = refl
feature-known feature.FlagClash = refl
feature-known feature.DuplicateName = refl
feature-known feature.CodeTooLarge = refl
feature-known feature.ReversedRange = refl
feature-known feature.RepeatTooLarge = refl
feature-known feature.RepeatOrder = refl
feature-known feature.Possessive = refl
feature-known feature.Backreference = refl
feature-known feature.Lookaround = refl
feature-known feature.Conditional = refl
feature-known feature.Atomic = refl
feature-known feature.NamedEscape = refl
feature-known feature.InnerAnchor = refl

pub lexing-known : (e : LexError) → (e ≡ lex_error.OutOfMemory → ⊥) → one_of cause_names (lexing_cause e) ≡ Some (lexing_cause e)
lexing-known (lex_error.NotUtf8 n) h = refl
lexing-known (lex_error.Coding p) h = refl
lexing-known (lex_error.Unterminated p) h = refl
lexing-known lex_error.FileTooLong h = refl
lexing-known (lex_error.StrayCode p) h = refl
lexing-known lex_error.OutOfMemory h = absurd (h refl)

pub literal-known : (e : StrError) → (e ≡ str_error.OutOfMemory → ⊥) → one_of cause_names (literal_cause e) ≡ Some (literal_cause e)
literal-known str_error.FString h = refl
literal-known str_error.Mixed h = refl
literal-known (str_error.BadEscape p) h = refl
literal-known (str_error.NamedEscape p) h = refl
literal-known (str_error.NotAscii p) h = refl
literal-known str_error.OutOfMemory h = absurd (h refl)

pub pattern-known : (e : PatError) → (e ≡ pattern_error.OutOfMemory → ⊥) → one_of cause_names (pattern_cause e) ≡ Some (pattern_cause e)
pattern-known (pattern_error.Syntax n) h = refl
pattern-known (pattern_error.TooDeep p) h = refl
pattern-known pattern_error.TooLong h = refl
pattern-known (pattern_error.Outside p what) h = feature-known what
pattern-known pattern_error.OutOfMemory h = absurd (h refl)

-- ---- names are ASCII

found-ascii : (names : List Text) (text name : Text) → list_all are_ascii names ≡ true → one_of names text ≡ Some name → are_ascii name ≡ true
found-ascii [] text name all e = cc
found-ascii (n ∷ names) text name all e =
    by (bytes_eq n text) refl (λ found. found-ascii names text name (and_parts (are_ascii n) (list_all are_ascii names) all).1 found)
  where
    by : (b : Bool) → bytes_eq n text ≡ b → (one_of names text ≡ Some name → are_ascii name ≡ true) → are_ascii name ≡ true
    by true is later =
        let found : Some n ≡ Some name = sym (ap (λ b. cond b (Some n) (one_of names text)) is) ∙ e in
        let same : n ≡ name = cc in
        ap are_ascii (sym same) ∙ (and_parts (are_ascii n) (list_all are_ascii names) all).0
    by false is later = later (sym (ap (λ b. cond b (Some n) (one_of names text)) is) ∙ e)

known-utf8 : (names : List Text) (name : Text) → list_all are_ascii names ≡ true → one_of names name ≡ Some name → IsUtf8 name
known-utf8 names name all e = IsUtf8-are_ascii name (found-ascii names name name all e)

pub call-utf8 : (c : Call) → IsUtf8 (call_word c)
call-utf8 c = known-utf8 call_names (call_word c) refl (call-known c)

pub limit-utf8 : (l : Limit) → IsUtf8 (limit_name l)
limit-utf8 l = known-utf8 limit_names (limit_name l) refl (limit-known l)

pub kind-utf8 : (o : Outcome) → IsUtf8 (kind_name o)
kind-utf8 o = known-utf8 kind_names (kind_name o) refl (kind-known o)

pub cause-utf8 : (name : Text) → one_of cause_names name ≡ Some name → IsUtf8 name
cause-utf8 name = known-utf8 cause_names name refl
