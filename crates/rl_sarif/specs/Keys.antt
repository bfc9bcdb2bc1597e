-- The keys by which a baseline recognizes entries. An entry is one result of a report: for a call of `re` whose pattern is a
-- literal, for a source that can't be cut into tokens, or for a path without a source. Its outcome is a verdict, the cause of
-- a refusal, or what is wrong with the path.
use Rattle.std.specs.Prelude.{ℕ, Bool, ◌&&◌, Option, Some, None, option_map, option_and_then, nat_eq, string_bytes}
use Rattle.std.specs.Option.{option_eq}
use Rattle.std.specs.Str.{bytes_eq}
use Rattle.rl_sites.specs.Names.{call_word}
use Rattle.rl_syntax.specs.declared.verdict.Verdict.{Verdict}
use Rattle.rl_syntax.specs.declared.verdict.Verdict.TheVariants.{Degree, Undecided}
use Rattle.rl_report.specs.declared.report.Entry.{Entry}
use Rattle.rl_report.specs.Findings.{verdict_of}
use Rattle.rl_report.specs.Names.{Text, cause_name, kind_name, limit_name}
use Rattle.rl_sarif.specs.declared.key.About.{About}
use Rattle.rl_sarif.specs.declared.key.Key.{Key}

-- The part of a key that doesn't depend on the path: the name of the call, the name of the kind, the degree, the name of the
-- limit of an `undecided` verdict, and the name of the cause of a refusal. Parts that an entry doesn't have are `None`.
pub record Subject : Type 0 where
  pub call : Option Text
  pub kind : Text
  pub degree : Option ℕ
  pub limit : Option Text
  pub cause : Option Text

-- The key of an entry: its path and its subject.
pub record EntryKey : Type 0 where
  pub path : Text
  pub subject : Subject

-- The degree of a verdict, or none if it isn't a degree.
abbrev pub degree_of : Verdict → Option ℕ
degree_of (Degree d family) = Some d
degree_of _ = None

-- The name of the limit that an `undecided` verdict names, or none for any other verdict.
abbrev pub limit_of : Verdict → Option Text
limit_of (Undecided limit) = Some (limit_name limit)
limit_of _ = None

-- The subject of an entry of a report: its call, its kind, and its degree, limit or cause, as far as it has them.
abbrev pub subject_of : Entry → Subject
subject_of e = record {
  call = option_map call_word e.call;
  kind = kind_name e.outcome;
  degree = option_and_then degree_of (verdict_of e.outcome);
  limit = option_and_then limit_of (verdict_of e.outcome);
  cause = cause_name e.outcome;
}

-- The key of an entry of a report.
abbrev pub key_of : Entry → EntryKey
key_of e = record { path = e.path; subject = subject_of e }

-- Whether two subjects are equal: all five parts are, and a part that is `None` equals only `None`.
abbrev pub same_subject : Subject → Subject → Bool
same_subject a b =
    option_eq bytes_eq a.call b.call && (bytes_eq a.kind b.kind && (option_eq nat_eq a.degree b.degree
    && (option_eq bytes_eq a.limit b.limit && option_eq bytes_eq a.cause b.cause)))

-- Whether two keys are equal.
abbrev pub same_key : EntryKey → EntryKey → Bool
same_key a b = bytes_eq a.path b.path && same_subject a.subject b.subject

-- ---- the values of the structs

-- The subject that a value of the struct `About` represents.
abbrev pub subject_in : About → Subject
subject_in a = record {
  call = option_map (λ n. n.now) a.call;
  kind = a.kind.now;
  degree = a.degree;
  limit = option_map (λ n. n.now) a.limit;
  cause = option_map (λ n. n.now) a.cause;
}

-- The key that a value of the struct `Key` represents.
abbrev pub key_in : Key → EntryKey
key_in k = record { path = string_bytes k.path; subject = subject_in k.about }
