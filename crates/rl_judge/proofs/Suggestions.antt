-- The suggestion that comes with a verdict.
use Rattle.std.proofs.Common.{◌≡◌, inl, inr, ℕ, true, false, List, Option, Some, None, refl, sym, subst, arith}
use Rattle.std.specs.Prelude.{Result, Ok, Err, IfOk, IfSome}
use Rattle.std.proofs.lemmas.Bool.{false≢true}
use Rattle.rl_ranges.specs.declared.universe.Universe.{Universe}
use Rattle.rl_ranges.specs.Text.{IsText}
use Rattle.rl_syntax.specs.declared.pattern.Pattern.{Pattern}
use Rattle.rl_syntax.specs.declared.span.Span.{Span}
use Rattle.rl_syntax.specs.declared.verdict.Limit.TheVariants.{Size, Letters, Moves, Sets, Pairs}
use Rattle.rl_syntax.specs.declared.verdict.Suggestion.{Suggestion}
use Rattle.rl_syntax.specs.declared.verdict.Verdict.{Verdict}
use Rattle.rl_syntax.specs.declared.verdict.Verdict.TheVariants.{Degree, Expo, Undecided}
use Rattle.rl_syntax.specs.Pattern.{universe_of}
use Rattle.rl_pattern.specs.declared.flags.Flags.{Flags}
use Rattle.rl_pattern.specs.declared.parsing.PatError.{PatError}
use Rattle.rl_pattern.specs.declared.parsing.PatError.TheVariants as parsing
use Rattle.rl_pattern.specs.Parsed.{IsParsed}
use Rattle.rl_pairs.specs.RightVerdict.{Question, IsSmall, RightVerdict}
use Rattle.rl_rewrite.specs.Plain.{empty_suggestion}
use Rattle.rl_rewrite.specs.RightSuggestion.{IsRightSuggestion, ReadsAlike}
use Rattle.rl_judge.specs.internal.Conditions.{has_suggestion, IsReadable, HasReadable, IsSuggestionOf, PartsLieIn}
use Rattle.rl_judge.specs.declared.options.AnalysisOptions.{AnalysisOptions}
use Rattle.rl_judge.specs.Analysis.{question_of, IsSuggested, IsTextVerdict}

-- No suggestion comes with a verdict that the size, the letters or the moves exceed their limits.
pub small_beside : (q : Question) (v : Verdict) → RightVerdict q v → has_suggestion v ≡ true → IsSmall q
small_beside q (Degree d f) h b = record { size = h.0.within Size; letters = h.0.within Letters; moves = h.0.within Moves }
small_beside q (Expo f) h b = record { size = h.within Size; letters = h.within Letters; moves = h.within Moves }
small_beside q (Undecided Size) h b = absurd (false≢true b)
small_beside q (Undecided Letters) h b = absurd (false≢true b)
small_beside q (Undecided Moves) h b = absurd (false≢true b)
small_beside q (Undecided Sets) h b = h.0
small_beside q (Undecided Pairs) h b = h.0

pub one_beside : (flags : Flags) (p : Pattern) (codes : List ℕ) (v : Verdict) (s : Suggestion) → has_suggestion v ≡ true → IsRightSuggestion flags p codes 20000 s
    → IsSuggested flags p codes v (Some s)
one_beside flags p codes (Degree d f) s b h = (s, refl, h)
one_beside flags p codes (Expo f) s b h = (s, refl, h)
one_beside flags p codes (Undecided Size) s b h = absurd (false≢true b)
one_beside flags p codes (Undecided Letters) s b h = absurd (false≢true b)
one_beside flags p codes (Undecided Moves) s b h = absurd (false≢true b)
one_beside flags p codes (Undecided Sets) s b h = (s, refl, h)
one_beside flags p codes (Undecided Pairs) s b h = (s, refl, h)

pub none_beside : (flags : Flags) (p : Pattern) (codes : List ℕ) (v : Verdict) → has_suggestion v ≡ false → IsSuggested flags p codes v None
none_beside flags p codes (Degree d f) b = absurd (false≢true (sym b))
none_beside flags p codes (Expo f) b = absurd (false≢true (sym b))
none_beside flags p codes (Undecided Size) b = refl
none_beside flags p codes (Undecided Letters) b = refl
none_beside flags p codes (Undecided Moves) b = refl
none_beside flags p codes (Undecided Sets) b = absurd (false≢true (sym b))
none_beside flags p codes (Undecided Pairs) b = absurd (false≢true (sym b))

-- Whatever holds for each text holds for an optional one.
if_some : {A : Type 0} (P : A → Type 0) (o : Option A) → ((x : A) → o ≡ Some x → P x) → IfSome o P
if_some P None h = tt
if_some P (Some x) h = h x refl

err_only : (e : PatError) (r : Result Pattern PatError) → r ≡ Err e → r ≡ Err parsing.OutOfMemory → e ≡ parsing.OutOfMemory
err_only e r this none = cc

err_is_no : (e : PatError) (p : Pattern) (r : Result Pattern PatError) → r ≡ Err e → r ≡ Ok p → ⊥
err_is_no e p r this one = cc

reads : (flags : Flags) (p : Pattern) (dropped merged : List Span) (text : List ℕ) → ReadsAlike flags p dropped merged text → IsReadable flags (universe_of p) text
reads flags p dropped merged text h e parsed = elim (h.answers (Err e) parsed) [
  | inl none ↦ err_only e (Err e) refl none
  | inr some ↦ absurd (err_is_no e some.0 (Err e) refl some.1)
]

pub right_reads : (flags : Flags) (p : Pattern) (codes : List ℕ) (limit : ℕ) (s : Suggestion) → IsRightSuggestion flags p codes limit s → HasReadable flags (universe_of p) s
right_reads flags p codes limit s h =
    if_some (IsReadable flags (universe_of p)) s.text (λ text e. reads flags p s.dropped s.merged text (h.keeps text e))

pub text_within : (u : Universe) (codes : List ℕ) (s : Suggestion) → ((text : List ℕ) → s.text ≡ Some text → IsText u codes → IsText u text) → IsText u codes → IsSuggestionOf u s
text_within u codes s h c = if_some (IsText u) s.text (λ text e. h text e c)

-- The suggestion that drops nothing has no parts and no text.
pub empty_within : (count : ℕ) (s : Suggestion) → s ≡ empty_suggestion → PartsLieIn count s
empty_within count s e = subst (PartsLieIn count) (sym e) (record { dropped = λ i d l. absurd (omega (arith, l)); passed = λ i d l. absurd (omega (arith, l)) })

pub empty_text : (u : Universe) (s : Suggestion) → s ≡ empty_suggestion → IsSuggestionOf u s
empty_text u s e = subst (IsSuggestionOf u) (sym e) tt

pub empty_reads : (flags : Flags) (u : Universe) (s : Suggestion) → s ≡ empty_suggestion → HasReadable flags u s
empty_reads flags u s e = subst (HasReadable flags u) (sym e) tt

pub ruleset empty_parts = (empty_within, empty_text, empty_reads)

-- A right verdict on the pattern that a text spells is a right verdict on the text.
pub text_verdict : {E : Type 0} (flags : Flags) (options : AnalysisOptions) (u : Universe) (text : List ℕ) (p : Pattern) (r : Result Verdict E) → IsParsed flags u text (Ok p)
    → IfOk r (RightVerdict (question_of p options)) → IfOk r (IsTextVerdict flags options u text)
text_verdict flags options u text p (Ok v) parsed h = (p, parsed, h)
text_verdict flags options u text p (Err e) parsed h = tt
