-- For private contracts: the judgement on a whole pattern. It is refused, or it is left without its outer anchors: the leading
-- ones at its start and the trailing ones at its end. A fault is a feature that is refused, with its position.
use Rattle.std.specs.Prelude.{◌≡◌, ℕ, ◌<◌, Bool, Some, None, List, [], ◌∷◌, length, Result, Ok, Err}
use Rattle.std.specs.List.{list_any}
use Rattle.std.specs.Str.{bytes_eq}
use Rattle.rl_pattern.specs.declared.flags.Flags.{Flags}
use Rattle.rl_pattern.specs.declared.names.Called.{Called}
use Rattle.rl_pattern.specs.declared.inner.Inner.{Inner}
use Rattle.rl_pattern.specs.declared.refused.Judged.{Judged}
use Rattle.rl_pattern.specs.declared.refused.Judged.TheVariants.{Refused, Left}
use Rattle.rl_ranges.specs.declared.universe.Universe.{Universe}
use Rattle.rl_syntax.specs.declared.pattern.Pattern.{Pattern}
use Rattle.rl_pattern.specs.declared.limits.TheConstants.{MOST_CODES}
use Rattle.rl_pattern.specs.declared.parsing.PatError.{PatError}
use Rattle.rl_pattern.specs.declared.parsing.PatError.TheVariants as error
use Rattle.rl_pattern.specs.declared.tree.Whole.{Whole}
use Rattle.rl_pattern.specs.internal.Views.{node_of, whole_of}
use Rattle.rl_pattern.specs.Profile.{Profile}
use Rattle.rl_pattern.specs.Parsed.{is_text, IsRead, IsMisspelled, IsTooDeep, IsRefused}
use Rattle.rl_pattern.specs.Beyond.{IsPatternIn}
use Rattle.rl_pattern.specs.Tree as t
use Rattle.rl_pattern.specs.Found as f

-- The group name and its position that contracts see in place of the program's value.
abbrev pub called_of : Called → f.Called
called_of c = record { place = c.place; name = c.name }

-- The pattern without outer anchors that contracts see in place of the program's value.
abbrev pub left_of : Inner → f.Inner
left_of i = record { body = node_of i.body; leading = i.leading; trail = i.trailing }

-- Whether the name `n` is one of the names in the list.
abbrev pub is_among : List ℕ → List f.Called → Bool
is_among n cs = list_any (λ c. bytes_eq n c.name) cs

-- The trailing anchor that two of them amount to: `\Z` if one of them is `\Z`, `$` if one is `$` and none is `\Z`, and
-- `no_trail` if both are.
abbrev pub both_trails : f.Trail → f.Trail → f.Trail
both_trails f.no_trail second = second
both_trails first second = f.run_of first second

-- The items without their longest prefix of anchors that can be leading ones.
abbrev pub without_leading : List t.SyntaxNode → List t.SyntaxNode
without_leading ps = f.without_run f.is_leading ps

-- The items, which are in reverse order, without their longest prefix of trailing anchors.
abbrev pub without_trailing : List t.SyntaxNode → List t.SyntaxNode
without_trailing ps = f.without_run (λ p. f.is_some_trail (f.trail_of p)) ps

-- The trailing anchor that the first of these items is, or `no_trail` if it is none or there are no items.
abbrev pub trail_at : List t.SyntaxNode → f.Trail
trail_at [] = f.no_trail
trail_at (p ∷ ps) = f.trail_of p

-- Holds if the judgement on the whole pattern `p` under the profile is right: the pattern is refused because of the fault that
-- is reported, or nothing is refused and its outer anchors are removed. `call` has the flags of the call, and `text` says
-- whether the pattern is a `str`.
abbrev pub IsJudged : Profile → Flags → Bool → t.Whole → Judged → Type 0
IsJudged profile call text p (Refused fault) = f.refused_in profile call text p ≡ Some fault
IsJudged profile call text p (Left i) = (f.refused_in profile call text p ≡ None) × (left_of i ≡ f.inner p)

-- Holds if the result is right for a syntax tree that was read: its pattern if nothing in it is refused, otherwise the error
-- `Outside` with the fault that is reported. Running out of memory is always allowed. No other error is.
abbrev pub IsOutcome : Profile → Flags → Universe → t.Whole → Result Pattern PatError → Type 0
IsOutcome profile flags u whole (Ok found) = (f.refused_in profile flags (is_text u) whole ≡ None) × IsPatternIn profile u (f.inner whole) found
IsOutcome profile flags u whole (Err (error.Outside p what)) = f.refused_in profile flags (is_text u) whole ≡ Some (f.fault p what)
IsOutcome profile flags u whole (Err error.OutOfMemory) = Unit {0}
IsOutcome profile flags u whole _ = ⊥

-- Holds if the result of reading is right for the codes: the syntax tree that they spell, or the error that applies, at the
-- right position. Only flags of the call are refused here. Running out of memory is always allowed.
abbrev pub IsReading : Flags → Universe → List ℕ → Result Whole PatError → Type 0
IsReading flags u w (Ok whole) = IsRead flags u w (whole_of whole)
IsReading flags u w (Err error.TooLong) = MOST_CODES < length w
IsReading flags u w (Err (error.Outside p what)) = IsRefused flags u w p what
IsReading flags u w (Err (error.TooDeep p)) = IsTooDeep flags u w p
IsReading flags u w (Err (error.Syntax n)) = IsMisspelled flags u w n
IsReading flags u w (Err error.OutOfMemory) = Unit {0}
