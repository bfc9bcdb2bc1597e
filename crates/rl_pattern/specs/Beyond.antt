-- The result of parsing by a wide profile, which reads more than `parse` does: lookarounds that test one side of a place, and
-- a `$` without MULTILINE that ends the pattern (`Profile.antt`). What is refused then is in `Found.antt`, what a lookaround
-- says is in `Looks.antt`, and what a pattern becomes is in `Shape.antt`. The codes spell the same syntax trees, and all
-- errors except for `Outside` are those of `parse` (`Parsed.antt`). A fault is a feature that is refused, with its position.
-- In all definitions, `dollar` says what becomes of the `$`, `flags` are the flags of the call, `u` is the universe, and `w`
-- the list of codes.
use Rattle.std.specs.Prelude.{◌≡◌, ◌⊎◌, ℕ, ◌<◌, List, length, Some, None, Result, Ok, Err}
use Rattle.rl_ranges.specs.declared.universe.Universe.{Universe}
use Rattle.rl_syntax.specs.declared.feature.Feature.{Feature}
use Rattle.rl_syntax.specs.declared.pattern.Pattern.{Pattern}
use Rattle.rl_syntax.specs.Pattern.{body_of, is_anchored, trail_of, universe_of}
use Rattle.rl_pattern.specs.declared.flags.Flags.{Flags}
use Rattle.rl_pattern.specs.declared.limits.TheConstants.{MOST_CODES}
use Rattle.rl_pattern.specs.declared.parsing.PatError.{PatError}
use Rattle.rl_pattern.specs.declared.parsing.PatError.TheVariants as error
use Rattle.rl_pattern.specs.Tree as t
pub use Rattle.rl_pattern.specs.Profile.{Dollar, Refused, Dropped, LastLine, Profile, Narrow, Wide}
use Rattle.rl_pattern.specs.Profile.{for_body}
use Rattle.rl_pattern.specs.Found.{Inner, inner, fault, refused_in}
use Rattle.rl_pattern.specs.Shape.{is_text, shape_in}
use Rattle.rl_pattern.specs.Parsed.{IsRead, IsMisspelled, IsTooDeep, IsRefused}

-- Holds if `found` is the pattern of `left` under the profile. `left` is a syntax tree without its outer anchors together with
-- these anchors: the body of `found` has the shape of that tree, its outer anchors are the ones in `left`, and its universe is
-- `u`.
pub record IsPatternIn (profile : Profile) (u : Universe) (left : Inner) (found : Pattern) : Type 0 where
  pub body : body_of found ≡ shape_in (for_body profile left.trail) u left.body
  pub leading : is_anchored found ≡ left.leading
  pub trailing : trail_of found ≡ left.trail
  pub universe : universe_of found ≡ u

-- Holds if the codes are read and spell the syntax tree `whole`, nothing in it is refused, and `found` is its pattern.
pub record IsSpelledBeyond (dollar : Dollar) (flags : Flags) (u : Universe) (w : List ℕ) (found : Pattern) (whole : t.Whole) : Type 0 where
  pub read : IsRead flags u w whole
  pub allowed : refused_in (Wide dollar) flags (is_text u) whole ≡ None
  pub pattern : IsPatternIn (Wide dollar) u (inner whole) found

-- Holds if the codes are read and spell the syntax tree `whole`, and the fault in it that is reported, which is the first one,
-- is the feature `what` at position `p`.
pub record IsOutsideBeyond (dollar : Dollar) (flags : Flags) (u : Universe) (w : List ℕ) (p : ℕ) (what : Feature) (whole : t.Whole) : Type 0 where
  pub read : IsRead flags u w whole
  pub first : refused_in (Wide dollar) flags (is_text u) whole ≡ Some (fault p what)

-- Holds if the result of parsing is right for the codes: the pattern that they spell, or the error that applies, at the right
-- position. Running out of memory is always allowed.
abbrev pub IsParsedBeyond : Dollar → Flags → Universe → List ℕ → Result Pattern PatError → Type 0
IsParsedBeyond dollar flags u w (Ok found) = (whole : t.Whole) × IsSpelledBeyond dollar flags u w found whole
IsParsedBeyond dollar flags u w (Err error.TooLong) = MOST_CODES < length w
IsParsedBeyond dollar flags u w (Err (error.Outside p what)) = IsRefused flags u w p what ⊎ ((whole : t.Whole) × IsOutsideBeyond dollar flags u w p what whole)
IsParsedBeyond dollar flags u w (Err (error.TooDeep p)) = IsTooDeep flags u w p
IsParsedBeyond dollar flags u w (Err (error.Syntax n)) = IsMisspelled flags u w n
IsParsedBeyond dollar flags u w (Err error.OutOfMemory) = Unit {0}
