-- The result of parsing a list of codes: the errors in their order, or the pattern. Codes are read if they aren't too many and
-- the flags of the call aren't refused (`IsAsked`). Codes spell a syntax tree by the grammar. A feature is something that is
-- refused in a pattern, such as a lookaround; a fault is a feature with its position. Positions count codes from 0. In all
-- definitions, `flags` are the flags of the call, `u` is the universe, `Str` or `Bytes`, and `w` the list of codes.
use Rattle.std.specs.Prelude.{◌≡◌, ◌⊎◌, ℕ, suc, ◌<◌, ◌≤◌, List, length, take, Some, None, Result, Ok, Err}
use Rattle.rl_ranges.specs.declared.universe.Universe.{Universe}
use Rattle.rl_syntax.specs.declared.feature.Feature.{Feature}
use Rattle.rl_syntax.specs.declared.pattern.Pattern.{Pattern}
use Rattle.rl_syntax.specs.Pattern.{body_of, is_anchored, trail_of, universe_of}
use Rattle.rl_pattern.specs.declared.flags.Flags.{Flags}
use Rattle.rl_pattern.specs.declared.limits.TheConstants.{MOST_CODES}
use Rattle.rl_pattern.specs.declared.parsing.PatError.{PatError}
use Rattle.rl_pattern.specs.declared.parsing.PatError.TheVariants as error
use Rattle.rl_pattern.specs.Tree as t
use Rattle.rl_pattern.specs.Grammar.{Spells}
use Rattle.rl_pattern.specs.Viable.{Begins, Viable, TooDeepAt}
use Rattle.rl_pattern.specs.Found.{Inner, inner, fault, refused, refused_flags}
use Rattle.rl_pattern.specs.Answers.{Shallow}
pub use Rattle.rl_pattern.specs.Shape.{is_text}
use Rattle.rl_pattern.specs.Shape.{shape}

-- Holds if the codes are read: there are at most MOST_CODES of them, and the flags of the call aren't refused.
pub record IsAsked (flags : Flags) (u : Universe) (w : List ℕ) : Type 0 where
  pub short : length w ≤ MOST_CODES
  pub allowed : refused_flags flags (is_text u) ≡ None

-- Holds if `found` is the pattern of `left`, which is a syntax tree without its outer anchors together with these anchors: its
-- body has the shape of that tree, its outer anchors are the ones in `left`, and its universe is `u`.
pub record IsPatternOf (u : Universe) (left : Inner) (found : Pattern) : Type 0 where
  pub body : body_of found ≡ shape u left.body
  pub leading : is_anchored found ≡ left.leading
  pub trailing : trail_of found ≡ left.trail
  pub universe : universe_of found ≡ u

-- Holds if the codes are read, they spell the syntax tree `whole`, and no group opens while MOST_OPEN_GROUPS groups are open.
pub record IsRead (flags : Flags) (u : Universe) (w : List ℕ) (whole : t.Whole) : Type 0 where
  pub asked : IsAsked flags u w
  pub spelled : Spells flags (is_text u) w whole
  pub shallow : Shallow flags (is_text u) w

-- Holds if the codes are read and spell the syntax tree `whole`, nothing in it is refused, and `found` is its pattern.
pub record IsSpelled (flags : Flags) (u : Universe) (w : List ℕ) (found : Pattern) (whole : t.Whole) : Type 0 where
  pub read : IsRead flags u w whole
  pub allowed : refused flags (is_text u) whole ≡ None
  pub pattern : IsPatternOf u (inner whole) found

-- Holds if the codes are read and spell the syntax tree `whole`, and the fault in it that is reported, which is the first one,
-- is the feature `what` at position `p`.
pub record IsOutside (flags : Flags) (u : Universe) (w : List ℕ) (p : ℕ) (what : Feature) (whole : t.Whole) : Type 0 where
  pub read : IsRead flags u w whole
  pub first : refused flags (is_text u) whole ≡ Some (fault p what)

-- Holds if the codes are read and spell no syntax tree, `n` is the length of the longest prefix that can be continued to a
-- pattern, and no group opens while MOST_OPEN_GROUPS groups are open.
pub record IsMisspelled (flags : Flags) (u : Universe) (w : List ℕ) (n : ℕ) : Type 0 where
  pub asked : IsAsked flags u w
  pub viable : Viable flags (is_text u) w n
  pub none : (whole : t.Whole) → Spells flags (is_text u) w whole → ⊥
  pub shallow : Shallow flags (is_text u) w

-- Holds if the codes are read, `p` is the first position at which a group opens while MOST_OPEN_GROUPS groups are open, and
-- the codes up to and including that position can be continued to a pattern.
pub record IsTooDeep (flags : Flags) (u : Universe) (w : List ℕ) (p : ℕ) : Type 0 where
  pub asked : IsAsked flags u w
  pub deep : TooDeepAt flags (is_text u) w p
  pub begins : Begins flags (is_text u) (take (suc p) w)
  pub first : (q : ℕ) → q < p → TooDeepAt flags (is_text u) w q → ⊥

-- Holds if there are at most MOST_CODES codes, the flags of the call are refused because of the feature `what`, and the
-- position `p` is 0. What the codes spell doesn't matter.
pub record IsRefused (flags : Flags) (u : Universe) (w : List ℕ) (p : ℕ) (what : Feature) : Type 0 where
  pub short : length w ≤ MOST_CODES
  pub place : p ≡ 0
  pub refused : refused_flags flags (is_text u) ≡ Some what

-- Holds if the result of parsing is right for the codes: the pattern that they spell, or the error that applies, at the right
-- position. Running out of memory is always allowed.
abbrev pub IsParsed : Flags → Universe → List ℕ → Result Pattern PatError → Type 0
IsParsed flags u w (Ok found) = (whole : t.Whole) × IsSpelled flags u w found whole
IsParsed flags u w (Err error.TooLong) = MOST_CODES < length w
IsParsed flags u w (Err (error.Outside p what)) = IsRefused flags u w p what ⊎ ((whole : t.Whole) × IsOutside flags u w p what whole)
IsParsed flags u w (Err (error.TooDeep p)) = IsTooDeep flags u w p
IsParsed flags u w (Err (error.Syntax n)) = IsMisspelled flags u w n
IsParsed flags u w (Err error.OutOfMemory) = Unit {0}
