-- Profiles: what the parser reads of a pattern. `parse` goes by the narrow profile: it reads no lookaround, and no `$` without
-- MULTILINE except for the outer anchors. `parse_beyond` goes by a wide one: it also reads lookarounds that test one side of a
-- place, and a `$` without MULTILINE that ends the pattern inside a group or a branch of a choice. What becomes of that `$` is
-- part of the profile. A part is a node of the pattern's body with everything in it, and it ends the pattern if nothing
-- follows it.
use Rattle.std.specs.Prelude.{Bool, true, false}
pub use Rattle.rl_syntax.specs.declared.anchors.Trail.{Trail}
pub use Rattle.rl_syntax.specs.declared.anchors.Trail.TheVariants.{None as no_trail, Dollar as dollar_trail, End as end_trail}
pub use Rattle.rl_pattern.specs.declared.profile.Dollar.{Dollar}
pub use Rattle.rl_pattern.specs.declared.profile.Dollar.TheVariants.{Refused, Dropped, LastLine}
pub use Rattle.rl_pattern.specs.declared.profile.Profile.{Profile}
pub use Rattle.rl_pattern.specs.declared.profile.Profile.TheVariants.{Narrow, Wide}

-- The profile for a part that doesn't end the pattern. In it, a `$` without MULTILINE is refused.
abbrev pub before_end : Profile → Profile
before_end Narrow = Narrow
before_end (Wide dollar) = Wide Refused

-- The profile for an item of a sequence, given that of the sequence. The flag says whether it is the last item.
abbrev pub for_item : Profile → Bool → Profile
for_item Narrow last = Narrow
for_item (Wide dollar) true = Wide dollar
for_item (Wide dollar) false = Wide Refused

-- The profile for the body of a pattern, given the trailing anchor that was removed from the end of the pattern. If it is
-- `\Z`, nothing in the body ends the pattern.
abbrev pub for_body : Profile → Trail → Profile
for_body Narrow trail = Narrow
for_body (Wide dollar) no_trail = Wide dollar
for_body (Wide dollar) dollar_trail = Wide dollar
for_body (Wide dollar) end_trail = Wide Refused

-- Whether a `$` without MULTILINE is read, if it is at the end of a part with this profile.
abbrev pub reads_dollar : Profile → Bool
reads_dollar Narrow = false
reads_dollar (Wide Refused) = false
reads_dollar (Wide Dropped) = true
reads_dollar (Wide LastLine) = true
