-- No part of an explanation has a floating-point number.
use Rattle.std.proofs.Common.{◌≡◌, ℕ, suc, Bool, true, false, cond, ◌||◌, List, [], ◌∷◌, length, Option, Some, None, Ordering, Less, Equal, Greater, nat_cmp, codes, refl, sym}
use Rattle.std.specs.Prelude.{◌==◌}
use Rattle.std.specs.Cmp.Lexicographic.{slice_cmp}
use Rattle.std.specs.Ordering.{match_ordering}
use Rattle.std.proofs.lemmas.Bool.{false≢true, or_from}
use Rattle.serde_json.specs.Data.{Data, Members, member, no_members, put}
use Rattle.serde_json.specs.View.{items_of}
use Rattle.serde_json.specs.Written.{has_float, items_have_float, members_have_float}
use Rattle.rl_json.proofs.NoFloats.{items-plain}
use Rattle.rl_ranges.specs.declared.universe.Universe.{Universe}
use Rattle.rl_syntax.specs.declared.span.Span.{Span}
use Rattle.rl_ways.specs.declared.origin.Origin.{Origin}
use Rattle.rl_why.specs.declared.shown.Step.{Step}
use Rattle.rl_why.specs.declared.shown.Taken.{Taken}
use Rattle.rl_why.specs.Shown.{span_at}
use Rattle.rl_why.specs.declared.reading.Reading.{Reading}
use Rattle.rl_why.specs.declared.reading.Reading.TheVariants.{Nothing, Twin, Chain}
use Rattle.rl_why.specs.declared.reading.SplitReading.{SplitReading}
use Rattle.rl_why.specs.declared.reading.TwinReading.{TwinReading}
use Rattle.rl_parts.specs.Members.{list_data, place_data}
use Rattle.rl_explained.specs.Steps.{taken_data, step_data, way_data, loop_data}
use Rattle.rl_explained.specs.Replies.{twin_data, split_data, splits_data, cycle_data, splits_members, reading_members}

not-left : (b c : Bool) → (b || c) ≡ false → b ≡ false
not-left false c h = refl
not-left true c h = h

not-right : (b c : Bool) → (b || c) ≡ false → c ≡ false
not-right false c h = h
not-right true c h = absurd (false≢true (sym h))

by_order : (o : Ordering) (k l : List ℕ) (d e : Data) (ms more : Members) → has_float d ≡ false → has_float e ≡ false → members_have_float ms ≡ false → members_have_float more ≡ false
    → members_have_float (match_ordering o (member k d (member l e ms)) (member l d ms) (member l e more)) ≡ false
by_order Less k l d e ms more hd he hm hn = or_from _ _ hd (or_from _ _ he hm)
by_order Equal k l d e ms more hd he hm hn = or_from _ _ hd hm
by_order Greater k l d e ms more hd he hm hn = or_from _ _ he hn

put-plain : (k : List ℕ) (d : Data) (ms : Members) → has_float d ≡ false → members_have_float ms ≡ false → members_have_float (put k d ms) ≡ false
put-plain k d no_members hd hm = or_from _ _ hd refl
put-plain k d (member l e ms) hd hm =
    let he : has_float e ≡ false = not-left (has_float e) (members_have_float ms) hm in
    let hr : members_have_float ms ≡ false = not-right (has_float e) (members_have_float ms) hm in
    by_order (slice_cmp nat_cmp k l) k l d e ms (put k d ms) hd he hr (put-plain k d ms hd hr)

place-plain : (span : Option Span) → has_float (place_data span) ≡ false
place-plain None = refl
place-plain (Some span) = refl

taken-plain : (t : Taken) → has_float (taken_data t) ≡ false
taken-plain t = or_from _ _ (place-plain (span_at t.at)) refl

step-plain : (s : Step) → has_float (step_data s) ≡ false
step-plain s = or_from _ _ (place-plain (span_at s.place)) (or_from _ _ (items-plain taken_data s.took taken-plain) refl)

way-plain : (steps : List Step) → has_float (way_data steps) ≡ false
way-plain steps = items-plain step_data steps step-plain

loop-plain : (at : Option Origin) → has_float (loop_data at) ≡ false
loop-plain None = refl
loop-plain (Some origin) = place-plain (span_at origin)

two-plain : (d e : Data) → has_float d ≡ false → has_float e ≡ false → has_float (list_data (d ∷ e ∷ [])) ≡ false
two-plain d e h k = or_from _ _ h (or_from _ _ k refl)

twin-plain : (u : Universe) (pumps : List (List ℕ)) (r : TwinReading) → has_float (twin_data u pumps r) ≡ false
twin-plain u pumps r = or_from _ _ (two-plain (way_data r.first) (way_data r.second) (way-plain r.first) (way-plain r.second)) refl

split-plain : (u : Universe) (pumps : List (List ℕ)) (k : ℕ) (r : SplitReading) → has_float (split_data u pumps k r) ≡ false
split-plain u pumps k r =
    or_from _ _ (two-plain (loop_data r.first_loop) (loop_data r.second_loop) (loop-plain r.first_loop) (loop-plain r.second_loop))
    (or_from _ _ (or_from _ _ (way-plain r.before) (two-plain (way_data r.over) (way_data r.behind) (way-plain r.over) (way-plain r.behind))) refl)

splits-plain : (u : Universe) (pumps : List (List ℕ)) (k : ℕ) (l : List SplitReading) → items_have_float (items_of (splits_data u pumps k l)) ≡ false
splits-plain u pumps k [] = refl
splits-plain u pumps k (r ∷ l) = or_from _ _ (split-plain u pumps k r) (splits-plain u pumps (suc k) l)

cycle-plain : (k : ℕ) (at : Option Origin) → has_float (cycle_data k at) ≡ false
cycle-plain k at = or_from _ _ (loop-plain at) refl

if-plain : (b : Bool) (ms more : Members) → members_have_float ms ≡ false → members_have_float more ≡ false → members_have_float (cond b ms more) ≡ false
if-plain true ms more h k = h
if-plain false ms more h k = k

added-plain : (u : Universe) (pumps : List (List ℕ)) (l : List SplitReading) (ms : Members) → members_have_float ms ≡ false → members_have_float (splits_members u pumps l ms) ≡ false
added-plain u pumps l ms h =
    let value = list_data (splits_data u pumps 0 l) in
    if-plain (length l == 0) ms (put (codes "splits") value ms) h (put-plain (codes "splits") value ms (splits-plain u pumps 0 l) h)

-- The members that a reading adds have none.
pub reading-plain : (u : Universe) (pumps : List (List ℕ)) (r : Reading) (ms : Members) → members_have_float ms ≡ false → members_have_float (reading_members u pumps r ms) ≡ false
reading-plain u pumps Nothing ms h = h
reading-plain u pumps (Twin r) ms h = put-plain (codes "twin") (twin_data u pumps r) ms (twin-plain u pumps r) h
reading-plain u pumps (Chain r) ms h =
    put-plain (codes "cycle") (cycle_data (length r.splits) r.cycle) (splits_members u pumps r.splits ms) (cycle-plain (length r.splits) r.cycle)
    (added-plain u pumps r.splits ms h)
