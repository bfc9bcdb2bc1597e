-- What a run of threads holds, as it is shown, is what the pattern finds.
use Rattle.std.proofs.Common.{◌≡◌, ℕ, zero, suc, ◌+◌, ◌-◌, ◌<◌, ◌≤◌, Bool, true, false, List, [], ◌∷◌, ◌++◌, length, Option, None, Some, option_map, refl, sym, ap, ap₂, ◌∙◌, arith}
use Rattle.std.specs.Prelude.{is_some}
use Rattle.rl_marks.specs.Finds.{Found}
use Rattle.rl_marks.specs.declared.asked.How.{How}
use Rattle.rl_marks.specs.declared.asked.How.TheVariants.{Fullmatch, Match as EachMatch, OneSearch}
use Rattle.rl_marks.specs.declared.pattern.MarkedPattern.{MarkedPattern}
use Rattle.rl_marks.specs.declared.spans.GroupSpan.{GroupSpan}
use Rattle.rl_marks.specs.Hits.{Matcher, match_at}
use Rattle.rl_marks.specs.SameFinds.{matcher_in}
use Rattle.rl_marks.specs.Searches.{Match, begun, sought, search_from}
use Rattle.rl_marks.specs.internal.Caps.{caps_after, no_caps}
use Rattle.rl_marks.specs.internal.Walk.{Ended}
use Rattle.rl_marks.proofs.CapsLaws.{group-caps, last-caps}
use Rattle.rl_marks.proofs.PairLaws.{option_kept, match-walks}
use Rattle.rl_spans.specs.declared.finding.Sight.{Sight}
use Rattle.rl_spans.specs.declared.side.Side.{Side}
use Rattle.rl_spans.specs.Sights.{group_values, sight_of, found_in}
use Rattle.rl_spans.specs.internal.HeldSights.{held_sight, held_values, sight_in, sight_sought_in, sight_asked}
use Rattle.rl_spans.specs.internal.Hits.{found_at}
use Rattle.rl_spans.specs.internal.Sides.{matcher_of}

values-held : (n : ℕ) (spans : List GroupSpan) → held_values n (caps_after spans no_caps).held ≡ group_values n spans
values-held zero spans = refl
values-held (suc n) spans = ap₂ (λ l x. l ++ x ∷ []) (values-held n spans) (group-caps (suc n) spans no_caps)

abbrev shown : ℕ → ℕ → List (Option (ℕ × ℕ)) → Option ℕ → Option Sight
shown i end groups last = Some (record { start = i; end = end; groups = groups; last = last })

kept-sight : (count i : ℕ) (x : Option Found) → option_map (held_sight count i) (option_kept x) ≡ option_map (sight_of count) (begun i x None)
kept-sight count i None = refl
kept-sight count i (Some x) = ap₂ (shown i x.end) (values-held count x.spans) (last-caps x.spans no_caps)

pub found-sight : (side : Side) (count i : ℕ) (w : List ℕ) (advance : Bool) (e : Option Ended) (s : Option Sight) → e ≡ found_at side w advance i
    → s ≡ option_map (held_sight count i) e → s ≡ sight_in count side w advance i
unfolding sight_in
found-sight side count i w advance e s found is =
    is ∙ ap (option_map (held_sight count i)) (found ∙ match-walks (matcher_of side) w advance i)
    ∙ kept-sight count i (match_at (matcher_of side) w advance i)

-- A place at which nothing is found is passed over.
sight-none : (count i : ℕ) (x : Option Found) (s : Option Sight) (b : Bool) → s ≡ option_map (sight_of count) (begun i x None) → b ≡ is_some s → b ≡ false
    → (p : Option Match) → begun i x p ≡ p
sight-none count i None s b e is isnt p = refl
sight-none count i (Some y) s b e is isnt p = let never : true ≡ false = sym (is ∙ ap is_some e) ∙ isnt in absurd cc

-- The first place at which something is found.
sight-some : (count i : ℕ) (x : Option Found) (s : Option Sight) (b : Bool) → s ≡ option_map (sight_of count) (begun i x None) → b ≡ is_some s → b ≡ true
    → (p : Option Match) → s ≡ option_map (sight_of count) (begun i x p)
sight-some count i None s b e is found p = let never : false ≡ true = sym (is ∙ ap is_some e) ∙ found in absurd cc
sight-some count i (Some y) s b e is found p = e

sought-step : (m : Matcher) (w : List ℕ) (i : ℕ) → i < length w
    → sought m w (length w - i) false i ≡ begun i (match_at m w false i) (sought m w (length w - (i + 1)) false (i + 1))
sought-step m w i h =
    let more : length w - i ≡ suc (length w - (i + 1)) = omega arith in
    let next : suc i ≡ i + 1 = omega arith in
    ap (λ n. sought m w n false i) more ∙ ap (λ j. begun i (match_at m w false i) (sought m w (length w - (i + 1)) false j)) next

sought-end : (m : Matcher) (w : List ℕ) (i : ℕ) → length w ≤ i → i ≤ length w → sought m w (length w - i) false i ≡ begun (length w) (match_at m w false (length w)) None
sought-end m w i h k =
    let here : i ≡ length w = omega arith in
    let none : length w - length w ≡ 0 = omega arith in
    ap (λ j. sought m w (length w - j) false j) here ∙ ap (λ n. sought m w n false (length w)) none

-- A search that finds nothing at a place goes on from the next one.
pub sought-on : (count : ℕ) (side : Side) (w : List ℕ) (i : ℕ) (s : Option Sight) (b : Bool) → i < length w → s ≡ sight_in count side w false i
    → b ≡ is_some s → b ≡ false → sight_sought_in count side w (i + 1) ≡ sight_sought_in count side w i
unfolding sight_in sight_sought_in
sought-on count side w i s b h e is isnt =
    let m = matcher_of side in
    let rest = sought m w (length w - (i + 1)) false (i + 1) in
    ap (option_map (sight_of count)) (sym (sight-none count i (match_at m w false i) s b e is isnt rest) ∙ sym (sought-step m w i h))

-- A search that finds something at a place ends there.
pub sought-here : (count : ℕ) (side : Side) (w : List ℕ) (i : ℕ) (s : Option Sight) (b : Bool) → i < length w → s ≡ sight_in count side w false i
    → b ≡ is_some s → b ≡ true → s ≡ sight_sought_in count side w i
unfolding sight_in sight_sought_in
sought-here count side w i s b h e is found =
    let m = matcher_of side in
    let rest = sought m w (length w - (i + 1)) false (i + 1) in
    sight-some count i (match_at m w false i) s b e is found rest ∙ ap (option_map (sight_of count)) (sym (sought-step m w i h))

-- A search from the end of the text finds what there is at the end.
pub sought-last : (count : ℕ) (side : Side) (w : List ℕ) (i : ℕ) → length w ≤ i → i ≤ length w → sight_in count side w false (length w) ≡ sight_sought_in count side w i
unfolding sight_in sight_sought_in
sought-last count side w i h k = ap (option_map (sight_of count)) (sym (sought-end (matcher_of side) w i h k))

-- What a side finds is what its pattern finds.
pub side-finds : (how : How) (p : MarkedPattern) (side : Side) (count : ℕ) (w : List ℕ) (advance : Bool) (i : ℕ) → matcher_of side ≡ matcher_in how p
    → sight_asked how count side w advance i ≡ option_map (sight_of count) (found_in how p w advance i)
unfolding sight_in sight_sought_in
side-finds Fullmatch p side count w advance i same = ap (λ (m : Matcher). option_map (sight_of count) (begun i (match_at m w advance i) None)) same
side-finds EachMatch p side count w advance i same = ap (λ (m : Matcher). option_map (sight_of count) (begun i (match_at m w advance i) None)) same
side-finds OneSearch p side count w advance i same = ap (λ (m : Matcher). option_map (sight_of count) (search_from m w false 0)) same
