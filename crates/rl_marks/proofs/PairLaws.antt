-- Where a relation on pairs of thread lists is closed, both matchers find the same.
use Rattle.std.proofs.Common.{◌≡◌, ℕ, zero, suc, ◌+◌, ◌<◌, ◌≤◌, Bool, true, false, not, ◌&&◌, ◌||◌, ◌==◌, List, [], ◌∷◌, map, length, All, Contains, slice_get, Option, None, Some, if◌then◌else◌, refl, sym, ap, ap₂, subst, ◌∙◌, arith}
use Rattle.std.proofs.lemmas.Bool.{lt-ltb, le-ltb, eq-eqb, ne_eqb, eqb-true}
use Rattle.std.proofs.lemmas.List.{append-nil}
use Rattle.std.proofs.lemmas.List.Elements.{All-head, All-tail}
use Rattle.rl_ranges.specs.declared.universe.Universe.{Universe}
use Rattle.rl_ranges.specs.Text.{code_count, IsText}
use Rattle.rl_syntax.specs.Guards.{code_before, is_in, is_line_feed}
use Rattle.rl_marks.specs.declared.threads.Origin.{Origin}
use Rattle.rl_marks.specs.declared.threads.Origin.TheVariants.{EachPlace, TextStart}
use Rattle.rl_marks.specs.Marked.{Marked}
use Rattle.rl_marks.specs.Finds.{GroupSpan, Found, finds}
use Rattle.rl_marks.specs.Hits.{MatchEnding, AtEnd, AtLastLine, Anywhere, Matcher, may_end, first_hit, is_hit_from, match_at, SameHit}
use Rattle.rl_marks.specs.internal.Caps.{Caps, no_caps, span_of_group, span_named, SameCaps}
use Rattle.rl_marks.specs.internal.Walk.{Ended, kept}
use Rattle.rl_marks.specs.internal.Threads.{Thread, thread, moved, halted, named, first_ended, walks}
use Rattle.rl_marks.specs.internal.Seeking.{IsAsked, SameFrom}
use Rattle.rl_marks.specs.internal.Pairs.{ThreadPair, begin, ends_before, ends_before_last, tells_last, stops_at, stops_last, Agrees, AgreesBefore, Follows, last_pair, Keeps, IsCode, IsClosed}
use Rattle.rl_marks.proofs.CapsLaws.{group-caps, last-caps}
use Rattle.rl_marks.proofs.WalkLaws.{walk-finds}
use Rattle.rl_marks.proofs.ThreadLaws.{or_else, or_else-assoc, ended_at, step-code, step-end}
use Rattle.rl_marks.proofs.NameLaws.{option_named, named-twice, behind, moved-behind, halted-behind}

-- The same end, with the same spans held.
abbrev SameEnded : Option Ended → Option Ended → Type 0
SameEnded None None = Unit {0}
SameEnded (Some x) (Some y) = (x.place ≡ y.place) × SameCaps x.caps y.caps
SameEnded None (Some y) = ⊥
SameEnded (Some x) None = ⊥

agrees-same : (i : ℕ) (names : ℕ → ℕ) (agree : Bool) (c d : Option Caps) (x y : Option Ended) → Agrees agree c d → (agree ≡ true → SameEnded x y)
    → SameEnded (or_else (ended_at i (option_named names c)) x) (or_else (ended_at i (option_named names d)) y)
agrees-same i names agree None None x y h f = f h
agrees-same i names agree (Some c) (Some d) x y h f =
    (refl, record { same_held = ap (map (span_named names)) h.same_held; same_last = h.same_last })
agrees-same i names agree None (Some d) x y h f = absurd h
agrees-same i names agree (Some c) None x y h f = absurd h

-- Where a match may end: at the end of the text, before its last code, and before.

may_end_here : (ending : MatchEnding) (w : List ℕ) (i : ℕ) → length w ≡ i → slice_get w i ≡ None → may_end ending w i ≡ ends_before ending None
may_end_here AtEnd w i size none = eq-eqb i (length w) (sym size)
may_end_here AtLastLine w i size none =
    ap (λ b. b || (suc i == length w && is_in is_line_feed (slice_get w i))) (eq-eqb i (length w) (sym size))
may_end_here Anywhere w i size none = refl

may_end_inside : (ending : MatchEnding) (w : List ℕ) (i code : ℕ) → suc i < length w → may_end ending w i ≡ ends_before ending (Some code)
may_end_inside AtEnd w i code lt = ne_eqb i (length w) (λ e. absurd (omega arith))
may_end_inside AtLastLine w i code lt =
    ap₂ (λ a b. a || (b && is_in is_line_feed (slice_get w i))) (ne_eqb i (length w) (λ e. absurd (omega arith))) (ne_eqb (suc i) (length w) (λ e. absurd (omega arith)))
may_end_inside Anywhere w i code lt = refl

may_end_other : (ending : MatchEnding) (w : List ℕ) (i code : ℕ) → suc i ≡ length w → slice_get w i ≡ Some code → is_line_feed code ≡ false
    → may_end ending w i ≡ ends_before ending (Some code)
unfolding is_in
may_end_other AtEnd w i code size next other = ne_eqb i (length w) (λ e. absurd (omega arith))
may_end_other AtLastLine w i code size next other =
    ap₂ (λ a b. a || b) (ne_eqb i (length w) (λ e. absurd (omega arith)))
    (ap₂ (λ a b. a && b) (eq-eqb (suc i) (length w) size) (ap (is_in is_line_feed) next ∙ other))
may_end_other Anywhere w i code size next other = refl

may_end_last : (ending : MatchEnding) (w : List ℕ) (i code : ℕ) → suc i ≡ length w → slice_get w i ≡ Some code → is_line_feed code ≡ true
    → may_end ending w i ≡ ends_before_last ending
unfolding is_in
may_end_last AtEnd w i code size next feed = ne_eqb i (length w) (λ e. absurd (omega arith))
may_end_last AtLastLine w i code size next feed =
    ap₂ (λ a b. a || b) (ne_eqb i (length w) (λ e. absurd (omega arith)))
    (ap₂ (λ a b. a && b) (eq-eqb (suc i) (length w) size) (ap (is_in is_line_feed) next ∙ feed))
may_end_last Anywhere w i code size next feed = refl

-- If no side tells the last line feed apart, it is like any other code.
last_alike : (ending : MatchEnding) (code : ℕ) → tells_last ending ≡ false → ends_before_last ending ≡ ends_before ending (Some code)
last_alike AtEnd code e = refl
last_alike AtLastLine code e = cc
last_alike Anywhere code e = refl

by_bool : {A : Type 0} (b : Bool) → (b ≡ true → A) → (b ≡ false → A) → A
by_bool true f g = f refl
by_bool false f g = g refl

or-left : (a b : Bool) → (a || b) ≡ false → a ≡ false
or-left true b e = e
or-left false b e = refl

or-right : (a b : Bool) → (a || b) ≡ false → b ≡ false
or-right true b e = cc
or-right false b e = e

-- The same names.

spans-named_same : (l : List GroupSpan) → map (span_named (λ k. k)) l ≡ l
spans-named_same [] = refl
spans-named_same (s ∷ l) = ap (λ m. s ∷ m) (spans-named_same l)

map-same : (l : List ℕ) → map (λ k. k) l ≡ l
map-same [] = refl
map-same (k ∷ l) = ap (λ m. k ∷ m) (map-same l)

pub named-same : (l : List Thread) → named (λ k. k) l ≡ l
named-same [] = refl
named-same (t ∷ l) =
    ap₂ (λ (c : Caps) m. record { state = t.state; caps = c } ∷ m)
    (ap₂ (λ (o : List ℕ) (h : List GroupSpan). record { opens = o; held = h; last = t.caps.last }) (map-same t.caps.opens) (spans-named_same t.caps.held))
    (named-same l)

-- One side of a pair: what named threads find is what the pair's own threads find, by other names.

end_side : (m : Marked) (w : List ℕ) (hit : ℕ → Bool) (i : ℕ) → slice_get w i ≡ None → (before : Option ℕ) → before ≡ code_before w i
    → (stop : Bool) → hit i ≡ stop → (names : ℕ → ℕ) (l : List Thread)
    → first_ended hit (walks m w (named names l) i) ≡ ended_at i (option_named (behind i names) (halted m stop before None 0 (named suc l)))
end_side m w hit i next before at stop counts names l =
    step-end m w hit i next (named names l)
    ∙ ap₂ (λ b o. ended_at i (halted m b o None i (named names l))) counts (sym at)
    ∙ ap (ended_at i) (halted-behind i names m stop before None l)

code_side : (m : Marked) (w : List ℕ) (hit : ℕ → Bool) (i code : ℕ) → slice_get w i ≡ Some code → (before : Option ℕ) → before ≡ code_before w i
    → (stop : Bool) → hit i ≡ stop → (names f : ℕ → ℕ) (l n : List Thread) → named f n ≡ moved m stop before code 0 (named suc l)
    → first_ended hit (walks m w (named names l) i)
    ≡ or_else (first_ended hit (walks m w (named (λ k. behind i names (f k)) n) (suc i))) (ended_at i (option_named (behind i names) (halted m stop before (Some code) 0 (named suc l))))
code_side m w hit i code next before at stop counts names f l n e =
    step-code m w hit i code next (named names l)
    ∙ ap₂ (λ b o. or_else (first_ended hit (walks m w (moved m b o code i (named names l)) (suc i))) (ended_at i (halted m b o (Some code) i (named names l)))) counts (sym at)
    ∙ ap₂ (λ (k : List Thread) (o : Option Caps). or_else (first_ended hit (walks m w k (suc i))) (ended_at i o))
    (moved-behind i names m stop before code l ∙ ap (named (behind i names)) (sym e) ∙ named-twice (behind i names) f n)
    (halted-behind i names m stop before (Some code) l)

module _ (s t : Matcher) (w : List ℕ) (hit_s hit_t : ℕ → Bool) where
  -- From the threads of a pair at a place both sides find the same, or else found the same before: `x` and `y`.
  abbrev Same : ℕ → (ℕ → ℕ) → ThreadPair → Option Ended → Option Ended → Type 0
  Same i names p x y =
      SameEnded (or_else (first_ended hit_s (walks s.tree w (named names p.left) i)) x) (or_else (first_ended hit_t (walks t.tree w (named names p.right) i)) y)

  end_same : (stops : MatchEnding → Bool) (i : ℕ) → slice_get w i ≡ None → hit_s i ≡ stops s.ending → hit_t i ≡ stops t.ending
      → (p : ThreadPair) → p.before ≡ code_before w i → AgreesBefore s t stops p None
      → (names : ℕ → ℕ) (x y : Option Ended) → (p.agree ≡ true → SameEnded x y) → Same i names p x y
  end_same stops i next counts_s counts_t p at agrees names x y was =
      subst (λ z. SameEnded (or_else z x) (or_else (first_ended hit_t (walks t.tree w (named names p.right) i)) y))
      (sym (end_side s.tree w hit_s i next p.before at (stops s.ending) counts_s names p.left))
      (subst (λ z. SameEnded (or_else (ended_at i (option_named (behind i names) (halted s.tree (stops s.ending) p.before None 0 (named suc p.left)))) x) (or_else z y))
      (sym (end_side t.tree w hit_t i next p.before at (stops t.ending) counts_t names p.right))
      (agrees-same i (behind i names) p.agree
      (halted s.tree (stops s.ending) p.before None 0 (named suc p.left)) (halted t.tree (stops t.ending) p.before None 0 (named suc p.right))
      x y agrees was))

  code_same : (stops : MatchEnding → Bool) (i code : ℕ) → slice_get w i ≡ Some code → hit_s i ≡ stops s.ending → hit_t i ≡ stops t.ending
      → (p : ThreadPair) → p.before ≡ code_before w i → (f : ℕ → ℕ) (q : ThreadPair) → Follows s t stops p code f q
      → (names : ℕ → ℕ) (x y : Option Ended) → (p.agree ≡ true → SameEnded x y)
      → ((a b : Option Ended) → (q.agree ≡ true → SameEnded a b) → Same (suc i) (λ k. behind i names (f k)) q a b)
      → Same i names p x y
  code_same stops i code next counts_s counts_t p at f q follows names x y was goes =
      let onto = λ (k : ℕ). behind i names (f k) in
      let stop_s = ended_at i (option_named (behind i names) (halted s.tree (stops s.ending) p.before (Some code) 0 (named suc p.left))) in
      let stop_t = ended_at i (option_named (behind i names) (halted t.tree (stops t.ending) p.before (Some code) 0 (named suc p.right))) in
      let after : Same (suc i) onto q (or_else stop_s x) (or_else stop_t y)
      = goes (or_else stop_s x) (or_else stop_t y)
      (λ e. agrees-same i (behind i names) p.agree
      (halted s.tree (stops s.ending) p.before (Some code) 0 (named suc p.left)) (halted t.tree (stops t.ending) p.before (Some code) 0 (named suc p.right))
      x y (follows.agrees e) was) in
      subst (λ z. SameEnded z (or_else (first_ended hit_t (walks t.tree w (named names p.right) i)) y))
      (sym (or_else-assoc (first_ended hit_s (walks s.tree w (named onto q.left) (suc i))) stop_s x)
      ∙ ap (λ z. or_else z x) (sym (code_side s.tree w hit_s i code next p.before at (stops s.ending) counts_s names f p.left q.left follows.same_left)))
      (subst (λ z. SameEnded (or_else (first_ended hit_s (walks s.tree w (named onto q.left) (suc i))) (or_else stop_s x)) z)
      (sym (or_else-assoc (first_ended hit_t (walks t.tree w (named onto q.right) (suc i))) stop_t y)
      ∙ ap (λ z. or_else z y) (sym (code_side t.tree w hit_t i code next p.before at (stops t.ending) counts_t names f p.right q.right follows.same_right)))
      after)

module _ (u : Universe) (origin : Origin) (s t : Matcher) (R : ThreadPair → Type 0) (closed : IsClosed u origin s t R) (w : List ℕ) (hit_s hit_t : ℕ → Bool) where
  -- The hits of a side: at the place `i`, if ends count there, and further on.
  pub record Counts (accepts : Bool) (i : ℕ) (ending : MatchEnding) (hit : ℕ → Bool) : Type 0 where
    pub here : hit i ≡ (accepts && may_end ending w i)
    pub on : (j : ℕ) → i < j → hit j ≡ may_end ending w j

  next_counts : (accepts : Bool) (i : ℕ) (ending : MatchEnding) (hit : ℕ → Bool) → Counts accepts i ending hit → Counts true (suc i) ending hit
  next_counts accepts i ending hit counts = record { here = counts.on (suc i) (omega arith); on = λ j lt. counts.on j (omega arith) }

  -- What is left of the text is `r`; `x` and `y` are what was found before, if nothing comes of the threads.
  goes-same : (r : List ℕ) (i : ℕ) → ((m : ℕ) → slice_get w (i + m) ≡ slice_get r m) → length w ≡ i + length r → All (λ c. c < code_count u) r
      → (accepts : Bool) (p : ThreadPair) → Keeps u s t R accepts p → p.before ≡ code_before w i
      → Counts accepts i s.ending hit_s → Counts accepts i t.ending hit_t
      → (names : ℕ → ℕ) (x y : Option Ended) → (p.agree ≡ true → SameEnded x y) → Same s t w hit_s hit_t i names p x y
  goes-same [] i rest size codes accepts p keeps at counts_s counts_t names x y was =
      let i_is : i + 0 ≡ i = omega arith in
      let next : slice_get w i ≡ None = ap (slice_get w) (sym i_is) ∙ rest 0 in
      let whole : length w ≡ i = omega (arith, size) in
      end_same s t w hit_s hit_t (stops_at accepts None) i next
      (counts_s.here ∙ ap (λ b. accepts && b) (may_end_here s.ending w i whole next))
      (counts_t.here ∙ ap (λ b. accepts && b) (may_end_here t.ending w i whole next))
      p at keeps.at_end names x y was
  goes-same (code ∷ []) i rest size codes accepts p keeps at counts_s counts_t names x y was =
      let i_is : i + 0 ≡ i = omega arith in
      let next : slice_get w i ≡ Some code = ap (slice_get w) (sym i_is) ∙ rest 0 in
      let last : suc i ≡ length w = omega (arith, size) in
      let shorter : (m : ℕ) → slice_get w (suc i + m) ≡ slice_get [] m = λ m. (let e : suc i + m ≡ i + suc m = omega arith in ap (slice_get w) e ∙ rest (suc m)) in
      let none : slice_get w (suc i) ≡ None = (let e : suc i + 0 ≡ suc i = omega arith in ap (slice_get w) (sym e) ∙ shorter 0) in
      let found = keeps.on code (All-head (λ c. c < code_count u) code [] codes) in
      let on_path : hit_s i ≡ stops_at accepts (Some code) s.ending → hit_t i ≡ stops_at accepts (Some code) t.ending → Same s t w hit_s hit_t i names p x y
      = λ here_s here_t. code_same s t w hit_s hit_t (stops_at accepts (Some code)) i code next here_s here_t p at found.0 found.1 found.3 names x y was
      (λ a b agree. goes-same [] (suc i) shorter (omega (arith, size)) (All-tail (λ c. c < code_count u) code [] codes) true found.1 (closed.kept found.1 found.2)
      (found.3.same_before ∙ sym next) (next_counts accepts i s.ending hit_s counts_s) (next_counts accepts i t.ending hit_t counts_t)
      (λ k. behind i names (found.0 k)) a b agree) in
      by_bool (is_line_feed code)
      (λ feed. by_bool (tells_last s.ending || tells_last t.ending)
      (λ tells.
      let kept_last = keeps.at_last tells in
      let q = last_pair s t accepts p kept_last.0 in
      let ten : code ≡ 10 = eqb-true code 10 feed in
      let next_ten : slice_get w i ≡ Some 10 = next ∙ ap Some ten in
      code_same s t w hit_s hit_t (stops_last accepts) i 10 next_ten
      (counts_s.here ∙ ap (λ b. accepts && b) (may_end_last s.ending w i code last next feed))
      (counts_t.here ∙ ap (λ b. accepts && b) (may_end_last t.ending w i code last next feed))
      p at (λ k. k) q (record { same_left = named-same q.left; same_right = named-same q.right; same_before = refl; agrees = kept_last.1.agrees }) names x y was
      (λ a b agree. end_same s t w hit_s hit_t (stops_at true None) (suc i) none
      (counts_s.on (suc i) (omega arith) ∙ may_end_here s.ending w (suc i) (sym last) none)
      (counts_t.on (suc i) (omega arith) ∙ may_end_here t.ending w (suc i) (sym last) none)
      q (sym next_ten) kept_last.1.at_end (λ k. behind i names k) a b agree))
      (λ same. on_path
      (counts_s.here ∙ ap (λ b. accepts && b) (may_end_last s.ending w i code last next feed ∙ last_alike s.ending code (or-left _ _ same)))
      (counts_t.here ∙ ap (λ b. accepts && b) (may_end_last t.ending w i code last next feed ∙ last_alike t.ending code (or-right _ _ same)))))
      (λ other. on_path
      (counts_s.here ∙ ap (λ b. accepts && b) (may_end_other s.ending w i code last next other))
      (counts_t.here ∙ ap (λ b. accepts && b) (may_end_other t.ending w i code last next other)))
  goes-same (code ∷ d ∷ r) i rest size codes accepts p keeps at counts_s counts_t names x y was =
      let i_is : i + 0 ≡ i = omega arith in
      let next : slice_get w i ≡ Some code = ap (slice_get w) (sym i_is) ∙ rest 0 in
      let inside : suc i < length w = omega (arith, size) in
      let shorter : (m : ℕ) → slice_get w (suc i + m) ≡ slice_get (d ∷ r) m = λ m. (let e : suc i + m ≡ i + suc m = omega arith in ap (slice_get w) e ∙ rest (suc m)) in
      let found = keeps.on code (All-head (λ c. c < code_count u) code (d ∷ r) codes) in
      code_same s t w hit_s hit_t (stops_at accepts (Some code)) i code next
      (counts_s.here ∙ ap (λ b. accepts && b) (may_end_inside s.ending w i code inside))
      (counts_t.here ∙ ap (λ b. accepts && b) (may_end_inside t.ending w i code inside))
      p at found.0 found.1 found.3 names x y was
      (λ a b agree. goes-same (d ∷ r) (suc i) shorter (omega (arith, size)) (All-tail (λ c. c < code_count u) code (d ∷ r) codes) true found.1 (closed.kept found.1 found.2)
      (found.3.same_before ∙ sym next) (next_counts accepts i s.ending hit_s counts_s) (next_counts accepts i t.ending hit_t counts_t)
      (λ k. behind i names (found.0 k)) a b agree)

-- What is left of a text from a place on.
abbrev rest_at : ℕ → List ℕ → List ℕ
rest_at zero w = w
rest_at (suc i) [] = []
rest_at (suc i) (c ∷ w) = rest_at i w

rest-get : (i : ℕ) (w : List ℕ) → i ≤ length w → (m : ℕ) → slice_get w (i + m) ≡ slice_get (rest_at i w) m
rest-get zero w le m = let e : 0 + m ≡ m = omega arith in ap (slice_get w) e
rest-get (suc i) [] le m = absurd (omega arith)
rest-get (suc i) (c ∷ w) le m = let e : suc i + m ≡ suc (i + m) = omega arith in ap (slice_get (c ∷ w)) e ∙ rest-get i w (omega arith) m

rest-length : (i : ℕ) (w : List ℕ) → i ≤ length w → length w ≡ i + length (rest_at i w)
rest-length zero w le = omega arith
rest-length (suc i) [] le = absurd (omega arith)
rest-length (suc i) (c ∷ w) le = let e : length w ≡ i + length (rest_at i w) = rest-length i w (omega arith) in omega arith

rest-all : (P : ℕ → Type 0) (i : ℕ) (w : List ℕ) → All P w → All P (rest_at i w)
rest-all P zero w all = all
rest-all P (suc i) [] all = all
rest-all P (suc i) (c ∷ w) all = rest-all P i w (All-tail P c w all)

code_at : (u : Universe) (w : List ℕ) → All (λ c. c < code_count u) w → (i : ℕ) → IsCode u (slice_get w i)
code_at u [] all i = tt
code_at u (c ∷ w) all zero = All-head (λ x. x < code_count u) c w all
code_at u (c ∷ w) all (suc i) = code_at u w (All-tail (λ x. x < code_count u) c w all) i

code_in : (u : Universe) (w : List ℕ) → All (λ c. c < code_count u) w → (i : ℕ) → IsCode u (code_before w i)
code_in u w all zero = tt
code_in u w all (suc i) = code_at u w all i

and-true : (b : Bool) → (b && true) ≡ b
and-true true = refl
and-true false = refl

and-false : (b : Bool) → (b && false) ≡ false
and-false true = refl
and-false false = refl

from_here : (ending : MatchEnding) (advance : Bool) (w : List ℕ) (i : ℕ) → is_hit_from ending advance w i i ≡ (not advance && may_end ending w i)
from_here ending true w i = ap (λ b. may_end ending w i && b) (le-ltb i i (omega arith)) ∙ and-false (may_end ending w i)
from_here ending false w i = and-true (may_end ending w i)

from_later : (ending : MatchEnding) (advance : Bool) (w : List ℕ) (i j : ℕ) → i < j → is_hit_from ending advance w i j ≡ may_end ending w j
from_later ending true w i j lt = ap (λ b. may_end ending w j && b) (lt-ltb i j lt) ∙ and-true (may_end ending w j)
from_later ending false w i j lt = and-true (may_end ending w j)

abbrev pub option_kept : Option Found → Option Ended
option_kept None = None
option_kept (Some x) = Some (kept no_caps x)

first_hit-ended : (hit : ℕ → Bool) (l : List Found) → first_ended hit (map (kept no_caps) l) ≡ option_kept (first_hit hit l)
first_hit-ended hit [] = refl
first_hit-ended hit (x ∷ l) = split (hit x.end) (first_ended hit (map (kept no_caps) l)) (first_hit hit l) (first_hit-ended hit l)
  where
    split : (b : Bool) (y : Option Ended) (z : Option Found) → y ≡ option_kept z → ◌≡◌ {A = Option Ended} (if b then Some (kept no_caps x) else y) (option_kept (if b then Some x else z))
    split true y z e = refl
    split false y z e = e

same_hit : (x y : Option Found) → SameEnded (or_else (option_kept x) None) (or_else (option_kept y) None) → SameHit x y
same_hit None None h = tt
same_hit (Some x) (Some y) h = record {
  same_end = h.0;
  same_groups = λ n. sym (group-caps n x.spans no_caps) ∙ ap (span_of_group n) h.1.same_held ∙ group-caps n y.spans no_caps;
  same_last = sym (last-caps x.spans no_caps) ∙ h.1.same_last ∙ last-caps y.spans no_caps;
}
same_hit None (Some y) h = absurd h
same_hit (Some x) None h = absurd h

-- The match from a place is what the walk of the first thread finds.
pub match-walks : (m : Matcher) (w : List ℕ) (advance : Bool) (i : ℕ)
    → first_ended (is_hit_from m.ending advance w i) (walks m.tree w (thread 0 no_caps ∷ []) i) ≡ option_kept (match_at m w advance i)
unfolding match_at
match-walks m w advance i =
    ap (first_ended (is_hit_from m.ending advance w i)) (append-nil _ ∙ walk-finds m.tree w i no_caps)
    ∙ first_hit-ended (is_hit_from m.ending advance w i) (finds m.tree w i)

begun-walks : (m : Matcher) (w : List ℕ) (advance : Bool) (i : ℕ)
    → first_ended (is_hit_from m.ending advance w i) (walks m.tree w (named (λ k. k) (thread 0 no_caps ∷ [])) i) ≡ option_kept (match_at m w advance i)
begun-walks m w advance i = match-walks m w advance i

module _ (u : Universe) (origin : Origin) (s t : Matcher) (R : ThreadPair → Type 0) (closed : IsClosed u origin s t R) where
  same_at : (w : List ℕ) → IsText u w → (i : ℕ) → i ≤ length w → (advance : Bool) → IsAsked origin (code_before w i) (not advance)
      → SameHit (match_at s w advance i) (match_at t w advance i)
  same_at w text i le advance asked =
      let hit_s = is_hit_from s.ending advance w i in
      let hit_t = is_hit_from t.ending advance w i in
      let o = code_before w i in
      same_hit (match_at s w advance i) (match_at t w advance i)
      (subst (λ z. SameEnded (or_else z None) (or_else (option_kept (match_at t w advance i)) None)) (begun-walks s w advance i)
      (subst (λ z. SameEnded (or_else (first_ended hit_s (walks s.tree w (named (λ k. k) (thread 0 no_caps ∷ [])) i)) None) (or_else z None)) (begun-walks t w advance i)
      (goes-same u origin s t R closed w hit_s hit_t (rest_at i w) i (rest-get i w le) (rest-length i w le) (rest-all (λ c. c < code_count u) i w text)
      (not advance) (begin o) (closed.begins o (code_in u w text i) (not advance) asked) refl
      (record { here = from_here s.ending advance w i; on = λ j lt. from_later s.ending advance w i j lt })
      (record { here = from_here t.ending advance w i; on = λ j lt. from_later t.ending advance w i j lt })
      (λ k. k) None None (λ e. tt))))

pub relation-sound : (u : Universe) (origin : Origin) (s t : Matcher) (R : ThreadPair → Type 0) → IsClosed u origin s t R → SameFrom origin u s t
relation-sound u EachPlace s t R closed = λ w text i le advance. same_at u EachPlace s t R closed w text i le advance tt
relation-sound u TextStart s t R closed = λ w text. same_at u TextStart s t R closed w text 0 (omega arith) false (refl, refl)

pub closed-sound : (u : Universe) (origin : Origin) (s t : Matcher) (relation : List ThreadPair) → IsClosed u origin s t (Contains relation) → SameFrom origin u s t
closed-sound u origin s t relation closed = relation-sound u origin s t (Contains relation) closed
