-- A search from the start of a text is a match of the tree that seeks first.
use Rattle.std.proofs.Common.{◌≡◌, ℕ, zero, suc, ◌+◌, ◌-◌, ◌<◌, ◌≤◌, Bool, true, false, ◌&&◌, ◌==◌, List, [], ◌∷◌, ◌++◌, length, map, All, slice_get, nat_lt, Option, None, Some, if◌then◌else◌, refl, sym, ap, ap₂, subst, ◌∙◌, arith}
use Rattle.std.proofs.lemmas.Bool.{cond_both, cond-true, cond-false, lt-ltb, ne_eqb}
use Rattle.std.proofs.lemmas.List.{append-nil}
use Rattle.std.proofs.lemmas.List.Elements.{All-head, All-tail}
use Rattle.rl_ranges.specs.declared.universe.Universe.{Universe}
use Rattle.rl_ranges.specs.Text.{code_count, IsText}
use Rattle.rl_syntax.specs.Guards.{is_in, holds_at}
use Rattle.rl_syntax.specs.Modes.{is_code}
use Rattle.rl_syntax.specs.Run.{one_more}
use Rattle.rl_marks.specs.Marked.{Marked, empty, one, guard, both, either, many, further, mark, is_numbered}
use Rattle.rl_marks.specs.Finds.{GroupSpan, Found, ended, later, onward, closed, rounds, finds, group_after, group, last_after}
use Rattle.rl_marks.specs.Hits.{Matcher, first_hit, is_hit_from, match_at, SameHit}
use Rattle.rl_marks.specs.Searches.{Match, begun, sought, search_from, SameSearch}
use Rattle.rl_marks.specs.SameFinds.{SameFirstSearch}
use Rattle.rl_marks.specs.internal.Seeking.{seeking}
use Rattle.rl_marks.proofs.FindLaws.{finds-many}

-- If no group has the number 0, no span has.

abbrev Numbered : List GroupSpan → Type 0
Numbered [] = Unit {0}
Numbered (s ∷ l) = (s.number ≡ 0 → ⊥) × Numbered l

Numbered-append : (l m : List GroupSpan) → Numbered l → Numbered m → Numbered (l ++ m)
Numbered-append [] m p q = q
Numbered-append (s ∷ l) m p q = (p.0, Numbered-append l m p.1 q)

abbrev AllNumbered : List Found → Type 0
AllNumbered [] = Unit {0}
AllNumbered (x ∷ l) = Numbered x.spans × AllNumbered l

all-append : (l m : List Found) → AllNumbered l → AllNumbered m → AllNumbered (l ++ m)
all-append [] m p q = q
all-append (x ∷ l) m p q = (p.0, all-append l m p.1 q)

all-later : (spans : List GroupSpan) → Numbered spans → (l : List Found) → AllNumbered l → AllNumbered (map (later spans) l)
all-later spans n [] p = tt
all-later spans n (x ∷ l) p = (Numbered-append spans x.spans n p.0, all-later spans n l p.1)

all-onward : (next : ℕ → List Found) → ((j : ℕ) → AllNumbered (next j)) → (l : List Found) → AllNumbered l → AllNumbered (onward l next)
all-onward next f [] p = tt
all-onward next f (x ∷ l) p =
    all-append (map (later x.spans) (next x.end)) (onward l next) (all-later x.spans p.0 (next x.end) (f x.end)) (all-onward next f l p.1)

all-closed : (n i : ℕ) → (n ≡ 0 → ⊥) → (l : List Found) → AllNumbered l → AllNumbered (map (closed n i) l)
all-closed n i h [] p = tt
all-closed n i h (x ∷ l) p = (Numbered-append x.spans _ p.0 (h, tt), all-closed n i h l p.1)

all-one_more : (greedy : Bool) (i : ℕ) (l : List Found) → AllNumbered l → AllNumbered (one_more greedy (ended i) l)
all-one_more true i l p = all-append l (ended i ∷ []) p (tt, tt)
all-one_more false i l p = (tt, p)

all-if : (b : Bool) (l m : List Found) → AllNumbered l → AllNumbered m → AllNumbered (if b then l else m)
all-if true l m p q = p
all-if false l m p q = q

all-rounds : (body : ℕ → List Found) → ((j : ℕ) → AllNumbered (body j)) → (greedy : Bool) (n i : ℕ) → AllNumbered (rounds body greedy n i)
all-rounds body f greedy zero i = all-one_more greedy i (body i) (f i)
all-rounds body f greedy (suc n) i =
    all-one_more greedy i (onward (body i) (λ j. if nat_lt i j then rounds body greedy n j else ended j ∷ []))
    (all-onward (λ j. if nat_lt i j then rounds body greedy n j else ended j ∷ [])
    (λ j. all-if (nat_lt i j) (rounds body greedy n j) (ended j ∷ []) (all-rounds body f greedy n j) (tt, tt)) (body i) (f i))

and-first : (a b : Bool) → (a && b) ≡ true → a ≡ true
and-first true b e = refl
and-first false b e = e

and-second : (a b : Bool) → (a && b) ≡ true → b ≡ true
and-second true b e = e
and-second false b e = cc

finds-numbered : (m : Marked) → is_numbered m ≡ true → (w : List ℕ) (i : ℕ) → AllNumbered (finds m w i)
finds-numbered empty h w i = (tt, tt)
finds-numbered (one set) h w i = all-if (is_in set (slice_get w i)) (ended (suc i) ∷ []) [] (tt, tt) tt
finds-numbered (guard g) h w i = all-if (holds_at g w i) (ended i ∷ []) [] (tt, tt) tt
finds-numbered (both e f) h w i =
    all-onward (finds f w) (λ j. finds-numbered f (and-second _ _ h) w j) (finds e w i) (finds-numbered e (and-first _ _ h) w i)
finds-numbered (either e f) h w i =
    all-append (finds e w i) (finds f w i) (finds-numbered e (and-first _ _ h) w i) (finds-numbered f (and-second _ _ h) w i)
finds-numbered (many e greedy) h w i = all-rounds (finds e w) (λ j. finds-numbered e h w j) greedy (length w - i) i
finds-numbered (further e f) h w i =
    all-onward (λ j. if nat_lt i j then finds f w j else ended j ∷ [])
    (λ j. all-if (nat_lt i j) (finds f w j) (ended j ∷ []) (finds-numbered f (and-second _ _ h) w j) (tt, tt)) (finds e w i) (finds-numbered e (and-first _ _ h) w i)
finds-numbered (mark zero e) h w i = cc
finds-numbered (mark (suc n) e) h w i = all-closed (suc n) i (λ e. absurd (omega arith)) (finds e w i) (finds-numbered e h w i)

-- The group 0 of spans that don't have it, and the group that was closed last.

abbrev IsNumbered : Option Found → Type 0
IsNumbered None = Unit {0}
IsNumbered (Some x) = Numbered x.spans

first_hit-numbered : (hit : ℕ → Bool) (l : List Found) → AllNumbered l → IsNumbered (first_hit hit l)
first_hit-numbered hit [] p = tt
first_hit-numbered hit (x ∷ l) p = cond_both (hit x.end) (Some x) (first_hit hit l) IsNumbered (λ _. p.0) (λ _. first_hit-numbered hit l p.1)

zero-known : (known : Option (ℕ × ℕ)) (l : List GroupSpan) → Numbered l → group_after 0 known l ≡ known
zero-known known [] p = refl
zero-known known (s ∷ l) p =
    ap (λ k. group_after 0 k l) (cond-false (0 == s.number) (Some (s.from, s.upto)) known (ne_eqb 0 s.number (λ e. p.0 (sym e))))
    ∙ zero-known known l p.1

not_zero_last : (k : ℕ) → (k ≡ 0 → ⊥) → (l : List GroupSpan) → Numbered l → Some 0 ≡ last_after (Some k) l → ⊥
not_zero_last k h [] p e = h cc
not_zero_last k h (s ∷ l) p e = not_zero_last s.number p.0 l p.1 e

same-last : (l m : List GroupSpan) → Numbered l → Numbered m → last_after (Some 0) l ≡ last_after (Some 0) m → last_after None l ≡ last_after None m
same-last [] [] p q e = refl
same-last (s ∷ l) (t ∷ m) p q e = e
same-last [] (t ∷ m) p q e = absurd (not_zero_last t.number q.0 m q.1 e)
same-last (s ∷ l) [] p q e = absurd (not_zero_last s.number p.0 l p.1 (sym e))

-- What is sought, with the group 0 in front.

abbrev front : ℕ → GroupSpan
front k = record { number = 0; from = 0; upto = k }

abbrev pub with_front : Option Match → Option Found
with_front None = None
with_front (Some x) = Some (later (front x.start ∷ []) x.found)

abbrev MatchNumbered : Option Match → Type 0
MatchNumbered None = Unit {0}
MatchNumbered (Some x) = Numbered x.found.spans

later_group : (n k : ℕ) (spans : List GroupSpan) → group (suc n) (front k ∷ spans) ≡ group (suc n) spans
later_group n k spans = ap (λ o. group_after (suc n) o spans) (cond-false (suc n == 0) (Some (0, k)) None (ne_eqb (suc n) 0 (λ e. absurd (omega arith))))

front_group : (k : ℕ) (spans : List GroupSpan) → Numbered spans → group 0 (front k ∷ spans) ≡ Some (0, k)
front_group k spans p = zero-known (Some (0, k)) spans p

same_place : (a b : ℕ) (x y : Option (ℕ × ℕ)) → x ≡ Some (0, a) → y ≡ Some (0, b) → x ≡ y → a ≡ b
same_place a b x y p q e =
    let f : ◌≡◌ {A = Option (ℕ × ℕ)} (Some (0, a)) (Some (0, b)) = sym p ∙ e ∙ q in
    let g : ◌≡◌ {A = ℕ × ℕ} (0, a) (0, b) = cc in
    ap (λ (z : ℕ × ℕ). z.1) g

same-fronts : (p q : Option Match) → MatchNumbered p → MatchNumbered q → SameHit (with_front p) (with_front q) → SameSearch p q
same-fronts None None m n h = tt
same-fronts None (Some y) m n h = absurd h
same-fronts (Some x) None m n h = absurd h
same-fronts (Some x) (Some y) m n h = record {
  same_start = same_place x.start y.start _ _ (front_group x.start x.found.spans m) (front_group y.start y.found.spans n) (h.same_groups 0);
  same_found = record {
    same_end = h.same_end;
    same_groups = groups;
    same_last = same-last x.found.spans y.found.spans m n h.same_last;
  };
}
  where
    groups : (k : ℕ) → group k x.found.spans ≡ group k y.found.spans
    groups zero = zero-known None x.found.spans m ∙ sym (zero-known None y.found.spans n)
    groups (suc k) = sym (later_group k x.start x.found.spans) ∙ h.same_groups (suc k) ∙ later_group k y.start y.found.spans

begun-numbered : (i : ℕ) (x : Option Found) (p : Option Match) → IsNumbered x → MatchNumbered p → MatchNumbered (begun i x p)
begun-numbered i None p n m = m
begun-numbered i (Some x) p n m = n

sought-numbered : (m : Matcher) → is_numbered m.tree ≡ true → (w : List ℕ) (n : ℕ) (advance : Bool) (i : ℕ) → MatchNumbered (sought m w n advance i)
unfolding match_at
sought-numbered m h w zero advance i =
    begun-numbered i (match_at m w advance i) None (first_hit-numbered (is_hit_from m.ending advance w i) (finds m.tree w i) (finds-numbered m.tree h w i)) tt
sought-numbered m h w (suc n) advance i =
    begun-numbered i (match_at m w advance i) (sought m w n false (suc i))
    (first_hit-numbered (is_hit_from m.ending advance w i) (finds m.tree w i) (finds-numbered m.tree h w i)) (sought-numbered m h w n false (suc i))

-- Any codes, as few as can be.

later-none : (l : List Found) → map (later []) l ≡ l
later-none [] = refl
later-none (x ∷ l) = ap (λ m. x ∷ m) (later-none l)

-- The ends at `n + 1` places from `i` on.
abbrev starts : ℕ → ℕ → List Found
starts zero i = ended i ∷ []
starts (suc n) i = ended i ∷ starts n (suc i)

get-code : (u : Universe) (w : List ℕ) (i : ℕ) → All (λ c. c < code_count u) w → i < length w → is_in (is_code u) (slice_get w i) ≡ true
unfolding is_in is_code
get-code u [] i all lt = absurd (omega arith)
get-code u (c ∷ w) zero all lt = lt-ltb c (code_count u) (All-head (λ x. x < code_count u) c w all)
get-code u (c ∷ w) (suc i) all lt = get-code u w i (All-tail (λ x. x < code_count u) c w all) (omega arith)

get-none : (w : List ℕ) (i : ℕ) → length w ≤ i → slice_get w i ≡ None
get-none [] i le = refl
get-none (c ∷ w) zero le = absurd (omega arith)
get-none (c ∷ w) (suc i) le = get-none w i (omega arith)

seek-goes : (u : Universe) (w : List ℕ) → IsText u w → (n i : ℕ) → i + n ≡ length w → finds (many (one (is_code u)) false) w i ≡ starts n i
unfolding is_in
seek-goes u w text zero i e =
    let none : slice_get w i ≡ None = get-none w i (omega arith) in
    finds-many (one (is_code u)) false w i
    ∙ ap (λ o. ended i ∷ onward (if is_in (is_code u) o then ended (suc i) ∷ [] else []) (λ j. if nat_lt i j then finds (many (one (is_code u)) false) w j else ended j ∷ [])) none
seek-goes u w text (suc n) i e =
    let some : is_in (is_code u) (slice_get w i) ≡ true = get-code u w i text (omega arith) in
    let all = finds (many (one (is_code u)) false) w in
    finds-many (one (is_code u)) false w i
    ∙ ap (λ b. ended i ∷ onward (if b then ended (suc i) ∷ [] else []) (λ j. if nat_lt i j then all j else ended j ∷ [])) some
    ∙ ap (λ l. ended i ∷ l)
    (append-nil (map (later []) (if nat_lt i (suc i) then all (suc i) else ended (suc i) ∷ []))
    ∙ later-none (if nat_lt i (suc i) then all (suc i) else ended (suc i) ∷ [])
    ∙ cond-true (nat_lt i (suc i)) (all (suc i)) (ended (suc i) ∷ []) (lt-ltb i (suc i) (omega arith))
    ∙ seek-goes u w text n (suc i) (omega arith))

or_found : Option Found → Option Found → Option Found
or_found None y = y
or_found (Some x) y = Some x

first_hit-append : (hit : ℕ → Bool) (l m : List Found) → first_hit hit (l ++ m) ≡ or_found (first_hit hit l) (first_hit hit m)
unfolding or_found
first_hit-append hit [] m = refl
first_hit-append hit (x ∷ l) m = split (hit x.end) (first_hit hit (l ++ m)) (first_hit hit l) (first_hit-append hit l m)
  where
    split : (b : Bool) (y z : Option Found) → y ≡ or_found z (first_hit hit m) → ◌≡◌ {A = Option Found} (if b then Some x else y) (or_found (if b then Some x else z) (first_hit hit m))
    split true y z e = refl
    split false y z e = e

abbrev option_later : List GroupSpan → Option Found → Option Found
option_later spans None = None
option_later spans (Some x) = Some (later spans x)

first_hit-later : (hit : ℕ → Bool) (spans : List GroupSpan) (l : List Found) → first_hit hit (map (later spans) l) ≡ option_later spans (first_hit hit l)
first_hit-later hit spans [] = refl
first_hit-later hit spans (x ∷ l) = split (hit x.end) (first_hit hit (map (later spans) l)) (first_hit hit l) (first_hit-later hit spans l)
  where
    split : (b : Bool) (y z : Option Found) → y ≡ option_later spans z → ◌≡◌ {A = Option Found} (if b then Some (later spans x) else y) (option_later spans (if b then Some x else z))
    split true y z e = refl
    split false y z e = e

with_begun : (i : ℕ) (x : Option Found) (p : Option Match) → or_found (option_later (front i ∷ []) x) (with_front p) ≡ with_front (begun i x p)
unfolding or_found
with_begun i None p = refl
with_begun i (Some x) p = refl

-- What follows each start is what is sought.
starts-sought : (m : Matcher) (w : List ℕ) (n i : ℕ)
    → first_hit (is_hit_from m.ending false w 0) (onward (map (closed 0 0) (starts n i)) (finds m.tree w)) ≡ with_front (sought m w n false i)
unfolding match_at or_found
starts-sought m w zero i =
    ap (first_hit (is_hit_from m.ending false w 0)) (append-nil (map (later (front i ∷ [])) (finds m.tree w i)))
    ∙ first_hit-later (is_hit_from m.ending false w 0) (front i ∷ []) (finds m.tree w i)
    ∙ only (match_at m w false i)
  where
    only : (x : Option Found) → option_later (front i ∷ []) x ≡ with_front (begun i x None)
    only None = refl
    only (Some x) = refl
starts-sought m w (suc n) i =
    first_hit-append (is_hit_from m.ending false w 0) (map (later (front i ∷ [])) (finds m.tree w i)) (onward (map (closed 0 0) (starts n (suc i))) (finds m.tree w))
    ∙ ap₂ or_found (first_hit-later (is_hit_from m.ending false w 0) (front i ∷ []) (finds m.tree w i)) (starts-sought m w n (suc i))
    ∙ with_begun i (match_at m w false i) (sought m w n false (suc i))

pub match-seeks : (u : Universe) (m : Matcher) (w : List ℕ) → IsText u w → match_at (seeking u m) w false 0 ≡ with_front (search_from m w false 0)
unfolding match_at
match-seeks u m w text =
    ap (λ l. first_hit (is_hit_from m.ending false w 0) (onward (map (closed 0 0) l) (finds m.tree w))) (seek-goes u w text (length w - 0) 0 (omega arith))
    ∙ starts-sought m w (length w - 0) 0

pub seeking-searches : (u : Universe) (s t : Matcher) → is_numbered s.tree ≡ true → is_numbered t.tree ≡ true
    → ((w : List ℕ) → IsText u w → SameHit (match_at (seeking u s) w false 0) (match_at (seeking u t) w false 0)) → SameFirstSearch u s t
seeking-searches u s t ns nt same w text =
    same-fronts (search_from s w false 0) (search_from t w false 0)
    (sought-numbered s ns w (length w - 0) false 0) (sought-numbered t nt w (length w - 0) false 0)
    (subst (λ z. SameHit z (with_front (search_from t w false 0))) (match-seeks u s w text)
    (subst (λ z. SameHit (match_at (seeking u s) w false 0) z) (match-seeks u t w text) (same w text)))

-- And the other way round: searches that find the same are matches that do.

some_after : (k : ℕ) (l : List GroupSpan) → None ≡ last_after (Some k) l → ⊥
some_after k [] e = cc
some_after k (s ∷ l) e = some_after s.number l e

last-front : (l m : List GroupSpan) → last_after None l ≡ last_after None m → last_after (Some 0) l ≡ last_after (Some 0) m
last-front [] [] e = refl
last-front (s ∷ l) (t ∷ m) e = e
last-front [] (t ∷ m) e = absurd (some_after t.number m e)
last-front (s ∷ l) [] e = absurd (some_after s.number l (sym e))

fronts-same : (p q : Option Match) → MatchNumbered p → MatchNumbered q → SameSearch p q → SameHit (with_front p) (with_front q)
fronts-same None None m n h = tt
fronts-same None (Some y) m n h = absurd h
fronts-same (Some x) None m n h = absurd h
fronts-same (Some x) (Some y) m n h = record {
  same_end = h.same_found.same_end;
  same_groups = groups;
  same_last = last-front x.found.spans y.found.spans h.same_found.same_last;
}
  where
    groups : (k : ℕ) → group k (front x.start ∷ x.found.spans) ≡ group k (front y.start ∷ y.found.spans)
    groups zero =
        front_group x.start x.found.spans m
        ∙ ap (λ a. Some (0, a)) h.same_start
        ∙ sym (front_group y.start y.found.spans n)
    groups (suc k) = later_group k x.start x.found.spans ∙ h.same_found.same_groups (suc k) ∙ sym (later_group k y.start y.found.spans)

pub searches-seek : (u : Universe) (s t : Matcher) → is_numbered s.tree ≡ true → is_numbered t.tree ≡ true → (w : List ℕ) → IsText u w
    → SameSearch (search_from s w false 0) (search_from t w false 0) → SameHit (match_at (seeking u s) w false 0) (match_at (seeking u t) w false 0)
searches-seek u s t ns nt w text h =
    subst (λ z. SameHit z (match_at (seeking u t) w false 0)) (sym (match-seeks u s w text))
    (subst (λ z. SameHit (with_front (search_from s w false 0)) z) (sym (match-seeks u t w text))
    (fronts-same (search_from s w false 0) (search_from t w false 0)
    (sought-numbered s ns w (length w - 0) false 0) (sought-numbered t nt w (length w - 0) false 0) h))
