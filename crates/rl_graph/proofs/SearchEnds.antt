-- The search for parts: its start, the effect of finishing a state, and what holds for the done states at the end.
use Rattle.std.proofs.Common.{◌≡◌, ◌≢◌, ℕ, zero, suc, ◌<◌, ◌≤◌, ◌⊎◌, ◌↔◌, inl, inr, false, le-leb, List, [], ◌∷◌, ◌++◌, length, get_or, replicate, refl, sym, ◌∙◌, ap, subst, arith, get_or-take, get_or-set_same, get_or-set_other, length-set, le_antisymm, set, ◌+◌}
use Rattle.std.proofs.lemmas.Bool.{cases_eq, cases_lt, lt-leb}
use Rattle.std.proofs.lemmas.List.{get_or-replicate, length-replicate, get_or_past, length-take-le}
use Rattle.rl_graph.specs.declared.parts.SearchPlace.{SearchPlace}
use Rattle.rl_graph.specs.declared.parts.SearchPlace.TheVariants.{Unseen, Open, Done}
use Rattle.rl_graph.specs.declared.parts.Frame.{Frame}
use Rattle.rl_graph.specs.Paths.{one, Has, Pairs, Reaches}
use Rattle.rl_graph.specs.internal.Search.{SearchState, place_of, is_unseen, unseen, NoMark, Settled, Before, IsSearch, IsPast, with_top, start_of, opened, closed_alone, closed_place, IsClosed, IsFinished}
use Rattle.rl_graph.proofs.Sums.{Has-left, Has-last, Has-push, at-has, Pairs-pop}
use Rattle.rl_graph.proofs.PathLaws.{Reaches-self, Reaches-trans, along_moves}
use Rattle.rl_graph.proofs.SearchLaws.{open-done, open-same, done-same, unseen-open, unseen-done, top-marks, to_top, depth-in, open_one, with_marks, from_end, total-set, total-pointwise}

-- The start

place-start : (n q : ℕ) → place_of (start_of n) q ≡ Unseen
place-start n q = by (cases_lt q n)
  where
    by : (q < n) ⊎ (n ≤ q) → get_or (replicate n Unseen) q Unseen ≡ Unseen
    by (inl h) = get_or-replicate n q Unseen Unseen h
    by (inr h) = get_or_past (replicate n Unseen) q Unseen (omega (arith, length-replicate n Unseen))

unseen-replicate : (n : ℕ) → unseen (replicate n Unseen) ≡ n
unseen-replicate zero = refl
unseen-replicate (suc n) = omega (arith, unseen-replicate n)

pub started : (next : ℕ → ℕ → List ℕ) (n : ℕ) → IsSearch next n (start_of n)
started next n =
    record {
      size = length-replicate n Unseen;
      room = omega (arith, unseen-replicate n);
      listed = λ i h. absurd (omega arith);
      opened = λ q k e. absurd (unseen-open k (sym (place-start n q) ∙ e));
      forth = λ q r j k a b le. absurd (unseen-open j (sym (place-start n q) ∙ a));
      back = λ q r j k a b le none. absurd (unseen-open j (sym (place-start n q) ∙ a));
      marks_rise = tt;
      frames_rise = tt;
      first = λ h. absurd (omega arith);
      marked = λ k h. absurd h;
      framed = λ f h. absurd h;
      looked = λ f h. absurd h;
      over = λ q k e none. absurd (unseen-open k (sym (place-start n q) ∙ e));
      numbered = λ q c e. absurd (unseen-done c (sym (place-start n q) ∙ e));
      falls = λ q c l m e. absurd (unseen-done c (sym (place-start n q) ∙ e));
      one_part = λ q r c a b. absurd (unseen-done c (sym (place-start n q) ∙ a));
    }

-- With no frame no state is open, and an unseen state can be opened

pub none-open : (next : ℕ → ℕ → List ℕ) (n : ℕ) (s : SearchState) → IsSearch next n s → s.frames ≡ [] → (q k : ℕ) → place_of s q ≡ Open k → ⊥
none-open next n s h e q k o =
    let f = h.marked 0 (h.first (omega (arith, (h.opened q k o).0))) in
    subst (Has f.0) e f.1

pub open_root : (next : ℕ → ℕ → List ℕ) (n : ℕ) (s : SearchState) (w : ℕ) → IsSearch next n s → s.frames ≡ [] → w < n → place_of s w ≡ Unseen → IsSearch next n (opened s w)
open_root next n s w h e i u = open_one next n s w h i u (λ q k o. absurd (none-open next n s h e q k o))

-- A state without a move done at once

unseen-closed_at : (places : List SearchPlace) (w c : ℕ) → w < length places → get_or places w Unseen ≡ Unseen → unseen (set places w (Done c)) + 1 ≡ unseen places
unseen-closed_at places w c h e =
    omega (arith, total-set (λ p. one (is_unseen p)) places w (Done c) Unseen h, ap (λ p. one (is_unseen p)) e)

pub alone : (next : ℕ → ℕ → List ℕ) (n : ℕ) (s : SearchState) (w : ℕ) → IsSearch next n s → s.frames ≡ [] → w < n → place_of s w ≡ Unseen → ((l : ℕ) → next w l ≡ []) → IsSearch next n (closed_alone s w)
alone next n s w h e i u idle =
    record {
      size = length-set s.places w (Done s.parts) ∙ h.size;
      room = omega (arith, h.room, unseen-closed_at s.places w s.parts fits u);
      listed = λ k lt. absurd (none-open next n s h e (get_or s.open_states k 0) k (h.listed k lt));
      opened = λ q k o. absurd (none q k o);
      forth = λ q r j k a b le. absurd (none q j a);
      back = λ q r j k a b le m. absurd (none q j a);
      marks_rise = h.marks_rise;
      frames_rise = h.frames_rise;
      first = h.first;
      marked = h.marked;
      framed = λ f j. absurd (subst (Has f) e j);
      looked = λ f j. absurd (subst (Has f) e j);
      over = λ q k o. absurd (none q k o);
      numbered = λ q c o. to_numbered q c (split q (Done c) o);
      falls = λ q c l m o j. to_falls q c l m j (split q (Done c) o);
      one_part = λ q r c a b. to_one q r c (split q (Done c) a) (split r (Done c) b);
    }
  where
    fits : w < length s.places
    fits = omega (arith, h.size)

    split : (q : ℕ) (p : SearchPlace) → place_of (closed_alone s w) q ≡ p → ((q ≡ w) × (Done s.parts ≡ p)) ⊎ (place_of s q ≡ p)
    split q p o = by (cases_eq q w)
      where
        by : (q ≡ w) ⊎ (q ≢ w) → ((q ≡ w) × (Done s.parts ≡ p)) ⊎ (place_of s q ≡ p)
        by (inl j) = inl (j, sym (get_or-set_same s.places w (Done s.parts) Unseen fits) ∙ (ap (place_of (closed_alone s w)) (sym j) ∙ o))
        by (inr j) = inr (sym (get_or-set_other s.places w q (Done s.parts) Unseen j) ∙ o)

    none : (q k : ℕ) → place_of (closed_alone s w) q ≡ Open k → ⊥
    none q k o = by (split q (Open k) o)
      where
        by : ((q ≡ w) × (Done s.parts ≡ Open k)) ⊎ (place_of s q ≡ Open k) → ⊥
        by (inl j) = open-done k s.parts (sym j.1)
        by (inr j) = none-open next n s h e q k j

    kept : (q c : ℕ) → place_of s q ≡ Done c → place_of (closed_alone s w) q ≡ Done c
    kept q c o = get_or-set_other s.places w q (Done s.parts) Unseen (λ j. unseen-done c (sym u ∙ (ap (place_of s) (sym j) ∙ o))) ∙ o

    to_numbered : (q c : ℕ) → ((q ≡ w) × (Done s.parts ≡ Done c)) ⊎ (place_of s q ≡ Done c) → c < s.parts + 1
    to_numbered q c (inl a) = omega (arith, done-same s.parts c a.1)
    to_numbered q c (inr a) = omega (arith, h.numbered q c a)

    to_falls : (q c l m : ℕ) → Has m (next q l) → ((q ≡ w) × (Done s.parts ≡ Done c)) ⊎ (place_of s q ≡ Done c) → (d : ℕ) × (place_of (closed_alone s w) m ≡ Done d) × (d ≤ c)
    to_falls q c l m j (inl a) = absurd (subst (Has m) (ap (λ z. next z l) a.0 ∙ idle l) j)
    to_falls q c l m j (inr a) = let d = h.falls q c l m a j in (d.0, kept m d.0 d.1, d.2)

    to_one : (q r c : ℕ) → ((q ≡ w) × (Done s.parts ≡ Done c)) ⊎ (place_of s q ≡ Done c) → ((r ≡ w) × (Done s.parts ≡ Done c)) ⊎ (place_of s r ≡ Done c) → Reaches next q r
    to_one q r c (inl a) (inl b) = subst (Reaches next q) (a.0 ∙ sym b.0) (Reaches-self next q)
    to_one q r c (inl a) (inr b) = absurd (omega (arith, h.numbered r c b, done-same s.parts c a.1))
    to_one q r c (inr a) (inl b) = absurd (omega (arith, h.numbered q c a, done-same s.parts c b.1))
    to_one q r c (inr a) (inr b) = h.one_part q r c a b

-- A state finished in the middle of a group

all-looked : (next : ℕ → ℕ → List ℕ) (n : ℕ) (t : SearchState) (f : Frame) → IsSearch next n (with_top t f) → IsPast next f → (l m : ℕ) → Has m (next f.state l) → Settled t f.depth m
all-looked next n t f s end l m h =
    let i = at-has m (next f.state l) h in
    s.looked f (Has-last f t.frames) l i.0 m i.1 (by (cases_lt l f.letter))
  where
    by : (l < f.letter) ⊎ (f.letter ≤ l) → Before l (at-has m (next f.state l) h).0 f
    by (inl j) = inl j
    by (inr j) = absurd (subst (Has m) (end l j) h)

-- The one open state at the depth of the top frame is that frame's.
at-top : (next : ℕ → ℕ → List ℕ) (n : ℕ) (t : SearchState) (f : Frame) (q k : ℕ) → IsSearch next n (with_top t f) → place_of t q ≡ Open k → k ≡ f.depth → q ≡ f.state
at-top next n t f q k s o e =
    sym (s.opened q k o).1 ∙ (ap (λ z. get_or t.open_states z 0) e ∙ (s.opened f.state f.depth (s.framed f (Has-last f t.frames))).1)

pub popped : (next : ℕ → ℕ → List ℕ) (n : ℕ) (t : SearchState) (f : Frame) → IsSearch next n (with_top t f) → IsPast next f → ((ms : List ℕ) → t.marks ≢ ms ++ f.depth ∷ []) → IsSearch next n t
popped next n t f s end unmarked =
    record {
      size = s.size;
      room = s.room;
      listed = s.listed;
      opened = s.opened;
      forth = s.forth;
      back = s.back;
      marks_rise = s.marks_rise;
      frames_rise = (Pairs-pop (λ x y. x.depth < y.depth) t.frames f s.frames_rise).0;
      first = s.first;
      marked = λ k i. let g = s.marked k i in to_marked k i g.0 g.2 (Has-push g.0 f t.frames g.1);
      framed = λ g i. s.framed g (Has-left g t.frames (f ∷ []) i);
      looked = λ g i. s.looked g (Has-left g t.frames (f ∷ []) i);
      over = λ q k o none. to_over q k o none (cases_eq k f.depth);
      numbered = s.numbered;
      falls = s.falls;
      one_part = s.one_part;
    }
  where
    not_last : (k : ℕ) → Has k t.marks → k ≡ f.depth → ⊥
    not_last k h e = by (from_end t.marks)
      where
        by : (t.marks ≡ []) ⊎ ((ms : List ℕ) × (x : ℕ) × (t.marks ≡ ms ++ x ∷ [])) → ⊥
        by (inl i) = subst (Has k) i h
        by (inr r) = last (Has-push k r.1 r.0 (subst (Has k) r.2 h))
          where
            top : r.1 ≤ f.depth
            top = top-marks next n t f s r.1 (subst (Has r.1) (sym r.2) (Has-last r.1 r.0))

            last : Has k r.0 ⊎ (k ≡ r.1) → ⊥
            last (inl i) = omega (arith, top, (Pairs-pop (λ x y. x < y) r.0 r.1 (subst (Pairs (λ x y. x < y)) r.2 s.marks_rise)).1 k i)
            last (inr i) = unmarked r.0 (r.2 ∙ ap (λ (z : ℕ). r.0 ++ z ∷ []) (sym i ∙ e))

    to_marked : (k : ℕ) → Has k t.marks → (g : Frame) → g.depth ≡ k → Has g t.frames ⊎ (g ≡ f) → (x : Frame) × Has x t.frames × (x.depth ≡ k)
    to_marked k h g e (inl i) = (g, i, e)
    to_marked k h g e (inr i) = absurd (not_last k h (sym e ∙ ap (λ (z : Frame). z.depth) i))

    to_over : (q k : ℕ) → place_of t q ≡ Open k → ((g : Frame) → Has g t.frames → g.depth ≢ k) → (k ≡ f.depth) ⊎ (k ≢ f.depth) → (l m : ℕ) → Has m (next q l) → Settled t k m
    to_over q k o none (inl e) l m h =
        subst (λ (z : ℕ). Settled t z m) (sym e) (all-looked next n t f s end l m (subst (λ (z : ℕ). Has m (next z l)) (at-top next n t f q k s o e) h))
    to_over q k o none (inr e) l m h = s.over q k o (λ g i. by g (Has-push g f t.frames i)) l m h
      where
        by : (g : Frame) → Has g t.frames ⊎ (g ≡ f) → g.depth ≢ k
        by g (inl i) j = none g i j
        by g (inr i) j = e (sym j ∙ ap (λ (z : Frame). z.depth) i)

-- A group closed

closed-open : (k c j : ℕ) → j < k → closed_place k c (Open j) ≡ Open j
closed-open k c j h = rw (lt-leb k j h) refl

closed-done : (k c j : ℕ) → k ≤ j → closed_place k c (Open j) ≡ Done c
closed-done k c j h = rw (le-leb k j h) refl

was-open : (k c j : ℕ) (p : SearchPlace) → closed_place k c p ≡ Open j → (p ≡ Open j) × (j < k)
was-open k c j Unseen e = absurd (unseen-open j e)
was-open k c j (Done d) e = absurd (open-done j d (sym e))
was-open k c j (Open i) e = by (cases_lt i k)
  where
    by : (i < k) ⊎ (k ≤ i) → (Open i ≡ Open j) × (j < k)
    by (inl h) = let r = sym (closed-open k c i h) ∙ e in (r, omega (arith, open-same i j r))
    by (inr h) = absurd (open-done j c (sym e ∙ closed-done k c i h))

was-done : (k c d : ℕ) (p : SearchPlace) → closed_place k c p ≡ Done d → (p ≡ Done d) ⊎ ((j : ℕ) × (p ≡ Open j) × (k ≤ j) × (d ≡ c))
was-done k c d Unseen e = absurd (unseen-done d e)
was-done k c d (Done x) e = inl e
was-done k c d (Open i) e = by (cases_lt i k)
  where
    by : (i < k) ⊎ (k ≤ i) → (Open i ≡ Done d) ⊎ ((j : ℕ) × (Open i ≡ Open j) × (k ≤ j) × (d ≡ c))
    by (inl h) = absurd (open-done i d (sym (closed-open k c i h) ∙ e))
    by (inr h) = inr (i, refl, h, done-same d c (sym e ∙ closed-done k c i h))

pub closed-unseen : (k c : ℕ) (p : SearchPlace) → is_unseen (closed_place k c p) ≡ is_unseen p
closed-unseen k c Unseen = refl
closed-unseen k c (Done d) = refl
closed-unseen k c (Open i) = by (cases_lt i k)
  where
    by : (i < k) ⊎ (k ≤ i) → is_unseen (closed_place k c (Open i)) ≡ false
    by (inl h) = ap is_unseen (closed-open k c i h)
    by (inr h) = ap is_unseen (closed-done k c i h)

pub unseen-closed : (k : ℕ) (s u : SearchState) → IsClosed k s u → unseen u.places ≡ unseen s.places
unseen-closed k s u c =
    total-pointwise (λ p. one (is_unseen p)) Unseen u.places s.places c.size (λ q. ap one (ap is_unseen (c.places q) ∙ closed-unseen k s.parts (place_of s q)))

pub closed : (next : ℕ → ℕ → List ℕ) (n : ℕ) (t u : SearchState) (f : Frame) (ms : List ℕ) → IsSearch next n (with_top t f) → IsPast next f → t.marks ≡ ms ++ f.depth ∷ [] → IsClosed f.depth (with_marks t ms) u → IsSearch next n u
closed next n t u f ms s end em c =
    record {
      size = c.size ∙ s.size;
      room = omega (arith, s.room, unseen-closed f.depth (with_marks t ms) u c, c.parts, short, inside);
      listed = λ i h. to_listed i (omega (arith, short));
      opened = λ q j e. to_opened q j (open_before q j e);
      forth = λ q r i j x y le. s.forth q r i j (open_before q i x).0 (open_before r j y).0 le;
      back = λ q r i j x y le none. s.back q r i j (open_before q i x).0 (open_before r j y).0 le (no_mark i j (open_before r j y).1 none);
      marks_rise = subst (Pairs (λ x y. x < y)) (sym c.marks) marks.0;
      frames_rise = subst (Pairs (λ x y. x.depth < y.depth)) (sym c.frames) frames.0;
      first = λ h. subst (Has 0) (sym c.marks) (to_first (omega (arith, short)) (Has-push 0 f.depth ms (subst (Has 0) em (s.first (omega (arith, inside))))));
      marked = λ x i. to_marked x (subst (Has x) c.marks i);
      framed = λ g i. to_framed g (subst (Has g) c.frames i);
      looked = λ g i l m x e y. let j = subst (Has g) c.frames i in settle g.depth x (frames.1 g j) (s.looked g (Has-left g t.frames (f ∷ []) j) l m x e y);
      over = λ q j e none l m i. to_over q j (open_before q j e) (λ g h. none g (subst (Has g) (sym c.frames) h)) l m i;
      numbered = λ q d e. to_numbered q d (done_before q d e);
      falls = λ q d l m e i. to_falls q d l m i (done_before q d e);
      one_part = λ q r d x y. to_one q r d (done_before q d x) (done_before r d y);
    }
  where
    inside : f.depth < length t.open_states
    inside = depth-in next n (with_top t f) f s (Has-last f t.frames)

    short : length u.open_states ≡ f.depth
    short = ap length c.open_states ∙ length-take-le f.depth t.open_states (omega (arith, inside))

    marks : Pairs (λ x y. x < y) ms × ((x : ℕ) → Has x ms → x < f.depth)
    marks = Pairs-pop (λ x y. x < y) ms f.depth (subst (Pairs (λ x y. x < y)) em s.marks_rise)

    frames : Pairs (λ x y. x.depth < y.depth) t.frames × ((x : Frame) → Has x t.frames → x.depth < f.depth)
    frames = Pairs-pop (λ x y. x.depth < y.depth) t.frames f s.frames_rise

    open_before : (q j : ℕ) → place_of u q ≡ Open j → (place_of t q ≡ Open j) × (j < f.depth)
    open_before q j e = was-open f.depth t.parts j (place_of t q) (sym (c.places q) ∙ e)

    done_before : (q d : ℕ) → place_of u q ≡ Done d → (place_of t q ≡ Done d) ⊎ ((j : ℕ) × (place_of t q ≡ Open j) × (f.depth ≤ j) × (d ≡ t.parts))
    done_before q d e = was-done f.depth t.parts d (place_of t q) (sym (c.places q) ∙ e)

    open_after : (q j : ℕ) → place_of t q ≡ Open j → j < f.depth → place_of u q ≡ Open j
    open_after q j e h = c.places q ∙ (ap (closed_place f.depth t.parts) e ∙ closed-open f.depth t.parts j h)

    close_after : (q j : ℕ) → place_of t q ≡ Open j → f.depth ≤ j → place_of u q ≡ Done t.parts
    close_after q j e h = c.places q ∙ (ap (closed_place f.depth t.parts) e ∙ closed-done f.depth t.parts j h)

    done_after : (q d : ℕ) → place_of t q ≡ Done d → place_of u q ≡ Done d
    done_after q d e = c.places q ∙ ap (closed_place f.depth t.parts) e

    at_open : (i : ℕ) → i < f.depth → get_or u.open_states i 0 ≡ get_or t.open_states i 0
    at_open i h = ap (λ (z : List ℕ). get_or z i 0) c.open_states ∙ get_or-take f.depth t.open_states i 0 h

    to_listed : (i : ℕ) → i < f.depth → place_of u (get_or u.open_states i 0) ≡ Open i
    to_listed i h = ap (place_of u) (at_open i h) ∙ open_after (get_or t.open_states i 0) i (s.listed i (omega (arith, inside))) h

    to_opened : (q j : ℕ) → (place_of t q ≡ Open j) × (j < f.depth) → (j < length u.open_states) × (get_or u.open_states j 0 ≡ q)
    to_opened q j e = (omega (arith, short, e.1), at_open j e.1 ∙ (s.opened q j e.0).1)

    no_mark : (i j : ℕ) → j < f.depth → NoMark u.marks i j → NoMark t.marks i j
    no_mark i j h none x m le = by (Has-push x f.depth ms (subst (Has x) em m))
      where
        by : Has x ms ⊎ (x ≡ f.depth) → x ≤ i
        by (inl y) = none x (subst (Has x) (sym c.marks) y) le
        by (inr y) = absurd (omega arith)

    to_first : 0 < f.depth → Has 0 ms ⊎ (0 ≡ f.depth) → Has 0 ms
    to_first h (inl i) = i
    to_first h (inr i) = absurd (omega arith)

    to_marked : (x : ℕ) → Has x ms → (g : Frame) × Has g u.frames × (g.depth ≡ x)
    to_marked x i = let g = s.marked x (subst (Has x) (sym em) (Has-left x ms (f.depth ∷ []) i)) in by g.0 g.2 (Has-push g.0 f t.frames g.1)
      where
        by : (g : Frame) → g.depth ≡ x → Has g t.frames ⊎ (g ≡ f) → (g : Frame) × Has g u.frames × (g.depth ≡ x)
        by g e (inl y) = (g, subst (Has g) (sym c.frames) y, e)
        by g e (inr y) = absurd (omega (arith, marks.1 x i, ap (λ (z : Frame). z.depth) y))

    to_framed : (g : Frame) → Has g t.frames → place_of u g.state ≡ Open g.depth
    to_framed g i = open_after g.state g.depth (s.framed g (Has-left g t.frames (f ∷ []) i)) (frames.1 g i)

    settle_at : (p x : ℕ) → place_of t x ≡ Open p → (k : ℕ) → NoMark t.marks p k → (p < f.depth) ⊎ (f.depth ≤ p) → Settled u k x
    settle_at p x e k none (inl h) = inr (p, open_after x p e h, λ y i le. none y (subst (Has y) (sym em) (Has-left y ms (f.depth ∷ []) (subst (Has y) c.marks i))) le)
    settle_at p x e k none (inr h) = inl (t.parts, close_after x p e h)

    settle : (k x : ℕ) → k < f.depth → Settled t k x → Settled u k x
    settle k x h (inl d) = inl (d.0, done_after x d.0 d.1)
    settle k x h (inr o) = settle_at o.0 x o.1 k o.2 (cases_lt o.0 f.depth)

    to_over : (q j : ℕ) → (place_of t q ≡ Open j) × (j < f.depth) → ((g : Frame) → Has g t.frames → g.depth ≢ j) → (l m : ℕ) → Has m (next q l) → Settled u j m
    to_over q j e none l m i = settle j m e.1 (s.over q j e.0 (λ g h. by g (Has-push g f t.frames h)) l m i)
      where
        by : (g : Frame) → Has g t.frames ⊎ (g ≡ f) → g.depth ≢ j
        by g (inl y) z = none g y z
        by g (inr y) z = omega (arith, e.1, ap (λ (z : Frame). z.depth) y)

    to_numbered : (q d : ℕ) → (place_of t q ≡ Done d) ⊎ ((j : ℕ) × (place_of t q ≡ Open j) × (f.depth ≤ j) × (d ≡ t.parts)) → d < u.parts
    to_numbered q d (inl e) = omega (arith, s.numbered q d e, c.parts)
    to_numbered q d (inr e) = omega (arith, e.3, c.parts)

    -- A target of a state of the group is done now, with the group's number or a smaller one.
    settled_done : (j m : ℕ) → f.depth ≤ j → Settled t j m → (d : ℕ) × (place_of u m ≡ Done d) × (d ≤ t.parts)
    settled_done j m h (inl d) = (d.0, done_after m d.0 d.1, omega (arith, s.numbered m d.0 d.1))
    settled_done j m h (inr o) = (t.parts, close_after m o.0 o.1 (o.2 f.depth (subst (Has f.depth) (sym em) (Has-last f.depth ms)) h), omega arith)

    settled_in : (q j : ℕ) → place_of t q ≡ Open j → f.depth ≤ j → (l m : ℕ) → Has m (next q l) → (j ≡ f.depth) ⊎ (j ≢ f.depth) → Settled t j m
    settled_in q j o h l m i (inl e) =
        subst (λ (z : ℕ). Settled t z m) (sym e) (all-looked next n t f s end l m (subst (λ (z : ℕ). Has m (next z l)) (at-top next n t f q j s o e) i))
    settled_in q j o h l m i (inr e) = s.over q j o (λ g y. by g (Has-push g f t.frames y)) l m i
      where
        by : (g : Frame) → Has g t.frames ⊎ (g ≡ f) → g.depth ≢ j
        by g (inl y) z = omega (arith, frames.1 g y)
        by g (inr y) z = e (sym z ∙ ap (λ (z : Frame). z.depth) y)

    to_falls : (q d l m : ℕ) → Has m (next q l) → (place_of t q ≡ Done d) ⊎ ((j : ℕ) × (place_of t q ≡ Open j) × (f.depth ≤ j) × (d ≡ t.parts)) → (e : ℕ) × (place_of u m ≡ Done e) × (e ≤ d)
    to_falls q d l m i (inl e) = let r = s.falls q d l m e i in (r.0, done_after m r.0 r.1, r.2)
    to_falls q d l m i (inr e) =
        let r = settled_done e.0 m e.2 (settled_in q e.0 e.1 e.2 l m i (cases_eq e.0 f.depth)) in
        (r.0, r.1, omega (arith, r.2, e.3))

    to_one : (q r d : ℕ) → (place_of t q ≡ Done d) ⊎ ((j : ℕ) × (place_of t q ≡ Open j) × (f.depth ≤ j) × (d ≡ t.parts)) → (place_of t r ≡ Done d) ⊎ ((j : ℕ) × (place_of t r ≡ Open j) × (f.depth ≤ j) × (d ≡ t.parts)) → Reaches next q r
    to_one q r d (inl x) (inl y) = s.one_part q r d x y
    to_one q r d (inl x) (inr y) = absurd (omega (arith, s.numbered q d x, y.3))
    to_one q r d (inr x) (inl y) = absurd (omega (arith, s.numbered r d y, x.3))
    to_one q r d (inr x) (inr y) =
        Reaches-trans next q f.state r (to_top next n t f s q x.0 x.1) (s.forth f.state r f.depth y.0 (s.framed f (Has-last f t.frames)) y.1 y.2)

-- A state finished, in either case.
pub finished : (next : ℕ → ℕ → List ℕ) (n : ℕ) (t u : SearchState) (f : Frame) → IsSearch next n (with_top t f) → IsPast next f → IsFinished f.depth t u → IsSearch next n u
finished next n t u f s end (inl r) = closed next n t u f r.0 s end r.1 r.2
finished next n t u f s end (inr r) = subst (IsSearch next n) (sym r.1) (popped next n t f s end r.0)

pub finished-unseen : (k : ℕ) (t u : SearchState) → IsFinished k t u → unseen u.places ≡ unseen t.places
finished-unseen k t u (inl r) = unseen-closed k (with_marks t r.0) u r.2
finished-unseen k t u (inr r) = ap (λ (z : SearchState). unseen z.places) r.1

pub finished-frames : (k : ℕ) (t u : SearchState) → IsFinished k t u → u.frames ≡ t.frames
finished-frames k t u (inl r) = r.2.frames
finished-frames k t u (inr r) = ap (λ (z : SearchState). z.frames) r.1

-- The end: every state is done

-- What is reached from a done state is done, with a number that isn't greater.
pub done-falls : (next : ℕ → ℕ → List ℕ) (n : ℕ) (s : SearchState) → IsSearch next n s → (q r c : ℕ) → place_of s q ≡ Done c → Reaches next q r → (d : ℕ) × (place_of s r ≡ Done d) × (d ≤ c)
done-falls next n s h q r c e w =
    along_moves (λ x. (d : ℕ) × (place_of s x ≡ Done d) × (d ≤ c)) next step q r w.0 (c, e, omega arith) w.1
  where
    step : (q l m : ℕ) → ((d : ℕ) × (place_of s q ≡ Done d) × (d ≤ c)) → Has m (next q l) → (d : ℕ) × (place_of s m ≡ Done d) × (d ≤ c)
    step q l m d i = let f = h.falls q d.0 l m d.1 i in (f.0, f.1, omega (arith, f.2, d.2))

pub done-order : (next : ℕ → ℕ → List ℕ) (n : ℕ) (s : SearchState) → IsSearch next n s → (q r c d : ℕ) → place_of s q ≡ Done c → place_of s r ≡ Done d → Reaches next q r → d ≤ c
done-order next n s h q r c d a b w =
    let f = done-falls next n s h q r c a w in
    omega (arith, f.2, done-same f.0 d (sym f.1 ∙ b))

pub done-same_part : (next : ℕ → ℕ → List ℕ) (n : ℕ) (s : SearchState) → IsSearch next n s → (q r c d : ℕ) → place_of s q ≡ Done c → place_of s r ≡ Done d → (c ≡ d) ↔ (Reaches next q r × Reaches next r q)
done-same_part next n s h q r c d a b = (
  λ e. (h.one_part q r c a (b ∙ ap Done (sym e)), h.one_part r q c (b ∙ ap Done (sym e)) a),
  λ w. le_antisymm (done-order next n s h r q d c b a w.1) (done-order next n s h q r c d a b w.0),
)
