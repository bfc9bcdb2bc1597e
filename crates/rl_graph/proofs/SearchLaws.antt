-- The steps of the search for parts: each keeps `IsSearch`.
use Rattle.std.proofs.Common.{◌≡◌, ◌≢◌, ℕ, zero, suc, ◌+◌, ◌<◌, ◌≤◌, ◌⊎◌, inl, inr, List, [], ◌∷◌, ◌++◌, length, get_or, set, slice_get, Some, refl, sym, ◌∙◌, ap, ap₂, subst, arith, length-set, get_or-set_same, get_or-set_other}
use Rattle.std.proofs.lemmas.Bool.{cases_eq, cases_lt}
use Rattle.std.proofs.lemmas.List.{length_push, get_or_push, get_or_append_left}
use Rattle.rl_graph.specs.declared.parts.SearchPlace.{SearchPlace}
use Rattle.rl_graph.specs.declared.parts.SearchPlace.TheVariants.{Unseen, Open, Done}
use Rattle.rl_graph.specs.declared.parts.Frame.{Frame}
use Rattle.rl_graph.specs.Paths.{total, one, Has, Pairs, Reaches}
use Rattle.rl_graph.specs.internal.Search.{SearchState, place_of, is_unseen, unseen, NoMark, Settled, Before, IsSearch, with_top, first_frame, opened, IsCut}
use Rattle.rl_graph.proofs.Sums.{Has-left, Has-append, Has-last, Has-push, at-short, Each-has, each-has, Pairs-push, Pairs-pop}
use Rattle.rl_graph.proofs.PathLaws.{Reaches-self, Reaches-move, Reaches-trans}

-- Places

pub open-done : (k c : ℕ) → Open k ≡ Done c → ⊥
open-done k c e = cc

pub unseen-open : (k : ℕ) → Unseen ≡ Open k → ⊥
unseen-open k e = cc

pub unseen-done : (c : ℕ) → Unseen ≡ Done c → ⊥
unseen-done c e = cc

pub open-same : (j k : ℕ) → Open j ≡ Open k → j ≡ k
open-same j k e = cc

pub done-same : (c d : ℕ) → Done c ≡ Done d → c ≡ d
done-same c d e = cc

-- Sums over places

pub total-set : {A : Type 0} (f : A → ℕ) (l : List A) (i : ℕ) (x d : A) → i < length l → total f (set l i x) + f (get_or l i d) ≡ total f l + f x
total-set f [] i x d h = absurd (omega arith)
total-set f (a ∷ l) zero x d h = omega arith
total-set f (a ∷ l) (suc i) x d h = omega (arith, total-set f l i x d (omega arith))

pub total-pointwise : {A : Type 0} (f : A → ℕ) (d : A) (l k : List A) → length l ≡ length k → ((i : ℕ) → f (get_or l i d) ≡ f (get_or k i d)) → total f l ≡ total f k
total-pointwise f d [] [] e h = refl
total-pointwise f d [] (b ∷ k) e h = absurd (omega arith)
total-pointwise f d (a ∷ l) [] e h = absurd (omega arith)
total-pointwise f d (a ∷ l) (b ∷ k) e h = omega (arith, h 0, total-pointwise f d l k (omega arith) (λ i. h (suc i)))

seen : SearchPlace → ℕ
seen p = one (is_unseen p)

pub unseen-set : (places : List SearchPlace) (w k : ℕ) → w < length places → get_or places w Unseen ≡ Unseen → unseen (set places w (Open k)) + 1 ≡ unseen places
unseen-set places w k h e =
    omega (arith, total-set (λ p. one (is_unseen p)) places w (Open k) Unseen h, ap (λ p. one (is_unseen p)) e)

-- The frame on top

top-frame : (t : SearchState) (f : Frame) → Has f (with_top t f).frames
top-frame t f = Has-last f t.frames

below_top : (next : ℕ → ℕ → List ℕ) (n : ℕ) (t : SearchState) (f g : Frame) → IsSearch next n (with_top t f) → Has g t.frames → g.depth < f.depth
below_top next n t f g s h = (Pairs-pop (λ x y. x.depth < y.depth) t.frames f s.frames_rise).1 g h

pub depth-in : (next : ℕ → ℕ → List ℕ) (n : ℕ) (s : SearchState) (f : Frame) → IsSearch next n s → Has f s.frames → f.depth < length s.open_states
depth-in next n s f h i = (h.opened f.state f.depth (h.framed f i)).0

-- Each mark is at the depth of the top frame or below.
pub top-marks : (next : ℕ → ℕ → List ℕ) (n : ℕ) (t : SearchState) (f : Frame) → IsSearch next n (with_top t f) → (x : ℕ) → Has x t.marks → x ≤ f.depth
top-marks next n t f s x h = let g = s.marked x h in by g.0 g.2 (Has-push g.0 f t.frames g.1)
  where
    by : (g : Frame) → g.depth ≡ x → Has g t.frames ⊎ (g ≡ f) → x ≤ f.depth
    by g e (inl i) = omega (arith, below_top next n t f g s i)
    by g e (inr i) = omega (arith, ap (λ (z : Frame). z.depth) i)

-- Each open state reaches the state of the top frame.
pub to_top : (next : ℕ → ℕ → List ℕ) (n : ℕ) (t : SearchState) (f : Frame) → IsSearch next n (with_top t f) → (r k : ℕ) → place_of t r ≡ Open k → Reaches next r f.state
to_top next n t f s r k o = by (cases_lt f.depth k)
  where
    by : (f.depth < k) ⊎ (k ≤ f.depth) → Reaches next r f.state
    by (inr h) = s.forth r f.state k f.depth o (s.framed f (top-frame t f)) h
    by (inl h) = s.back f.state r f.depth k (s.framed f (top-frame t f)) o (omega arith) (λ x i j. top-marks next n t f s x i)

-- Another frame of the same state on top.
pub retop : (next : ℕ → ℕ → List ℕ) (n : ℕ) (t : SearchState) (f g : Frame) → IsSearch next n (with_top t f) → g.state ≡ f.state → g.depth ≡ f.depth → ((l i m : ℕ) → slice_get (next f.state l) i ≡ Some m → Before l i g → Settled t f.depth m) → IsSearch next n (with_top t g)
retop next n t f g s es ed look =
    record {
      size = s.size;
      room = s.room;
      listed = s.listed;
      opened = s.opened;
      forth = s.forth;
      back = s.back;
      marks_rise = s.marks_rise;
      frames_rise = Pairs-push (λ x y. x.depth < y.depth) t.frames g (Pairs-pop (λ x y. x.depth < y.depth) t.frames f s.frames_rise).0 (λ h i. omega (arith, below_top next n t f h s i));
      first = s.first;
      marked = λ k i. let h = s.marked k i in mark k h.0 h.2 (Has-push h.0 f t.frames h.1);
      framed = λ h i. frame h (Has-push h g t.frames i);
      looked = λ h i. look_at h (Has-push h g t.frames i);
      over = λ q k o none. s.over q k o (λ h i. not_one k none h (Has-push h f t.frames i));
      numbered = s.numbered;
      falls = s.falls;
      one_part = s.one_part;
    }
  where
    mark : (k : ℕ) (h : Frame) → h.depth ≡ k → Has h t.frames ⊎ (h ≡ f) → (x : Frame) × Has x (t.frames ++ g ∷ []) × (x.depth ≡ k)
    mark k h e (inl i) = (h, Has-left h t.frames (g ∷ []) i, e)
    mark k h e (inr i) = (g, Has-last g t.frames, omega (arith, ap (λ (z : Frame). z.depth) i))

    frame : (h : Frame) → Has h t.frames ⊎ (h ≡ g) → place_of t h.state ≡ Open h.depth
    frame h (inl i) = s.framed h (Has-left h t.frames (f ∷ []) i)
    frame h (inr i) =
        subst (λ (z : Frame). place_of t z.state ≡ Open z.depth) (sym i)
        (ap (place_of t) es ∙ (s.framed f (top-frame t f) ∙ ap Open (sym ed)))

    look_at : (h : Frame) → Has h t.frames ⊎ (h ≡ g) → (l i m : ℕ) → slice_get (next h.state l) i ≡ Some m → Before l i h → Settled t h.depth m
    look_at h (inl j) = s.looked h (Has-left h t.frames (f ∷ []) j)
    look_at h (inr j) =
        subst (λ (z : Frame). (l i m : ℕ) → slice_get (next z.state l) i ≡ Some m → Before l i z → Settled t z.depth m) (sym j)
        (λ l i m e b. subst (λ (d : ℕ). Settled t d m) (sym ed) (look l i m (subst (λ (q : ℕ). slice_get (next q l) i ≡ Some m) es e) b))

    not_one : (k : ℕ) → ((h : Frame) → Has h (t.frames ++ g ∷ []) → h.depth ≢ k) → (h : Frame) → Has h t.frames ⊎ (h ≡ f) → h.depth ≢ k
    not_one k none h (inl i) e = none h (Has-left h t.frames (g ∷ []) i) e
    not_one k none h (inr i) e = none g (Has-last g t.frames) (omega (arith, ap (λ (z : Frame). z.depth) i))

-- The frame after its next move was looked at.
abbrev pub moved_on : Frame → Frame
moved_on f = record f { number = f.number + 1 }

-- The frame at the first move on the next letter.
abbrev pub turned : Frame → Frame
turned f = record f { letter = f.letter + 1; number = 0 }

pub move_on : (next : ℕ → ℕ → List ℕ) (n : ℕ) (t : SearchState) (f : Frame) (m : ℕ) → IsSearch next n (with_top t f) → slice_get (next f.state f.letter) f.number ≡ Some m → Settled t f.depth m → IsSearch next n (with_top t (moved_on f))
move_on next n t f m s here settled = retop next n t f (moved_on f) s refl refl (λ l i x e b. by l i x e b)
  where
    same : (l i x : ℕ) → slice_get (next f.state l) i ≡ Some x → l ≡ f.letter → i ≡ f.number → Settled t f.depth x
    same l i x e a b =
        let k : Some m ≡ Some x = sym here ∙ (sym (ap₂ (λ u v. slice_get (next f.state u) v) a b) ∙ e) in
        let z : m ≡ x = cc in
        subst (Settled t f.depth) z settled

    later : (l i x : ℕ) → slice_get (next f.state l) i ≡ Some x → l ≡ f.letter → (i < f.number) ⊎ (f.number ≤ i) → i < f.number + 1 → Settled t f.depth x
    later l i x e a (inl h) j = s.looked f (top-frame t f) l i x e (inr (a, h))
    later l i x e a (inr h) j = same l i x e a (omega arith)

    by : (l i x : ℕ) → slice_get (next f.state l) i ≡ Some x → Before l i (moved_on f) → Settled t f.depth x
    by l i x e (inl h) = s.looked f (top-frame t f) l i x e (inl h)
    by l i x e (inr h) = later l i x e h.0 (cases_lt i f.number) h.1

pub turn : (next : ℕ → ℕ → List ℕ) (n : ℕ) (t : SearchState) (f : Frame) → IsSearch next n (with_top t f) → length (next f.state f.letter) ≤ f.number → IsSearch next n (with_top t (turned f))
turn next n t f s all = retop next n t f (turned f) s refl refl (λ l i x e b. by l i x e b)
  where
    on_letter : (l i x : ℕ) → slice_get (next f.state l) i ≡ Some x → (l < f.letter) ⊎ (f.letter ≤ l) → l < f.letter + 1 → Settled t f.depth x
    on_letter l i x e (inl h) j = s.looked f (top-frame t f) l i x e (inl h)
    on_letter l i x e (inr h) j =
        let a : l ≡ f.letter = omega arith in
        let short = at-short (next f.state l) i x e in
        s.looked f (top-frame t f) l i x e (inr (a, omega (arith, ap (λ z. length (next f.state z)) a, short)))

    by : (l i x : ℕ) → slice_get (next f.state l) i ≡ Some x → Before l i (turned f) → Settled t f.depth x
    by l i x e (inl h) = on_letter l i x e (cases_lt l f.letter) h
    by l i x e (inr h) = absurd (omega (arith, h.1))

-- Groups joined

cut-has : (p : ℕ) (old new : List ℕ) → IsCut p old new → (x : ℕ) → Has x old → x ≤ p → Has x new
cut-has p old new c x h le = by (Has-append x new c.off (subst (Has x) c.split h))
  where
    by : Has x new ⊎ Has x c.off → Has x new
    by (inl i) = i
    by (inr i) = absurd (omega (arith, c.above x i))

has-cut : (p : ℕ) (old new : List ℕ) → IsCut p old new → (x : ℕ) → Has x new → Has x old
has-cut p old new c x h = subst (Has x) (sym c.split) (Has-left x new c.off h)

Pairs-left : {A : Type 0} (R : A → A → Type 0) (l k : List A) → Pairs R (l ++ k) → Pairs R l
Pairs-left R [] k p = tt
Pairs-left R (a ∷ l) k p = (each-has (R a) l (λ x i. Each-has (R a) x (l ++ k) p.0 (Has-left x l k i)), Pairs-left R l k p.1)

-- A list that isn't empty, from its end.
pub from_end : {A : Type 0} (l : List A) → (l ≡ []) ⊎ ((ms : List A) × (x : A) × (l ≡ ms ++ x ∷ []))
from_end [] = inl refl
from_end {A = A} (a ∷ l) = by (from_end l)
  where
    by : (l ≡ []) ⊎ ((ms : List A) × (x : A) × (l ≡ ms ++ x ∷ [])) → (a ∷ l ≡ []) ⊎ ((ms : List A) × (x : A) × (a ∷ l ≡ ms ++ x ∷ []))
    by (inl e) = inr ([], a, ap (λ (z : List A). a ∷ z) e)
    by (inr r) = inr (a ∷ r.0, r.1, ap (λ (z : List A). a ∷ z) r.2)

rising-low : (p : ℕ) (new : List ℕ) → Pairs (λ x y. x < y) new → ((ms : List ℕ) (x : ℕ) → new ≡ ms ++ x ∷ [] → x ≤ p) → (x : ℕ) → Has x new → x ≤ p
rising-low p new rise low x h = by (from_end new)
  where
    by : (new ≡ []) ⊎ ((ms : List ℕ) × (y : ℕ) × (new ≡ ms ++ y ∷ [])) → x ≤ p
    by (inl e) = absurd (subst (Has x) e h)
    by (inr r) = last (Has-push x r.1 r.0 (subst (Has x) r.2 h))
      where
        last : Has x r.0 ⊎ (x ≡ r.1) → x ≤ p
        last (inl i) = omega (arith, (Pairs-pop (λ a b. a < b) r.0 r.1 (subst (Pairs (λ a b. a < b)) r.2 rise)).1 x i, low r.0 r.1 r.2)
        last (inr e) = omega (arith, low r.0 r.1 r.2)

abbrev pub with_marks : SearchState → List ℕ → SearchState
with_marks s marks = record s { marks = marks }

settled-fewer : (s : SearchState) (new : List ℕ) → ((x : ℕ) → Has x new → Has x s.marks) → (k m : ℕ) → Settled s k m → Settled (with_marks s new) k m
settled-fewer s new sub k m (inl d) = inl d
settled-fewer s new sub k m (inr o) = inr (o.0, o.1, λ x h i. o.2 x (sub x h) i)

pub cut-low : (next : ℕ → ℕ → List ℕ) (n : ℕ) (t : SearchState) (f : Frame) (p : ℕ) (new : List ℕ) → IsSearch next n (with_top t f) → IsCut p t.marks new → (x : ℕ) → Has x new → x ≤ p
cut-low next n t f p new s c = rising-low p new (Pairs-left (λ x y. x < y) new c.off (subst (Pairs (λ x y. x < y)) c.split s.marks_rise)) c.low

-- The top frame's state has a move to `w`, which is open at the depth `p`: the groups above `p` become one group.
pub joined : (next : ℕ → ℕ → List ℕ) (n : ℕ) (t : SearchState) (f : Frame) (l w p : ℕ) (new : List ℕ) → IsSearch next n (with_top t f) → Has w (next f.state l) → place_of t w ≡ Open p → IsCut p t.marks new → IsSearch next n (with_top (with_marks t new) f)
joined next n t f l w p new s move o c =
    record {
      size = s.size;
      room = s.room;
      listed = s.listed;
      opened = s.opened;
      forth = s.forth;
      back = λ q r j k a b le none. to_back q r j k a b le none (cases_lt j p) (cases_lt k p);
      marks_rise = Pairs-left (λ x y. x < y) new c.off (subst (Pairs (λ x y. x < y)) c.split s.marks_rise);
      frames_rise = s.frames_rise;
      first = λ h. cut-has p t.marks new c 0 (s.first h) (omega arith);
      marked = λ k h. s.marked k (has-cut p t.marks new c k h);
      framed = s.framed;
      looked = λ h i l j m e b. settled-fewer (with_top t f) new (has-cut p t.marks new c) h.depth m (s.looked h i l j m e b);
      over = λ q k a none l m i. settled-fewer (with_top t f) new (has-cut p t.marks new c) k m (s.over q k a none l m i);
      numbered = s.numbered;
      falls = s.falls;
      one_part = s.one_part;
    }
  where
    to_w : (r k : ℕ) → place_of t r ≡ Open k → Reaches next r w
    to_w r k b = Reaches-trans next r f.state w (to_top next n t f s r k b) (Reaches-move next f.state w l move)

    to_back : (q r j k : ℕ) → place_of t q ≡ Open j → place_of t r ≡ Open k → j ≤ k → NoMark new j k → (j < p) ⊎ (p ≤ j) → (k < p) ⊎ (p ≤ k) → Reaches next r q
    to_back q r j k a b le none (inr h) u = Reaches-trans next r w q (to_w r k b) (s.forth w q p j o a h)
    to_back q r j k a b le none (inl h) (inr i) =
        Reaches-trans next r w q (to_w r k b) (s.back q w j p a o (omega arith) (λ x m y. none x (cut-has p t.marks new c x m y) (omega arith)))
    to_back q r j k a b le none (inl h) (inl i) =
        s.back q r j k a b le (λ x m y. none x (cut-has p t.marks new c x m (omega arith)) y)

-- A state opened

place-here : (s : SearchState) (w : ℕ) → w < length s.places → place_of (opened s w) w ≡ Open (length s.open_states)
place-here s w h = get_or-set_same s.places w (Open (length s.open_states)) Unseen h

place-other : (s : SearchState) (w q : ℕ) → q ≢ w → place_of (opened s w) q ≡ place_of s q
place-other s w q ne = get_or-set_other s.places w q (Open (length s.open_states)) Unseen ne

-- The search place of a state after `w` was opened: the place of `w`, or the old place.
place-split : (s : SearchState) (w : ℕ) → w < length s.places → (q : ℕ) (p : SearchPlace) → place_of (opened s w) q ≡ p → ((q ≡ w) × (Open (length s.open_states) ≡ p)) ⊎ (place_of s q ≡ p)
place-split s w h q p e = by (cases_eq q w)
  where
    by : (q ≡ w) ⊎ (q ≢ w) → ((q ≡ w) × (Open (length s.open_states) ≡ p)) ⊎ (place_of s q ≡ p)
    by (inl i) = inl (i, sym (place-here s w h) ∙ (ap (place_of (opened s w)) (sym i) ∙ e))
    by (inr i) = inr (sym (place-other s w q i) ∙ e)

place-kept : (s : SearchState) (w q : ℕ) (p : SearchPlace) → place_of s w ≡ Unseen → (Unseen ≡ p → ⊥) → place_of s q ≡ p → place_of (opened s w) q ≡ p
place-kept s w q p u ne e = place-other s w q (λ i. ne (sym u ∙ (ap (place_of s) (sym i) ∙ e))) ∙ e

settled-open : (s : SearchState) (w k m : ℕ) → place_of s w ≡ Unseen → k < length s.open_states → Settled s k m → Settled (opened s w) k m
settled-open s w k m u h (inl d) = inl (d.0, place-kept s w m (Done d.0) u (unseen-done d.0) d.1)
settled-open s w k m u h (inr o) = inr (o.0, place-kept s w m (Open o.0) u (unseen-open o.0) o.1, λ x i j. by x j (Has-push x (length s.open_states) s.marks i))
  where
    by : (x : ℕ) → x ≤ k → Has x s.marks ⊎ (x ≡ length s.open_states) → x ≤ o.0
    by x j (inl i) = o.2 x i j
    by x j (inr e) = absurd (omega arith)

pub open_one : (next : ℕ → ℕ → List ℕ) (n : ℕ) (s : SearchState) (w : ℕ) → IsSearch next n s → w < n → place_of s w ≡ Unseen → ((q k : ℕ) → place_of s q ≡ Open k → Reaches next q w) → IsSearch next n (opened s w)
open_one next n s w h in_range u reach =
    record {
      size = length-set s.places w (Open len) ∙ h.size;
      room = omega (arith, h.room, unseen-set s.places w len fits u, length_push s.open_states w);
      listed = λ i k. to_listed i (cases_lt i len) k;
      opened = λ q k e. to_opened q k (place-split s w fits q (Open k) e);
      forth = λ q r j k a b le. to_forth q r j k le (place-split s w fits q (Open j) a) (place-split s w fits r (Open k) b);
      back = λ q r j k a b le none. to_back q r j k le none (place-split s w fits q (Open j) a) (place-split s w fits r (Open k) b);
      marks_rise = Pairs-push (λ x y. x < y) s.marks len h.marks_rise (λ x i. let f = h.marked x i in omega (arith, f.2, depth-in next n s f.0 h f.1));
      frames_rise = Pairs-push (λ x y. x.depth < y.depth) s.frames (first_frame w len) h.frames_rise (λ f i. depth-in next n s f h i);
      first = λ k. to_first (cases_lt 0 len);
      marked = λ k i. to_marked k (Has-push k len s.marks i);
      framed = λ f i. to_framed f (Has-push f (first_frame w len) s.frames i);
      looked = λ f i. to_looked f (Has-push f (first_frame w len) s.frames i);
      over = λ q k e none. to_over q k none (place-split s w fits q (Open k) e);
      numbered = λ q c e. to_numbered q c (place-split s w fits q (Done c) e);
      falls = λ q c l m e i. to_falls q c l m i (place-split s w fits q (Done c) e);
      one_part = λ q r c a b. to_one q r c (place-split s w fits q (Done c) a) (place-split s w fits r (Done c) b);
    }
  where
    len : ℕ
    len = length s.open_states

    fits : w < length s.places
    fits = omega (arith, h.size)

    is_len : (k : ℕ) → Open (length s.open_states) ≡ Open k → k ≡ length s.open_states
    is_len k e = sym (open-same (length s.open_states) k e)

    to_listed : (i : ℕ) → (i < length s.open_states) ⊎ (length s.open_states ≤ i) → i < length (s.open_states ++ w ∷ []) → place_of (opened s w) (get_or (s.open_states ++ w ∷ []) i 0) ≡ Open i
    to_listed i (inl j) k =
        rw (get_or_append_left s.open_states (w ∷ []) 0 i j) (place-kept s w (get_or s.open_states i 0) (Open i) u (unseen-open i) (h.listed i j))
    to_listed i (inr j) k =
        let e : length s.open_states ≡ i = omega (arith, length_push s.open_states w) in
        rw (get_or_push s.open_states w 0 i e) (place-here s w (omega (arith, h.size)) ∙ ap Open e)

    to_opened : (q k : ℕ) → ((q ≡ w) × (Open (length s.open_states) ≡ Open k)) ⊎ (place_of s q ≡ Open k) → (k < length (s.open_states ++ w ∷ [])) × (get_or (s.open_states ++ w ∷ []) k 0 ≡ q)
    to_opened q k (inl e) = (omega (arith, is_len k e.1, length_push s.open_states w), get_or_push s.open_states w 0 k (sym (is_len k e.1)) ∙ sym e.0)
    to_opened q k (inr e) = let o = h.opened q k e in (omega (arith, o.0, length_push s.open_states w), get_or_append_left s.open_states (w ∷ []) 0 k o.0 ∙ o.1)

    to_forth : (q r j k : ℕ) → j ≤ k → ((q ≡ w) × (Open (length s.open_states) ≡ Open j)) ⊎ (place_of s q ≡ Open j) → ((r ≡ w) × (Open (length s.open_states) ≡ Open k)) ⊎ (place_of s r ≡ Open k) → Reaches next q r
    to_forth q r j k le (inl a) (inl b) = subst (λ (x : ℕ). Reaches next q x) (a.0 ∙ sym b.0) (Reaches-self next q)
    to_forth q r j k le (inl a) (inr b) = absurd (omega (arith, is_len j a.1, (h.opened r k b).0))
    to_forth q r j k le (inr a) (inl b) = subst (λ (x : ℕ). Reaches next q x) (sym b.0) (reach q j a)
    to_forth q r j k le (inr a) (inr b) = h.forth q r j k a b le

    to_back : (q r j k : ℕ) → j ≤ k → NoMark (s.marks ++ length s.open_states ∷ []) j k → ((q ≡ w) × (Open (length s.open_states) ≡ Open j)) ⊎ (place_of s q ≡ Open j) → ((r ≡ w) × (Open (length s.open_states) ≡ Open k)) ⊎ (place_of s r ≡ Open k) → Reaches next r q
    to_back q r j k le none (inl a) (inl b) = subst (λ (x : ℕ). Reaches next r x) (b.0 ∙ sym a.0) (Reaches-self next r)
    to_back q r j k le none (inl a) (inr b) = absurd (omega (arith, is_len j a.1, (h.opened r k b).0))
    to_back q r j k le none (inr a) (inl b) =
        absurd (omega (arith, none (length s.open_states) (Has-last (length s.open_states) s.marks) (omega (arith, is_len k b.1)), (h.opened q j a).0))
    to_back q r j k le none (inr a) (inr b) = h.back q r j k a b le (λ x i. none x (Has-left x s.marks (length s.open_states ∷ []) i))

    to_first : (0 < length s.open_states) ⊎ (length s.open_states ≤ 0) → Has 0 (s.marks ++ length s.open_states ∷ [])
    to_first (inl i) = Has-left 0 s.marks (length s.open_states ∷ []) (h.first i)
    to_first (inr i) = let e : length s.open_states ≡ 0 = omega arith in subst (λ (x : ℕ). Has x (s.marks ++ length s.open_states ∷ [])) e (Has-last (length s.open_states) s.marks)

    to_marked : (k : ℕ) → Has k s.marks ⊎ (k ≡ length s.open_states) → (f : Frame) × Has f (s.frames ++ first_frame w (length s.open_states) ∷ []) × (f.depth ≡ k)
    to_marked k (inl i) = let f = h.marked k i in (f.0, Has-left f.0 s.frames (first_frame w (length s.open_states) ∷ []) f.1, f.2)
    to_marked k (inr e) = (first_frame w (length s.open_states), Has-last (first_frame w (length s.open_states)) s.frames, sym e)

    to_framed : (f : Frame) → Has f s.frames ⊎ (f ≡ first_frame w (length s.open_states)) → place_of (opened s w) f.state ≡ Open f.depth
    to_framed f (inl i) = place-kept s w f.state (Open f.depth) u (unseen-open f.depth) (h.framed f i)
    to_framed f (inr e) = subst (λ (z : Frame). place_of (opened s w) z.state ≡ Open z.depth) (sym e) (place-here s w (omega (arith, h.size)))

    to_looked : (f : Frame) → Has f s.frames ⊎ (f ≡ first_frame w (length s.open_states)) → (l i m : ℕ) → slice_get (next f.state l) i ≡ Some m → Before l i f → Settled (opened s w) f.depth m
    to_looked f (inl j) l i m e b = settled-open s w f.depth m u (depth-in next n s f h j) (h.looked f j l i m e b)
    to_looked f (inr j) l i m e b = absurd (none (subst (Before l i) j b))
      where
        none : Before l i (first_frame w (length s.open_states)) → ⊥
        none (inl x) = omega arith
        none (inr x) = omega (arith, x.1)

    to_over : (q k : ℕ) → ((f : Frame) → Has f (s.frames ++ first_frame w (length s.open_states) ∷ []) → f.depth ≢ k) → ((q ≡ w) × (Open (length s.open_states) ≡ Open k)) ⊎ (place_of s q ≡ Open k) → (l m : ℕ) → Has m (next q l) → Settled (opened s w) k m
    to_over q k none (inl e) l m i = absurd (none (first_frame w (length s.open_states)) (Has-last (first_frame w (length s.open_states)) s.frames) (sym (is_len k e.1)))
    to_over q k none (inr e) l m i = settled-open s w k m u (h.opened q k e).0 (h.over q k e (λ f j. none f (Has-left f s.frames (first_frame w (length s.open_states) ∷ []) j)) l m i)

    to_numbered : (q c : ℕ) → ((q ≡ w) × (Open (length s.open_states) ≡ Done c)) ⊎ (place_of s q ≡ Done c) → c < s.parts
    to_numbered q c (inl e) = absurd (open-done (length s.open_states) c e.1)
    to_numbered q c (inr e) = h.numbered q c e

    to_falls : (q c l m : ℕ) → Has m (next q l) → ((q ≡ w) × (Open (length s.open_states) ≡ Done c)) ⊎ (place_of s q ≡ Done c) → (d : ℕ) × (place_of (opened s w) m ≡ Done d) × (d ≤ c)
    to_falls q c l m i (inl e) = absurd (open-done (length s.open_states) c e.1)
    to_falls q c l m i (inr e) = let d = h.falls q c l m e i in (d.0, place-kept s w m (Done d.0) u (unseen-done d.0) d.1, d.2)

    to_one : (q r c : ℕ) → ((q ≡ w) × (Open (length s.open_states) ≡ Done c)) ⊎ (place_of s q ≡ Done c) → ((r ≡ w) × (Open (length s.open_states) ≡ Done c)) ⊎ (place_of s r ≡ Done c) → Reaches next q r
    to_one q r c (inl a) b = absurd (open-done (length s.open_states) c a.1)
    to_one q r c (inr a) (inl b) = absurd (open-done (length s.open_states) c b.1)
    to_one q r c (inr a) (inr b) = h.one_part q r c a b

-- The top frame's state has a move to an unseen state, which is then opened.
pub open_next : (next : ℕ → ℕ → List ℕ) (n : ℕ) (t : SearchState) (f : Frame) (l w : ℕ) → IsSearch next n (with_top t f) → w < n → place_of t w ≡ Unseen → Has w (next f.state l) → IsSearch next n (opened (with_top t f) w)
open_next next n t f l w s h u m =
    open_one next n (with_top t f) w s h u (λ q k o. Reaches-trans next q f.state w (to_top next n t f s q k o) (Reaches-move next f.state w l m))
