-- Names of places are carried through each step.
use Rattle.std.proofs.Common.{◌≡◌, ℕ, zero, suc, Bool, true, false, ◌==◌, nat_lt, List, [], ◌∷◌, ◌++◌, map, Option, None, Some, if◌then◌else◌, refl, sym, ap, ap₂, ◌∙◌}
use Rattle.rl_marks.specs.Marked.{Marked}
use Rattle.rl_marks.specs.Finds.{GroupSpan}
use Rattle.rl_marks.specs.internal.Caps.{Caps, put, opened, closed_from, closed_at, span_named, caps_named}
use Rattle.rl_marks.specs.internal.MarkItems.{Act, check, open_group, close_group, MarkItem, test_at, pass, allowed, performed, set_of}
use Rattle.rl_marks.specs.internal.Walk.{Try, goes, stops, tries}
use Rattle.rl_marks.specs.internal.Threads.{Thread, thread, items_at, spread, taken, stopped, without, distinct, moved, halted, thread_named, named}
use Rattle.rl_marks.proofs.Following.{map-join, map-followed, followed-map, followed-alike}

map_if : {A B : Type 0} (g : A → B) (b : Bool) (x y : List A) (s t : List B) → map g x ≡ s → map g y ≡ t → map g (if b then x else y) ≡ (if b then s else t)
map_if g true x y s t p q = p
map_if g false x y s t p q = q

single_if : {A B : Type 0} (g : A → B) (b : Bool) (x : A) (y : B) → g x ≡ y → map g (if b then x ∷ [] else []) ≡ (if b then y ∷ [] else [])
single_if g true x y e = ap (λ z. z ∷ []) e
single_if g false x y e = refl

map-map : {A B C : Type 0} (g : B → C) (f : A → B) (l : List A) → map g (map f l) ≡ map (λ x. g (f x)) l
map-map g f [] = refl
map-map g f (x ∷ l) = ap (λ m. g (f x) ∷ m) (map-map g f l)

put-named : (f : ℕ → ℕ) (s : GroupSpan) (l : List GroupSpan) → map (span_named f) (put s l) ≡ put (span_named f s) (map (span_named f) l)
put-named f s [] = refl
put-named f s (t ∷ l) =
    map_if (span_named f) (nat_lt s.number t.number) (s ∷ t ∷ l) (if s.number == t.number then s ∷ l else t ∷ put s l)
    (span_named f s ∷ span_named f t ∷ map (span_named f) l)
    (if s.number == t.number then span_named f s ∷ map (span_named f) l else span_named f t ∷ put (span_named f s) (map (span_named f) l))
    refl
    (map_if (span_named f) (s.number == t.number) (s ∷ l) (t ∷ put s l) (span_named f s ∷ map (span_named f) l) (span_named f t ∷ put (span_named f s) (map (span_named f) l))
    refl (ap (λ m. span_named f t ∷ m) (put-named f s l)))

closed_from-named : (f : ℕ → ℕ) (opens : List ℕ) (n i : ℕ) (c : Caps) → caps_named f (closed_from opens n i c) ≡ closed_from (map f opens) n (f i) (caps_named f c)
closed_from-named f [] n i c = refl
closed_from-named f (j ∷ opens) n i c =
    ap (λ (h : List GroupSpan). record { opens = map f opens; held = h; last = Some n }) (put-named f (record { number = n; from = j; upto = i }) c.held)

performed-named : (f : ℕ → ℕ) (acts : List Act) (i : ℕ) (c : Caps) → caps_named f (performed acts i c) ≡ performed acts (f i) (caps_named f c)
performed-named f [] i c = refl
performed-named f (check g ∷ acts) i c = performed-named f acts i c
performed-named f (open_group ∷ acts) i c = performed-named f acts i (opened i c)
performed-named f (close_group n ∷ acts) i c =
    performed-named f acts i (closed_at n i c) ∙ ap (performed acts (f i)) (closed_from-named f c.opens n i c)

abbrev pub try_named : (ℕ → ℕ) → Try → Try
try_named f (goes p c) = goes p (caps_named f c)
try_named f (stops c) = stops (caps_named f c)

tries-named : (f : ℕ → ℕ) (before next : Option ℕ) (i : ℕ) (l : List MarkItem) (c : Caps)
    → map (try_named f) (tries before next i l c) ≡ tries before next (f i) l (caps_named f c)
tries-named f before next i [] c = refl
tries-named f before next i (test_at acts p ∷ l) c =
    map-join (try_named f) (if allowed acts before next then goes p (performed acts i c) ∷ [] else []) (tries before next i l c)
    ∙ ap₂ (λ a b. a ++ b)
    (single_if (try_named f) (allowed acts before next) (goes p (performed acts i c)) (goes p (performed acts (f i) (caps_named f c))) (ap (goes p) (performed-named f acts i c)))
    (tries-named f before next i l c)
tries-named f before next i (pass acts ∷ l) c =
    map-join (try_named f) (if allowed acts before next then stops (performed acts i c) ∷ [] else []) (tries before next i l c)
    ∙ ap₂ (λ a b. a ++ b)
    (single_if (try_named f) (allowed acts before next) (stops (performed acts i c)) (stops (performed acts (f i) (caps_named f c))) (ap stops (performed-named f acts i c)))
    (tries-named f before next i l c)

spread-named : (f : ℕ → ℕ) (m : Marked) (before next : Option ℕ) (i : ℕ) (threads : List Thread)
    → map (try_named f) (spread m before next i threads) ≡ spread m before next (f i) (named f threads)
spread-named f m before next i threads =
    map-followed (try_named f) (λ (t : Thread). tries before next i (items_at m t.state) t.caps) threads
    ∙ followed-alike (λ (t : Thread). map (try_named f) (tries before next i (items_at m t.state) t.caps)) (λ (t : Thread). tries before next (f i) (items_at m t.state) (caps_named f t.caps))
    (λ (t : Thread). tries-named f before next i (items_at m t.state) t.caps) threads
    ∙ sym (followed-map (thread_named f) (λ (t : Thread). tries before next (f i) (items_at m t.state) t.caps) threads)

taken-named : (f : ℕ → ℕ) (m : Marked) (accepts : Bool) (code : ℕ) (l : List Try) → named f (taken m accepts code l) ≡ taken m accepts code (map (try_named f) l)
taken-named f m accepts code [] = refl
taken-named f m accepts code (goes p c ∷ l) =
    map-join (thread_named f) (if set_of m 0 p code then thread (suc p) c ∷ [] else []) (taken m accepts code l)
    ∙ ap₂ (λ a b. a ++ b) (single_if (thread_named f) (set_of m 0 p code) (thread (suc p) c) (thread (suc p) (caps_named f c)) refl) (taken-named f m accepts code l)
taken-named f m accepts code (stops c ∷ l) =
    map_if (thread_named f) accepts [] (taken m accepts code l) [] (taken m accepts code (map (try_named f) l)) refl (taken-named f m accepts code l)

abbrev pub option_named : (ℕ → ℕ) → Option Caps → Option Caps
option_named f None = None
option_named f (Some c) = Some (caps_named f c)

stopped-named : (f : ℕ → ℕ) (accepts : Bool) (l : List Try) → option_named f (stopped accepts l) ≡ stopped accepts (map (try_named f) l)
stopped-named f accepts [] = refl
stopped-named f accepts (goes p c ∷ l) = stopped-named f accepts l
stopped-named f accepts (stops c ∷ l) = split accepts (stopped accepts l) (stopped accepts (map (try_named f) l)) (stopped-named f accepts l)
  where
    split : (b : Bool) (x y : Option Caps) → option_named f x ≡ y → option_named f (if b then Some c else x) ≡ (if b then Some (caps_named f c) else y)
    split true x y e = refl
    split false x y e = e

without-named : (f : ℕ → ℕ) (q : ℕ) (l : List Thread) → named f (without q l) ≡ without q (named f l)
without-named f q [] = refl
without-named f q (t ∷ l) =
    map_if (thread_named f) (q == t.state) (without q l) (t ∷ without q l) (without q (named f l)) (thread_named f t ∷ without q (named f l))
    (without-named f q l) (ap (λ m. thread_named f t ∷ m) (without-named f q l))

distinct-named : (f : ℕ → ℕ) (l : List Thread) → named f (distinct l) ≡ distinct (named f l)
distinct-named f [] = refl
distinct-named f (t ∷ l) = ap (λ m. thread_named f t ∷ m) (without-named f t.state (distinct l) ∙ ap (without t.state) (distinct-named f l))

pub moved-named : (f : ℕ → ℕ) (m : Marked) (accepts : Bool) (before : Option ℕ) (code i : ℕ) (threads : List Thread)
    → named f (moved m accepts before code i threads) ≡ moved m accepts before code (f i) (named f threads)
moved-named f m accepts before code i threads =
    distinct-named f (taken m accepts code (spread m before (Some code) i threads))
    ∙ ap distinct (taken-named f m accepts code (spread m before (Some code) i threads) ∙ ap (taken m accepts code) (spread-named f m before (Some code) i threads))

pub halted-named : (f : ℕ → ℕ) (m : Marked) (accepts : Bool) (before next : Option ℕ) (i : ℕ) (threads : List Thread)
    → option_named f (halted m accepts before next i threads) ≡ halted m accepts before next (f i) (named f threads)
halted-named f m accepts before next i threads =
    stopped-named f accepts (spread m before next i threads) ∙ ap (stopped accepts) (spread-named f m before next i threads)

caps-twice : (g f : ℕ → ℕ) (c : Caps) → caps_named g (caps_named f c) ≡ caps_named (λ k. g (f k)) c
caps-twice g f c =
    ap₂ (λ (o : List ℕ) (h : List GroupSpan). record { opens = o; held = h; last = c.last }) (map-map g f c.opens) (map-map (span_named g) (span_named f) c.held)

pub named-twice : (g f : ℕ → ℕ) (l : List Thread) → named g (named f l) ≡ named (λ k. g (f k)) l
named-twice g f [] = refl
named-twice g f (t ∷ l) = ap₂ (λ (c : Caps) m. record { state = t.state; caps = c } ∷ m) (caps-twice g f t.caps) (named-twice g f l)

-- The place of a step, in front of the names before.
abbrev pub behind : ℕ → (ℕ → ℕ) → ℕ → ℕ
behind i names zero = i
behind i names (suc k) = names k

-- The step of named threads is the named step of a pair's threads.
pub moved-behind : (i : ℕ) (names : ℕ → ℕ) (m : Marked) (accepts : Bool) (before : Option ℕ) (code : ℕ) (l : List Thread)
    → moved m accepts before code i (named names l) ≡ named (behind i names) (moved m accepts before code 0 (named suc l))
moved-behind i names m accepts before code l =
    sym (moved-named (behind i names) m accepts before code 0 (named suc l)
    ∙ ap (moved m accepts before code i) (named-twice (behind i names) suc l))

pub halted-behind : (i : ℕ) (names : ℕ → ℕ) (m : Marked) (accepts : Bool) (before next : Option ℕ) (l : List Thread)
    → halted m accepts before next i (named names l) ≡ option_named (behind i names) (halted m accepts before next 0 (named suc l))
halted-behind i names m accepts before next l =
    sym (halted-named (behind i names) m accepts before next 0 (named suc l)
    ∙ ap (halted m accepts before next i) (named-twice (behind i names) suc l))
