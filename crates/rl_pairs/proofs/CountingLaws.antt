-- Laws of walks over counted sets: what is counted, how they grow, and when there are too many sets.
use Rattle.std.proofs.Common.{◌≡◌, ◌≢◌, ◌∙◌, ℕ, zero, suc, ◌+◌, ◌<◌, ◌≤◌, ◌⊎◌, inl, inr, List, [], ◌∷◌, ◌++◌, length, get_or, Contains, Bool, true, false, not, ◌&&◌, eqb, filter, cond, refl, sym, ap, subst, arith, append-nil}
use Rattle.std.specs.List.{list_any}
use Rattle.std.proofs.lemmas.Bool.{both_ways, cases_lt}
use Rattle.std.proofs.lemmas.List.{length-append, length_push, get_or_append_left}
use Rattle.std.proofs.lemmas.Option.{slice_get_within, get_or_from_slice_get}
use Rattle.rl_graph.specs.Paths.{Has, Each, Pairs}
use Rattle.rl_graph.proofs.Sums.{Each-has, each-has, at-has, at-short, at-get_or, Has-append, Pairs-push, Has-get_or}
use Rattle.rl_prio.specs.Automaton.{Automaton, letters_count, accepting_state, dead_state, moves_at}
use Rattle.rl_sets.specs.declared.error.SetsError.{SetsError}
use Rattle.rl_sets.specs.declared.error.SetsError.TheVariants.{Sets, OutOfMemory}
use Rattle.rl_sets.specs.Live.{below, holds, image}
use Rattle.rl_sets.specs.Rests.{Reached, here, further, IsGrown, IsOver}
use Rattle.rl_sets.specs.Walk.{Walk, set_at, set_of, IsMadeFor, IsListed, IsFull}
use Rattle.rl_pairs.specs.declared.pair.Pair.{Pair}
use Rattle.rl_pairs.specs.LivePairs.{pairs_from, next_pairs, LivePair, first, move}
use Rattle.rl_pairs.specs.Counted.{CountedSet, moved, imaged, MoreThan}
use Rattle.rl_pairs.specs.Errors.{sets_error}
use Rattle.rl_pairs.specs.internal.Errors.{IsRightError}
use Rattle.rl_pairs.specs.internal.Counting.{IsCounted, IsCounting, Keeps, IsOnward, IsNumberOf, HasImage, IsClosed}
use Rattle.rl_pairs.proofs.SetLaws.{has-holds, holds-has}

-- Members by index and by recursion

pub Has-contains : {A : Type 0} (l : List A) (x : A) → Has x l → Contains l x
Has-contains l x h = let r = at-has x l h in (r.0, at-short l r.0 x r.1, at-get_or l r.0 x x r.1)

pub contains-Has : {A : Type 0} (l : List A) (x : A) → Contains l x → Has x l
contains-Has {A = A} l x c = subst (λ (y : A). Has y l) c.2 (Has-get_or l c.0 x c.1)

-- The empty set

filter-none : {A : Type 0} (p : A → Bool) (l : List A) → ((x : A) → p x ≡ false) → filter p l ≡ []
filter-none p [] h = refl
filter-none {A = A} p (x ∷ l) h = ap (λ (b : Bool). cond b (x ∷ filter p l) (filter p l)) (h x) ∙ filter-none p l h

and-false : (b : Bool) → (b && false) ≡ false
and-false true = refl
and-false false = refl

pub image-empty : (a : Automaton) (letter : ℕ) → image a [] letter ≡ []
unfolding image
image-empty a letter = filter-none (λ t. not (eqb t (dead_state a)) && list_any (λ q. holds (moves_at a q letter) t) []) (below a.states) (λ t. and-false (not (eqb t (dead_state a))))

first-move : (a : Automaton) (set ts : List ℕ) (q : Pair) → Has q (pairs_from a set ts) → (t : ℕ) × Has (record { state = t; set = set }) (pairs_from a set ts)
first-move a set [] q h = absurd h
first-move a set (t ∷ ts) q h = (t, inl refl)

start-moves : (a : Automaton) (p q : Pair) → LivePair a p → (letter : ℕ) → letter ≤ letters_count a → Has q (next_pairs a p letter) → CountedSet a []
start-moves a p q first letter le h =
    let m = first-move a (image a [] letter) (moves_at a 0 letter) q h in
    subst (CountedSet a) (image-empty a letter) (moved m.0 letter first le m.1)
start-moves a r q (move {p = p} from_letter from from_le has live) letter le h = start-moves a p r from from_letter from_le has

-- If some set is counted, the empty set is.
pub empty-counted : (a : Automaton) (set : List ℕ) → CountedSet a set → CountedSet a []
empty-counted a set (moved {p = p} state letter from le has) = start-moves a p (record { state = state; set = set }) from letter le has
empty-counted a set (imaged {set = old} letter from le free) = empty-counted a old from

pub image-counted : (a : Automaton) (set : List ℕ) (letter : ℕ) → IsCounted a set → letter ≤ letters_count a → (Has (accepting_state a) set → ⊥) → IsCounted a (image a set letter)
image-counted a set letter (inl e) le free = inl (ap (λ (s : List ℕ). image a s letter) e ∙ image-empty a letter)
image-counted a set letter (inr c) le free = inr (imaged letter c le free)

-- A set without the accepting state, by the test and by its members.
pub free-has : (a : Automaton) (set : List ℕ) → holds set (accepting_state a) ≡ false → Has (accepting_state a) set → ⊥
free-has a set e h = both_ways (holds set (accepting_state a)) e (has-holds set (accepting_state a) h)

module _ (a : Automaton) (from : List ℕ) (c : IsCounted a from) where
  reached-counted : (set : List ℕ) → Reached a from set → IsCounted a set
  reached-counted set here = c
  reached-counted s (further {set = set} letter r free le) = image-counted a set letter (reached-counted set r) le (free-has a set free)

-- Too many sets

all-counted : (a : Automaton) (set : List ℕ) → CountedSet a [] → IsCounted a set → CountedSet a set
all-counted a set c (inl e) = subst (CountedSet a) (sym e) c
all-counted a set c (inr h) = h

each-counted : (a : Automaton) (sets : List (List ℕ)) → CountedSet a [] → Each (IsCounted a) sets → Each (CountedSet a) sets
each-counted a [] c h = tt
each-counted a (s ∷ sets) c h = (all-counted a s c h.0, each-counted a sets c h.1)

one-counted : (a : Automaton) (x y : List ℕ) → x ≢ y → IsCounted a x → IsCounted a y → CountedSet a []
one-counted a x y ne (inr c) k = empty-counted a x c
one-counted a x y ne (inl e) (inr c) = empty-counted a y c
one-counted a x y ne (inl e) (inl d) = absurd (ne (e ∙ sym d))

-- More sets than there may be: at least two of them, so one is counted.
pub too-many : (a : Automaton) (n : ℕ) (sets : List (List ℕ)) → 1 ≤ n → Pairs (λ x y. x ≢ y) sets → Each (IsCounted a) sets → length sets ≡ suc n → MoreThan n (CountedSet a)
too-many a n [] some apart each long = absurd (omega arith)
too-many a n (x ∷ []) some apart each long = absurd (omega arith)
too-many a n (x ∷ (y ∷ sets)) some apart each long =
    let c = one-counted a x y apart.0.0 each.0 each.1.0 in
    (x ∷ (y ∷ sets), apart, each-counted a (x ∷ (y ∷ sets)) c each, long)

Pairs-at : {A : Type 0} (R : A → A → Type 0) (l : List A) → ((i j : ℕ) (d : A) → i < j → j < length l → R (get_or l i d) (get_or l j d)) → Pairs R l
Pairs-at R [] h = tt
Pairs-at {A = A} R (x ∷ l) h = (each-has (R x) l (λ y i. let r = at-has y l i in subst (R x) (at-get_or l r.0 y x r.1) (h 0 (suc r.0) x (omega arith) (omega (arith, at-short l r.0 y r.1)))), Pairs-at R l (λ i j d lt below. h (suc i) (suc j) d (omega arith) (omega arith)))

sets-apart : (a : Automaton) (w : Walk) → IsMadeFor w a → Pairs (λ x y. x ≢ y) w.sets
sets-apart a w made = Pairs-at (λ x y. x ≢ y) w.sets (λ i j d lt less e. made.apart i j lt less (by i d (omega arith) ∙ e ∙ sym (by j d less)))
  where
    by : (i : ℕ) (d : List ℕ) → i < length w.sets → get_or w.sets i [] ≡ get_or w.sets i d
    by i d lt = same w.sets i lt
      where
        same : (l : List (List ℕ)) (i : ℕ) → i < length l → get_or l i [] ≡ get_or l i d
        same [] i lt = absurd (omega arith)
        same (x ∷ l) zero lt = refl
        same (x ∷ l) (suc i) lt = same l i (omega arith)

pub sets-counted : (a : Automaton) (w : Walk) → IsCounting a w → Each (IsCounted a) w.sets
sets-counted a w c = each-has (IsCounted a) w.sets (λ s h. let r = at-has s w.sets h in subst (IsCounted a) (at-get_or w.sets r.0 s [] r.1) (c.counted r.0 (at-short w.sets r.0 s r.1)))

-- A full walk and one more counted set.
pub full-over : (a : Automaton) (w : Walk) (set : List ℕ) → IsCounting a w → IsCounted a set → IsFull w.sets w.limit set → MoreThan 20000 (CountedSet a)
full-over a w set c is full =
    too-many a 20000 (w.sets ++ set ∷ []) (omega arith)
    (Pairs-push (λ x y. x ≢ y) w.sets set (sets-apart a w c.made) (λ s h e. full.absent (Has-contains w.sets set (subst (λ (x : List ℕ). Has x w.sets) e h))))
    (each-has (IsCounted a) (w.sets ++ set ∷ []) (λ s h. by s (Has-append s w.sets (set ∷ []) h)))
    (omega (arith, length_push w.sets set, full.full, c.limit))
  where
    by : (s : List ℕ) → Has s w.sets ⊎ Has s (set ∷ []) → IsCounted a s
    by s (inl h) = Each-has (IsCounted a) s w.sets (sets-counted a w c) h
    by s (inr (inl e)) = subst (IsCounted a) (sym e) is
    by s (inr (inr n)) = absurd n

-- The sets of a search for a rest.
pub search-over : (a : Automaton) (w : Walk) (from : List ℕ) → IsCounting a w → IsCounted a from → IsOver a from w.sets w.limit → MoreThan 20000 (CountedSet a)
search-over a w from c is over =
    too-many a 20000 over.sets (omega arith) (Pairs-at (λ x y. x ≢ y) over.sets over.apart)
    (each-has (IsCounted a) over.sets (λ s h. by s (let r = at-has s over.sets h in subst (λ (x : List ℕ). Contains w.sets x ⊎ Reached a from x) (at-get_or over.sets r.0 s s r.1) (over.each r.0 s (at-short over.sets r.0 s r.1)))))
    (omega (arith, over.many, c.limit))
  where
    by : (s : List ℕ) → Contains w.sets s ⊎ Reached a from s → IsCounted a s
    by s (inl h) = Each-has (IsCounted a) s w.sets (sets-counted a w c) (contains-Has w.sets s h)
    by s (inr r) = reached-counted a from is s r

-- Errors

pub right-error : (a : Automaton) (limit : ℕ) (x : SetsError) → (x ≡ Sets → MoreThan 20000 (CountedSet a)) → IsRightError a limit (sets_error x)
right-error a limit Sets h = h refl
right-error a limit OutOfMemory h = tt

-- Walks that grow

pub Keeps-refl : (w : Walk) → Keeps w w
Keeps-refl w = record { longer = omega arith; same = λ n lt. refl }

pub Keeps-trans : (u v w : Walk) → Keeps u v → Keeps v w → Keeps u w
Keeps-trans u v w x y = record { longer = omega (arith, x.longer, y.longer); same = λ n lt. y.same n (omega (arith, x.longer)) ∙ x.same n lt }

Keeps-more : (old new : Walk) (more : List (List ℕ)) → new.sets ≡ old.sets ++ more → Keeps old new
Keeps-more old new more e = record {
  longer = omega (arith, ap length e, length-append old.sets more);
  same = λ n lt. ap (λ (l : List (List ℕ)). get_or l n []) e ∙ get_or_append_left old.sets more [] n lt;
}

pub onward-more : (a : Automaton) (old new : Walk) (more : List (List ℕ)) → IsCounting a old → IsMadeFor new a → new.limit ≡ old.limit → new.sets ≡ old.sets ++ more → Each (IsCounted a) more → IsOnward a old new
onward-more a old new more c made limit e each =
    let keeps = Keeps-more old new more e in
    record {
      counting = record {
        made = made;
        limit = limit ∙ c.limit;
        some = omega (arith, c.some, keeps.longer);
        empty = keeps.same 0 c.some ∙ c.empty;
        counted = λ n lt. by n (subst (λ (l : List (List ℕ)). Has (set_at new n) l) e (Has-get_or new.sets n [] lt));
      };
      keeps = keeps;
    }
  where
    by : (n : ℕ) → Has (set_at new n) (old.sets ++ more) → IsCounted a (set_at new n)
    by n h = part (Has-append (set_at new n) old.sets more h)
      where
        part : Has (set_at new n) old.sets ⊎ Has (set_at new n) more → IsCounted a (set_at new n)
        part (inl i) = Each-has (IsCounted a) (set_at new n) old.sets (sets-counted a old c) i
        part (inr i) = Each-has (IsCounted a) (set_at new n) more each i

pub onward-listed : (a : Automaton) (old new : Walk) (set : List ℕ) (n : ℕ) → IsCounting a old → IsMadeFor new a → new.limit ≡ old.limit → IsListed old.sets new.sets set n → IsCounted a set → IsOnward a old new
onward-listed a old new set n c made limit listed is = by listed.grown
  where
    by : (new.sets ≡ old.sets) ⊎ ((Contains old.sets set → ⊥) × (new.sets ≡ old.sets ++ set ∷ [])) → IsOnward a old new
    by (inl e) = onward-more a old new [] c made limit (e ∙ sym (append-nil old.sets)) tt
    by (inr h) = onward-more a old new (set ∷ []) c made limit h.1 (is, tt)

pub onward-grown : (a : Automaton) (old new : Walk) (from : List ℕ) → IsCounting a old → IsMadeFor new a → new.limit ≡ old.limit → IsGrown a from old.sets new.sets → IsCounted a from → IsOnward a old new
onward-grown a old new from c made limit g is =
    onward-more a old new g.added c made limit g.more (each-has (IsCounted a) g.added (λ s h. let r = at-has s g.added h in reached-counted a from is s (subst (Reached a from) (at-get_or g.added r.0 s s r.1) (g.reached r.0 s (at-short g.added r.0 s r.1)))))

pub number-listed : (old : List (List ℕ)) (new : Walk) (set : List ℕ) (n : ℕ) → IsListed old new.sets set n → IsNumberOf new set n
number-listed old new set n listed = record { within = slice_get_within new.sets n set listed.stands; is = get_or_from_slice_get new.sets n set [] listed.stands }

pub onward-trans : (a : Automaton) (u v w : Walk) → Keeps u v → IsOnward a v w → IsOnward a u w
onward-trans a u v w k o = record { counting = o.counting; keeps = Keeps-trans u v w k o.keeps }

pub onward-refl : (a : Automaton) (w : Walk) → IsCounting a w → IsOnward a w w
onward-refl a w c = record { counting = c; keeps = Keeps-refl w }

pub one-only : {A : Type 0} (x : A) (n : ℕ) → get_or (x ∷ []) n x ≡ x
one-only x zero = refl
one-only x (suc n) = refl

-- The empty walk, and the first set of a new one.
pub counting-start : (a : Automaton) (old new : Walk) (n : ℕ) → old.sets ≡ [] → new.limit ≡ 20000 → IsMadeFor new a → IsListed old.sets new.sets [] n → IsCounting a new
counting-start a old new n none limit made listed = by listed.grown
  where
    only : new.sets ≡ [] ∷ [] → IsCounting a new
    only e = record {
      made = made;
      limit = limit;
      some = omega (arith, ap length e);
      empty = ap (λ (l : List (List ℕ)). get_or l 0 []) e;
      counted = λ n lt. inl (ap (λ (l : List (List ℕ)). get_or l n []) e ∙ one-only [] n);
    }

    by : (new.sets ≡ old.sets) ⊎ ((Contains old.sets [] → ⊥) × (new.sets ≡ old.sets ++ [] ∷ [])) → IsCounting a new
    by (inl e) = absurd (omega (arith, slice_get_within new.sets n [] listed.stands, ap length (e ∙ none)))
    by (inr h) = only (h.1 ∙ ap (λ (l : List (List ℕ)). l ++ [] ∷ []) none)

-- Closed walks

image-keeps : (a : Automaton) (old new : Walk) (n letter : ℕ) → Keeps old new → n < length old.sets → HasImage a old n letter → HasImage a new n letter
image-keeps a old new n letter k lt h free =
    let e = k.same n lt in
    let m = h (λ i. free (subst (Has (accepting_state a)) (sym e) i)) in
    (m.0, record { within = omega (arith, m.1.within, k.longer); is = k.same m.0 m.1.within ∙ m.1.is ∙ ap (λ (s : List ℕ). image a s letter) (sym e) })

pub closed-keeps : (a : Automaton) (old new : Walk) (count letters : ℕ) → Keeps old new → count < length old.sets → IsClosed a old count letters → IsClosed a new count letters
closed-keeps a old new count letters k lt c = record {
  whole = λ n letter less le. image-keeps a old new n letter k (omega arith) (c.whole n letter less le);
  part = λ letter less. image-keeps a old new count letter k lt (c.part letter less);
}

pub closed-letter : (a : Automaton) (w : Walk) (count letters : ℕ) → IsClosed a w count letters → HasImage a w count letters → IsClosed a w count (letters + 1)
closed-letter a w count letters c h = record {
  whole = c.whole;
  part = λ letter less. by letter (cases_lt letter letters) less;
}
  where
    by : (letter : ℕ) → (letter < letters) ⊎ (letters ≤ letter) → letter < letters + 1 → HasImage a w count letter
    by letter (inl lt) less = c.part letter lt
    by letter (inr ge) less = let e : letters ≡ letter = omega arith in subst (HasImage a w count) e h

pub closed-set : (a : Automaton) (w : Walk) (count : ℕ) → IsClosed a w count 0 → ((letter : ℕ) → letter ≤ letters_count a → HasImage a w count letter) → IsClosed a w (suc count) 0
closed-set a w count c h = record {
  whole = λ n letter less le. by n letter (cases_lt n count) less le;
  part = λ letter less. absurd (omega arith);
}
  where
    by : (n letter : ℕ) → (n < count) ⊎ (count ≤ n) → n < suc count → letter ≤ letters_count a → HasImage a w n letter
    by n letter (inl lt) less le = c.whole n letter lt le
    by n letter (inr ge) less le = let e : count ≡ n = omega arith in subst (λ (k : ℕ). HasImage a w k letter) e (h letter le)

pub closed-none : (a : Automaton) (w : Walk) → IsClosed a w 0 0
closed-none a w = record { whole = λ n letter less le. absurd (omega arith); part = λ letter less. absurd (omega arith) }

-- The image of a set that was made on a walk that has grown since the number was read.
pub image-made : (a : Automaton) (old new : Walk) (set letter m : ℕ) → Keeps old new → set < length old.sets → IsNumberOf new (image a (set_at old set) letter) m → HasImage a new set letter
image-made a old new set letter m k lt is free = (m, record { within = is.within; is = is.is ∙ ap (λ (s : List ℕ). image a s letter) (sym (k.same set lt)) })

-- ---- the loops that close a walk

-- The images of the first sets, and of the next one on the first letters, are made.
pub record IsClosing (a : Automaton) (old w : Walk) (set letter : ℕ) : Type 0 where
  pub onward : IsOnward a old w
  pub closed : IsClosed a w set letter

pub closing-start : (a : Automaton) (w : Walk) (set : ℕ) → IsCounting a w → IsClosed a w set 0 → IsClosing a w w set 0
closing-start a w set c closed = record { onward = onward-refl a w c; closed = closed }

pub closing-counted : (a : Automaton) (old w : Walk) (set from letter : ℕ) → IsClosing a old w set from → set < length old.sets → holds (set_at old set) (accepting_state a) ≡ false → letter ≤ letters_count a → IsCounted a (image a (set_at w set) letter)
closing-counted a old w set from letter i lt free le =
    let e = i.onward.keeps.same set lt in
    image-counted a (set_at w set) letter (i.onward.counting.counted set (omega (arith, i.onward.keeps.longer))) le (free-has a (set_at w set) (ap (λ (s : List ℕ). holds s (accepting_state a)) e ∙ free))

module _ (a : Automaton) (old w new : Walk) (set letter m : ℕ) (i : IsClosing a old w set letter) (lt : set < length old.sets) (o : IsOnward a w new) where
  there : set < length w.sets
  there = omega (arith, i.onward.keeps.longer)

  kept : IsClosed a new set letter
  kept = closed-keeps a w new set letter o.keeps there i.closed

  onward : IsOnward a old new
  onward = onward-trans a old w new i.onward.keeps o

  pub closing-more : IsNumberOf new (image a (set_at w set) letter) m → IsClosing a old new set (letter + 1)
  closing-more is = record { onward = onward; closed = closed-letter a new set letter kept (image-made a w new set letter m o.keeps there is) }

pub closing-last : (a : Automaton) (old w new : Walk) (set letter end m : ℕ) → IsClosing a old w set letter → set < length old.sets → IsOnward a w new → IsNumberOf new (image a (set_at w set) end) m → end ≡ letters_count a → end ≤ letter → IsClosed a new (suc set) 0 × IsOnward a old new
closing-last a old w new set letter end m i lt o is e le =
    let inside : set < length w.sets = omega (arith, i.onward.keeps.longer) in
    let c = closed-keeps a w new set letter o.keeps inside i.closed in
    (closed-set a new set (record { whole = c.whole; part = λ l less. absurd (omega arith) }) (λ l less. by l c (cases_lt l letter) less (image-made a w new set end m o.keeps inside is)), onward-trans a old w new i.onward.keeps o)
  where
    by : (l : ℕ) → IsClosed a new set letter → (l < letter) ⊎ (letter ≤ l) → l ≤ letters_count a → HasImage a new set end → HasImage a new set l
    by l c (inl less) small h = c.part l less
    by l c (inr ge) small h = let same : end ≡ l = omega arith in subst (HasImage a new set) same h

pub set-of-none : (a : Automaton) (members : List ℕ) → members ≡ [] → set_of a members ≡ []
set-of-none a members e = ap (set_of a) e ∙ filter-none (holds []) (below a.states) (λ q. refl)

pub closing-set : (a : Automaton) (old w new : Walk) (set : ℕ) → IsClosing a old w set 0 → set < length w.sets → IsOnward a w new → IsClosed a new (suc set) 0 → IsClosing a old new (set + 1) 0
closing-set a old w new set i lt o c = record { onward = onward-trans a old w new i.onward.keeps o; closed = let e : suc set ≡ set + 1 = omega arith in subst (λ (n : ℕ). IsClosed a new n 0) e c }

-- A set with the accepting state has no image.
pub closing-free : (a : Automaton) (old w : Walk) (set : ℕ) → IsClosing a old w set 0 → holds (set_at w set) (accepting_state a) ≡ true → IsClosing a old w (set + 1) 0
closing-free a old w set i e = record {
  onward = i.onward;
  closed =
      let same : suc set ≡ set + 1 = omega arith in
      subst (λ (n : ℕ). IsClosed a w n 0) same (closed-set a w set i.closed (λ letter le free. absurd (free (holds-has (set_at w set) (accepting_state a) e))));
}

pub closing-few : (a : Automaton) (old w : Walk) (set letter : ℕ) → IsClosing a old w set letter → length w.sets ≤ 20000
closing-few a old w set letter i = omega (arith, i.onward.counting.made.few, i.onward.counting.limit)
