-- Lists of threads: what a later thread in the same state finds never counts, and the step of a list.
use Rattle.std.proofs.Common.{◌≡◌, ℕ, zero, suc, ◌-◌, Bool, true, false, ◌==◌, List, [], ◌∷◌, ◌++◌, map, length, slice_get, Option, None, Some, if◌then◌else◌, refl, sym, ap, ap₂, subst, ◌∙◌}
use Rattle.std.proofs.lemmas.Bool.{cond_both, eqb-true}
use Rattle.rl_syntax.specs.Guards.{is_in, code_before}
use Rattle.rl_marks.specs.Marked.{Marked}
use Rattle.rl_marks.specs.Finds.{followed}
use Rattle.rl_marks.specs.internal.Caps.{Caps}
use Rattle.rl_marks.specs.internal.MarkItems.{MarkItem, test_at, pass, allowed, performed, set_of, after}
use Rattle.rl_marks.specs.internal.Walk.{Try, goes, stops, tries, Ended, pursued, tried, traced, trace, walk}
use Rattle.rl_marks.specs.internal.Threads.{Thread, thread, items_at, spread, taken, stopped, without, distinct, moved, halted, first_ended, walks}
use Rattle.rl_marks.proofs.Following.{map-join, followed-alike, followed-followed}
use Rattle.rl_marks.proofs.WalkLaws.{trace_goes}

-- The first, or the second if there is none.
abbrev pub or_else : Option Ended → Option Ended → Option Ended
or_else None y = y
or_else (Some x) y = Some x

pub or_else-assoc : (x y z : Option Ended) → or_else (or_else x y) z ≡ or_else x (or_else y z)
or_else-assoc None y z = refl
or_else-assoc (Some x) y z = refl

or_else-same : (x y z : Option Ended) → (x ≡ None → y ≡ z) → or_else x y ≡ or_else x z
or_else-same None y z f = f refl
or_else-same (Some x) y z f = refl

pub first_ended-append : (hit : ℕ → Bool) (l m : List Ended) → first_ended hit (l ++ m) ≡ or_else (first_ended hit l) (first_ended hit m)
first_ended-append hit [] m = refl
first_ended-append hit (x ∷ l) m = split (hit x.place) (first_ended hit (l ++ m)) (first_ended hit l) (first_ended-append hit l m)
  where
    split : (b : Bool) (y z : Option Ended) → y ≡ or_else z (first_ended hit m) → ◌≡◌ {A = Option Ended} (if b then Some x else y) (or_else (if b then Some x else z) (first_ended hit m))
    split true y z e = refl
    split false y z e = e

-- The places of the ends don't depend on what is known of the groups.

abbrev pub places_in : List Ended → List ℕ
places_in l = map (λ (x : Ended). x.place) l

places_if : (b : Bool) (x y : List Ended) → places_in x ≡ places_in y → places_in (if b then x else []) ≡ places_in (if b then y else [])
places_if true x y e = e
places_if false x y e = refl

module _ (sets : ℕ → ℕ → Bool) (w : List ℕ) (next : ℕ → Caps → List Ended) (same : (p : ℕ) (c d : Caps) → places_in (next p c) ≡ places_in (next p d)) (i : ℕ) where
  pub tried-places : (l : List MarkItem) (c d : Caps) → places_in (tried sets w next l i c) ≡ places_in (tried sets w next l i d)
  tried-places [] c d = refl
  tried-places (test_at acts p ∷ l) c d =
      let rest = λ (x : Caps). tries (code_before w i) (slice_get w i) i l x in
      let a = allowed acts (code_before w i) (slice_get w i) in
      split a (goes p (performed acts i c)) (goes p (performed acts i d)) (rest c) (rest d)
      (places_if (is_in (sets p) (slice_get w i)) (next p (performed acts i c)) (next p (performed acts i d)) (same p (performed acts i c) (performed acts i d)))
      (tried-places l c d)
    where
      split : (b : Bool) (x y : Try) (l m : List Try) → places_in (pursued sets w next i x) ≡ places_in (pursued sets w next i y)
          → places_in (followed l (pursued sets w next i)) ≡ places_in (followed m (pursued sets w next i))
          → places_in (followed ((if b then x ∷ [] else []) ++ l) (pursued sets w next i)) ≡ places_in (followed ((if b then y ∷ [] else []) ++ m) (pursued sets w next i))
      split true x y l m e f =
          map-join (λ (z : Ended). z.place) (pursued sets w next i x) (followed l (pursued sets w next i))
          ∙ ap₂ (λ a b. a ++ b) e f
          ∙ sym (map-join (λ (z : Ended). z.place) (pursued sets w next i y) (followed m (pursued sets w next i)))
      split false x y l m e f = f
  tried-places (pass acts ∷ l) c d =
      let rest = λ (x : Caps). tries (code_before w i) (slice_get w i) i l x in
      let a = allowed acts (code_before w i) (slice_get w i) in
      split a (stops (performed acts i c)) (stops (performed acts i d)) (rest c) (rest d) refl (tried-places l c d)
    where
      split : (b : Bool) (x y : Try) (l m : List Try) → places_in (pursued sets w next i x) ≡ places_in (pursued sets w next i y)
          → places_in (followed l (pursued sets w next i)) ≡ places_in (followed m (pursued sets w next i))
          → places_in (followed ((if b then x ∷ [] else []) ++ l) (pursued sets w next i)) ≡ places_in (followed ((if b then y ∷ [] else []) ++ m) (pursued sets w next i))
      split true x y l m e f =
          map-join (λ (z : Ended). z.place) (pursued sets w next i x) (followed l (pursued sets w next i))
          ∙ ap₂ (λ a b. a ++ b) e f
          ∙ sym (map-join (λ (z : Ended). z.place) (pursued sets w next i y) (followed m (pursued sets w next i)))
      split false x y l m e f = f

traced-places : (sets : ℕ → ℕ → Bool) (nexts : ℕ → List MarkItem) (w : List ℕ) (n : ℕ) (l : List MarkItem) (i : ℕ) (c d : Caps)
    → places_in (traced sets nexts w n l i c) ≡ places_in (traced sets nexts w n l i d)
traced-places sets nexts w zero l i c d = tried-places sets w (λ p x. []) (λ p x y. refl) i l c d
traced-places sets nexts w (suc n) l i c d =
    tried-places sets w (λ p x. traced sets nexts w n (nexts p) (suc i) x) (λ p x y. traced-places sets nexts w n (nexts p) (suc i) x y) i l c d

pub walk-places : (m : Marked) (w : List ℕ) (l : List MarkItem) (i : ℕ) (c d : Caps) → places_in (walk m w l i c) ≡ places_in (walk m w l i d)
unfolding trace
walk-places m w l i c d = traced-places (set_of m 0) (after m 0) w (length w - i) l i c d

abbrev first_place : (ℕ → Bool) → List ℕ → Option ℕ
first_place hit [] = None
first_place hit (j ∷ l) = if hit j then Some j else first_place hit l

abbrev place_of : Option Ended → Option ℕ
place_of None = None
place_of (Some x) = Some x.place

first_place-ended : (hit : ℕ → Bool) (l : List Ended) → place_of (first_ended hit l) ≡ first_place hit (places_in l)
first_place-ended hit [] = refl
first_place-ended hit (x ∷ l) = split (hit x.place) (first_ended hit l) (first_place hit (places_in l)) (first_place-ended hit l)
  where
    split : (b : Bool) (y : Option Ended) (z : Option ℕ) → place_of y ≡ z → place_of (if b then Some x else y) ≡ (if b then Some x.place else z)
    split true y z e = refl
    split false y z e = e

none_where : (x : Option Ended) → place_of x ≡ None → x ≡ None
none_where None e = refl
none_where (Some x) e = cc

-- If ends at the same places hold no hit, there is none.
none-alike : (hit : ℕ → Bool) (l m : List Ended) → places_in l ≡ places_in m → first_ended hit l ≡ None → first_ended hit m ≡ None
none-alike hit l m e none =
    none_where (first_ended hit m) (first_place-ended hit m ∙ ap (first_place hit) (sym e) ∙ sym (first_place-ended hit l) ∙ ap place_of none)

module _ (m : Marked) (w : List ℕ) (hit : ℕ → Bool) (i : ℕ) where
  abbrev one_walk : Thread → List Ended
  one_walk t = walk m w (items_at m t.state) i t.caps

  without-same : (q : ℕ) (c : Caps) → first_ended hit (walk m w (items_at m q) i c) ≡ None → (l : List Thread)
      → first_ended hit (walks m w (without q l) i) ≡ first_ended hit (walks m w l i)
  without-same q c none [] = refl
  without-same q c none (t ∷ l) =
      cond_both (q == t.state) (without q l) (t ∷ without q l) (λ x. first_ended hit (walks m w x i) ≡ first_ended hit (walks m w (t ∷ l) i))
      (λ e. let same : q ≡ t.state = eqb-true q t.state e in
      let nothing : first_ended hit (one_walk t) ≡ None = subst (λ s. first_ended hit (walk m w (items_at m s) i t.caps) ≡ None) same
      (none-alike hit (walk m w (items_at m q) i c) (walk m w (items_at m q) i t.caps) (walk-places m w (items_at m q) i c t.caps) none) in
      without-same q c none l ∙ sym (first_ended-append hit (one_walk t) (walks m w l i) ∙ ap (λ x. or_else x (first_ended hit (walks m w l i))) nothing))
      (λ e. first_ended-append hit (one_walk t) (walks m w (without q l) i)
      ∙ ap (or_else (first_ended hit (one_walk t))) (without-same q c none l)
      ∙ sym (first_ended-append hit (one_walk t) (walks m w l i)))

  dropped : (l : List Thread) → first_ended hit (walks m w (distinct l) i) ≡ first_ended hit (walks m w l i)
  dropped [] = refl
  dropped (t ∷ l) =
      first_ended-append hit (one_walk t) (walks m w (without t.state (distinct l)) i)
      ∙ or_else-same (first_ended hit (one_walk t)) (first_ended hit (walks m w (without t.state (distinct l)) i)) (first_ended hit (walks m w (distinct l) i))
      (λ none. without-same t.state t.caps none (distinct l))
      ∙ ap (or_else (first_ended hit (one_walk t))) (dropped l)
      ∙ sym (first_ended-append hit (one_walk t) (walks m w l i))

pub distinct-same : (m : Marked) (w : List ℕ) (hit : ℕ → Bool) (i : ℕ) (threads : List Thread)
    → first_ended hit (walks m w (distinct threads) i) ≡ first_ended hit (walks m w threads i)
distinct-same m w hit i threads = dropped m w hit i threads

-- The step of a list.

abbrev pub ended_at : ℕ → Option Caps → Option Ended
ended_at i None = None
ended_at i (Some c) = Some (record { place = i; caps = c })

module _ (m : Marked) (w : List ℕ) (hit : ℕ → Bool) (i : ℕ) where
  abbrev onto : Try → List Ended
  onto = pursued (set_of m 0) w (λ p d. walk m w (after m 0 p) (suc i) d) i

  walks-spread : (threads : List Thread) → walks m w threads i ≡ followed (spread m (code_before w i) (slice_get w i) i threads) onto
  walks-spread threads =
      followed-alike (λ (t : Thread). walk m w (items_at m t.state) i t.caps) (λ (t : Thread). followed (tries (code_before w i) (slice_get w i) i (items_at m t.state) t.caps) onto)
      (λ (t : Thread). trace_goes (set_of m 0) (after m 0) w (items_at m t.state) i t.caps) threads
      ∙ sym (followed-followed (λ (t : Thread). tries (code_before w i) (slice_get w i) i (items_at m t.state) t.caps) onto threads)

  -- An end here, or what is found otherwise.
  stop_split : (b : Bool) (c : Caps) (code : ℕ) (l : List Try) (y : Option Ended)
      → y ≡ or_else (first_ended hit (walks m w (taken m b code l) (suc i))) (ended_at i (stopped b l))
      → ◌≡◌ {A = Option Ended} (if b then Some (record { place = i; caps = c }) else y)
      (or_else (first_ended hit (walks m w (if b then [] else taken m b code l) (suc i))) (ended_at i (if b then Some c else stopped b l)))
  stop_split true c code l y e = refl
  stop_split false c code l y e = e

  go_split : (b v : Bool) → b ≡ v → (p : ℕ) (c : Caps) (rest : List Ended) (more : List Thread) (z : Option Ended)
      → first_ended hit rest ≡ or_else (first_ended hit (walks m w more (suc i))) z
      → first_ended hit ((if b then walk m w (after m 0 p) (suc i) c else []) ++ rest)
      ≡ or_else (first_ended hit (walks m w ((if v then thread (suc p) c ∷ [] else []) ++ more) (suc i))) z
  go_split true true s p c rest more z e =
      let x = walk m w (after m 0 p) (suc i) c in
      first_ended-append hit x rest
      ∙ ap (or_else (first_ended hit x)) e
      ∙ sym (or_else-assoc (first_ended hit x) (first_ended hit (walks m w more (suc i))) z)
      ∙ ap (λ y. or_else y z) (sym (first_ended-append hit x (walks m w more (suc i))))
  go_split true false s p c rest more z e = cc
  go_split false true s p c rest more z e = cc
  go_split false false s p c rest more z e = e

  pursue-code : (code : ℕ) → slice_get w i ≡ Some code → (l : List Try)
      → first_ended hit (followed l onto) ≡ or_else (first_ended hit (walks m w (taken m (hit i) code l) (suc i))) (ended_at i (stopped (hit i) l))
  unfolding is_in
  pursue-code code next [] = refl
  pursue-code code next (goes p c ∷ l) =
      go_split (is_in (set_of m 0 p) (slice_get w i)) (set_of m 0 p code) (ap (is_in (set_of m 0 p)) next) p c (followed l onto) (taken m (hit i) code l) (ended_at i (stopped (hit i) l))
      (pursue-code code next l)
  pursue-code code next (stops c ∷ l) = stop_split (hit i) c code l (first_ended hit (followed l onto)) (pursue-code code next l)

  end_split : (b : Bool) (c : Caps) (l : List Try) (y : Option Ended) → y ≡ ended_at i (stopped b l)
      → ◌≡◌ {A = Option Ended} (if b then Some (record { place = i; caps = c }) else y) (ended_at i (if b then Some c else stopped b l))
  end_split true c l y e = refl
  end_split false c l y e = e

  none_split : (b : Bool) → b ≡ false → (x rest : List Ended) (z : Option Ended) → first_ended hit rest ≡ z → first_ended hit ((if b then x else []) ++ rest) ≡ z
  none_split true s x rest z e = cc
  none_split false s x rest z e = e

  pursue-end : slice_get w i ≡ None → (l : List Try) → first_ended hit (followed l onto) ≡ ended_at i (stopped (hit i) l)
  unfolding is_in
  pursue-end next [] = refl
  pursue-end next (goes p c ∷ l) =
      none_split (is_in (set_of m 0 p) (slice_get w i)) (ap (is_in (set_of m 0 p)) next) (walk m w (after m 0 p) (suc i) c) (followed l onto) (ended_at i (stopped (hit i) l)) (pursue-end next l)
  pursue-end next (stops c ∷ l) = end_split (hit i) c l (first_ended hit (followed l onto)) (pursue-end next l)

  -- The first hit of the threads is that of the threads on the next code, or else what they find here.
  pub step-code : (code : ℕ) → slice_get w i ≡ Some code → (threads : List Thread)
      → first_ended hit (walks m w threads i)
      ≡ or_else (first_ended hit (walks m w (moved m (hit i) (code_before w i) code i threads) (suc i))) (ended_at i (halted m (hit i) (code_before w i) (Some code) i threads))
  step-code code next threads =
      ap (first_ended hit) (walks-spread threads)
      ∙ pursue-code code next (spread m (code_before w i) (slice_get w i) i threads)
      ∙ ap (λ n. or_else (first_ended hit (walks m w (taken m (hit i) code (spread m (code_before w i) n i threads)) (suc i))) (ended_at i (stopped (hit i) (spread m (code_before w i) n i threads)))) next
      ∙ ap (λ x. or_else x (ended_at i (halted m (hit i) (code_before w i) (Some code) i threads)))
      (sym (distinct-same m w hit (suc i) (taken m (hit i) code (spread m (code_before w i) (Some code) i threads))))

  pub step-end : slice_get w i ≡ None → (threads : List Thread)
      → first_ended hit (walks m w threads i) ≡ ended_at i (halted m (hit i) (code_before w i) None i threads)
  step-end next threads =
      ap (first_ended hit) (walks-spread threads)
      ∙ pursue-end next (spread m (code_before w i) (slice_get w i) i threads)
      ∙ ap (λ n. ended_at i (stopped (hit i) (spread m (code_before w i) n i threads))) next
