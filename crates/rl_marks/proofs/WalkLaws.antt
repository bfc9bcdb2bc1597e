-- The walk of a marked tree's items finds what the tree finds.
use Rattle.std.proofs.Common.{◌≡◌, ℕ, zero, suc, ◌+◌, ◌-◌, ◌<◌, ◌≤◌, Bool, true, false, ◌&&◌, List, [], ◌∷◌, ◌++◌, length, map, slice_get, Option, nat_lt, if◌then◌else◌, refl, sym, ap, ap₂, ◌∙◌, arith, append_assoc}
use Rattle.std.proofs.lemmas.Bool.{cond_both, ltb-true, ltb-false, lt-ltb, le-ltb, cond-true, cond-false}
use Rattle.std.proofs.lemmas.List.{append-nil}
use Rattle.rl_syntax.specs.Guards.{is_in, holds, code_before}
use Rattle.rl_syntax.specs.Run.{one_more}
use Rattle.rl_syntax.proofs.RunLaws.{Goes, is_in-below}
use Rattle.rl_prio.proofs.TraceLemmas.{is_in-same}
use Rattle.rl_marks.specs.Marked.{Marked, empty, one, guard, both, either, many, further, mark}
use Rattle.rl_marks.specs.Finds.{GroupSpan, Found, followed, ended, later, onward, closed, finds, ends}
use Rattle.rl_marks.specs.internal.Caps.{Caps, opened, added, caps_after}
use Rattle.rl_marks.specs.internal.MarkItems.{Act, check, open_group, close_group, MarkItem, test_at, pass, all_prefixed, replaced, places, set_of, first, after, allowed, performed}
use Rattle.rl_marks.specs.internal.Walk.{Try, goes, stops, tries, Ended, pursued, tried, traced, trace, walk, kept}
use Rattle.rl_marks.proofs.GoLaws.{Each, finds_go}
use Rattle.rl_marks.proofs.Following.{followed-append, followed-alike, followed_if, if_alike, if_where, if_none}
use Rattle.rl_marks.proofs.CapsLaws.{caps_after-append, caps_after-opened}
use Rattle.rl_marks.proofs.FindLaws.{finds-many}

-- Items that are put together.

pub all_prefixed-nil : (l : List MarkItem) → all_prefixed [] l ≡ l
all_prefixed-nil [] = refl
all_prefixed-nil (test_at acts p ∷ l) = ap (λ m. test_at acts p ∷ m) (all_prefixed-nil l)
all_prefixed-nil (pass acts ∷ l) = ap (λ m. pass acts ∷ m) (all_prefixed-nil l)

all_prefixed-append : (acts : List Act) (l m : List MarkItem) → all_prefixed acts (l ++ m) ≡ all_prefixed acts l ++ all_prefixed acts m
all_prefixed-append acts [] m = refl
all_prefixed-append acts (test_at bs p ∷ l) m = ap (λ n. test_at (acts ++ bs) p ∷ n) (all_prefixed-append acts l m)
all_prefixed-append acts (pass bs ∷ l) m = ap (λ n. pass (acts ++ bs) ∷ n) (all_prefixed-append acts l m)

all_prefixed-twice : (acts bs : List Act) (l : List MarkItem) → all_prefixed acts (all_prefixed bs l) ≡ all_prefixed (acts ++ bs) l
all_prefixed-twice acts bs [] = refl
all_prefixed-twice acts bs (test_at cs p ∷ l) = ap₂ (λ xs m. test_at xs p ∷ m) (sym (append_assoc acts bs cs)) (all_prefixed-twice acts bs l)
all_prefixed-twice acts bs (pass cs ∷ l) = ap₂ (λ xs m. pass xs ∷ m) (sym (append_assoc acts bs cs)) (all_prefixed-twice acts bs l)

replaced-append : (l m c : List MarkItem) → replaced (l ++ m) c ≡ replaced l c ++ replaced m c
replaced-append [] m c = refl
replaced-append (test_at acts p ∷ l) m c = ap (λ n. test_at acts p ∷ n) (replaced-append l m c)
replaced-append (pass acts ∷ l) m c =
    ap (λ n. all_prefixed acts c ++ n) (replaced-append l m c) ∙ sym (append_assoc (all_prefixed acts c) (replaced l c) (replaced m c))

replaced-all_prefixed : (acts : List Act) (l c : List MarkItem) → replaced (all_prefixed acts l) c ≡ all_prefixed acts (replaced l c)
replaced-all_prefixed acts [] c = refl
replaced-all_prefixed acts (test_at bs p ∷ l) c = ap (λ n. test_at (acts ++ bs) p ∷ n) (replaced-all_prefixed acts l c)
replaced-all_prefixed acts (pass bs ∷ l) c =
    ap₂ (λ x y. x ++ y) (sym (all_prefixed-twice acts bs c)) (replaced-all_prefixed acts l c)
    ∙ sym (all_prefixed-append acts (all_prefixed bs c) (replaced l c))

replaced-twice : (l m c : List MarkItem) → replaced (replaced l m) c ≡ replaced l (replaced m c)
replaced-twice [] m c = refl
replaced-twice (test_at acts p ∷ l) m c = ap (λ n. test_at acts p ∷ n) (replaced-twice l m c)
replaced-twice (pass acts ∷ l) m c =
    replaced-append (all_prefixed acts m) (replaced l m) c
    ∙ ap₂ (λ x y. x ++ y) (replaced-all_prefixed acts m c) (replaced-twice l m c)

replaced-kept : (l : List MarkItem) → replaced l (pass [] ∷ []) ≡ l
replaced-kept [] = refl
replaced-kept (test_at acts p ∷ l) = ap (λ n. test_at acts p ∷ n) (replaced-kept l)
replaced-kept (pass acts ∷ l) = ap₂ (λ bs n. pass bs ∷ n) (append-nil acts) (replaced-kept l)

-- The ends of a group's body are where it is closed.
replaced-closed : (l c : List MarkItem) (acts : List Act) → replaced (replaced l (pass acts ∷ [])) c ≡ replaced l (all_prefixed acts c)
replaced-closed l c acts = replaced-twice l (pass acts ∷ []) c ∙ ap (replaced l) (append-nil (all_prefixed acts c))

-- Acts in turn.

allowed-append : (acts bs : List Act) (before next : Option ℕ) → allowed (acts ++ bs) before next ≡ (allowed acts before next && allowed bs before next)
allowed-append [] bs before next = refl
allowed-append (check g ∷ acts) bs before next =
    ap (λ b. holds g before next && b) (allowed-append acts bs before next)
    ∙ sym (and_assoc (holds g before next) (allowed acts before next) (allowed bs before next))
  where
    and_assoc : (a b c : Bool) → (a && b && c) ≡ (a && (b && c))
    and_assoc true b c = refl
    and_assoc false b c = refl
allowed-append (open_group ∷ acts) bs before next = allowed-append acts bs before next
allowed-append (close_group n ∷ acts) bs before next = allowed-append acts bs before next

performed-append : (acts bs : List Act) (i : ℕ) (c : Caps) → performed (acts ++ bs) i c ≡ performed bs i (performed acts i c)
performed-append [] bs i c = refl
performed-append (check g ∷ acts) bs i c = performed-append acts bs i c
performed-append (open_group ∷ acts) bs i c = performed-append acts bs i _
performed-append (close_group n ∷ acts) bs i c = performed-append acts bs i _

-- Tries.

pub tries-append : (before next : Option ℕ) (i : ℕ) (l m : List MarkItem) (c : Caps) → tries before next i (l ++ m) c ≡ tries before next i l c ++ tries before next i m c
tries-append before next i [] m c = refl
tries-append before next i (test_at acts p ∷ l) m c =
    let x : List Try = if allowed acts before next then goes p (performed acts i c) ∷ [] else [] in
    ap (λ n. x ++ n) (tries-append before next i l m c) ∙ sym (append_assoc x (tries before next i l c) (tries before next i m c))
tries-append before next i (pass acts ∷ l) m c =
    let x : List Try = if allowed acts before next then stops (performed acts i c) ∷ [] else [] in
    ap (λ n. x ++ n) (tries-append before next i l m c) ∙ sym (append_assoc x (tries before next i l c) (tries before next i m c))

guard_out : (a h : Bool) (x t : List Try)
    → ◌≡◌ {A = List Try} ((if a && h then x else []) ++ (if a then t else [])) (if a then (if h then x else []) ++ t else [])
guard_out true h x t = refl
guard_out false h x t = refl

tries-prefixed : (before next : Option ℕ) (i : ℕ) (acts : List Act) (l : List MarkItem) (c : Caps)
    → tries before next i (all_prefixed acts l) c ≡ (if allowed acts before next then tries before next i l (performed acts i c) else [])
tries-prefixed before next i acts [] c = if_none (allowed acts before next)
tries-prefixed before next i acts (test_at bs p ∷ l) c =
    ap₂ (λ b y. (if b then goes p (performed (acts ++ bs) i c) ∷ [] else []) ++ y) (allowed-append acts bs before next) (tries-prefixed before next i acts l c)
    ∙ ap (λ d. (if allowed acts before next && allowed bs before next then goes p d ∷ [] else []) ++ (if allowed acts before next then tries before next i l (performed acts i c) else [])) (performed-append acts bs i c)
    ∙ guard_out (allowed acts before next) (allowed bs before next) (goes p (performed bs i (performed acts i c)) ∷ []) (tries before next i l (performed acts i c))
tries-prefixed before next i acts (pass bs ∷ l) c =
    ap₂ (λ b y. (if b then stops (performed (acts ++ bs) i c) ∷ [] else []) ++ y) (allowed-append acts bs before next) (tries-prefixed before next i acts l c)
    ∙ ap (λ d. (if allowed acts before next && allowed bs before next then stops d ∷ [] else []) ++ (if allowed acts before next then tries before next i l (performed acts i c) else [])) (performed-append acts bs i c)
    ∙ guard_out (allowed acts before next) (allowed bs before next) (stops (performed bs i (performed acts i c)) ∷ []) (tries before next i l (performed acts i c))

-- What is found, carried on with what is known of the groups.

abbrev pub carried : List Found → Caps → (ℕ → Caps → List Ended) → List Ended
carried l c next = followed l (λ x. next x.end (caps_after x.spans c))

carried-same : (P : ℕ → Type 0) (f g : ℕ → Caps → List Ended) → ((j : ℕ) (d : Caps) → P j → f j d ≡ g j d) → (l : List Found) → Each P (ends l) → (c : Caps)
    → carried l c f ≡ carried l c g
carried-same P f g h [] p c = refl
carried-same P f g h (x ∷ l) p c = ap₂ (λ a b. a ++ b) (h x.end (caps_after x.spans c) p.0) (carried-same P f g h l p.1 c)

carried-append : (l m : List Found) (c : Caps) (f : ℕ → Caps → List Ended) → carried (l ++ m) c f ≡ carried l c f ++ carried m c f
carried-append l m c f = followed-append (λ (x : Found). f x.end (caps_after x.spans c)) l m

carried-later : (spans : List GroupSpan) (l : List Found) (c : Caps) (f : ℕ → Caps → List Ended) → carried (map (later spans) l) c f ≡ carried l (caps_after spans c) f
carried-later spans [] c f = refl
carried-later spans (x ∷ l) c f = ap₂ (λ d m. f x.end d ++ m) (caps_after-append spans x.spans c) (carried-later spans l c f)

carried-onward : (next : ℕ → List Found) (f : ℕ → Caps → List Ended) (l : List Found) (c : Caps) → carried (onward l next) c f ≡ carried l c (λ j d. carried (next j) d f)
carried-onward next f [] c = refl
carried-onward next f (x ∷ l) c =
    carried-append (map (later x.spans) (next x.end)) (onward l next) c f
    ∙ ap₂ (λ a b. a ++ b) (carried-later x.spans (next x.end) c f) (carried-onward next f l c)

carried-closed : (n i : ℕ) (l : List Found) (c : Caps) (f : ℕ → Caps → List Ended)
    → carried (map (closed n i) l) c f ≡ carried l c (λ j d. f j (added (record { number = n; from = i; upto = j }) d))
carried-closed n i [] c f = refl
carried-closed n i (x ∷ l) c f =
    ap₂ (λ d m. f x.end d ++ m) (caps_after-append x.spans (record { number = n; from = i; upto = x.end } ∷ []) c) (carried-closed n i l c f)

carried-opened : (i : ℕ) (l : List Found) (c : Caps) (f : ℕ → Caps → List Ended) → carried l (opened i c) f ≡ carried l c (λ j d. f j (opened i d))
carried-opened i [] c f = refl
carried-opened i (x ∷ l) c f = ap₂ (λ d m. f x.end d ++ m) (caps_after-opened x.spans i c) (carried-opened i l c f)

carried-kept : (l : List Found) (c : Caps) → carried l c (λ j d. record { place = j; caps = d } ∷ []) ≡ map (kept c) l
carried-kept [] c = refl
carried-kept (x ∷ l) c = ap (λ m. kept c x ∷ m) (carried-kept l c)

carried_if : (v : Bool) (j : ℕ) (c : Caps) (f : ℕ → Caps → List Ended) → carried (if v then ended j ∷ [] else []) c f ≡ (if v then f j c else [])
carried_if true j c f = append-nil (f j c)
carried_if false j c f = refl

pursued-same : (sets : ℕ → ℕ → Bool) (w : List ℕ) (next other : ℕ → Caps → List Ended) (i : ℕ) → ((p : ℕ) (d : Caps) → i < length w → next p d ≡ other p d)
    → (t : Try) → pursued sets w next i t ≡ pursued sets w other i t
pursued-same sets w next other i f (goes p d) = if_where (is_in (sets p) (slice_get w i)) (next p d) (other p d) [] (λ e. f p d (is_in-below (sets p) w i e))
pursued-same sets w next other i f (stops d) = refl

tried-same : (sets : ℕ → ℕ → Bool) (w : List ℕ) (next other : ℕ → Caps → List Ended) (i : ℕ) → ((p : ℕ) (d : Caps) → i < length w → next p d ≡ other p d)
    → (l : List MarkItem) (c : Caps) → tried sets w next l i c ≡ tried sets w other l i c
tried-same sets w next other i f l c =
    followed-alike (pursued sets w next i) (pursued sets w other i) (pursued-same sets w next other i f) (tries (code_before w i) (slice_get w i) i l c)

module _ (sets : ℕ → ℕ → Bool) (nexts : ℕ → List MarkItem) (w : List ℕ) where
  -- The rule of the trace needs no count.
  pub trace_goes : (l : List MarkItem) (i : ℕ) (c : Caps) → trace sets nexts w l i c ≡ tried sets w (λ p d. trace sets nexts w (nexts p) (suc i) d) l i c
  unfolding trace
  trace_goes l i c = by_count (length w - i) refl
    where
      by_count : (n : ℕ) → length w - i ≡ n → traced sets nexts w n l i c ≡ tried sets w (λ p d. traced sets nexts w (length w - suc i) (nexts p) (suc i) d) l i c
      by_count zero e = tried-same sets w (λ p d. []) (λ p d. traced sets nexts w (length w - suc i) (nexts p) (suc i) d) i (λ p d lt. absurd (omega arith)) l c
      by_count (suc n) e =
          let less : n ≡ length w - suc i = omega arith in
          ap (λ m. tried sets w (λ p d. traced sets nexts w m (nexts p) (suc i) d) l i c) less

  trace-append : (l m : List MarkItem) (i : ℕ) (c : Caps) → trace sets nexts w (l ++ m) i c ≡ trace sets nexts w l i c ++ trace sets nexts w m i c
  trace-append l m i c =
      let f = pursued sets w (λ p d. trace sets nexts w (nexts p) (suc i) d) i in
      trace_goes (l ++ m) i c
      ∙ ap (λ x. followed x f) (tries-append (code_before w i) (slice_get w i) i l m c)
      ∙ followed-append f (tries (code_before w i) (slice_get w i) i l c) (tries (code_before w i) (slice_get w i) i m c)
      ∙ ap₂ (λ x y. x ++ y) (sym (trace_goes l i c)) (sym (trace_goes m i c))

  trace-prefixed : (acts : List Act) (l : List MarkItem) (i : ℕ) (c : Caps)
      → trace sets nexts w (all_prefixed acts l) i c ≡ (if allowed acts (code_before w i) (slice_get w i) then trace sets nexts w l i (performed acts i c) else [])
  trace-prefixed acts l i c =
      let f = pursued sets w (λ p d. trace sets nexts w (nexts p) (suc i) d) i in
      let a = allowed acts (code_before w i) (slice_get w i) in
      trace_goes (all_prefixed acts l) i c
      ∙ ap (λ x. followed x f) (tries-prefixed (code_before w i) (slice_get w i) i acts l c)
      ∙ followed_if f a (tries (code_before w i) (slice_get w i) i l (performed acts i c))
      ∙ ap (λ x. if a then x else []) (sym (trace_goes l i (performed acts i c)))

  trace-pass : (i : ℕ) (c : Caps) → trace sets nexts w (pass [] ∷ []) i c ≡ record { place = i; caps = c } ∷ []
  trace-pass i c = trace_goes (pass [] ∷ []) i c

  trace-test : (b i : ℕ) (c : Caps) → trace sets nexts w (test_at [] b ∷ []) i c ≡ (if is_in (sets b) (slice_get w i) then trace sets nexts w (nexts b) (suc i) c else [])
  trace-test b i c = trace_goes (test_at [] b ∷ []) i c ∙ append-nil (if is_in (sets b) (slice_get w i) then trace sets nexts w (nexts b) (suc i) c else [])

  -- What follows an end: `d` if no code was read since the place `i`, and `c` further on.
  abbrev follow : ℕ → List MarkItem → List MarkItem → ℕ → Caps → List Ended
  follow i c d j k = if nat_lt i j then trace sets nexts w c j k else trace sets nexts w d j k

  follow-on : (i j : ℕ) (c d : List MarkItem) (k : Caps) → i < j → follow i c d j k ≡ trace sets nexts w c j k
  follow-on i j c d k lt = cond-true (nat_lt i j) (trace sets nexts w c j k) (trace sets nexts w d j k) (lt-ltb i j lt)

  follow-here : (i j : ℕ) (c d : List MarkItem) (k : Caps) → j ≤ i → follow i c d j k ≡ trace sets nexts w d j k
  follow-here i j c d k le = cond-false (nat_lt i j) (trace sets nexts w c j k) (trace sets nexts w d j k) (le-ltb i j le)

  follow-later : (i j l : ℕ) (c d : List MarkItem) (k : Caps) → i < j → j ≤ l → follow j c c l k ≡ follow i c d l k
  follow-later i j l c d k lt le =
      cond_both (nat_lt j l) (trace sets nexts w c l k) (trace sets nexts w c l k) (λ x. x ≡ trace sets nexts w c l k) (λ _. refl) (λ _. refl)
      ∙ sym (follow-on i l c d k (omega arith))

  -- A tree whose first place has the number `b` and that is followed by the items `c` is in the tables.
  abbrev Sits : Marked → ℕ → List MarkItem → Type 0
  Sits empty b c = Unit {0}
  Sits (one s) b c = ((x : ℕ) → sets b x ≡ s x) × (nexts b ≡ c)
  Sits (guard g) b c = Unit {0}
  Sits (both e f) b c = Sits e b (replaced (first f (b + places e)) c) × Sits f (b + places e) c
  Sits (either e f) b c = Sits e b c × Sits f (b + places e) c
  Sits (many e greedy) b c = Sits e b (replaced (first (many e greedy) b) c)
  Sits (further e f) b c = Sits e b (replaced (first f (b + places e)) c) × Sits f (b + places e) c
  Sits (mark n e) b c = Sits e b (all_prefixed (close_group n ∷ []) c)

  -- The claim on a tree.
  abbrev Expands : Marked → ℕ → List MarkItem → Type 0
  Expands e b c = (d : List MarkItem) (i : ℕ) (k : Caps) → trace sets nexts w (replaced (first e b) d) i k ≡ carried (finds e w i) k (follow i c d)

  expands-one : (s : ℕ → Bool) (b : ℕ) (c : List MarkItem) → Sits (one s) b c → Expands (one s) b c
  expands-one s b c sit d i k =
      let o = slice_get w i in
      trace-test b i k
      ∙ ap₂ (λ v l. if v then trace sets nexts w l (suc i) k else []) (is_in-same (sets b) s o sit.0) sit.1
      ∙ ap (λ x. if is_in s o then x else []) (sym (follow-on i (suc i) c d k (omega arith)))
      ∙ sym (carried_if (is_in s o) (suc i) k (follow i c d))

  expands-both : (e f : Marked) (b : ℕ) (c : List MarkItem) → Expands e b (replaced (first f (b + places e)) c) → Expands f (b + places e) c → Expands (both e f) b c
  expands-both e f b c at_e at_f d i k =
      let m = first f (b + places e) in
      ap (λ l. trace sets nexts w l i k) (replaced-twice (first e b) m d)
      ∙ at_e (replaced m d) i k
      ∙ carried-same (Goes w i) (follow i (replaced m c) (replaced m d)) (λ j x. carried (finds f w j) x (follow i c d))
      (λ j x go. cond_both (nat_lt i j) (trace sets nexts w (replaced m c) j x) (trace sets nexts w (replaced m d) j x)
      (λ y. y ≡ carried (finds f w j) x (follow i c d))
      (λ t. let lt : i < j = ltb-true i j t in
      at_f c j x ∙ carried-same (Goes w j) (follow j c c) (follow i c d) (λ l y on. follow-later i j l c d y lt on.0) (finds f w j) (finds_go f w j) x)
      (λ t. let ge : j ≤ i = ltb-false i j t in
      let same : i ≡ j = omega (arith, go.0) in
      at_f d j x ∙ ap (λ n. carried (finds f w j) x (follow n c d)) (sym same)))
      (finds e w i) (finds_go e w i) k
      ∙ sym (carried-onward (finds f w) (follow i c d) (finds e w i) k)

  expands-either : (e f : Marked) (b : ℕ) (c : List MarkItem) → Expands e b c → Expands f (b + places e) c → Expands (either e f) b c
  expands-either e f b c at_e at_f d i k =
      let m = first f (b + places e) in
      ap (λ l. trace sets nexts w l i k) (replaced-append (first e b) m d)
      ∙ trace-append (replaced (first e b) d) (replaced m d) i k
      ∙ ap₂ (λ x y. x ++ y) (at_e d i k) (at_f d i k)
      ∙ sym (carried-append (finds e w i) (finds f w i) k (follow i c d))

  expands-further : (e f : Marked) (b : ℕ) (c : List MarkItem) → Expands e b (replaced (first f (b + places e)) c) → Expands f (b + places e) c → Expands (further e f) b c
  expands-further e f b c at_e at_f d i k =
      let again = replaced (first f (b + places e)) c in
      let next = λ (j : ℕ). if nat_lt i j then finds f w j else ended j ∷ [] in
      at_e d i k
      ∙ carried-same (Goes w i) (follow i again d) (λ j x. carried (next j) x (follow i c d))
      (λ j x go. cond_both (nat_lt i j) (finds f w j) (ended j ∷ []) (λ s. follow i again d j x ≡ carried s x (follow i c d))
      (λ t. let lt : i < j = ltb-true i j t in
      follow-on i j again d x lt ∙ at_f c j x
      ∙ carried-same (Goes w j) (follow j c c) (follow i c d) (λ l y on. follow-later i j l c d y lt on.0) (finds f w j) (finds_go f w j) x)
      (λ t. let ge : j ≤ i = ltb-false i j t in
      follow-here i j again d x ge ∙ sym (append-nil (follow i c d j x) ∙ follow-here i j c d x ge)))
      (finds e w i) (finds_go e w i) k
      ∙ sym (carried-onward next (follow i c d) (finds e w i) k)

  expands-mark : (n : ℕ) (e : Marked) (b : ℕ) (c : List MarkItem) → Expands e b (all_prefixed (close_group n ∷ []) c) → Expands (mark n e) b c
  expands-mark n e b c at_e d i k =
      let close = close_group n ∷ [] in
      let opening = open_group ∷ [] in
      ap (λ l. trace sets nexts w l i k) (replaced-all_prefixed opening (replaced (first e b) (pass close ∷ [])) d)
      ∙ trace-prefixed opening (replaced (replaced (first e b) (pass close ∷ [])) d) i k
      ∙ ap (λ l. trace sets nexts w l i (opened i k)) (replaced-closed (first e b) d close)
      ∙ at_e (all_prefixed close d) i (opened i k)
      ∙ carried-opened i (finds e w i) k (follow i (all_prefixed close c) (all_prefixed close d))
      ∙ carried-same (Goes w i) (λ j x. follow i (all_prefixed close c) (all_prefixed close d) j (opened i x)) (λ j x. follow i c d j (added (record { number = n; from = i; upto = j }) x))
      (λ j x go. if_alike (nat_lt i j)
      (trace sets nexts w (all_prefixed close c) j (opened i x)) (trace sets nexts w (all_prefixed close d) j (opened i x))
      (trace sets nexts w c j (added (record { number = n; from = i; upto = j }) x)) (trace sets nexts w d j (added (record { number = n; from = i; upto = j }) x))
      (trace-prefixed close c j (opened i x)) (trace-prefixed close d j (opened i x)))
      (finds e w i) (finds_go e w i) k
      ∙ sym (carried-closed n i (finds e w i) k (follow i c d))

  more_end : (greedy : Bool) (l : List MarkItem) (s : List Found) (c d : List MarkItem) (i : ℕ) (k : Caps)
      → trace sets nexts w (replaced l d) i k ≡ carried s k (follow i c d)
      → trace sets nexts w (replaced (one_more greedy (pass []) l) d) i k ≡ carried (one_more greedy (ended i) s) k (follow i c d)
  more_end true l s c d i k h =
      ap (λ m. trace sets nexts w m i k) (replaced-append l (pass [] ∷ []) d)
      ∙ trace-append (replaced l d) (all_prefixed [] d ++ []) i k
      ∙ ap₂ (λ x y. x ++ y) h (ap (λ m. trace sets nexts w m i k) (append-nil (all_prefixed [] d) ∙ all_prefixed-nil d) ∙ sym (follow-here i i c d k (omega arith)) ∙ sym (append-nil (follow i c d i k)))
      ∙ sym (carried-append s (ended i ∷ []) k (follow i c d))
  more_end false l s c d i k h =
      trace-append (all_prefixed [] d) (replaced l d) i k
      ∙ ap₂ (λ x y. x ++ y) (ap (λ m. trace sets nexts w m i k) (all_prefixed-nil d) ∙ sym (follow-here i i c d k (omega arith))) h

  many_step : (e : Marked) (greedy : Bool) (b : ℕ) (c : List MarkItem) → Expands e b (replaced (first (many e greedy) b) c)
      → (d : List MarkItem) (i : ℕ) (k : Caps)
      → ((j : ℕ) (x : Caps) → i < j → j ≤ length w → trace sets nexts w (replaced (first (many e greedy) b) c) j x ≡ carried (finds (many e greedy) w j) x (follow j c c))
      → trace sets nexts w (replaced (first (many e greedy) b) d) i k ≡ carried (finds (many e greedy) w i) k (follow i c d)
  many_step e greedy b c at_e d i k onwards =
      let again = replaced (first (many e greedy) b) c in
      let next = λ (j : ℕ). if nat_lt i j then finds (many e greedy) w j else ended j ∷ [] in
      more_end greedy (first e b) (onward (finds e w i) next) c d i k
      (at_e d i k
      ∙ carried-same (Goes w i) (follow i again d) (λ j x. carried (next j) x (follow i c d))
      (λ j x go. cond_both (nat_lt i j) (finds (many e greedy) w j) (ended j ∷ []) (λ s. follow i again d j x ≡ carried s x (follow i c d))
      (λ t. let lt : i < j = ltb-true i j t in
      follow-on i j again d x lt ∙ onwards j x lt (go.1 lt)
      ∙ carried-same (Goes w j) (follow j c c) (follow i c d) (λ l y on. follow-later i j l c d y lt on.0) (finds (many e greedy) w j) (finds_go (many e greedy) w j) x)
      (λ t. let ge : j ≤ i = ltb-false i j t in
      follow-here i j again d x ge ∙ sym (append-nil (follow i c d j x) ∙ follow-here i j c d x ge)))
      (finds e w i) (finds_go e w i) k
      ∙ sym (carried-onward next (follow i c d) (finds e w i) k))
      ∙ ap (λ s. carried s k (follow i c d)) (sym (finds-many e greedy w i))

  expands-many : (e : Marked) (greedy : Bool) (b : ℕ) (c : List MarkItem) → Expands e b (replaced (first (many e greedy) b) c)
      → (n : ℕ) (d : List MarkItem) (i : ℕ) (k : Caps) → length w ≤ n + i
      → trace sets nexts w (replaced (first (many e greedy) b) d) i k ≡ carried (finds (many e greedy) w i) k (follow i c d)
  expands-many e greedy b c at_e zero d i k le = many_step e greedy b c at_e d i k (λ j x lt in_text. absurd (omega arith))
  expands-many e greedy b c at_e (suc n) d i k le = many_step e greedy b c at_e d i k (λ j x lt in_text. expands-many e greedy b c at_e n c j x (omega arith))

  expands : (e : Marked) (b : ℕ) (c : List MarkItem) → Sits e b c → Expands e b c
  expands empty b c sit d i k =
      ap (λ m. trace sets nexts w m i k) (append-nil (all_prefixed [] d) ∙ all_prefixed-nil d)
      ∙ sym (append-nil (follow i c d i k) ∙ follow-here i i c d k (omega arith))
  expands (one s) b c sit d i k = expands-one s b c sit d i k
  expands (guard g) b c sit d i k =
      let h = holds g (code_before w i) (slice_get w i) in
      ap (λ m. trace sets nexts w m i k) (append-nil (all_prefixed (check g ∷ []) d))
      ∙ trace-prefixed (check g ∷ []) d i k
      ∙ ap₂ (λ v x. if v then x else []) (and-true h) (sym (follow-here i i c d k (omega arith)))
      ∙ sym (carried_if h i k (follow i c d))
    where
      and-true : (x : Bool) → (x && true) ≡ x
      and-true true = refl
      and-true false = refl
  expands (both e f) b c sit d i k = expands-both e f b c (expands e b (replaced (first f (b + places e)) c) sit.0) (expands f (b + places e) c sit.1) d i k
  expands (either e f) b c sit d i k = expands-either e f b c (expands e b c sit.0) (expands f (b + places e) c sit.1) d i k
  expands (many e greedy) b c sit d i k = expands-many e greedy b c (expands e b (replaced (first (many e greedy) b) c) sit) (length w) d i k (omega arith)
  expands (further e f) b c sit d i k = expands-further e f b c (expands e b (replaced (first f (b + places e)) c) sit.0) (expands f (b + places e) c sit.1) d i k
  expands (mark n e) b c sit d i k = expands-mark n e b c (expands e b (all_prefixed (close_group n ∷ []) c) sit) d i k

  -- A tree is in tables that have its own sets and items at its places.
  sits : (e : Marked) (b : ℕ) (c : List MarkItem)
      → ((p : ℕ) → b ≤ p → p < b + places e → ((x : ℕ) → sets p x ≡ set_of e b p x) × (nexts p ≡ replaced (after e b p) c))
      → Sits e b c
  sits empty b c rows = tt
  sits (one s) b c rows =
      let row = rows b (omega arith) (omega arith) in
      (row.0, row.1 ∙ append-nil (all_prefixed [] c) ∙ all_prefixed-nil c)
  sits (guard g) b c rows = tt
  sits (both e f) b c rows = (
    sits e b (replaced (first f (b + places e)) c) (λ p low high.
        let row = rows p low (omega arith) in
        let t = lt-ltb p (b + places e) high in (
          λ x. row.0 x ∙ cond-true (nat_lt p (b + places e)) (set_of e b p x) (set_of f (b + places e) p x) t,
          row.1
              ∙ ap (λ l. replaced l c) (cond-true (nat_lt p (b + places e)) (replaced (after e b p) (first f (b + places e))) (after f (b + places e) p) t)
              ∙ replaced-twice (after e b p) (first f (b + places e)) c,
        )),
    sits f (b + places e) c (λ p low high.
        let row = rows p (omega arith) (omega arith) in
        let t = le-ltb p (b + places e) low in (
          λ x. row.0 x ∙ cond-false (nat_lt p (b + places e)) (set_of e b p x) (set_of f (b + places e) p x) t,
          row.1
              ∙ ap (λ l. replaced l c) (cond-false (nat_lt p (b + places e)) (replaced (after e b p) (first f (b + places e))) (after f (b + places e) p) t),
        )),
  )
  sits (either e f) b c rows = (
    sits e b c (λ p low high.
        let row = rows p low (omega arith) in
        let t = lt-ltb p (b + places e) high in (
          λ x. row.0 x ∙ cond-true (nat_lt p (b + places e)) (set_of e b p x) (set_of f (b + places e) p x) t,
          row.1 ∙ ap (λ l. replaced l c) (cond-true (nat_lt p (b + places e)) (after e b p) (after f (b + places e) p) t),
        )),
    sits f (b + places e) c (λ p low high.
        let row = rows p (omega arith) (omega arith) in
        let t = le-ltb p (b + places e) low in (
          λ x. row.0 x ∙ cond-false (nat_lt p (b + places e)) (set_of e b p x) (set_of f (b + places e) p x) t,
          row.1 ∙ ap (λ l. replaced l c) (cond-false (nat_lt p (b + places e)) (after e b p) (after f (b + places e) p) t),
        )),
  )
  sits (many e greedy) b c rows =
      sits e b (replaced (first (many e greedy) b) c) (λ p low high.
      let row = rows p low high in
      (row.0, row.1 ∙ replaced-twice (after e b p) (first (many e greedy) b) c))
  sits (further e f) b c rows = (
    sits e b (replaced (first f (b + places e)) c) (λ p low high.
        let row = rows p low (omega arith) in
        let t = lt-ltb p (b + places e) high in (
          λ x. row.0 x ∙ cond-true (nat_lt p (b + places e)) (set_of e b p x) (set_of f (b + places e) p x) t,
          row.1
              ∙ ap (λ l. replaced l c) (cond-true (nat_lt p (b + places e)) (replaced (after e b p) (first f (b + places e))) (after f (b + places e) p) t)
              ∙ replaced-twice (after e b p) (first f (b + places e)) c,
        )),
    sits f (b + places e) c (λ p low high.
        let row = rows p (omega arith) (omega arith) in
        let t = le-ltb p (b + places e) low in (
          λ x. row.0 x ∙ cond-false (nat_lt p (b + places e)) (set_of e b p x) (set_of f (b + places e) p x) t,
          row.1
              ∙ ap (λ l. replaced l c) (cond-false (nat_lt p (b + places e)) (replaced (after e b p) (first f (b + places e))) (after f (b + places e) p) t),
        )),
  )
  sits (mark n e) b c rows =
      sits e b (all_prefixed (close_group n ∷ []) c) (λ p low high.
      let row = rows p low high in
      (row.0, row.1 ∙ replaced-closed (after e b p) c (close_group n ∷ [])))

-- The walk of a tree's items finds what the tree finds.
pub walk-finds : (m : Marked) (w : List ℕ) (i : ℕ) (k : Caps) → walk m w (first m 0) i k ≡ map (kept k) (finds m w i)
walk-finds m w i k =
    let last = pass [] ∷ [] in
    ap (λ l. trace (set_of m 0) (after m 0) w l i k) (sym (replaced-kept (first m 0)))
    ∙ expands (set_of m 0) (after m 0) w m 0 last
    (sits (set_of m 0) (after m 0) w m 0 last (λ p low high. (λ x. refl, sym (replaced-kept (after m 0 p))))) last i k
    ∙ carried-same (Goes w i) (λ j x. if nat_lt i j then trace (set_of m 0) (after m 0) w last j x else trace (set_of m 0) (after m 0) w last j x) (λ j x. record { place = j; caps = x } ∷ [])
    (λ j x go. cond_both (nat_lt i j) (trace (set_of m 0) (after m 0) w last j x) (trace (set_of m 0) (after m 0) w last j x) (λ y. y ≡ record { place = j; caps = x } ∷ [])
    (λ _. trace-pass (set_of m 0) (after m 0) w j x) (λ _. trace-pass (set_of m 0) (after m 0) w j x))
    (finds m w i) (finds_go m w i) k
    ∙ carried-kept (finds m w i) k
