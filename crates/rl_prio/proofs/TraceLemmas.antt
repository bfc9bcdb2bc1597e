-- The trace of items on a text is the run of the tree that the items are of. A trace tries the items at a place of the text,
-- in order, and goes on after a test that succeeds with the items of its place. It keeps its ends as places.
use Rattle.std.proofs.Common.{◌≡◌, ℕ, zero, suc, ◌+◌, ◌-◌, ◌<◌, ◌≤◌, Bool, true, false, ◌&&◌, List, [], ◌∷◌, ◌++◌, length, slice_get, Option, None, Some, nat_lt, if◌then◌else◌, refl, sym, ap, ap₂, ◌∙◌, arith, append_assoc}
use Rattle.std.proofs.lemmas.Bool.{cond_both, ltb-true, ltb-false, lt-ltb, le-ltb, cond-true, cond-false}
use Rattle.std.proofs.lemmas.List.{append-nil}
use Rattle.rl_syntax.specs.declared.anchors.Guard.{Guard}
use Rattle.rl_syntax.specs.Guards.{is_in, holds, code_before}
use Rattle.rl_syntax.specs.Tree.{Tree, empty, one, guard, both, either, many, places}
use Rattle.rl_syntax.specs.Run.{Step, test, end, onward, one_more, run}
use Rattle.rl_syntax.proofs.RunLaws.{Goes, run_goes, run-many, is_in-below, onward-same, onward-kept, onward-append, onward-onward}
use Rattle.rl_prio.specs.Items.{Item, test_at, pass, all_guarded, replaced, first, after, set_of, all_hold}
use Rattle.rl_prio.proofs.ItemLemmas.{all_guarded-nil, replaced-append, replaced-twice, replaced-kept}

pub if_same : (b : Bool) (x y z : List Step) → (b ≡ true → x ≡ y) → ◌≡◌ {A = List Step} (if b then x else z) (if b then y else z)
if_same true x y z f = f refl
if_same false x y z f = refl

none : (b : Bool) → ◌≡◌ {A = List Step} [] (if b then [] else [])
none true = refl
none false = refl

guard_out : (a h : Bool) (x t : List Step)
    → ◌≡◌ {A = List Step} ((if a && h then x else []) ++ (if a then t else [])) (if a then (if h then x else []) ++ t else [])
guard_out true h x t = refl
guard_out false h x t = refl

onward_if : (v : Bool) (j : ℕ) (k : ℕ → List Step) → onward (if v then end j ∷ [] else []) k ≡ (if v then k j else [])
onward_if true j k = append-nil (k j)
onward_if false j k = refl

pub all_hold-append : (gs hs : List Guard) (before next : Option ℕ) → all_hold (gs ++ hs) before next ≡ (all_hold gs before next && all_hold hs before next)
all_hold-append [] hs before next = refl
all_hold-append (g ∷ gs) hs before next =
    ap (λ b. holds g before next && b) (all_hold-append gs hs before next)
    ∙ sym (and_assoc (holds g before next) (all_hold gs before next) (all_hold hs before next))
  where
    and_assoc : (a b c : Bool) → (a && b && c) ≡ (a && (b && c))
    and_assoc true b c = refl
    and_assoc false b c = refl

pub is_in-same : (s t : ℕ → Bool) (o : Option ℕ) → ((c : ℕ) → s c ≡ t c) → is_in s o ≡ is_in t o
unfolding is_in
is_in-same s t None f = refl
is_in-same s t (Some c) f = f c

-- Items that are tried at a place; `next` is what follows once the test of a place has succeeded.
abbrev pub tried : (ℕ → ℕ → Bool) → List ℕ → (ℕ → List Step) → List Item → ℕ → List Step
tried sets w next [] i = []
tried sets w next (test_at gs p ∷ l) i =
    (if all_hold gs (code_before w i) (slice_get w i) then test ∷ (if is_in (sets p) (slice_get w i) then next p else []) else [])
    ++ tried sets w next l i
tried sets w next (pass gs ∷ l) i =
    (if all_hold gs (code_before w i) (slice_get w i) then end i ∷ [] else []) ++ tried sets w next l i

-- The trace, by how many codes may be read at most.
abbrev pub traced : (ℕ → ℕ → Bool) → (ℕ → List Item) → List ℕ → ℕ → List Item → ℕ → List Step
traced sets nexts w zero l i = tried sets w (λ p. []) l i
traced sets nexts w (suc n) l i = tried sets w (λ p. traced sets nexts w n (nexts p) (suc i)) l i

pub trace : (ℕ → ℕ → Bool) → (ℕ → List Item) → List ℕ → List Item → ℕ → List Step
trace sets nexts w l i = traced sets nexts w (length w - i) l i

tried-same : (sets : ℕ → ℕ → Bool) (w : List ℕ) (next other : ℕ → List Step) (i : ℕ) → ((p : ℕ) → i < length w → next p ≡ other p)
    → (l : List Item) → tried sets w next l i ≡ tried sets w other l i
tried-same sets w next other i f [] = refl
tried-same sets w next other i f (test_at gs p ∷ l) =
    ap₂ (λ x y. (if all_hold gs (code_before w i) (slice_get w i) then test ∷ x else []) ++ y)
    (if_same (is_in (sets p) (slice_get w i)) (next p) (other p) [] (λ e. f p (is_in-below (sets p) w i e)))
    (tried-same sets w next other i f l)
tried-same sets w next other i f (pass gs ∷ l) =
    ap (λ y. (if all_hold gs (code_before w i) (slice_get w i) then end i ∷ [] else []) ++ y) (tried-same sets w next other i f l)

tried-append : (sets : ℕ → ℕ → Bool) (w : List ℕ) (next : ℕ → List Step) (i : ℕ) (l m : List Item)
    → tried sets w next (l ++ m) i ≡ tried sets w next l i ++ tried sets w next m i
tried-append sets w next i [] m = refl
tried-append sets w next i (test_at gs p ∷ l) m =
    let x : List Step = if all_hold gs (code_before w i) (slice_get w i) then test ∷ (if is_in (sets p) (slice_get w i) then next p else []) else [] in
    ap (λ n. x ++ n) (tried-append sets w next i l m) ∙ sym (append_assoc x (tried sets w next l i) (tried sets w next m i))
tried-append sets w next i (pass gs ∷ l) m =
    let x : List Step = if all_hold gs (code_before w i) (slice_get w i) then end i ∷ [] else [] in
    ap (λ n. x ++ n) (tried-append sets w next i l m) ∙ sym (append_assoc x (tried sets w next l i) (tried sets w next m i))

tried-all_guarded : (sets : ℕ → ℕ → Bool) (w : List ℕ) (next : ℕ → List Step) (i : ℕ) (gs : List Guard) (l : List Item)
    → tried sets w next (all_guarded gs l) i ≡ (if all_hold gs (code_before w i) (slice_get w i) then tried sets w next l i else [])
tried-all_guarded sets w next i gs [] = none (all_hold gs (code_before w i) (slice_get w i))
tried-all_guarded sets w next i gs (test_at hs p ∷ l) =
    let x : List Step = test ∷ (if is_in (sets p) (slice_get w i) then next p else []) in
    ap₂ (λ b y. (if b then x else []) ++ y)
    (all_hold-append gs hs (code_before w i) (slice_get w i))
    (tried-all_guarded sets w next i gs l)
    ∙ guard_out (all_hold gs (code_before w i) (slice_get w i)) (all_hold hs (code_before w i) (slice_get w i)) x (tried sets w next l i)
tried-all_guarded sets w next i gs (pass hs ∷ l) =
    let x : List Step = end i ∷ [] in
    ap₂ (λ b y. (if b then x else []) ++ y)
    (all_hold-append gs hs (code_before w i) (slice_get w i))
    (tried-all_guarded sets w next i gs l)
    ∙ guard_out (all_hold gs (code_before w i) (slice_get w i)) (all_hold hs (code_before w i) (slice_get w i)) x (tried sets w next l i)

module _ (sets : ℕ → ℕ → Bool) (nexts : ℕ → List Item) (w : List ℕ) where
  -- The rule of the trace needs no count.
  pub trace_goes : (l : List Item) (i : ℕ) → trace sets nexts w l i ≡ tried sets w (λ p. trace sets nexts w (nexts p) (suc i)) l i
  unfolding trace
  trace_goes l i = by_count (length w - i) refl
    where
      by_count : (n : ℕ) → length w - i ≡ n → traced sets nexts w n l i ≡ tried sets w (λ p. traced sets nexts w (length w - suc i) (nexts p) (suc i)) l i
      by_count zero e = tried-same sets w (λ p. []) (λ p. traced sets nexts w (length w - suc i) (nexts p) (suc i)) i (λ p lt. absurd (omega arith)) l
      by_count (suc n) e =
          let less : n ≡ length w - suc i = omega arith in
          ap (λ m. tried sets w (λ p. traced sets nexts w m (nexts p) (suc i)) l i) less

  pub trace-append : (l m : List Item) (i : ℕ) → trace sets nexts w (l ++ m) i ≡ trace sets nexts w l i ++ trace sets nexts w m i
  trace-append l m i =
      trace_goes (l ++ m) i
      ∙ tried-append sets w (λ p. trace sets nexts w (nexts p) (suc i)) i l m
      ∙ ap₂ (λ x y. x ++ y) (sym (trace_goes l i)) (sym (trace_goes m i))

  pub trace-all_guarded : (gs : List Guard) (l : List Item) (i : ℕ)
      → trace sets nexts w (all_guarded gs l) i ≡ (if all_hold gs (code_before w i) (slice_get w i) then trace sets nexts w l i else [])
  trace-all_guarded gs l i =
      trace_goes (all_guarded gs l) i
      ∙ tried-all_guarded sets w (λ p. trace sets nexts w (nexts p) (suc i)) i gs l
      ∙ ap (λ x. if all_hold gs (code_before w i) (slice_get w i) then x else []) (sym (trace_goes l i))

  pub trace-nil : (i : ℕ) → trace sets nexts w [] i ≡ []
  trace-nil i = trace_goes [] i

  pub trace-pass : (i : ℕ) → trace sets nexts w (pass [] ∷ []) i ≡ end i ∷ []
  trace-pass i = trace_goes (pass [] ∷ []) i

  trace-test : (b i : ℕ) → trace sets nexts w (test_at [] b ∷ []) i ≡ test ∷ (if is_in (sets b) (slice_get w i) then trace sets nexts w (nexts b) (suc i) else [])
  trace-test b i = trace_goes (test_at [] b ∷ []) i ∙ ap (λ x. test ∷ x) (append-nil (if is_in (sets b) (slice_get w i) then trace sets nexts w (nexts b) (suc i) else []))

  -- What follows an end: `d` if no code was read since the place `i`, and `c` further on.
  abbrev follow : ℕ → List Item → List Item → ℕ → List Step
  follow i c d j = if nat_lt i j then trace sets nexts w c j else trace sets nexts w d j

  follow-on : (i j : ℕ) (c d : List Item) → i < j → follow i c d j ≡ trace sets nexts w c j
  follow-on i j c d lt = cond-true (nat_lt i j) (trace sets nexts w c j) (trace sets nexts w d j) (lt-ltb i j lt)

  follow-here : (i j : ℕ) (c d : List Item) → j ≤ i → follow i c d j ≡ trace sets nexts w d j
  follow-here i j c d le = cond-false (nat_lt i j) (trace sets nexts w c j) (trace sets nexts w d j) (le-ltb i j le)

  -- Past a place further on the same follows from either place.
  follow-later : (i j k : ℕ) (c d : List Item) → i < j → j ≤ k → follow j c c k ≡ follow i c d k
  follow-later i j k c d lt le =
      cond_both (nat_lt j k) (trace sets nexts w c k) (trace sets nexts w c k) (λ x. x ≡ trace sets nexts w c k) (λ _. refl) (λ _. refl)
      ∙ sym (follow-on i k c d (omega arith))

  -- A tree whose first place has the number `b`, followed by the items `c`, is in the tables.
  abbrev pub Sits : Tree → ℕ → List Item → Type 0
  Sits empty b c = Unit {0}
  Sits (one s) b c = ((x : ℕ) → sets b x ≡ s x) × (nexts b ≡ c)
  Sits (guard g) b c = Unit {0}
  Sits (both e f) b c = Sits e b (replaced (first f (b + places e)) c) × Sits f (b + places e) c
  Sits (either e f) b c = Sits e b c × Sits f (b + places e) c
  Sits (many e greedy) b c = Sits e b (replaced (first (many e greedy) b) c)

  -- The claim on a tree.
  abbrev Expands : Tree → ℕ → List Item → Type 0
  Expands e b c = (d : List Item) (i : ℕ) → trace sets nexts w (replaced (first e b) d) i ≡ onward (run e w i) (follow i c d)

  expands-one : (s : ℕ → Bool) (b : ℕ) (c : List Item) → Sits (one s) b c → Expands (one s) b c
  expands-one s b c sit d i =
      let o = slice_get w i in
      trace-test b i
      ∙ ap (λ x. test ∷ x)
      (ap₂ (λ v l. if v then trace sets nexts w l (suc i) else []) (is_in-same (sets b) s o sit.0) sit.1
      ∙ ap (λ x. if is_in s o then x else []) (sym (follow-on i (suc i) c d (omega arith)))
      ∙ sym (onward_if (is_in s o) (suc i) (follow i c d)))

  expands-both : (e f : Tree) (b : ℕ) (c : List Item) → Expands e b (replaced (first f (b + places e)) c) → Expands f (b + places e) c → Expands (both e f) b c
  expands-both e f b c at_e at_f d i =
      let m = first f (b + places e) in
      ap (λ l. trace sets nexts w l i) (replaced-twice (first e b) m d)
      ∙ at_e (replaced m d) i
      ∙ onward-same (Goes w i) (follow i (replaced m c) (replaced m d)) (λ j. onward (run f w j) (follow i c d))
      (λ j go. cond_both (nat_lt i j) (trace sets nexts w (replaced m c) j) (trace sets nexts w (replaced m d) j)
      (λ x. x ≡ onward (run f w j) (follow i c d))
      (λ t. let lt : i < j = ltb-true i j t in
      at_f c j ∙ onward-same (Goes w j) (follow j c c) (follow i c d) (λ k on. follow-later i j k c d lt on.0) (run f w j) (run_goes f w j))
      (λ t. let ge : j ≤ i = ltb-false i j t in
      let same : i ≡ j = omega (arith, go.0) in
      at_f d j ∙ ap (λ n. onward (run f w j) (follow n c d)) (sym same)))
      (run e w i) (run_goes e w i)
      ∙ sym (onward-onward (run f w) (follow i c d) (run e w i))

  expands-either : (e f : Tree) (b : ℕ) (c : List Item) → Expands e b c → Expands f (b + places e) c → Expands (either e f) b c
  expands-either e f b c at_e at_f d i =
      let m = first f (b + places e) in
      ap (λ l. trace sets nexts w l i) (replaced-append (first e b) m d)
      ∙ trace-append (replaced (first e b) d) (replaced m d) i
      ∙ ap₂ (λ x y. x ++ y) (at_e d i) (at_f d i)
      ∙ sym (onward-append (follow i c d) (run e w i) (run f w i))

  -- One more end, in the items and in the steps.
  more_end : (greedy : Bool) (l : List Item) (s : List Step) (c d : List Item) (i : ℕ)
      → trace sets nexts w (replaced l d) i ≡ onward s (follow i c d)
      → trace sets nexts w (replaced (one_more greedy (pass []) l) d) i ≡ onward (one_more greedy (end i) s) (follow i c d)
  more_end true l s c d i h =
      ap (λ m. trace sets nexts w m i) (replaced-append l (pass [] ∷ []) d)
      ∙ trace-append (replaced l d) (all_guarded [] d ++ []) i
      ∙ ap₂ (λ x y. x ++ y) h (ap (λ m. trace sets nexts w m i) (append-nil (all_guarded [] d) ∙ all_guarded-nil d) ∙ sym (follow-here i i c d (omega arith)) ∙ sym (append-nil (follow i c d i)))
      ∙ sym (onward-append (follow i c d) s (end i ∷ []))
  more_end false l s c d i h =
      trace-append (all_guarded [] d) (replaced l d) i
      ∙ ap₂ (λ x y. x ++ y) (ap (λ m. trace sets nexts w m i) (all_guarded-nil d) ∙ sym (follow-here i i c d (omega arith))) h

  -- If it is already known what follows further on.
  many_step : (e : Tree) (greedy : Bool) (b : ℕ) (c : List Item) → Expands e b (replaced (first (many e greedy) b) c)
      → (d : List Item) (i : ℕ)
      → ((j : ℕ) → i < j → j ≤ length w → trace sets nexts w (replaced (first (many e greedy) b) c) j ≡ onward (run (many e greedy) w j) (follow j c c))
      → trace sets nexts w (replaced (first (many e greedy) b) d) i ≡ onward (run (many e greedy) w i) (follow i c d)
  many_step e greedy b c at_e d i onwards =
      let again = replaced (first (many e greedy) b) c in
      let further = λ (j : ℕ). if nat_lt i j then run (many e greedy) w j else end j ∷ [] in
      more_end greedy (first e b) (onward (run e w i) further) c d i
      (at_e d i
      ∙ onward-same (Goes w i) (follow i again d) (λ j. onward (further j) (follow i c d))
      (λ j go. cond_both (nat_lt i j) (run (many e greedy) w j) (end j ∷ []) (λ s. follow i again d j ≡ onward s (follow i c d))
      (λ t. let lt : i < j = ltb-true i j t in
      follow-on i j again d lt ∙ onwards j lt (go.1 lt)
      ∙ onward-same (Goes w j) (follow j c c) (follow i c d) (λ k on. follow-later i j k c d lt on.0) (run (many e greedy) w j) (run_goes (many e greedy) w j))
      (λ t. let ge : j ≤ i = ltb-false i j t in
      follow-here i j again d ge ∙ sym (append-nil (follow i c d j) ∙ follow-here i j c d ge)))
      (run e w i) (run_goes e w i)
      ∙ sym (onward-onward further (follow i c d) (run e w i)))
      ∙ ap (λ s. onward s (follow i c d)) (sym (run-many e greedy w i))

  -- By how many codes are left at most.
  expands-many : (e : Tree) (greedy : Bool) (b : ℕ) (c : List Item) → Expands e b (replaced (first (many e greedy) b) c)
      → (n : ℕ) (d : List Item) (i : ℕ) → length w ≤ n + i
      → trace sets nexts w (replaced (first (many e greedy) b) d) i ≡ onward (run (many e greedy) w i) (follow i c d)
  expands-many e greedy b c at_e zero d i le = many_step e greedy b c at_e d i (λ j lt in_text. absurd (omega arith))
  expands-many e greedy b c at_e (suc n) d i le = many_step e greedy b c at_e d i (λ j lt in_text. expands-many e greedy b c at_e n c j (omega arith))

  pub expands : (e : Tree) (b : ℕ) (c : List Item) → Sits e b c → Expands e b c
  expands empty b c sit d i =
      ap (λ m. trace sets nexts w m i) (append-nil (all_guarded [] d) ∙ all_guarded-nil d)
      ∙ sym (append-nil (follow i c d i) ∙ follow-here i i c d (omega arith))
  expands (one s) b c sit d i = expands-one s b c sit d i
  expands (guard g) b c sit d i =
      let h = holds g (code_before w i) (slice_get w i) in
      ap (λ m. trace sets nexts w m i) (append-nil (all_guarded (g ∷ []) d))
      ∙ trace-all_guarded (g ∷ []) d i
      ∙ ap₂ (λ v x. if v then x else []) (and-true h) (sym (follow-here i i c d (omega arith)))
      ∙ sym (onward_if h i (follow i c d))
    where
      and-true : (x : Bool) → (x && true) ≡ x
      and-true true = refl
      and-true false = refl
  expands (both e f) b c sit d i = expands-both e f b c (expands e b (replaced (first f (b + places e)) c) sit.0) (expands f (b + places e) c sit.1) d i
  expands (either e f) b c sit d i = expands-either e f b c (expands e b c sit.0) (expands f (b + places e) c sit.1) d i
  expands (many e greedy) b c sit d i = expands-many e greedy b c (expands e b (replaced (first (many e greedy) b) c) sit) (length w) d i (omega arith)

  -- A tree is in tables that have its own sets and items at its places.
  pub sits : (e : Tree) (b : ℕ) (c : List Item)
      → ((p : ℕ) → b ≤ p → p < b + places e → ((x : ℕ) → sets p x ≡ set_of e b p x) × (nexts p ≡ replaced (after e b p) c))
      → Sits e b c
  sits empty b c rows = tt
  sits (one s) b c rows =
      let row = rows b (omega arith) (omega arith) in
      (row.0, row.1 ∙ append-nil (all_guarded [] c) ∙ all_guarded-nil c)
  sits (guard g) b c rows = tt
  sits (both e f) b c rows = (
    sits e b (replaced (first f (b + places e)) c) (λ p low high.
        let row = rows p low (omega arith) in
        let t = lt-ltb p (b + places e) high in (
          λ x. row.0 x ∙ cond-true (nat_lt p (b + places e)) (set_of e b p x) (set_of f (b + places e) p x) t,
          row.1
              ∙ ap (λ l. replaced l c) (cond-true (nat_lt p (b + places e)) (replaced (after e b p) (first f (b + places e))) (after f (b + places e) p) t)
              ∙ replaced-twice (after e b p) (first f (b + places e)) c,
        )),
    sits f (b + places e) c (λ p low high.
        let row = rows p (omega arith) (omega arith) in
        let t = le-ltb p (b + places e) low in (
          λ x. row.0 x ∙ cond-false (nat_lt p (b + places e)) (set_of e b p x) (set_of f (b + places e) p x) t,
          row.1
              ∙ ap (λ l. replaced l c) (cond-false (nat_lt p (b + places e)) (replaced (after e b p) (first f (b + places e))) (after f (b + places e) p) t),
        )),
  )
  sits (either e f) b c rows = (
    sits e b c (λ p low high.
        let row = rows p low (omega arith) in
        let t = lt-ltb p (b + places e) high in (
          λ x. row.0 x ∙ cond-true (nat_lt p (b + places e)) (set_of e b p x) (set_of f (b + places e) p x) t,
          row.1 ∙ ap (λ l. replaced l c) (cond-true (nat_lt p (b + places e)) (after e b p) (after f (b + places e) p) t),
        )),
    sits f (b + places e) c (λ p low high.
        let row = rows p (omega arith) (omega arith) in
        let t = le-ltb p (b + places e) low in (
          λ x. row.0 x ∙ cond-false (nat_lt p (b + places e)) (set_of e b p x) (set_of f (b + places e) p x) t,
          row.1 ∙ ap (λ l. replaced l c) (cond-false (nat_lt p (b + places e)) (after e b p) (after f (b + places e) p) t),
        )),
  )
  sits (many e greedy) b c rows =
      sits e b (replaced (first (many e greedy) b) c) (λ p low high.
      let row = rows p low high in
      (row.0, row.1 ∙ replaced-twice (after e b p) (first (many e greedy) b) c))

-- The trace of a tree's items is its run.
pub trace-run : (t : Tree) (w : List ℕ) (i : ℕ) → trace (set_of t 0) (after t 0) w (first t 0) i ≡ run t w i
trace-run t w i =
    let last = pass [] ∷ [] in
    ap (λ l. trace (set_of t 0) (after t 0) w l i) (sym (replaced-kept (first t 0)))
    ∙ expands (set_of t 0) (after t 0) w t 0 last
    (sits (set_of t 0) (after t 0) w t 0 last (λ p low high. (λ x. refl, sym (replaced-kept (after t 0 p))))) last i
    ∙ onward-same (Goes w i) (λ j. if nat_lt i j then trace (set_of t 0) (after t 0) w last j else trace (set_of t 0) (after t 0) w last j) (λ j. end j ∷ [])
    (λ j go. cond_both (nat_lt i j) (trace (set_of t 0) (after t 0) w last j) (trace (set_of t 0) (after t 0) w last j) (λ x. x ≡ end j ∷ [])
    (λ _. trace-pass (set_of t 0) (after t 0) w j) (λ _. trace-pass (set_of t 0) (after t 0) w j))
    (run t w i) (run_goes t w i)
    ∙ onward-kept (run t w i)
