-- The breadth-first search for a shortest word: its steps, and what it has found at the end.
use Rattle.std.proofs.Common.{◌≡◌, ◌≢◌, ℕ, zero, suc, ◌+◌, ◌<◌, ◌≤◌, ◌⊎◌, inl, inr, Bool, true, false, true≢false, List, [], ◌∷◌, ◌++◌, length, get_or, set, replicate, reverse, slice_get, Option, Some, refl, sym, ◌∙◌, ap, ap₂, subst, arith, length-set, get_or-set_same, get_or-set_other}
use Rattle.std.proofs.lemmas.Bool.{cases_lt, cases_eq}
use Rattle.std.proofs.lemmas.List.{length_push, get_or_push, get_or_append_left, get_or-replicate, length-replicate, get_or_past, reverse-append, length-reverse}
use Rattle.rl_graph.specs.declared.walks.Node.{Node}
use Rattle.rl_graph.specs.Paths.{total, one, Has, paths, IsPath, led, onto, IsBounded}
use Rattle.rl_graph.specs.Walks.{IsShortest, NoPath}
use Rattle.rl_graph.specs.internal.Nodes.{Steps}
use Rattle.rl_graph.specs.internal.Nodes.{node_of, seen_of, root_node, start_steps, IsStep, IsWalk, Near, ComesAfter, IsAt, Missed, IsRooted, reached, IsReached, Extends, IsFurther, IsWayTo}
use Rattle.rl_graph.proofs.Sums.{at-has, at-short, Has-at, total-there}
use Rattle.rl_graph.proofs.PathLaws.{nil-same, one-le}
use Rattle.rl_graph.proofs.SearchLaws.{total-set}

-- Nodes after one more

node-old : (s : Steps) (x : Node) (k : ℕ) → k < length s.nodes → node_of (reached s x) k ≡ node_of s k
node-old s x k h = get_or_append_left s.nodes (x ∷ []) (root_node 0) k h

node-new : (s : Steps) (x : Node) (k : ℕ) → k ≡ length s.nodes → node_of (reached s x) k ≡ x
node-new s x k e = get_or_push s.nodes x (root_node 0) k (sym e)

pub Extends-self : (s : Steps) → Extends s s
Extends-self s = record { least = refl; longer = omega arith; same = λ k h. refl }

pub Extends-trans : (s t u : Steps) → Extends s t → Extends t u → Extends s u
Extends-trans s t u a b =
    record {
      least = b.least ∙ a.least;
      longer = omega (arith, a.longer, b.longer);
      same = λ k h. b.same k (omega (arith, a.longer)) ∙ a.same k h;
    }

Extends-reached : (s : Steps) (x : Node) → Extends s (reached s x)
Extends-reached s x = record { least = refl; longer = omega (arith, length_push s.nodes x); same = node-old s x }

near-kept : (s : Steps) (x : Node) (m d : ℕ) → Near s m d → Near (reached s x) m d
near-kept s x m d (k, a, h, e, l) =
    (k, a, omega (arith, length_push s.nodes x), ap (λ (z : Node). z.state) (node-old s x k h) ∙ e, omega (arith, ap (λ (z : Node). z.depth) (node-old s x k h)))

-- The node of a target.
abbrev pub child : Steps → ℕ → ℕ → ℕ → ℕ → Node
child s k c e m = record { state = m; parent = k; letter = c; number = e; depth = (node_of s k).depth + 1 }

-- What a walk has come to, one move further on

passed-more : (k c e j l i : ℕ) → ComesAfter k c (e + 1) j l i → ComesAfter k c e j l i ⊎ ((j ≡ k) × (l ≡ c) × (i ≡ e))
passed-more k c e j l i (inl h) = inl (inl h)
passed-more k c e j l i (inr (a, inl h)) = inl (inr (a, inl h))
passed-more k c e j l i (inr (a, inr h)) = by (cases_lt i e)
  where
    by : (i < e) ⊎ (e ≤ i) → ComesAfter k c e j l i ⊎ ((j ≡ k) × (l ≡ c) × (i ≡ e))
    by (inl x) = inl (inr (a, inr (h.0, x)))
    by (inr x) = inr (a, h.0, omega (arith, h.1))

passed-old : (k c e j l i n : ℕ) → k < n → ComesAfter k c e j l i → j < n
passed-old k c e j l i n h (inl x) = omega arith
passed-old k c e j l i n h (inr x) = omega (arith, x.0)

same-target : (next : ℕ → ℕ → List ℕ) (s : Steps) (k c e j l i m x : ℕ) → slice_get (next (node_of s k).state c) e ≡ Some m → j ≡ k → l ≡ c → i ≡ e → slice_get (next (node_of s j).state l) i ≡ Some x → m ≡ x
same-target next s k c e j l i m x here a b d got =
    let g1 : slice_get (next (node_of s j).state l) i ≡ slice_get (next (node_of s k).state l) i = ap (λ (z : ℕ). slice_get (next (node_of s z).state l) i) a in
    let g2 : slice_get (next (node_of s k).state l) i ≡ slice_get (next (node_of s k).state c) e = ap₂ (λ u v. slice_get (next (node_of s k).state u) v) b d in
    let g : Some m ≡ Some x = sym here ∙ (sym g2 ∙ (sym g1 ∙ got)) in
    cc

-- The target is seen already.
at-seen : (next : ℕ → ℕ → List ℕ) (n : ℕ) (s : Steps) (k c e m : ℕ) → IsWalk next n s → IsAt next k c e s → k < length s.nodes → slice_get (next (node_of s k).state c) e ≡ Some m → seen_of s m ≡ true → IsAt next k c (e + 1) s
at-seen next n s k c e m w a h here seen =
    record { near = λ j l i x p lt got. by j l i x lt got (passed-more k c e j l i p); top = a.top }
  where
    found : Near s m ((node_of s k).depth + 1)
    found = let f = w.listed m seen in (f.0, f.1, f.2, f.3, a.top f.0 f.2 h)

    by : (j l i x : ℕ) → j < length s.nodes → slice_get (next (node_of s j).state l) i ≡ Some x → ComesAfter k c e j l i ⊎ ((j ≡ k) × (l ≡ c) × (i ≡ e)) → Near s x ((node_of s j).depth + 1)
    by j l i x lt got (inl p) = a.near j l i x p lt got
    by j l i x lt got (inr p) =
        subst (λ (z : ℕ). Near s x ((node_of s z).depth + 1)) (sym p.0)
        (subst (λ (z : ℕ). Near s z ((node_of s k).depth + 1)) (same-target next s k c e j l i m x here p.0 p.1 p.2 got) found)

-- The target is new.
at-new : (next : ℕ → ℕ → List ℕ) (n : ℕ) (s : Steps) (k c e m : ℕ) → IsWalk next n s → IsAt next k c e s → k < length s.nodes → slice_get (next (node_of s k).state c) e ≡ Some m → IsAt next k c (e + 1) (reached s (child s k c e m))
at-new next n s k c e m w a h here =
    record { near = λ j l i y p lt got. by j l i y (passed-old k c (e + 1) j l i (length s.nodes) h p) got (passed-more k c e j l i p); top = λ j lt kt. to_top j (cases_lt j (length s.nodes)) lt }
  where
    x : Node
    x = child s k c e m

    old : (j : ℕ) → j < length s.nodes → node_of (reached s (child s k c e m)) j ≡ node_of s j
    old j lt = node-old s (child s k c e m) j lt

    found : Near (reached s (child s k c e m)) m ((node_of s k).depth + 1)
    found =
        let f = node-new s (child s k c e m) (length s.nodes) refl in
        (length s.nodes, omega (arith, w.least_one, w.some), omega (arith, length_push s.nodes (child s k c e m)), ap (λ (z : Node). z.state) f, omega (arith, ap (λ (z : Node). z.depth) f))

    by : (j l i y : ℕ) → j < length s.nodes → slice_get (next (node_of (reached s (child s k c e m)) j).state l) i ≡ Some y → ComesAfter k c e j l i ⊎ ((j ≡ k) × (l ≡ c) × (i ≡ e)) → Near (reached s (child s k c e m)) y ((node_of (reached s (child s k c e m)) j).depth + 1)
    by j l i y lt got (inl p) =
        let g = subst (λ (z : Node). slice_get (next z.state l) i ≡ Some y) (old j lt) got in
        subst (λ (z : Node). Near (reached s (child s k c e m)) y (z.depth + 1)) (sym (old j lt)) (near-kept s (child s k c e m) y ((node_of s j).depth + 1) (a.near j l i y p lt g))
    by j l i y lt got (inr p) =
        let g = subst (λ (z : Node). slice_get (next z.state l) i ≡ Some y) (old j lt) got in
        subst (λ (z : Node). Near (reached s (child s k c e m)) y (z.depth + 1)) (sym (old j lt))
        (subst (λ (z : ℕ). Near (reached s (child s k c e m)) y ((node_of s z).depth + 1)) (sym p.0)
        (subst (λ (z : ℕ). Near (reached s (child s k c e m)) z ((node_of s k).depth + 1)) (same-target next s k c e j l i m y here p.0 p.1 p.2 g) found))

    to_top : (j : ℕ) → (j < length s.nodes) ⊎ (length s.nodes ≤ j) → j < length (s.nodes ++ child s k c e m ∷ []) → (node_of (reached s (child s k c e m)) j).depth ≤ (node_of (reached s (child s k c e m)) k).depth + 1
    to_top j (inl i) lt = omega (arith, ap (λ (z : Node). z.depth) (old j i), ap (λ (z : Node). z.depth) (old k h), a.top j i h)
    to_top j (inr i) lt =
        omega (arith, ap (λ (z : Node). z.depth) (node-new s (child s k c e m) j (omega (arith, length_push s.nodes (child s k c e m)))), ap (λ (z : Node). z.depth) (old k h))

walk-new : (next : ℕ → ℕ → List ℕ) (n : ℕ) (s : Steps) (k c e m : ℕ) → IsWalk next n s → IsAt next k c e s → k < length s.nodes → slice_get (next (node_of s k).state c) e ≡ Some m → m < n → seen_of s m ≡ false → IsWalk next n (reached s (child s k c e m))
walk-new next n s k c e m w a h here in_range unseen =
    record {
      size = length-set s.seen m true ∙ w.size;
      least_one = w.least_one;
      some = omega (arith, long);
      few = omega (arith, long, w.few, total-set one s.seen m true false fits, ap one unseen);
      flat = ap (λ (z : Node). z.depth) (old 0 w.some) ∙ w.flat;
      steps = λ j a lt. to_steps j a (cases_lt j (length s.nodes)) lt;
      within = λ j lt. to_within j (cases_lt j (length s.nodes)) lt;
      low = λ j lt. to_low j (cases_lt j (length s.nodes)) lt;
      marked = λ j a lt. to_marked j a (cases_lt j (length s.nodes)) lt;
      listed = λ q t. to_listed q t (cases_eq q m);
      rises = λ i j le lt. to_rises i j le (cases_lt i (length s.nodes)) (cases_lt j (length s.nodes)) lt;
    }
  where
    long : length (s.nodes ++ child s k c e m ∷ []) ≡ length s.nodes + 1
    long = length_push s.nodes (child s k c e m)

    fits : m < length s.seen
    fits = omega (arith, w.size)

    old : (j : ℕ) → j < length s.nodes → node_of (reached s (child s k c e m)) j ≡ node_of s j
    old j lt = node-old s (child s k c e m) j lt

    new : (j : ℕ) → length s.nodes ≤ j → j < length (s.nodes ++ child s k c e m ∷ []) → node_of (reached s (child s k c e m)) j ≡ child s k c e m
    new j le lt = node-new s (child s k c e m) j (omega (arith, long))

    -- A step keeps its parent.
    kept : (j : ℕ) (x : Node) → j ≤ length s.nodes → IsStep next s j x → IsStep next (reached s (child s k c e m)) j x
    kept j x le t =
        let p = old x.parent (omega (arith, t.earlier)) in
        record {
          earlier = t.earlier;
          move = subst (λ (z : Node). slice_get (next z.state x.letter) x.number ≡ Some x.state) (sym p) t.move;
          deeper = t.deeper ∙ ap (λ (z : Node). z.depth + 1) (sym p);
        }

    to_steps : (j : ℕ) → 0 < j → (j < length s.nodes) ⊎ (length s.nodes ≤ j) → j < length (s.nodes ++ child s k c e m ∷ []) → IsStep next (reached s (child s k c e m)) j (node_of (reached s (child s k c e m)) j)
    to_steps j a (inl i) lt = subst (IsStep next (reached s (child s k c e m)) j) (sym (old j i)) (kept j (node_of s j) (omega arith) (w.steps j a i))
    to_steps j a (inr i) lt =
        let t : IsStep next s j (child s k c e m) = record { earlier = omega arith; move = here; deeper = refl } in
        subst (IsStep next (reached s (child s k c e m)) j) (sym (new j i lt)) (kept j (child s k c e m) (omega (arith, long)) t)

    to_within : (j : ℕ) → (j < length s.nodes) ⊎ (length s.nodes ≤ j) → j < length (s.nodes ++ child s k c e m ∷ []) → (node_of (reached s (child s k c e m)) j).state < n
    to_within j (inl i) lt = omega (arith, ap (λ (z : Node). z.state) (old j i), w.within j i)
    to_within j (inr i) lt = omega (arith, ap (λ (z : Node). z.state) (new j i lt))

    to_low : (j : ℕ) → (j < length s.nodes) ⊎ (length s.nodes ≤ j) → j < length (s.nodes ++ child s k c e m ∷ []) → (node_of (reached s (child s k c e m)) j).depth ≤ j
    to_low j (inl i) lt = omega (arith, ap (λ (z : Node). z.depth) (old j i), w.low j i)
    to_low j (inr i) lt = omega (arith, ap (λ (z : Node). z.depth) (new j i lt), w.low k h)

    seen_kept : (q : ℕ) → seen_of s q ≡ true → seen_of (reached s (child s k c e m)) q ≡ true
    seen_kept q t = by (cases_eq q m)
      where
        by : (q ≡ m) ⊎ (q ≢ m) → get_or (set s.seen m true) q false ≡ true
        by (inl i) = ap (λ z. get_or (set s.seen m true) z false) i ∙ get_or-set_same s.seen m true false fits
        by (inr i) = get_or-set_other s.seen m q true false i ∙ t

    to_marked : (j : ℕ) → s.least ≤ j → (j < length s.nodes) ⊎ (length s.nodes ≤ j) → j < length (s.nodes ++ child s k c e m ∷ []) → seen_of (reached s (child s k c e m)) (node_of (reached s (child s k c e m)) j).state ≡ true
    to_marked j a (inl i) lt = ap (λ (z : Node). seen_of (reached s (child s k c e m)) z.state) (old j i) ∙ seen_kept (node_of s j).state (w.marked j a i)
    to_marked j a (inr i) lt = ap (λ (z : Node). seen_of (reached s (child s k c e m)) z.state) (new j i lt) ∙ get_or-set_same s.seen m true false fits

    to_listed : (q : ℕ) → seen_of (reached s (child s k c e m)) q ≡ true → (q ≡ m) ⊎ (q ≢ m) → (j : ℕ) × (s.least ≤ j) × (j < length (s.nodes ++ child s k c e m ∷ [])) × ((node_of (reached s (child s k c e m)) j).state ≡ q)
    to_listed q t (inl i) =
        (length s.nodes, omega (arith, w.least_one, w.some), omega (arith, long), ap (λ (z : Node). z.state) (node-new s (child s k c e m) (length s.nodes) refl) ∙ sym i)
    to_listed q t (inr i) =
        let f = w.listed q (sym (get_or-set_other s.seen m q true false i) ∙ t) in
        (f.0, f.1, omega (arith, long, f.2), ap (λ (z : Node). z.state) (old f.0 f.2) ∙ f.3)

    to_rises : (i j : ℕ) → i ≤ j → (i < length s.nodes) ⊎ (length s.nodes ≤ i) → (j < length s.nodes) ⊎ (length s.nodes ≤ j) → j < length (s.nodes ++ child s k c e m ∷ []) → (node_of (reached s (child s k c e m)) i).depth ≤ (node_of (reached s (child s k c e m)) j).depth
    to_rises i j le (inl a) (inl b) lt = omega (arith, ap (λ (z : Node). z.depth) (old i a), ap (λ (z : Node). z.depth) (old j b), w.rises i j le b)
    to_rises i j le (inl x) (inr b) lt = omega (arith, ap (λ (z : Node). z.depth) (old i x), ap (λ (z : Node). z.depth) (new j b lt), a.top i x h)
    to_rises i j le (inr x) (inl b) lt = absurd (omega arith)
    to_rises i j le (inr x) (inr b) lt = omega (arith, ap (λ (z : Node). z.depth) (new i x (omega arith)), ap (λ (z : Node). z.depth) (new j b lt))

-- A target reached, in either case.
pub reach_one : (next : ℕ → ℕ → List ℕ) (n : ℕ) (s u : Steps) (k c e m : ℕ) → IsWalk next n s → IsAt next k c e s → k < length s.nodes → slice_get (next (node_of s k).state c) e ≡ Some m → m < n → IsReached (child s k c e m) s u → IsFurther next n k c (e + 1) s u
reach_one next n s u k c e m w a h here in_range (inl r) =
    subst (λ (z : Steps). IsFurther next n k c (e + 1) s z) (sym r.1) (record { walk = w; stands = at-seen next n s k c e m w a h here r.0; extends = Extends-self s })
reach_one next n s u k c e m w a h here in_range (inr r) =
    subst (λ (z : Steps). IsFurther next n k c (e + 1) s z) (sym r.1)
    (record { walk = walk-new next n s k c e m w a h here in_range r.0; stands = at-new next n s k c e m w a h here; extends = Extends-reached s (child s k c e m) })

-- The next letter, and the next node

pub next-letter : (next : ℕ → ℕ → List ℕ) (s : Steps) (k c e : ℕ) → IsAt next k c e s → length (next (node_of s k).state c) ≤ e → IsAt next k (c + 1) 0 s
next-letter next s k c e a all = record { near = λ j l i m p lt got. a.near j l i m (by j l i m got p) lt got; top = a.top }
  where
    on_letter : (j l i m : ℕ) → slice_get (next (node_of s j).state l) i ≡ Some m → j ≡ k → (l < c) ⊎ (c ≤ l) → l < c + 1 → ComesAfter k c e j l i
    on_letter j l i m got x (inl h) y = inr (x, inl h)
    on_letter j l i m got x (inr h) y =
        let z : l ≡ c = omega arith in
        let short = at-short (next (node_of s j).state l) i m got in
        inr (x, inr (z, omega (arith, short, ap₂ (λ u v. length (next (node_of s u).state v)) x z)))

    by : (j l i m : ℕ) → slice_get (next (node_of s j).state l) i ≡ Some m → ComesAfter k (c + 1) 0 j l i → ComesAfter k c e j l i
    by j l i m got (inl h) = inl h
    by j l i m got (inr (x, inl h)) = on_letter j l i m got x (cases_lt l c) h
    by j l i m got (inr (x, inr h)) = absurd (omega (arith, h.1))

pub next-node : (next : ℕ → ℕ → List ℕ) (n w : ℕ) (s : Steps) (k c : ℕ) → IsBounded next n w → IsWalk next n s → IsAt next k c 0 s → w ≤ c → IsAt next (k + 1) 0 0 s
next-node next n w s k c b h a end =
    record { near = λ j l i m p lt got. a.near j l i m (by j l i m got p) lt got; top = λ j lt kt. omega (arith, a.top j lt (omega arith), h.rises k (k + 1) (omega arith) kt) }
  where
    letter : (j l i m : ℕ) → slice_get (next (node_of s j).state l) i ≡ Some m → (l < c) ⊎ (c ≤ l) → l < c
    letter j l i m got (inl x) = x
    letter j l i m got (inr x) = absurd (subst (Has m) (b.letters (node_of s j).state l (omega arith)) (Has-at (next (node_of s j).state l) i m got))

    here : (j l i m : ℕ) → slice_get (next (node_of s j).state l) i ≡ Some m → j < k + 1 → (j < k) ⊎ (k ≤ j) → ComesAfter k c 0 j l i
    here j l i m got lt (inl x) = inl x
    here j l i m got lt (inr x) = inr (omega arith, inl (letter j l i m got (cases_lt l c)))

    by : (j l i m : ℕ) → slice_get (next (node_of s j).state l) i ≡ Some m → ComesAfter (k + 1) 0 0 j l i → ComesAfter k c 0 j l i
    by j l i m got (inl x) = here j l i m got x (cases_lt j k)
    by j l i m got (inr (x, inl y)) = absurd (omega arith)
    by j l i m got (inr (x, inr y)) = absurd (omega (arith, y.1))

-- The start

total-false : (n : ℕ) → total one (replicate n false) ≡ 0
total-false zero = refl
total-false (suc n) = omega (arith, total-false n)

seen-none : (n q : ℕ) → get_or (replicate n false) q false ≡ false
seen-none n q = by (cases_lt q n)
  where
    by : (q < n) ⊎ (n ≤ q) → get_or (replicate n false) q false ≡ false
    by (inl h) = get_or-replicate n q false false h
    by (inr h) = get_or_past (replicate n false) q false (omega (arith, length-replicate n false))

pub started_at : (next : ℕ → ℕ → List ℕ) (n from least : ℕ) → IsAt next 0 0 0 (start_steps n from least)
started_at next n from least =
    record { near = λ j l i m p lt got. absurd (none j l i p); top = λ j lt kt. omega (arith, ap (λ (z : ℕ). (node_of (start_steps n from least) z).depth) (zero-below j lt)) }
  where
    zero-below : (j : ℕ) → j < 1 → j ≡ 0
    zero-below j h = omega arith

    none : (j l i : ℕ) → ComesAfter 0 0 0 j l i → ⊥
    none j l i (inl h) = omega arith
    none j l i (inr (a, inl h)) = omega arith
    none j l i (inr (a, inr h)) = omega (arith, h.1)

pub started_walk : (next : ℕ → ℕ → List ℕ) (n from least : ℕ) → from < n → least ≤ 1 → IsWalk next n (start_steps n from least)
started_walk next n from zero h one_at_most =
    record {
      size = length-set (replicate n false) from true ∙ length-replicate n false;
      least_one = omega arith;
      some = omega arith;
      few = omega (arith, total-set one (replicate n false) from true false (omega (arith, length-replicate n false)), ap one (seen-none n from));
      flat = refl;
      steps = λ k a lt. absurd (omega arith);
      within = λ k lt. omega (arith, ap (λ (z : Node). z.state) (root k lt));
      low = λ k lt. omega (arith, ap (λ (z : Node). z.depth) (root k lt));
      marked = λ k a lt. ap (λ (z : Node). get_or (set (replicate n false) from true) z.state false) (root k lt) ∙ get_or-set_same (replicate n false) from true false (omega (arith, length-replicate n false));
      listed = λ q t. by q t (cases_eq q from);
      rises = λ i j le lt. omega (arith, ap (λ (z : Node). z.depth) (root i (omega arith)), ap (λ (z : Node). z.depth) (root j lt));
    }
  where
    root : (k : ℕ) → k < 1 → node_of (start_steps n from 0) k ≡ root_node from
    root k lt = let e : k ≡ 0 = omega arith in ap (λ (z : ℕ). get_or (root_node from ∷ []) z (root_node 0)) e

    by : (q : ℕ) → get_or (set (replicate n false) from true) q false ≡ true → (q ≡ from) ⊎ (q ≢ from) → (k : ℕ) × (0 ≤ k) × (k < 1) × ((node_of (start_steps n from 0) k).state ≡ q)
    by q t (inl e) = (0, omega arith, omega arith, sym e)
    by q t (inr e) = absurd (true≢false (sym t ∙ (get_or-set_other (replicate n false) from q true false e ∙ seen-none n q)))
started_walk next n from (suc zero) h one_at_most =
    record {
      size = length-replicate n false;
      least_one = omega arith;
      some = omega arith;
      few = omega arith;
      flat = refl;
      steps = λ k a lt. absurd (omega arith);
      within = λ k lt. omega (arith, ap (λ (z : Node). z.state) (root k lt));
      low = λ k lt. omega (arith, ap (λ (z : Node). z.depth) (root k lt));
      marked = λ k a lt. absurd (omega arith);
      listed = λ q t. absurd (true≢false (sym t ∙ seen-none n q));
      rises = λ i j le lt. omega (arith, ap (λ (z : Node). z.depth) (root i (omega arith)), ap (λ (z : Node). z.depth) (root j lt));
    }
  where
    root : (k : ℕ) → k < 1 → node_of (start_steps n from 1) k ≡ root_node from
    root k lt = let e : k ≡ 0 = omega arith in ap (λ (z : ℕ). get_or (root_node from ∷ []) z (root_node 0)) e
started_walk next n from (suc (suc least)) h one_at_most = absurd (omega arith)

-- What was found

-- A word from a node before `k` leads through nodes that aren't deeper than its length allows.
past : (next : ℕ → ℕ → List ℕ) (n : ℕ) (s : Steps) (k to : ℕ) → IsWalk next n s → IsAt next k 0 0 s → Missed k to s → k < length s.nodes → (v : List ℕ) (j : ℕ) → j < k → (1 ≤ length v) ⊎ (s.least ≤ j) → 1 ≤ paths next (node_of s j).state to v → (node_of s k).depth ≤ (node_of s j).depth + length v
past next n s k to w a missed h [] j lt (inl c) p = absurd (omega arith)
past next n s k to w a missed h [] j lt (inr c) p = absurd (missed j c lt (nil-same next (node_of s j).state to p))
past next n s k to w a missed h (l ∷ v) j lt c p =
    let m = total-there (λ x. paths next x to v) (next (node_of s j).state l) p in
    let i = at-has m.0 (next (node_of s j).state l) m.1 in
    let f = a.near j l i.0 m.0 (inl lt) (omega arith) i.1 in
    by f (cases_lt f.0 k) (λ x. past next n s k to w a missed h v f.0 x (inr f.1) (subst (λ (z : ℕ). 1 ≤ paths next z to v) (sym f.3) m.2))
  where
    by : (f : (x : ℕ) × (s.least ≤ x) × (x < length s.nodes) × ((node_of s x).state ≡ (total-there (λ x. paths next x to v) (next (node_of s j).state l) p).0) × ((node_of s x).depth ≤ (node_of s j).depth + 1)) → (f.0 < k) ⊎ (k ≤ f.0) → (f.0 < k → (node_of s k).depth ≤ (node_of s f.0).depth + length v) → (node_of s k).depth ≤ (node_of s j).depth + length (l ∷ v)
    by f (inl x) rest = omega (arith, rest x, f.4)
    by f (inr x) rest = omega (arith, w.rises k f.0 x f.2, f.4)

pub found-shortest : (next : ℕ → ℕ → List ℕ) (n : ℕ) (s : Steps) (k to : ℕ) → IsWalk next n s → IsAt next k 0 0 s → Missed k to s → k < length s.nodes → (v : List ℕ) → s.least ≤ length v → 1 ≤ paths next (node_of s 0).state to v → (node_of s k).depth ≤ length v
found-shortest next n s k to w a missed h v long p = by (cases_lt 0 k) (cases_lt 0 s.least)
  where
    by : (0 < k) ⊎ (k ≤ 0) → (0 < s.least) ⊎ (s.least ≤ 0) → (node_of s k).depth ≤ length v
    by (inr i) c = omega (arith, w.low k h)
    by (inl i) (inl c) = omega (arith, past next n s k to w a missed h v 0 i (inl (omega arith)) p, w.flat)
    by (inl i) (inr c) = omega (arith, past next n s k to w a missed h v 0 i (inr c) p, w.flat)

-- If every node was expanded and none is `to`, no word leads there.
lost : (next : ℕ → ℕ → List ℕ) (n : ℕ) (s : Steps) (k to : ℕ) → IsWalk next n s → IsAt next k 0 0 s → Missed k to s → length s.nodes ≤ k → (v : List ℕ) (j : ℕ) → j < length s.nodes → (1 ≤ length v) ⊎ (s.least ≤ j) → 1 ≤ paths next (node_of s j).state to v → ⊥
lost next n s k to w a missed h [] j lt (inl c) p = omega arith
lost next n s k to w a missed h [] j lt (inr c) p = missed j c (omega arith) (nil-same next (node_of s j).state to p)
lost next n s k to w a missed h (l ∷ v) j lt c p =
    let m = total-there (λ x. paths next x to v) (next (node_of s j).state l) p in
    let i = at-has m.0 (next (node_of s j).state l) m.1 in
    let f = a.near j l i.0 m.0 (inl (omega arith)) lt i.1 in
    lost next n s k to w a missed h v f.0 f.2 (inr f.1) (subst (λ (z : ℕ). 1 ≤ paths next z to v) (sym f.3) m.2)

pub found-none : (next : ℕ → ℕ → List ℕ) (n : ℕ) (s : Steps) (k to : ℕ) → IsWalk next n s → IsAt next k 0 0 s → Missed k to s → length s.nodes ≤ k → NoPath next s.least (node_of s 0).state to
found-none next n s k to w a missed h v long p = by (cases_lt 0 s.least)
  where
    by : (0 < s.least) ⊎ (s.least ≤ 0) → ⊥
    by (inl c) = lost next n s k to w a missed h v 0 w.some (inl (omega arith)) p
    by (inr c) = lost next n s k to w a missed h v 0 w.some (inr c) p

-- A node is as deep as its word is long, so one from `least` on has a word of at least `least` letters.
pub found-long : (next : ℕ → ℕ → List ℕ) (n : ℕ) (s : Steps) (k : ℕ) → IsWalk next n s → s.least ≤ k → k < length s.nodes → s.least ≤ (node_of s k).depth
found-long next n s k w le lt = by (cases_lt 0 k)
  where
    by : (0 < k) ⊎ (k ≤ 0) → s.least ≤ (node_of s k).depth
    by (inl i) = omega (arith, w.least_one, (w.steps k i lt).deeper)
    by (inr i) = omega arith

-- The way back: one more move in front.
pub path-front : (next : ℕ → ℕ → List ℕ) (n : ℕ) (s : Steps) (k to : ℕ) (moves word : List ℕ) → IsWalk next n s → 0 < k → k < length s.nodes → IsPath next (node_of s k).state to (reverse moves) (reverse word) → IsPath next (node_of s (node_of s k).parent).state to (reverse (moves ++ (node_of s k).number ∷ [])) (reverse (word ++ (node_of s k).letter ∷ []))
path-front next n s k to moves word w a lt p =
    let x = node_of s k in
    let e = reverse-append moves (x.number ∷ []) in
    let f = reverse-append word (x.letter ∷ []) in
    let o : led next (node_of s x.parent).state (x.number ∷ reverse moves) (x.letter ∷ reverse word) ≡ Some to =
    subst (λ (z : Option ℕ). onto (λ m. led next m (reverse moves) (reverse word)) z ≡ Some to) (sym (w.steps k a lt).move) p in
    ap₂ (led next (node_of s x.parent).state) e f ∙ o

pub rooted : (next : ℕ → ℕ → List ℕ) (n : ℕ) (s : Steps) → IsWalk next n s → IsRooted s
rooted next n s w = (w.some, λ k a lt. (w.steps k a lt).earlier)

-- The moves and the letters from the node `k` to the node `place`, last ones first.
abbrev pub IsWayBack : Steps → ℕ → ℕ → List ℕ → List ℕ → Type 0
IsWayBack s k place numbers letters =
    (k < length s.nodes) × ((next : ℕ → ℕ → List ℕ) (n : ℕ) → IsWalk next n s → IsPath next (node_of s k).state (node_of s place).state (reverse numbers) (reverse letters)) × ((next : ℕ → ℕ → List ℕ) (n : ℕ) → IsWalk next n s → length letters + (node_of s k).depth ≡ (node_of s place).depth)

pub way-more : (s : Steps) (k place : ℕ) (x : Node) (numbers letters ns ls : List ℕ) → IsRooted s → 0 < k → x ≡ node_of s k → IsWayBack s k place numbers letters → ns ≡ numbers ++ x.number ∷ [] → ls ≡ letters ++ x.letter ∷ [] → IsWayBack s x.parent place ns ls
way-more s k place x numbers letters ns ls r a e b en el = (
  omega (arith, ap (λ (z : Node). z.parent) e, r.1 k a b.0, b.0),
  λ next n w.
      subst (λ (u : List ℕ). IsPath next (node_of s x.parent).state (node_of s place).state (reverse u) (reverse ls)) (sym en)
      (subst (λ (u : List ℕ). IsPath next (node_of s x.parent).state (node_of s place).state (reverse (numbers ++ x.number ∷ [])) (reverse u)) (sym el)
      (subst (λ (z : Node). IsPath next (node_of s z.parent).state (node_of s place).state (reverse (numbers ++ z.number ∷ [])) (reverse (letters ++ z.letter ∷ []))) (sym e)
      (path-front next n s k (node_of s place).state numbers letters w a b.0 (b.1 next n w)))),
  λ next n w.
      let d = (w.steps k a b.0).deeper in
      omega (arith, b.2 next n w, ap length el, length_push letters x.letter, ap (λ (z : Node). (node_of s z.parent).depth) e, d),
)

pub way-to : (s : Steps) (k place : ℕ) (numbers letters moves word : List ℕ) → k ≤ 0 → IsWayBack s k place numbers letters → moves ≡ reverse numbers → word ≡ reverse letters → IsWayTo s place moves word
way-to s k place numbers letters moves word h b em ew =
    record {
      path = λ next n w.
          subst (λ (u : List ℕ). IsPath next (node_of s 0).state (node_of s place).state u word) (sym em)
          (subst (λ (u : List ℕ). IsPath next (node_of s 0).state (node_of s place).state (reverse numbers) u) (sym ew)
          (subst (λ (z : ℕ). IsPath next (node_of s z).state (node_of s place).state (reverse numbers) (reverse letters)) zero-place (b.1 next n w)));
      long = λ next n w. omega (arith, ap length ew, length-reverse letters, b.2 next n w, w.flat, ap (λ (z : ℕ). (node_of s z).depth) zero-place);
    }
  where
    zero-place : k ≡ 0
    zero-place = omega arith

-- The answers of the search

pub answer-found : (next : ℕ → ℕ → List ℕ) (n : ℕ) (s : Steps) (k to : ℕ) (moves word : List ℕ) → IsWalk next n s → IsAt next k 0 0 s → Missed k to s → s.least ≤ k → k < length s.nodes → (node_of s k).state ≡ to → IsWayTo s k moves word → IsShortest next s.least (node_of s 0).state to moves word
answer-found next n s k to moves word w a missed le lt e t =
    record {
      path = subst (λ (z : ℕ). IsPath next (node_of s 0).state z moves word) e (t.path next n w);
      long = omega (arith, t.long next n w, found-long next n s k w le lt);
      shortest = λ v h p. omega (arith, t.long next n w, found-shortest next n s k to w a missed lt v h p);
    }

pub missed-more : (s : Steps) (k to : ℕ) → Missed k to s → (s.least ≤ k → (node_of s k).state ≢ to) → Missed (k + 1) to s
missed-more s k to missed here j a lt = by (cases_lt j k)
  where
    by : (j < k) ⊎ (k ≤ j) → (node_of s j).state ≢ to
    by (inl h) = missed j a h
    by (inr h) = λ e. let z : j ≡ k = omega arith in here (omega arith) (ap (λ (u : ℕ). (node_of s u).state) (sym z) ∙ e)

pub missed-kept : (s u : Steps) (k to : ℕ) → Extends s u → k ≤ length s.nodes → Missed k to s → Missed k to u
missed-kept s u k to x le missed j a lt e =
    missed j (omega (arith, x.least)) lt (sym (ap (λ (z : Node). z.state) (x.same j (omega arith))) ∙ e)

total-length : (l : List Bool) → total one l ≤ length l
total-length [] = omega arith
total-length (b ∷ l) = omega (arith, one-le b, total-length l)

pub few-nodes : (next : ℕ → ℕ → List ℕ) (n : ℕ) (s : Steps) → IsWalk next n s → length s.nodes ≤ n + 1
few-nodes next n s w = omega (arith, w.few, w.least_one, total-length s.seen, w.size)
