-- Marked pairs: the letters with moves, and graphs with the same moves on other letters.
use Rattle.std.proofs.Common.{◌≡◌, ℕ, zero, suc, ◌+◌, ◌-◌, ◌*◌, ◌/◌, ◌%◌, ◌<◌, ◌≤◌, ◌↔◌, ◌⊎◌, inl, inr, Bool, true, false, not, cond, ◌&&◌, List, [], ◌∷◌, ◌++◌, length, get_or, map, eqb, ltb, le-ltb, lt-ltb, refl, sym, ◌∙◌, ap, ap₂, subst, arith, mul_comm, div-add-mod'}
use Rattle.std.proofs.lemmas.Bool.{cases_lt, cases_Bool, and_parts, and_from, and_left, and_right, not_from_false, eqb-false, cond-true, cond-false}
use Rattle.std.proofs.lemmas.List.{length_push, get_or_push, get_or_append_left}
use Rattle.std.proofs.lemmas.Nat.{mul-add-lt, div-mul-add, mod-mul-add, div_below, mod_below}
use Rattle.rl_graph.specs.Paths.{Has, paths, Reaches, OnCycle, IsBounded}
use Rattle.rl_graph.specs.Graph.{Graph, edges_of, IsWhole}
use Rattle.rl_graph.specs.Product.{pair_moves, marked_moves}
use Rattle.rl_graph.specs.Parts.{PartTable, IsParts}
use Rattle.rl_graph.specs.internal.Marked.{listed_moves, both_repeat, HasMoves, AreLetters, AreLettersUpTo, IsRepeat, AreRepeats, AreRepeatsUpTo}
use Rattle.rl_graph.proofs.Sums.{total-there, at-has, at-short, at-get_or, has-map, has-flat_map, Has-get_or, Has-left, Has-last}
use Rattle.rl_graph.proofs.PathLaws.{nil-same, Reaches-self, Reaches-move, Reaches-trans, OnCycle-move, OnCycle-first}
use Rattle.rl_graph.proofs.GraphLaws.{edges-state, edges-letter, bounded-whole}
use Rattle.rl_graph.proofs.ProductLaws.{bounded-pairs, pairs_of, some-width}

-- A list on a test

pub there-if : (b : Bool) (m : ℕ) (l : List ℕ) → Has m (cond b l []) → (b ≡ true) × Has m l
there-if true m l h = (refl, h)
there-if false m l h = absurd h

pub has-if : (b : Bool) (m : ℕ) (l : List ℕ) → b ≡ true → Has m l → Has m (cond b l [])
has-if b m l e h = subst (λ (r : List ℕ). Has m r) (sym (cond-true b l [] e)) h

-- Graphs with the same moves on other letters

-- Each move of the first graph is one of the second, on some letter.
abbrev pub Covers : (ℕ → ℕ → List ℕ) → (ℕ → ℕ → List ℕ) → Type 0
Covers a b = (q l m : ℕ) → Has m (a q l) → (k : ℕ) × Has m (b q k)

covers-reaches : (a b : ℕ → ℕ → List ℕ) → Covers a b → (q r : ℕ) (w : List ℕ) → 1 ≤ paths a q r w → Reaches b q r
covers-reaches a b c q r [] h = subst (Reaches b q) (nil-same a q r h) (Reaches-self b q)
covers-reaches a b c q r (l ∷ w) h =
    let t = total-there (λ m. paths a m r w) (a q l) h in
    let k = c q l t.0 t.1 in
    Reaches-trans b q t.0 r (Reaches-move b q t.0 k.0 k.1) (covers-reaches a b c t.0 r w t.2)

covers-cycle : (a b : ℕ → ℕ → List ℕ) → Covers a b → (q : ℕ) → OnCycle a q → OnCycle b q
covers-cycle a b c q h =
    let t = OnCycle-first a q h in
    let k = c q t.0 t.1 t.2 in
    OnCycle-move b q k.0 t.1 k.1 (covers-reaches a b c t.1 q t.3.0 t.3.1)

-- They have the same parts.
pub parts-covered : (a b : ℕ → ℕ → List ℕ) (n : ℕ) (p : PartTable) → Covers a b → Covers b a → IsParts a n p → IsParts b n p
parts-covered a b n p to from h = record {
  size = h.size;
  below = h.below;
  same = λ q r hq hr. (
    λ e. let s = (h.same q r hq hr).0 e in (covers-reaches a b to q r s.0.0 s.0.1, covers-reaches a b to r q s.1.0 s.1.1),
    λ s. (h.same q r hq hr).1 (covers-reaches b a from q r s.0.0 s.0.1, covers-reaches b a from r q s.1.0 s.1.1),
  );
  order = λ q r hq hr s. h.order q r hq hr (covers-reaches b a from q r s.0 s.1);
  on_cycle = λ q hq. (λ e. covers-cycle a b to q ((h.on_cycle q hq).0 e), λ c. (h.on_cycle q hq).1 (covers-cycle b a from q c));
}

-- Letters

-- A move is one of a state of the graph, on one of its letters.
pub move-in : (g : Graph) (q l m : ℕ) → Has m (edges_of g q l) → (q < g.states) × (l < g.letters)
move-in g q l m h = (by (cases_lt q g.states), on (cases_lt l g.letters))
  where
    by : (q < g.states) ⊎ (g.states ≤ q) → q < g.states
    by (inl a) = a
    by (inr a) = absurd (subst (λ (r : List ℕ). Has m r) (edges-state g q l a) h)

    on : (l < g.letters) ⊎ (g.letters ≤ l) → l < g.letters
    on (inl a) = a
    on (inr a) = absurd (subst (λ (r : List ℕ). Has m r) (edges-letter g q l a) h)

pub some-moves : (g : Graph) (q l : ℕ) (row : List ℕ) → row ≡ edges_of g q l → eqb (length row) 0 ≡ false → HasMoves g l
some-moves g q l row e h = (q, get_or (edges_of g q l) 0 0, Has-get_or (edges_of g q l) 0 0 (by (cases_lt 0 (length (edges_of g q l)))))
  where
    by : (0 < length (edges_of g q l)) ⊎ (length (edges_of g q l) ≤ 0) → 0 < length (edges_of g q l)
    by (inl a) = a
    by (inr a) = absurd (eqb-false (length row) 0 h (omega (arith, ap length e)))

pub letters-more : (g : Graph) (end : ℕ) (letters : List ℕ) → AreLettersUpTo g end letters → AreLettersUpTo g (end + 1) (letters ++ end ∷ [])
letters-more g end letters o = record {
  few = omega (arith, o.few, length_push letters end);
  below = λ k lt. below k lt (cases_lt k (length letters));
  all = λ l lt has. all l lt has (cases_lt l end);
}
  where
    below : (k : ℕ) → k < length (letters ++ end ∷ []) → (k < length letters) ⊎ (length letters ≤ k) → get_or (letters ++ end ∷ []) k 0 < end + 1
    below k lt (inl a) = omega (arith, get_or_append_left letters (end ∷ []) 0 k a, o.below k a)
    below k lt (inr a) = let e : length letters ≡ k = omega (arith, length_push letters end) in omega (arith, get_or_push letters end 0 k e)

    all : (l : ℕ) → l < end + 1 → HasMoves g l → (l < end) ⊎ (end ≤ l) → Has l (letters ++ end ∷ [])
    all l lt has (inl a) = Has-left l letters (end ∷ []) (o.all l a has)
    all l lt has (inr a) = let e : l ≡ end = omega arith in rw e (Has-last end letters)

pub letters-passed : (g : Graph) (end : ℕ) (letters : List ℕ) → (HasMoves g end → ⊥) → AreLettersUpTo g end letters → AreLettersUpTo g (end + 1) letters
letters-passed g end letters none o = record {
  few = omega (arith, o.few);
  below = λ k lt. omega (arith, o.below k lt);
  all = λ l lt has. all l lt has (cases_lt l end);
}
  where
    all : (l : ℕ) → l < end + 1 → HasMoves g l → (l < end) ⊎ (end ≤ l) → Has l letters
    all l lt has (inl a) = o.all l a has
    all l lt has (inr a) = let e : l ≡ end = omega arith in absurd (none (subst (HasMoves g) e has))

-- Letters that repeat

-- One more flag.
pub repeats-more : (next : ℕ → ℕ → List ℕ) (letters : List ℕ) (repeats : List Bool) (q k : ℕ) (flag : Bool) → k < length letters → (flag ≡ true) ↔ IsRepeat next letters q k
    → AreRepeatsUpTo next (q * length letters + k) letters repeats → AreRepeatsUpTo next (q * length letters + k + 1) letters (repeats ++ flag ∷ [])
repeats-more next letters repeats q k flag lt is so_far = record {
  size = omega (arith, length_push repeats flag, so_far.size);
  same = λ p j short below. by p j short below (cases_lt (p * length letters + j) (q * length letters + k));
}
  where
    w : ℕ
    w = length letters

    by : (p j : ℕ) → j < w → p * w + j < q * w + k + 1 → (p * w + j < q * w + k) ⊎ (q * w + k ≤ p * w + j) → (get_or (repeats ++ flag ∷ []) (p * w + j) false ≡ true) ↔ IsRepeat next letters p j
    by p j short below (inl a) =
        let e = get_or_append_left repeats (flag ∷ []) false (p * w + j) (omega (arith, a, so_far.size)) in
        subst (λ (b : Bool). (b ≡ true) ↔ IsRepeat next letters p j) (sym e) (so_far.same p j short a)
    by p j short below (inr a) =
        let same : q * w + k ≡ p * w + j = omega (arith, a, below) in
        let e = get_or_push repeats flag false (p * w + j) (so_far.size ∙ same) in
        let r : q ≡ p = sym (div-mul-add q w k lt) ∙ (ap (λ z. z / w) same ∙ div-mul-add p w j short) in
        let i : k ≡ j = sym (mod-mul-add q w k lt) ∙ (ap (λ z. z % w) same ∙ mod-mul-add p w j short) in
        subst (λ (b : Bool). (b ≡ true) ↔ IsRepeat next letters p j) (sym e)
        (subst (λ (z : ℕ). (flag ≡ true) ↔ IsRepeat next letters z j) r (subst (λ (z : ℕ). (flag ≡ true) ↔ IsRepeat next letters q z) i is))

-- If both states of a pair repeat, its moves are the moves on the letter before.
both-before : (next : ℕ → ℕ → List ℕ) (n : ℕ) (letters : List ℕ) (repeats : List Bool) → AreRepeats next n letters repeats
    → (x k : ℕ) → x < n * n → k < length letters → both_repeat n (length letters) repeats x k ≡ true
    → (0 < k) × (pair_moves next n x (get_or letters k 0) ≡ pair_moves next n x (get_or letters (k - 1) 0))
both-before next n letters repeats rs x k inside lt both =
    let w = length letters in
    let some = some-width n n x inside in
    let p = div_below x n n some inside in
    let q = mod_below x n some in
    let b = and_parts (get_or repeats (x / n * w + k) false) (get_or repeats (x % n * w + k) false) both in
    let first = (rs.same (x / n) k lt (omega (arith, mul-add-lt (x / n) w k n p lt, mul_comm w n))).0 b.0 in
    let second = (rs.same (x % n) k lt (omega (arith, mul-add-lt (x % n) w k n q lt, mul_comm w n))).0 b.1 in
    (first.0, ap₂ (λ u v. pairs_of n v u) first.1 second.1)

-- Moves of marked pairs on the letters of a list

-- The pair has a mark, the letter is in the list, and the pair isn't skipped there.
abbrev pub is_listed : ℕ → List Bool → List ℕ → List Bool → ℕ → ℕ → Bool
is_listed n marks letters repeats x k = get_or marks x false && (ltb k (length letters) && not (both_repeat n (length letters) repeats x k))

pub listed-on : (next : ℕ → ℕ → List ℕ) (n : ℕ) (marks : List Bool) (letters : List ℕ) (repeats : List Bool) (x k : ℕ) → get_or marks x false ≡ true → k < length letters → both_repeat n (length letters) repeats x k ≡ false
    → listed_moves next n marks letters repeats x k ≡ pair_moves next n x (get_or letters k 0)
listed-on next n marks letters repeats x k mark lt both =
    let inner = and_from (ltb k (length letters)) (not (both_repeat n (length letters) repeats x k)) (lt-ltb k (length letters) lt) (not_from_false (both_repeat n (length letters) repeats x k) both) in
    cond-true (is_listed n marks letters repeats x k) (pair_moves next n x (get_or letters k 0)) []
    (and_from (get_or marks x false) (ltb k (length letters) && not (both_repeat n (length letters) repeats x k)) mark inner)

pub listed-behind : (next : ℕ → ℕ → List ℕ) (n : ℕ) (marks : List Bool) (letters : List ℕ) (repeats : List Bool) (x k : ℕ) → length letters ≤ k → listed_moves next n marks letters repeats x k ≡ []
listed-behind next n marks letters repeats x k le =
    let inner = and_left (ltb k (length letters)) (not (both_repeat n (length letters) repeats x k)) (le-ltb k (length letters) le) in
    cond-false (is_listed n marks letters repeats x k) (pair_moves next n x (get_or letters k 0)) []
    (and_right (get_or marks x false) (ltb k (length letters) && not (both_repeat n (length letters) repeats x k)) inner)

-- A pair with a move to itself has a mark, and so has each of its states a move to itself.
pub listed-loop : (g : Graph) (marks : List Bool) (letters : List ℕ) (repeats : List Bool) (x k : ℕ) → IsWhole g → Has x (listed_moves (edges_of g) g.states marks letters repeats x k)
    → (get_or marks x false ≡ true) × Has (x / g.states) (edges_of g (x / g.states) (get_or letters k 0)) × Has (x % g.states) (edges_of g (x % g.states) (get_or letters k 0))
listed-loop g marks letters repeats x k whole h =
    let n = g.states in
    let l = get_or letters k 0 in
    let a = there-if (is_listed n marks letters repeats x k) x (pair_moves (edges_of g) n x l) h in
    let mark = (and_parts (get_or marks x false) (ltb k (length letters) && not (both_repeat n (length letters) repeats x k)) a.0).0 in
    let b = has-flat_map (λ u. map (λ v. u * n + v) (edges_of g (x % n) l)) x (edges_of g (x / n) l) a.1 in
    let c = has-map (λ v. b.0 * n + v) x (edges_of g (x % n) l) b.2 in
    let lt = whole.targets (x % n) l c.0 c.1 in
    let first : x / n ≡ b.0 = ap (λ z. z / n) c.2 ∙ div-mul-add b.0 n c.0 lt in
    let second : x % n ≡ c.0 = ap (λ z. z % n) c.2 ∙ mod-mul-add b.0 n c.0 lt in
    (mark, subst (λ z. Has z (edges_of g (x / n) l)) (sym first) b.1, subst (λ z. Has z (edges_of g (x % n) l)) (sym second) c.1)

pub listed-bounded : (g : Graph) (marks : List Bool) (letters : List ℕ) (repeats : List Bool) → IsWhole g → IsBounded (listed_moves (edges_of g) g.states marks letters repeats) (g.states * g.states) (length letters)
listed-bounded g marks letters repeats whole = record {
  targets = λ x k m h. (bounded-pairs (edges_of g) g.states g.letters (bounded-whole g whole)).targets x (get_or letters k 0) m
      (there-if (is_listed g.states marks letters repeats x k) m (pair_moves (edges_of g) g.states x (get_or letters k 0)) h).1;
  letters = λ x k le. listed-behind (edges_of g) g.states marks letters repeats x k le;
}

-- A pair with a move is one of the first `n * n`.
pub pair-in : (g : Graph) (x l m : ℕ) → Has m (pair_moves (edges_of g) g.states x l) → x < g.states * g.states
pair-in g x l m h =
    let n = g.states in
    let a = has-flat_map (λ u. map (λ v. u * n + v) (edges_of g (x % n) l)) m (edges_of g (x / n) l) h in
    let b = has-map (λ v. a.0 * n + v) m (edges_of g (x % n) l) a.2 in
    subst (λ (z : ℕ). z < n * n) (div-add-mod' x n) (mul-add-lt (x / n) n (x % n) n (move-in g (x / n) l a.0 a.1).0 (move-in g (x % n) l b.0 b.1).0)

pair-moving : (g : Graph) (x l m : ℕ) → Has m (pair_moves (edges_of g) g.states x l) → HasMoves g l
pair-moving g x l m h =
    let n = g.states in
    let a = has-flat_map (λ u. map (λ v. u * n + v) (edges_of g (x % n) l)) m (edges_of g (x / n) l) h in
    (x / n, a.0, a.1)

-- A move of a marked pair on a letter of the list isn't skipped on this letter or on one before it.
first-listed : (next : ℕ → ℕ → List ℕ) (n : ℕ) (marks : List Bool) (letters : List ℕ) (repeats : List Bool) → AreRepeats next n letters repeats
    → (x m : ℕ) → x < n * n → get_or marks x false ≡ true → (k : ℕ) → k < length letters → Has m (pair_moves next n x (get_or letters k 0))
    → (j : ℕ) × Has m (listed_moves next n marks letters repeats x j)
first-listed next n marks letters repeats rs x m inside mark k lt h = by k lt h (cases_Bool (both_repeat n (length letters) repeats x k))
  where
    Listed : Type 0
    Listed = (j : ℕ) × Has m (listed_moves next n marks letters repeats x j)

    here : (k : ℕ) → k < length letters → Has m (pair_moves next n x (get_or letters k 0)) → both_repeat n (length letters) repeats x k ≡ false → Listed
    here k lt h both = (k, subst (λ (r : List ℕ). Has m r) (sym (listed-on next n marks letters repeats x k mark lt both)) h)

    by : (k : ℕ) → k < length letters → Has m (pair_moves next n x (get_or letters k 0)) → (both_repeat n (length letters) repeats x k ≡ true) ⊎ (both_repeat n (length letters) repeats x k ≡ false) → Listed
    by k lt h (inr both) = here k lt h both
    by zero lt h (inl both) = absurd (omega (arith, (both-before next n letters repeats rs x 0 inside lt both).0))
    by (suc k) lt h (inl both) =
        let e : suc k - 1 ≡ k = omega arith in
        let same = (both-before next n letters repeats rs x (suc k) inside lt both).1 ∙ ap (λ (z : ℕ). pair_moves next n x (get_or letters z 0)) e in
        by k (omega (arith, lt)) (subst (λ (r : List ℕ). Has m r) same h)
        (cases_Bool (both_repeat n (length letters) repeats x k))

marked-listed : (g : Graph) (marks : List Bool) (letters : List ℕ) (repeats : List Bool) → AreLetters g letters → AreRepeats (edges_of g) g.states letters repeats
    → Covers (marked_moves (edges_of g) g.states marks) (listed_moves (edges_of g) g.states marks letters repeats)
marked-listed g marks letters repeats ls rs x l m h =
    let next = edges_of g in
    let n = g.states in
    let a = there-if (get_or marks x false) m (pair_moves next n x l) h in
    let moves = pair-moving g x l m a.1 in
    let i = at-has l letters (ls.all l (move-in g moves.0 l moves.1 moves.2).1 moves) in
    let e = ap (pair_moves next n x) (at-get_or letters i.0 l 0 i.1) in
    first-listed next n marks letters repeats rs x m (pair-in g x l m a.1) a.0 i.0 (at-short letters i.0 l i.1) (subst (λ (r : List ℕ). Has m r) (sym e) a.1)

listed-marked : (g : Graph) (marks : List Bool) (letters : List ℕ) (repeats : List Bool) → Covers (listed_moves (edges_of g) g.states marks letters repeats) (marked_moves (edges_of g) g.states marks)
listed-marked g marks letters repeats x k m h =
    let n = g.states in
    let l = get_or letters k 0 in
    let a = there-if (is_listed n marks letters repeats x k) m (pair_moves (edges_of g) n x l) h in
    let mark = (and_parts (get_or marks x false) (ltb k (length letters) && not (both_repeat n (length letters) repeats x k)) a.0).0 in
    (l, has-if (get_or marks x false) m (pair_moves (edges_of g) n x l) mark a.1)

-- The parts by places of letters are the parts of the moves of the marked pairs.
pub listed-parts : (g : Graph) (marks : List Bool) (letters : List ℕ) (repeats : List Bool) (p : PartTable) → AreLetters g letters → AreRepeats (edges_of g) g.states letters repeats
    → IsParts (listed_moves (edges_of g) g.states marks letters repeats) (g.states * g.states) p → IsParts (marked_moves (edges_of g) g.states marks) (g.states * g.states) p
listed-parts g marks letters repeats p ls rs h =
    parts-covered (listed_moves (edges_of g) g.states marks letters repeats) (marked_moves (edges_of g) g.states marks) (g.states * g.states) p
    (listed-marked g marks letters repeats) (marked-listed g marks letters repeats ls rs) h

-- If the marks agree with a test on the pairs, the parts are the parts of the moves of the pairs for which the test is true.
pub marked-parts : (g : Graph) (marks : List Bool) (test : ℕ → Bool) (p : PartTable) → ((x : ℕ) → x < g.states * g.states → get_or marks x false ≡ test x)
    → IsParts (marked_moves (edges_of g) g.states marks) (g.states * g.states) p → IsParts (λ x l. cond (test x) (pair_moves (edges_of g) g.states x l) []) (g.states * g.states) p
marked-parts g marks test p same h =
    parts-covered (marked_moves (edges_of g) g.states marks) (λ x l. cond (test x) (pair_moves (edges_of g) g.states x l) []) (g.states * g.states) p to from h
  where
    to : Covers (marked_moves (edges_of g) g.states marks) (λ x l. cond (test x) (pair_moves (edges_of g) g.states x l) [])
    to x l m i =
        let a = there-if (get_or marks x false) m (pair_moves (edges_of g) g.states x l) i in
        (l, has-if (test x) m (pair_moves (edges_of g) g.states x l) (sym (same x (pair-in g x l m a.1)) ∙ a.0) a.1)

    from : Covers (λ x l. cond (test x) (pair_moves (edges_of g) g.states x l) []) (marked_moves (edges_of g) g.states marks)
    from x l m i =
        let a = there-if (test x) m (pair_moves (edges_of g) g.states x l) i in
        (l, has-if (get_or marks x false) m (pair_moves (edges_of g) g.states x l) (same x (pair-in g x l m a.1) ∙ a.0) a.1)
