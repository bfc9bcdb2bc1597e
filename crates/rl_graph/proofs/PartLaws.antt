-- From a finished search to the parts: numbers, and moves inside a part.
use Rattle.std.proofs.Common.{◌≡◌, ◌≢◌, ℕ, ◌+◌, ◌<◌, ◌≤◌, ◌⊎◌, ◌↔◌, inl, inr, Bool, true, false, true≢false, IsTrue, set, length-set, get_or-set_same, get_or-set_other, List, [], ◌∷◌, ◌++◌, length, get_or, map, refl, sym, ◌∙◌, ap, subst, arith}
use Rattle.std.proofs.lemmas.Bool.{cases_lt, cases_eq}
use Rattle.std.proofs.lemmas.List.{get_or-map, length-map, get_or_append_left, get_or_push}
use Rattle.rl_graph.specs.declared.parts.SearchPlace.{SearchPlace}
use Rattle.rl_graph.specs.declared.parts.SearchPlace.TheVariants.{Unseen, Open, Done}
use Rattle.rl_graph.specs.Paths.{Has, paths, Reaches, OnCycle, IsBounded}
use Rattle.rl_graph.specs.Parts.{PartTable, IsParts}
use Rattle.rl_graph.specs.internal.InnerMoves.{HasInner, HasInnerOn, IsNumbered, AreInner, IsShared, AreShared, AreSharedUpTo}
use Rattle.rl_graph.specs.internal.Search.{SearchState, place_of, part_in, IsSearch, IsAllDone}
use Rattle.rl_graph.proofs.Sums.{total-there, at-has, at-short, at-get_or, Has-get_or}
use Rattle.rl_graph.proofs.PathLaws.{nil-same, Reaches-move, Reaches-trans, OnCycle-move, OnCycle-first}
use Rattle.rl_graph.proofs.SearchEnds.{none-open, done-order, done-same_part}

-- Moves to a state with the same number

pub inner-there : (next : ℕ → ℕ → List ℕ) (numbers : List ℕ) (q l i x : ℕ) → i < length (next q l) → x ≡ get_or (next q l) i 0 → get_or numbers x 0 ≡ get_or numbers q 0 → HasInnerOn next numbers q l
inner-there next numbers q l i x h e same = (x, subst (λ (z : ℕ). Has z (next q l)) (sym e) (Has-get_or (next q l) i 0 h), same)

pub inner-none : (next : ℕ → ℕ → List ℕ) (numbers : List ℕ) (q l : ℕ) → ((i : ℕ) → i < length (next q l) → get_or numbers (get_or (next q l) i 0) 0 ≡ get_or numbers q 0 → ⊥) → HasInnerOn next numbers q l → ⊥
inner-none next numbers q l none m =
    let i = at-has m.0 (next q l) m.1 in
    none i.0 (at-short (next q l) i.0 m.0 i.1) (ap (λ z. get_or numbers z 0) (at-get_or (next q l) i.0 m.0 0 i.1) ∙ m.2)

-- A state that has no move on the letters from `end` up to the last one has none from `end` on.
pub no-more : (next : ℕ → ℕ → List ℕ) (n w end q : ℕ) → IsBounded next n w → ((l : ℕ) → end ≤ l → l < w → next q l ≡ []) → (l : ℕ) → end ≤ l → next q l ≡ []
no-more next n w end q b none l le = by (cases_lt l w)
  where
    by : (l < w) ⊎ (w ≤ l) → next q l ≡ []
    by (inl h) = none l le h
    by (inr h) = b.letters q l h

pub inner-letters : (next : ℕ → ℕ → List ℕ) (end : ℕ) (numbers : List ℕ) (q : ℕ) → ((l : ℕ) → end ≤ l → next q l ≡ []) → ((k : ℕ) → k < end → HasInnerOn next numbers q k → ⊥) → HasInner next numbers q → ⊥
inner-letters next end numbers q idle none m = by (cases_lt m.0 end)
  where
    by : (m.0 < end) ⊎ (end ≤ m.0) → ⊥
    by (inl h) = none m.0 h m.1
    by (inr h) = subst (Has m.1.0) (idle m.0 h) m.1.1

-- One more mark.
pub marks-more : (P : ℕ → Type 0) (marks : List Bool) (n : ℕ) (b : Bool) → length marks ≡ n → ((q : ℕ) → q < n → IsTrue (get_or marks q false) ↔ P q) → (IsTrue b ↔ P n) → (q : ℕ) → q < n + 1 → IsTrue (get_or (marks ++ b ∷ []) q false) ↔ P q
marks-more P marks n b e old here q h = by (cases_lt q n)
  where
    by : (q < n) ⊎ (n ≤ q) → IsTrue (get_or (marks ++ b ∷ []) q false) ↔ P q
    by (inl k) = subst (λ (z : Bool). IsTrue z ↔ P q) (sym (get_or_append_left marks (b ∷ []) false q (omega arith))) (old q k)
    by (inr k) =
        let a : q ≡ n = omega arith in
        subst (λ (z : Bool). IsTrue z ↔ P q) (sym (get_or_push marks b false q (omega arith))) (subst (λ (z : ℕ). IsTrue b ↔ P z) (sym a) here)

-- There is a mark for each number, and exactly the numbers of the first `n` states are marked.
pub record AreMet (numbers : List ℕ) (n : ℕ) (marks : List Bool) : Type 0 where
  pub size : length marks ≡ length numbers
  pub met : (part : ℕ) → IsTrue (get_or marks part false) → (q : ℕ) × (q < n) × (get_or numbers q 0 ≡ part)
  pub all : (q : ℕ) → q < n → IsTrue (get_or marks (get_or numbers q 0) false)

-- One more state

set-stays : (marks : List Bool) (at k : ℕ) → at < length marks → IsTrue (get_or marks k false) → IsTrue (get_or (set marks at true) k false)
set-stays marks at k lt h = by (cases_eq k at)
  where
    by : (k ≡ at) ⊎ (k ≢ at) → IsTrue (get_or (set marks at true) k false)
    by (inl e) = ap (λ z. get_or (set marks at true) z false) e ∙ get_or-set_same marks at true false lt
    by (inr ne) = get_or-set_other marks at k true false ne ∙ h

pub met-more : (numbers : List ℕ) (n : ℕ) (marks : List Bool) → get_or numbers n 0 < length numbers → AreMet numbers n marks → AreMet numbers (n + 1) (set marks (get_or numbers n 0) true)
met-more numbers n marks below m = record {
  size = length-set marks (get_or numbers n 0) true ∙ m.size;
  met = λ part h. from part h (cases_eq part (get_or numbers n 0));
  all = λ q lt. all q lt (cases_lt q n);
}
  where
    fits : get_or numbers n 0 < length marks
    fits = omega (arith, m.size, below)

    from : (part : ℕ) → IsTrue (get_or (set marks (get_or numbers n 0) true) part false) → (part ≡ get_or numbers n 0) ⊎ (part ≢ get_or numbers n 0) → (q : ℕ) × (q < n + 1) × (get_or numbers q 0 ≡ part)
    from part h (inl e) = (n, omega arith, sym e)
    from part h (inr ne) = let old = m.met part (sym (get_or-set_other marks (get_or numbers n 0) part true false ne) ∙ h) in (old.0, omega (arith, old.1), old.2)

    all : (q : ℕ) → q < n + 1 → (q < n) ⊎ (n ≤ q) → IsTrue (get_or (set marks (get_or numbers n 0) true) (get_or numbers q 0) false)
    all q lt (inl h) = set-stays marks (get_or numbers n 0) (get_or numbers q 0) fits (m.all q h)
    all q lt (inr h) =
        let e : q ≡ n = omega arith in
        ap (λ z. get_or (set marks (get_or numbers n 0) true) (get_or numbers z 0) false) e ∙ get_or-set_same marks (get_or numbers n 0) true false fits

-- The number of the next state was met before: it is marked as shared.
pub shared-more : (numbers : List ℕ) (n : ℕ) (met marks : List Bool) → n < length numbers → get_or numbers n 0 < length numbers → AreMet numbers n met → IsTrue (get_or met (get_or numbers n 0) false)
    → AreSharedUpTo numbers n marks → AreSharedUpTo numbers (n + 1) (set marks (get_or numbers n 0) true)
shared-more numbers n met marks within below m was s = record {
  size = length-set marks (get_or numbers n 0) true ∙ s.size;
  shared = λ part h. from part h (cases_eq part (get_or numbers n 0));
  all = λ q r before lt same. all q r before lt same (cases_lt r n);
}
  where
    fits : get_or numbers n 0 < length marks
    fits = omega (arith, s.size, below)

    from : (part : ℕ) → IsTrue (get_or (set marks (get_or numbers n 0) true) part false) → (part ≡ get_or numbers n 0) ⊎ (part ≢ get_or numbers n 0) → IsShared numbers part
    from part h (inl e) =
        let first = m.met (get_or numbers n 0) was in
        record { first = first.0; second = n; before = first.1; within = within; first_is = first.2 ∙ sym e; second_is = sym e }
    from part h (inr ne) = s.shared part (sym (get_or-set_other marks (get_or numbers n 0) part true false ne) ∙ h)

    all : (q r : ℕ) → q < r → r < n + 1 → get_or numbers q 0 ≡ get_or numbers r 0 → (r < n) ⊎ (n ≤ r) → IsTrue (get_or (set marks (get_or numbers n 0) true) (get_or numbers r 0) false)
    all q r before lt same (inl h) = set-stays marks (get_or numbers n 0) (get_or numbers r 0) fits (s.all q r before h same)
    all q r before lt same (inr h) =
        let e : r ≡ n = omega arith in
        ap (λ z. get_or (set marks (get_or numbers n 0) true) (get_or numbers z 0) false) e ∙ get_or-set_same marks (get_or numbers n 0) true false fits

-- It was not: no earlier state has it.
pub shared-kept : (numbers : List ℕ) (n : ℕ) (met marks : List Bool) → AreMet numbers n met → get_or met (get_or numbers n 0) false ≡ false → AreSharedUpTo numbers n marks → AreSharedUpTo numbers (n + 1) marks
shared-kept numbers n met marks m new s = record {
  size = s.size;
  shared = s.shared;
  all = λ q r before lt same. all q r before lt same (cases_lt r n);
}
  where
    all : (q r : ℕ) → q < r → r < n + 1 → get_or numbers q 0 ≡ get_or numbers r 0 → (r < n) ⊎ (n ≤ r) → IsTrue (get_or marks (get_or numbers r 0) false)
    all q r before lt same (inl h) = s.all q r before h same
    all q r before lt same (inr h) =
        let e : r ≡ n = omega arith in
        let was = m.all q (omega (arith, e, before)) in
        absurd (true≢false (sym was ∙ (ap (λ z. get_or met z false) (same ∙ ap (λ z. get_or numbers z 0) e) ∙ new)))

-- The search over all roots

pub all-done : (next : ℕ → ℕ → List ℕ) (n : ℕ) (s : SearchState) → IsSearch next n s → s.frames ≡ [] → ((q : ℕ) → q < n → place_of s q ≡ Unseen → ⊥) → IsAllDone n s
all-done next n s h e seen q lt = by (place_of s q) refl
  where
    by : (p : SearchPlace) → place_of s q ≡ p → (c : ℕ) × (place_of s q ≡ Done c)
    by Unseen a = absurd (seen q lt a)
    by (Open k) a = absurd (none-open next n s h e q k a)
    by (Done c) a = (c, a)

pub numbered : (next : ℕ → ℕ → List ℕ) (n : ℕ) (s : SearchState) (numbers : List ℕ) → IsSearch next n s → IsAllDone n s → numbers ≡ map part_in s.places → IsNumbered next n numbers
numbered next n s numbers h all e =
    record {
      size = ap length e ∙ (length-map s.places part_in ∙ h.size);
      below = λ q lt. omega (arith, number q lt, h.numbered q (all q lt).0 (all q lt).1, h.room);
      same = λ q r i j. let d = done-same_part next n s h q r (all q i).0 (all r j).0 (all q i).1 (all r j).1 in
          (λ x. d.0 (sym (number q i) ∙ (x ∙ number r j)), λ w. number q i ∙ (d.1 w ∙ sym (number r j)));
      order = λ q r i j w. omega (arith, number q i, number r j, done-order next n s h q r (all q i).0 (all r j).0 (all q i).1 (all r j).1 w);
    }
  where
    number : (q : ℕ) → (lt : q < n) → get_or numbers q 0 ≡ (all q lt).0
    number q lt = ap (λ (z : List ℕ). get_or z q 0) e ∙ (get_or-map part_in s.places q Unseen 0 (omega (arith, h.size)) ∙ ap part_in (all q lt).1)

-- The parts

inner-cycle : (next : ℕ → ℕ → List ℕ) (n w : ℕ) (numbers : List ℕ) → IsBounded next n w → IsNumbered next n numbers → (q : ℕ) → q < n → HasInner next numbers q ↔ OnCycle next q
inner-cycle next n w numbers b h q lt = (forth, back)
  where
    forth : HasInner next numbers q → OnCycle next q
    forth x = OnCycle-move next q x.0 x.1.0 x.1.1 ((h.same x.1.0 q (b.targets q x.0 x.1.0 x.1.1) lt).0 x.1.2).0

    back : OnCycle next q → HasInner next numbers q
    back c =
        let f = OnCycle-first next q c in
        (f.0, (f.1, f.2, (h.same f.1 q (b.targets q f.0 f.1 f.2) lt).1 (f.3, Reaches-move next q f.1 f.0 f.2)))

-- The first move of a path to another state.
first-move : (next : ℕ → ℕ → List ℕ) (q r : ℕ) → Reaches next q r → q ≢ r → (l : ℕ) × (m : ℕ) × Has m (next q l) × Reaches next m r
first-move next q r ([], h) ne = absurd (ne (nil-same next q r h))
first-move next q r (l ∷ w, h) ne = let t = total-there (λ m. paths next m r w) (next q l) h in (l, t.0, t.1, (w, t.2))

-- A state whose number another one has too lies on a cycle with that one.
pub shared-inner : (next : ℕ → ℕ → List ℕ) (n w : ℕ) (numbers : List ℕ) (q : ℕ) → IsBounded next n w → IsNumbered next n numbers → q < n → IsShared numbers (get_or numbers q 0) → HasInner next numbers q
shared-inner next n w numbers q b h lt s = by (cases_eq q s.first)
  where
    from : (r : ℕ) → r < n → q ≢ r → get_or numbers r 0 ≡ get_or numbers q 0 → HasInner next numbers q
    from r i ne e =
        let x = (h.same q r lt i).0 (sym e) in
        let f = first-move next q r x.0 ne in
        (inner-cycle next n w numbers b h q lt).1 (OnCycle-move next q f.0 f.1 f.2 (Reaches-trans next f.1 r q f.3 x.1))

    by : (q ≡ s.first) ⊎ (q ≢ s.first) → HasInner next numbers q
    by (inl e) = from s.second (omega (arith, s.within, h.size)) (λ i. omega (arith, s.before, e, i)) s.second_is
    by (inr ne) = from s.first (omega (arith, s.before, s.within, h.size)) ne s.first_is

-- A state that is the only one of its part, without a move to itself, has no moves within its part.
pub lone-none : (next : ℕ → ℕ → List ℕ) (n w : ℕ) (numbers : List ℕ) (marks : List Bool) (q : ℕ) → IsBounded next n w → IsNumbered next n numbers → q < n → AreShared numbers marks
    → get_or marks (get_or numbers q 0) false ≡ false → ((l : ℕ) → Has q (next q l) → ⊥) → HasInner next numbers q → ⊥
lone-none next n w numbers marks q b h lt s lone none x = by (cases_eq q x.1.0) (cases_lt q x.1.0)
  where
    inside : x.1.0 < n
    inside = b.targets q x.0 x.1.0 x.1.1

    by : (q ≡ x.1.0) ⊎ (q ≢ x.1.0) → (q < x.1.0) ⊎ (x.1.0 ≤ q) → ⊥
    by (inl e) o = none x.0 (subst (λ z. Has z (next q x.0)) (sym e) x.1.1)
    by (inr ne) (inl o) =
        true≢false (sym (s.all q x.1.0 o (omega (arith, h.size, inside)) (sym x.1.2)) ∙ (ap (λ z. get_or marks z false) x.1.2 ∙ lone))
    by (inr ne) (inr o) =
        true≢false (sym (s.all x.1.0 q (omega (arith, o, ne)) (omega (arith, h.size, lt)) x.1.2) ∙ lone)

pub parts : (next : ℕ → ℕ → List ℕ) (n w : ℕ) (p : PartTable) → IsBounded next n w → IsNumbered next n p.numbers → AreInner next n p.numbers p.cycles → IsParts next n p
parts next n w p b h i =
    record {
      size = h.size;
      below = h.below;
      same = h.same;
      order = h.order;
      on_cycle = λ q lt. let a = i.inner q lt in let c = inner-cycle next n w p.numbers b h q lt in (λ x. c.0 (a.0 x), λ x. a.1 (c.1 x));
    }

pub parts_from : (next : ℕ → ℕ → List ℕ) (n w : ℕ) (p : PartTable) (lent : List ℕ) → IsBounded next n w → IsNumbered next n p.numbers → lent ≡ p.numbers → AreInner next n lent p.cycles → IsParts next n p
parts_from next n w p lent b h e i = parts next n w p b h (subst (λ (z : List ℕ). AreInner next n z p.cycles) e i)
