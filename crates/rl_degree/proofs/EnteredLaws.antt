-- Walks over the states of a graph that a move leads to: no other state lies on a cycle, or in one part with a second state.
use Rattle.std.proofs.Common.{◌≡◌, ℕ, ◌+◌, ◌*◌, ◌/◌, ◌%◌, ◌<◌, ◌≤◌, ◌⊎◌, inl, inr, true, not, cond, List, [], ◌∷◌, length, get_or, map, eqb, bit_and, set, sym, ◌∙◌, ap, subst, arith, get_or-set_same, get_or-set_other}
use Rattle.std.specs.Int.{bit_at}
use Rattle.std.proofs.lemmas.Bool.{cases_eq, cases_lt, and_parts, and_from, not_from_false, ne_eqb}
use Rattle.std.proofs.lemmas.Nat.{div-mul-add, mod-mul-add}
use Rattle.std.proofs.lemmas.Nat.Bits.{bit_at_and, bit_at-zero}
use Rattle.rl_graph.specs.Paths.{Has, paths}
use Rattle.rl_graph.specs.Graph.{Graph, edges_of, IsWhole}
use Rattle.rl_graph.specs.Product.{pair_moves}
use Rattle.rl_graph.specs.Parts.{PartTable, IsParts, number_of}
use Rattle.rl_graph.proofs.Sums.{total-there, has-map, has-flat_map}
use Rattle.rl_graph.proofs.PathLaws.{nil-same, move-path}
use Rattle.rl_graph.proofs.MarkedLaws.{there-if, has-if, move-in}
use Rattle.rl_degree.specs.internal.Entries.{HasLetter, KeepsLetters, AreEntries, AreEntriesUpTo}
use Rattle.rl_degree.specs.internal.FallingPairs.{falls, falling_moves, shares, is_walked, IsParted}

-- One graph has some of the moves of another: all moves of each state that a move of the other graph leads to, and maybe more.

module _ (part all : ℕ → ℕ → List ℕ) (within : (q l m : ℕ) → Has m (part q l) → Has m (all q l)) (entered : (p k q l m : ℕ) → Has q (all p k) → Has m (all q l) → Has m (part q l)) where
  part-path : (q r : ℕ) (w : List ℕ) → 1 ≤ paths part q r w → 1 ≤ paths all q r w
  part-path q r [] h = h
  part-path q r (l ∷ w) h =
      let t = total-there (λ m. paths part m r w) (part q l) h in
      move-path all q t.0 r l w (within q l t.0 t.1) (part-path t.0 r w t.2)

  -- The paths from a state that a move leads to are the same in both graphs.
  entered-path : (p k q r : ℕ) (w : List ℕ) → Has q (all p k) → 1 ≤ paths all q r w → 1 ≤ paths part q r w
  entered-path p k q r [] i h = h
  entered-path p k q r (l ∷ w) i h =
      let t = total-there (λ m. paths all m r w) (all q l) h in
      move-path part q t.0 r l w (entered p k q l t.0 i t.1) (entered-path q l t.0 r w t.1 t.2)

  -- A move leads to the end of a path of at least one move.
  end-entered : (q r l : ℕ) (w : List ℕ) → 1 ≤ paths all q r (l ∷ w) → (p : ℕ) × (k : ℕ) × Has r (all p k)
  end-entered q r l [] h =
      let t = total-there (λ m. paths all m r []) (all q l) h in
      (q, l, subst (λ (z : ℕ). Has z (all q l)) (nil-same all t.0 r t.2) t.1)
  end-entered q r l (k ∷ w) h =
      let t = total-there (λ m. paths all m r (k ∷ w)) (all q l) h in
      end-entered t.0 r k w t.2

  end-path : (q r s l : ℕ) (v w : List ℕ) → 1 ≤ paths all q r (l ∷ v) → 1 ≤ paths all r s w → 1 ≤ paths part r s w
  end-path q r s l v w h k = let e = end-entered q r l v h in entered-path e.0 e.1 r s w e.2 k

  -- Both graphs have the same parts.
  pub parts-entered : (n : ℕ) (p : PartTable) → IsParts part n p → IsParted all n p
  parts-entered n p h = record {
    size = h.size;
    below = h.below;
    same = λ q r hq hr. (
      λ e. let s = (h.same q r hq hr).0 e in ((s.0.0, part-path q r s.0.0 s.0.1), (s.1.0, part-path r q s.1.0 s.1.1)),
      λ s. one q r hq hr s.0.0 s.1.0 s.0.1 s.1.1,
    );
    on_cycle = λ q hq. (
      λ e. let c = (h.on_cycle q hq).0 e in (c.0, c.1, part-path q q (c.0 ∷ c.1) c.2),
      λ c. (h.on_cycle q hq).1 (c.0, c.1, end-path q q q c.0 c.1 (c.0 ∷ c.1) c.2 c.2),
    );
  }
    where
      one : (q r : ℕ) → q < n → r < n → (v w : List ℕ) → 1 ≤ paths all q r v → 1 ≤ paths all r q w → number_of p q ≡ number_of p r
      one q r hq hr [] w a b = ap (number_of p) (nil-same all q r a)
      one q r hq hr (l ∷ v) [] a b = sym (ap (number_of p) (nil-same all r q b))
      one q r hq hr (l ∷ v) (k ∷ w) a b =
          (h.same q r hq hr).1 ((l ∷ v, end-path r q r k w (l ∷ v) b a), (k ∷ w, end-path q r q l v (k ∷ w) a b))

-- The laws below are about pairs.

-- Two words share a bit that is set in both.
shared-bit : (a b i : ℕ) → bit_at a i ≡ 1 → bit_at b i ≡ 1 → not (eqb (bit_and a b) 0) ≡ true
shared-bit a b i h k = not_from_false (eqb (bit_and a b) 0) (ne_eqb (bit_and a b) 0 none)
  where
    none : bit_and a b ≡ 0 → ⊥
    none e = omega (arith, h, k, bit_at_and a b i, ap (λ z. bit_at z i) e, bit_at-zero i)

-- A move of the product leads to a pair of states that share a letter.
pub pair-shares : (g : Graph) (entries : List ℕ) → IsWhole g → AreEntries g entries → (p l x : ℕ) → Has x (pair_moves (edges_of g) g.states p l) → shares entries g.states x ≡ true
pair-shares g entries whole are p l x has =
    let n = g.states in
    let a = has-flat_map (λ u. map (λ v. u * n + v) (edges_of g (p % n) l)) x (edges_of g (p / n) l) has in
    let b = has-map (λ v. a.0 * n + v) x (edges_of g (p % n) l) a.2 in
    let lt = whole.targets (p % n) l b.0 b.1 in
    let first : x / n ≡ a.0 = ap (λ z. z / n) b.2 ∙ div-mul-add a.0 n b.0 lt in
    let second : x % n ≡ b.0 = ap (λ z. z % n) b.2 ∙ mod-mul-add a.0 n b.0 lt in
    shared-bit (get_or entries (x / n) 0) (get_or entries (x % n) 0) (l % 64)
    (subst (λ (z : ℕ). HasLetter entries z l) (sym first) (are.entered (p / n) l a.0 a.1))
    (subst (λ (z : ℕ). HasLetter entries z l) (sym second) (are.entered (p % n) l b.0 b.1))

-- The parts of the moves of the pairs that are walked are those of all pairs that fall.
pub falling-parted : (g : Graph) (levels entries : List ℕ) (p : PartTable) → IsWhole g → AreEntries g entries
    → IsParts (λ x l. cond (is_walked levels entries g.states x) (pair_moves (edges_of g) g.states x l) []) (g.states * g.states) p
    → IsParted (falling_moves (edges_of g) levels g.states) (g.states * g.states) p
falling-parted g levels entries p whole are h =
    parts-entered walked falling within entered (g.states * g.states) p h
  where
    product : ℕ → ℕ → List ℕ
    product = pair_moves (edges_of g) g.states

    walked : ℕ → ℕ → List ℕ
    walked x l = cond (is_walked levels entries g.states x) (pair_moves (edges_of g) g.states x l) []

    falling : ℕ → ℕ → List ℕ
    falling = falling_moves (edges_of g) levels g.states

    within : (x l m : ℕ) → Has m (cond (is_walked levels entries g.states x) (pair_moves (edges_of g) g.states x l) []) → Has m (falling_moves (edges_of g) levels g.states x l)
    within x l m i =
        let a = there-if (is_walked levels entries g.states x) m (pair_moves (edges_of g) g.states x l) i in
        let b = and_parts (falls levels g.states x) (shares entries g.states x) a.0 in
        has-if (falls levels g.states x) m (pair_moves (edges_of g) g.states x l) b.0 a.1

    entered : (y k x l m : ℕ) → Has x (falling_moves (edges_of g) levels g.states y k) → Has m (falling_moves (edges_of g) levels g.states x l)
        → Has m (cond (is_walked levels entries g.states x) (pair_moves (edges_of g) g.states x l) [])
    entered y k x l m i j =
        let a = there-if (falls levels g.states y) x (pair_moves (edges_of g) g.states y k) i in
        let b = there-if (falls levels g.states x) m (pair_moves (edges_of g) g.states x l) j in
        let both = and_from (falls levels g.states x) (shares entries g.states x) b.0 (pair-shares g entries whole are y k x a.1) in
        has-if (is_walked levels entries g.states x) m (pair_moves (edges_of g) g.states x l) both b.1

-- A word with one more bit keeps its other bits.
pub letter-set : (entries : List ℕ) (t word q l : ℕ) → t < length entries → ((k : ℕ) → bit_at (get_or entries t 0) k ≡ 1 → bit_at word k ≡ 1) → HasLetter entries q l → HasLetter (set entries t word) q l
letter-set entries t word q l lt kept h = by (cases_eq q t)
  where
    by : (q ≡ t) ⊎ (q ≡ t → ⊥) → HasLetter (set entries t word) q l
    by (inr n) = subst (λ (z : ℕ). bit_at z (l % 64) ≡ 1) (sym (get_or-set_other entries t q word 0 n)) h
    by (inl e) =
        subst (λ (z : ℕ). HasLetter (set entries t word) z l) (sym e)
        (subst (λ (z : ℕ). bit_at z (l % 64) ≡ 1) (sym (get_or-set_same entries t word 0 lt)) (kept (l % 64) (subst (λ (z : ℕ). HasLetter entries z l) e h)))

-- The bits of one more target are set.
pub targets-more : (entries targets : List ℕ) (end word l : ℕ) → get_or targets end 0 < length entries → ((k : ℕ) → bit_at (get_or entries (get_or targets end 0) 0) k ≡ 1 → bit_at word k ≡ 1) → bit_at word (l % 64) ≡ 1
    → ((i : ℕ) → i < end → HasLetter entries (get_or targets i 0) l) → (i : ℕ) → i < end + 1 → HasLetter (set entries (get_or targets end 0) word) (get_or targets i 0) l
targets-more entries targets end word l lt kept here old i below = by (cases_lt i end)
  where
    by : (i < end) ⊎ (end ≤ i) → HasLetter (set entries (get_or targets end 0) word) (get_or targets i 0) l
    by (inl low) = letter-set entries (get_or targets end 0) word (get_or targets i 0) l lt kept (old i low)
    by (inr high) =
        let e : i ≡ end = omega arith in
        subst (λ (z : ℕ). HasLetter (set entries (get_or targets end 0) word) (get_or targets z 0) l) (sym e)
        (subst (λ (z : ℕ). bit_at z (l % 64) ≡ 1) (sym (get_or-set_same entries (get_or targets end 0) word 0 lt)) here)

-- The bits of one more letter of a state are set, if those of the letters before it are.
pub own-more : (g : Graph) (state end : ℕ) (old new : List ℕ) → KeepsLetters old new → ((k m : ℕ) → k < end → Has m (edges_of g state k) → HasLetter old m k) → ((m : ℕ) → Has m (edges_of g state end) → HasLetter new m end)
    → (k m : ℕ) → k < end + 1 → Has m (edges_of g state k) → HasLetter new m k
own-more g state end old new kept own here k m lt has = by (cases_lt k end)
  where
    by : (k < end) ⊎ (end ≤ k) → HasLetter new m k
    by (inl low) = kept m k (own k m low has)
    by (inr high) =
        let e : k ≡ end = omega arith in
        subst (HasLetter new m) (sym e) (here m (subst (λ (z : ℕ). Has m (edges_of g state z)) e has))

-- The bits of one more state are set.
pub entries-more : (g : Graph) (state end : ℕ) (entries : List ℕ) → g.letters ≤ end → AreEntriesUpTo g state entries → ((k m : ℕ) → k < end → Has m (edges_of g state k) → HasLetter entries m k)
    → AreEntriesUpTo g (state + 1) entries
entries-more g state end entries all so_far own = record { size = so_far.size; entered = λ q l m lt has. by q l m lt has (cases_lt q state) }
  where
    by : (q l m : ℕ) → q < state + 1 → Has m (edges_of g q l) → (q < state) ⊎ (state ≤ q) → HasLetter entries m l
    by q l m lt has (inl low) = so_far.entered q l m low has
    by q l m lt has (inr high) =
        let e : q ≡ state = omega arith in
        let here = subst (λ (z : ℕ). Has m (edges_of g z l)) e has in
        own l m (omega (arith, (move-in g state l m here).1, all)) here
