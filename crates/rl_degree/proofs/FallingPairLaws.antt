-- Pairs that fall: their flags, and what is reached from them.
use Rattle.std.proofs.Common.{◌≡◌, ℕ, ◌+◌, ◌*◌, ◌/◌, ◌%◌, ◌<◌, ◌≤◌, ◌⊎◌, inl, inr, Bool, true, false, List, [], ◌∷◌, ◌++◌, get_or, map, ltb, eqb, bit_and, not, ◌&&◌, sym, ◌∙◌, ap, ap₂, arith}
use Rattle.std.proofs.lemmas.Bool.{cases_lt}
use Rattle.std.proofs.lemmas.List.{length_push, get_or_push, get_or_append_left}
use Rattle.std.proofs.lemmas.Nat.{div-mul-add, mod-mul-add}
use Rattle.rl_graph.specs.Paths.{Has, paths}
use Rattle.rl_graph.specs.Graph.{Graph, edges_of}
use Rattle.rl_graph.specs.Product.{pair_moves}
use Rattle.rl_graph.specs.Parts.{PartTable}
use Rattle.rl_graph.proofs.Sums.{total-there, has-map, has-flat_map}
use Rattle.rl_graph.proofs.PathLaws.{move-path, along_moves}
use Rattle.rl_graph.proofs.MarkedLaws.{there-if, has-if}
use Rattle.rl_kernel.specs.Inner.{IsInner}
use Rattle.rl_kernel.specs.Seats.{Seats, AreSeats}
use Rattle.rl_degree.specs.internal.FallingPairs.{falls, falling_moves, is_walked, AreFlagsUpTo}

-- The laws below are about flags.

-- One more flag is right.
pub flags-more : (levels entries : List ℕ) (n first second end : ℕ) (flags : List Bool) (flag : Bool) → second < n → end ≡ first * n + second
    → flag ≡ (ltb (get_or levels second 0) (get_or levels first 0) && not (eqb (bit_and (get_or entries first 0) (get_or entries second 0)) 0))
    → AreFlagsUpTo levels entries n end flags → AreFlagsUpTo levels entries n (end + 1) (flags ++ flag ∷ [])
flags-more levels entries n first second end flags flag lt e is f = record {
  size = length_push flags flag ∙ ap (λ z. z + 1) f.size;
  right = λ x small. by x small (cases_lt x end);
}
  where
    last : is_walked levels entries n (first * n + second) ≡ flag
    last =
        ap₂ (λ p q. ltb (get_or levels q 0) (get_or levels p 0) && not (eqb (bit_and (get_or entries p 0) (get_or entries q 0)) 0)) (div-mul-add first n second lt) (mod-mul-add first n second lt)
        ∙ sym is

    by : (x : ℕ) → x < end + 1 → (x < end) ⊎ (end ≤ x) → get_or (flags ++ flag ∷ []) x false ≡ is_walked levels entries n x
    by x small (inl a) =
        get_or_append_left flags (flag ∷ []) false x (omega (arith, f.size)) ∙ f.right x a
    by x small (inr a) =
        let k : x ≡ end = omega arith in
        get_or_push flags flag false x (f.size ∙ sym k) ∙ sym (ap (is_walked levels entries n) (k ∙ e) ∙ last)

-- Inner moves stay in a component, so a pair that falls moves only to pairs that fall.

module _ (g : Graph) (p : PartTable) (s : Seats) (h : Graph) (seats : AreSeats p g.states g.states s) (inner : IsInner g p s h) where
  level-kept : (i l j : ℕ) → Has j (edges_of h i l) → get_or s.levels j 0 ≡ get_or s.levels i 0
  level-kept i l j has = let k = (inner.kept i l j).0 has in seats.level j k.to_in ∙ (k.same ∙ sym (seats.level i k.from_in))

  falls-kept : (x l m : ℕ) → Has m (pair_moves (edges_of h) h.states x l) → falls s.levels h.states m ≡ falls s.levels h.states x
  falls-kept x l m has =
      let n = h.states in
      let a = has-flat_map (λ u. map (λ v. u * n + v) (edges_of h (x % n) l)) m (edges_of h (x / n) l) has in
      let b = has-map (λ v. a.0 * n + v) m (edges_of h (x % n) l) a.2 in
      let lt : b.0 < n = (move-kept b.0 b.1) in
      let first : m / n ≡ a.0 = ap (λ z. z / n) b.2 ∙ div-mul-add a.0 n b.0 lt in
      let second : m % n ≡ b.0 = ap (λ z. z % n) b.2 ∙ mod-mul-add a.0 n b.0 lt in
      ap₂ ltb (ap (λ z. get_or s.levels z 0) second ∙ level-kept (x % n) l b.0 b.1) (ap (λ z. get_or s.levels z 0) first ∙ level-kept (x / n) l a.0 a.1)
    where
      move-kept : (j : ℕ) → Has j (edges_of h (x % h.states) l) → j < h.states
      move-kept j has = omega (arith, inner.same_states, ((inner.kept (x % h.states) l j).0 has).to_in)

  pub falls-along : (x y : ℕ) (w : List ℕ) → falls s.levels h.states x ≡ true → 1 ≤ paths (pair_moves (edges_of h) h.states) x y w → falls s.levels h.states y ≡ true
  falls-along x y w f k =
      along_moves (λ z. falls s.levels h.states z ≡ true) (pair_moves (edges_of h) h.states) (λ q l m e has. falls-kept q l m has ∙ e) x y w f k

  -- The paths from a pair that falls are those of the product.

  pub pair-falling : (x y : ℕ) (w : List ℕ) → falls s.levels h.states x ≡ true → 1 ≤ paths (pair_moves (edges_of h) h.states) x y w → 1 ≤ paths (falling_moves (edges_of h) s.levels h.states) x y w
  pair-falling x y [] f k = k
  pair-falling x y (l ∷ w) f k =
      let product = pair_moves (edges_of h) h.states in
      let t = total-there (λ m. paths (pair_moves (edges_of h) h.states) m y w) (product x l) k in
      move-path (falling_moves (edges_of h) s.levels h.states) x t.0 y l w (has-if (falls s.levels h.states x) t.0 (product x l) f t.1)
      (pair-falling t.0 y w (falls-kept x l t.0 t.1 ∙ f) t.2)

  pub falling-pair : (x y : ℕ) (w : List ℕ) → 1 ≤ paths (falling_moves (edges_of h) s.levels h.states) x y w → 1 ≤ paths (pair_moves (edges_of h) h.states) x y w
  falling-pair x y [] k = k
  falling-pair x y (l ∷ w) k =
      let falling = falling_moves (edges_of h) s.levels h.states in
      let product = pair_moves (edges_of h) h.states in
      let t = total-there (λ m. paths (falling_moves (edges_of h) s.levels h.states) m y w) (falling x l) k in
      move-path product x t.0 y l w (there-if (falls s.levels h.states x) t.0 (product x l) t.1).1 (falling-pair t.0 y w t.2)
