-- The parts of the product of two copies of a graph number its doubles. The numbers decrease where two different moves leave
-- a state, since a way back would be a twin.
use Rattle.std.proofs.Common.{◌≡◌, ◌≢◌, ℕ, zero, suc, ◌+◌, ◌*◌, ◌<◌, ◌≤◌, ◌⊎◌, inl, inr, Bool, IsTrue, List, ◌∷◌, slice_get, Some, subst, arith, zero-mul}
use Rattle.std.proofs.lemmas.Bool.{cases_eq}
use Rattle.std.proofs.lemmas.Nat.{mul-add-lt}
use Rattle.rl_graph.specs.Paths.{Has, paths, Reaches, IsBounded}
use Rattle.rl_graph.specs.Product.{pair_moves}
use Rattle.rl_graph.specs.Parts.{PartTable, number_of, IsParts}
use Rattle.rl_graph.specs.Twins.{HasNoTwin}
use Rattle.rl_graph.proofs.Sums.{Has-at, at-has, total-two}
use Rattle.rl_graph.proofs.PathLaws.{Reaches-move}
use Rattle.rl_graph.proofs.ProductLaws.{step-pair, pair_paths}
use Rattle.rl_degree.specs.FallingNumbers.{IsDoubles}
use Rattle.rl_numbers.specs.Closed.{AreClosedDoubles}

none-times : (b : ℕ) → 1 ≤ 0 * b → ⊥
none-times b h = omega (arith, zero-mul b)

times-none : (a : ℕ) → 1 ≤ a * 0 → ⊥
times-none a h = omega arith

pub both-some : (a b : ℕ) → 1 ≤ a * b → (1 ≤ a) × (1 ≤ b)
both-some zero b h = absurd (none-times b h)
both-some (suc a) zero h = absurd (times-none (suc a) h)
both-some (suc a) (suc b) h = (omega arith, omega arith)

-- A move of each copy is a move of the product.
pub has-pair : (next : ℕ → ℕ → List ℕ) (n p q l x y : ℕ) → q < n → Has x (next p l) → Has y (next q l) → Has (x * n + y) (pair_moves next n (p * n + q) l)
has-pair next n p q l x y lt hx hy =
    let i = at-has x (next p l) hx in
    let j = at-has y (next q l) hy in
    Has-at (pair_moves next n (p * n + q) l) _ (x * n + y) (step-pair next n p q l i.0 j.0 x y lt i.1 j.1)

module _ (next : ℕ → ℕ → List ℕ) (n k : ℕ) (parts : PartTable) (holds : ℕ → ℕ → Bool) (b : IsBounded next n k) (none : HasNoTwin next) (right : IsParts (pair_moves next n) (n * n) parts) (held : AreClosedDoubles next n holds) where
  step-reaches : (p q l x y : ℕ) → q < n → Has x (next p l) → Has y (next q l) → Reaches (pair_moves next n) (p * n + q) (x * n + y)
  step-reaches p q l x y lt hx hy = Reaches-move (pair_moves next n) (p * n + q) (x * n + y) l (has-pair next n p q l x y lt hx hy)

  never : (p q l x y : ℕ) → IsTrue (holds p q) → Has x (next p l) → Has y (next q l) → number_of parts (x * n + y) ≤ number_of parts (p * n + q)
  never p q l x y h hx hy =
      let here = held.inside p q h in
      let there = held.inside x y (held.closed p q l x y h hx hy) in
      right.order (p * n + q) (x * n + y) (mul-add-lt p n q n here.0 here.1) (mul-add-lt x n y n there.0 there.1) (step-reaches p q l x y here.1 hx hy)

  falls : (r l i j x y : ℕ) → r < n → i ≢ j → slice_get (next r l) i ≡ Some x → slice_get (next r l) j ≡ Some y → number_of parts (x * n + y) < number_of parts (r * n + r)
  falls r l i j x y lt ne ei ej =
      let hx = Has-at (next r l) i x ei in
      let hy = Has-at (next r l) j y ej in
      let there = held.inside x y (held.closed r r l x y (held.equal r lt) hx hy) in
      let less = never r r l x y (held.equal r lt) hx hy in
      by there less (cases_eq (number_of parts (x * n + y)) (number_of parts (r * n + r)))
    where
      by : (x < n) × (y < n) → number_of parts (x * n + y) ≤ number_of parts (r * n + r) → (number_of parts (x * n + y) ≡ number_of parts (r * n + r)) ⊎ (number_of parts (x * n + y) ≢ number_of parts (r * n + r)) → number_of parts (x * n + y) < number_of parts (r * n + r)
      by there less (inr apart) = omega (arith, less, apart)
      by there less (inl e) =
          let back = ((right.same (x * n + y) (r * n + r) (mul-add-lt x n y n there.0 there.1) (mul-add-lt r n r n lt lt)).0 e).0 in
          let both = both-some (paths next x r back.0) (paths next y r back.0) (subst (λ (z : ℕ). 1 ≤ z) (pair_paths next n k b x y r r back.0 there.0 there.1 lt lt) back.1) in
          absurd (omega (arith, none r (l ∷ back.0), total-two (λ m. paths next m r back.0) (next r l) i j x y ne ei ej, both.0, both.1))

  pub numbered_doubles : IsDoubles next n holds (λ p q. number_of parts (p * n + q))
  numbered_doubles = record { equal = held.equal; closed = held.closed; never_rises = never; falls = falls }
