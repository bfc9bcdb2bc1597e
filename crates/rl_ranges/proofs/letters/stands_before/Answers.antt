use Rattle.std.proofs.Common.{List, [], ap₂, arith, eqb, length, refl, sym, true, ℕ, ◌&&◌, ◌-◌, ◌<◌, ◌∙◌, ◌∷◌, ◌≡◌}
use Rattle.std.specs.Cmp.Lexicographic.{pointwise}
use Rattle.std.proofs.lemmas.Bool.{and_parts, eqb-true}
use Rattle.std.proofs.lemmas.List.{get_or_default}
use Rattle.rl_ranges.proofs.letters.stands_before.Goals as goal

pairs_same : (xs ys : List (ℕ × ℕ)) → pointwise (λ (x y : ℕ × ℕ). eqb x.0 y.0 && eqb x.1 y.1) xs ys ≡ true → xs ≡ ys
pairs_same [] [] h = refl
pairs_same [] (y ∷ ys) h = cc
pairs_same (x ∷ xs) [] h = cc
pairs_same (x ∷ xs) (y ∷ ys) h =
    let parts = and_parts (eqb x.0 y.0 && eqb x.1 y.1) (pointwise (λ (x y : ℕ × ℕ). eqb x.0 y.0 && eqb x.1 y.1) xs ys) h in
    let ends = and_parts (eqb x.0 y.0) (eqb x.1 y.1) parts.0 in
    let heads : x ≡ y = ap₂ (λ a b. (a, b)) (eqb-true x.0 y.0 ends.0) (eqb-true x.1 y.1 ends.1) in
    ap₂ (λ r rs. r ∷ rs) heads (pairs_same xs ys parts.1)

pub returns-then-count-gt0 : goal.returns-then-count-gt0
returns-then-count-gt0 c same =
    let sets = c.args.sets.now.items in
    let k = c.args.count - 1 in
    let k_in : k < length sets = omega (arith, c.requires, c.if-count-gt0.true) in (
      k,
      omega (arith, c.if-count-gt0.true),
      sym (c.index.ensures ∙ get_or_default sets k _ [] k_in) ∙ sym c.as_ranges.ensures.value ∙ pairs_same _ _ (sym c.eq.ensures ∙ same) ∙ c.as_ranges-then-count-gt0.ensures.value,
    )
