-- Pumps and heads appended one after the other.
use Rattle.std.proofs.Common.{◌≡◌, ℕ, ◌+◌, ◌<◌, ◌≤◌, List, [], ◌∷◌, ◌++◌, length, get_or, drop, min, refl, ap, ap₂, sym, ◌∙◌, append_assoc, arith, codes}
use Rattle.std.proofs.lemmas.List.{drop_more, append-nil, length-drop}
use Rattle.rl_ranges.specs.declared.universe.Universe.{Universe}
use Rattle.rl_report.specs.Verdicts.{family_part, later_parts}

regroup : (a b c d : List ℕ) → ((a ++ b) ++ c) ++ d ≡ a ++ ((b ++ c) ++ d)
regroup a b c d = simp append_assoc

front_of : (xs : List (List ℕ)) (i : ℕ) (x : List ℕ) → i < length xs → x ≡ get_or xs i x → drop i xs ≡ x ∷ drop (i + 1) xs
front_of xs i x h e = drop_more xs i x h ∙ ap (λ y. y ∷ drop (i + 1) xs) (sym e)

-- What is appended so far and what is left make up the whole.
pub part_more : (u : Universe) (whole now next last : List ℕ) (pumps heads : List (List ℕ)) (i : ℕ) (p h : List ℕ) → i < length pumps → i < length heads
    → p ≡ get_or pumps i p → h ≡ get_or heads i h
    → now ++ later_parts u (i + 1) (drop i pumps) (drop i heads) ≡ whole
    → next ≡ now ++ family_part u (codes "y") (i + 1) p → last ≡ next ++ family_part u (codes "x") (i + 1) h
    → last ++ later_parts u (i + 1 + 1) (drop (i + 1) pumps) (drop (i + 1) heads) ≡ whole
part_more u whole now next last pumps heads i p h lp lh ep eh inv n m =
    let y = family_part u (codes "y") (i + 1) p in
    let x = family_part u (codes "x") (i + 1) h in
    let left = later_parts u (i + 1 + 1) (drop (i + 1) pumps) (drop (i + 1) heads) in
    let split : later_parts u (i + 1) (drop i pumps) (drop i heads) ≡ (y ++ x) ++ left = ap₂ (later_parts u (i + 1)) (front_of pumps i p lp ep) (front_of heads i h lh eh) in
    ap (λ xs. xs ++ left) (m ∙ ap (λ xs. xs ++ x) n) ∙ regroup now y x left ∙ ap (λ xs. now ++ xs) (sym split) ∙ inv

no_pair : (u : Universe) (k : ℕ) (pumps heads : List (List ℕ)) → min (length pumps) (length heads) ≡ 0 → later_parts u k pumps heads ≡ []
no_pair u k [] heads h = refl
no_pair u k (p ∷ pumps) [] h = refl
no_pair u k (p ∷ pumps) (x ∷ heads) h = absurd (omega arith)

-- At the end nothing is left.
pub part_end : (u : Universe) (whole now : List ℕ) (pumps heads : List (List ℕ)) (i : ℕ) → min (length pumps) (length heads) ≤ i
    → now ++ later_parts u (i + 1) (drop i pumps) (drop i heads) ≡ whole → now ≡ whole
part_end u whole now pumps heads i h inv =
    let none : min (length (drop i pumps)) (length (drop i heads)) ≡ 0 = omega (arith, length-drop i pumps, length-drop i heads) in
    sym (append-nil now) ∙ ap (λ xs. now ++ xs) (sym (no_pair u (i + 1) (drop i pumps) (drop i heads) none)) ∙ inv
