-- Columns of path counts, letter by letter from the end of a word.
use Rattle.std.proofs.Common.{◌≡◌, ◌∙◌, ℕ, zero, suc, ◌+◌, ◌<◌, ◌≤◌, ◌⊎◌, inl, inr, min, List, [], ◌∷◌, ◌++◌, length, get_or, take, drop, All, refl, sym, ap, ap₂, arith}
use Rattle.std.proofs.lemmas.Bool.{cases_lt}
use Rattle.std.proofs.lemmas.List.{take_more, length_push, get_or_push, get_or_append_left, drop_more}
use Rattle.rl_graph.specs.Graph.{Graph, edges_of, IsWhole}
use Rattle.rl_graph.specs.Paths.{Has, total, paths}
use Rattle.rl_graph.proofs.Sums.{total-append}
use Rattle.rl_numbers.specs.Columns.{IsColumn}

capped : (a b s : ℕ) → s ≡ min 2 a → min (s + b) 2 ≡ min 2 (a + b)
capped a b s e = omega arith

pub sum-more : (f : ℕ → ℕ) (row : List ℕ) (i s : ℕ) → i < length row → s ≡ min 2 (total f (take i row)) → min (s + f (get_or row i 0)) 2 ≡ min 2 (total f (take (i + 1) row))
sum-more f row i s lt e =
    let more : total f (take (i + 1) row) ≡ total f (take i row) + f (get_or row i 0) = omega (arith, ap (total f) (take_more row i 0 lt), total-append f (take i row) (get_or row i 0 ∷ [])) in
    capped (total f (take i row)) (f (get_or row i 0)) s e ∙ ap (min 2) (sym more)

-- A list that was put together item by item.
pub each-push : (f : ℕ → ℕ) (old new : List ℕ) (k x : ℕ) → length old ≡ k → new ≡ old ++ x ∷ [] → x ≡ f k → ((q : ℕ) → q < k → get_or old q 0 ≡ f q) → (length new ≡ k + 1) × ((q : ℕ) → q < k + 1 → get_or new q 0 ≡ f q)
each-push f old new k x e is here all = (omega (arith, ap length is, length_push old x, e), each)
  where
    each : (q : ℕ) → q < k + 1 → get_or new q 0 ≡ f q
    each q lt = by (cases_lt q k)
      where
        by : (q < k) ⊎ (k ≤ q) → get_or new q 0 ≡ f q
        by (inl small) = ap (λ (l : List ℕ). get_or l q 0) is ∙ (get_or_append_left old (x ∷ []) 0 q (omega (arith, small, e)) ∙ all q small)
        by (inr big) =
            let same : q ≡ k = omega arith in
            ap (λ (l : List ℕ). get_or l q 0) is ∙ (get_or_push old x 0 q (omega (arith, e, same)) ∙ (here ∙ ap f (sym same)))

total-capped : (f g : ℕ → ℕ) (row : List ℕ) → ((m : ℕ) → Has m row → f m ≡ min 2 (g m)) → min 2 (total f row) ≡ min 2 (total g row)
total-capped f g [] h = refl
total-capped f g (m ∷ row) h = capped2 (f m) (g m) (total f row) (total g row) (h m (inl refl)) (total-capped f g row (λ x i. h x (inr i)))
  where
    capped2 : (a b c d : ℕ) → a ≡ min 2 b → min 2 c ≡ min 2 d → min 2 (a + c) ≡ min 2 (b + d)
    capped2 a b c d e k = omega arith

pub column-before : (g : Graph) (letter k : ℕ) (column sums : List ℕ) → IsWhole g → g.states ≤ k → k ≤ g.states → length sums ≡ k → ((q : ℕ) → q < k → get_or sums q 0 ≡ min 2 (total (λ m. get_or column m 0) (edges_of g q letter)))
    → (to : ℕ) (word : List ℕ) → IsColumn (edges_of g) g.states to word column → IsColumn (edges_of g) g.states to (letter ∷ word) sums
column-before g letter k column sums whole past le e all to word c = record {
  size = omega arith;
  right = λ q lt. all q (omega arith) ∙ total-capped (λ m. get_or column m 0) (λ m. paths (edges_of g) m to word) (edges_of g q letter) (λ m i. c.right m (whole.targets q letter m i));
}

pub low-all : (f : ℕ → ℕ) (l : List ℕ) (k : ℕ) → length l ≡ k → ((q : ℕ) → q < k → get_or l q 0 ≡ min 2 (f q)) → All (λ x. x ≤ 2) l
low-all f l k e all q d lt = omega (arith, all q (omega arith), same l q d lt)
  where
    same : (l : List ℕ) (q d : ℕ) → q < length l → get_or l q d ≡ get_or l q 0
    same [] q d lt = absurd (omega arith)
    same (x ∷ l) zero d lt = refl
    same (x ∷ l) (suc q) d lt = same l q d (omega arith)

pub low-column : (next : ℕ → ℕ → List ℕ) (n to : ℕ) (word column : List ℕ) → IsColumn next n to word column → All (λ x. x ≤ 2) column
low-column next n to word column c = low-all (λ q. paths next q to word) column n c.size c.right

pub at-front : (word : List ℕ) (i j l : ℕ) → i ≡ j + 1 → j < length word → l ≡ get_or word j 0 → drop j word ≡ l ∷ drop i word
at-front word i j l e lt is = drop_more word j 0 lt ∙ ap₂ (λ (x : ℕ) (k : ℕ). x ∷ drop k word) (sym is) (sym e)
