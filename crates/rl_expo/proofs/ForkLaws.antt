-- A fork is a twin, and a twin has a fork: it is walked to its first difference.
use Rattle.std.proofs.Common.{◌≡◌, ◌≢◌, ◌∙◌, ap₂, ℕ, ◌<◌, ◌≤◌, ◌⊎◌, inl, inr, List, [], ◌∷◌, ◌++◌, Some, slice_get, refl, sym, ap, subst, arith}
use Rattle.std.proofs.lemmas.Bool.{cases_eq, cases_lt, cases_order}
use Rattle.rl_graph.specs.Paths.{paths, led, IsPath, IsBounded, Has}
use Rattle.rl_graph.specs.Twins.{IsTwin, HasNoTwin}
use Rattle.rl_graph.specs.Parts.{PartTable, IsParts, number_of}
use Rattle.rl_graph.proofs.Sums.{Has-at}
use Rattle.rl_graph.proofs.PathLaws.{paths-nil, through_one, positive, move-path, Reaches-move, along_moves}
use Rattle.rl_graph.proofs.TwinPaths.{onto-some, path-counts, two-there, twin-count}
use Rattle.rl_expo.specs.internal.Forks.{IsFork, AnyFork}

-- A way and then a way.
pub joined-path : (next : ℕ → ℕ → List ℕ) (s m t : ℕ) (u v : List ℕ) → 1 ≤ paths next s m u → 1 ≤ paths next m t v → 1 ≤ paths next s t (u ++ v)
joined-path next s m t u v a b = omega (arith, positive (paths next s m u) (paths next m t v) a b, through_one next s m t u v)

-- Two different paths from `s` to `t`, and a way back.
pub paths_fork : (next : ℕ → ℕ → List ℕ) (s t : ℕ) (p q w z : List ℕ) → p ≢ q → IsPath next s t p w → IsPath next s t q w → 1 ≤ paths next t s z → AnyFork next
paths_fork next s t [] [] [] z ne h k back = absurd (ne refl)
paths_fork next s t [] q (l ∷ w) z ne h k back = cc
paths_fork next s t (i ∷ p) q [] z ne h k back = cc
paths_fork next s t p [] (l ∷ w) z ne h k back = cc
paths_fork next s t p (j ∷ q) [] z ne h k back = cc
paths_fork next s t (i ∷ p) (j ∷ q) (l ∷ w) z ne h k back =
    by (onto-some (λ m. led next m p w) (slice_get (next s l) i) t h) (onto-some (λ m. led next m q w) (slice_get (next s l) j) t k)
    (λ x. paths_fork next x t p q w (z ++ l ∷ [])) (cases_eq i j)
  where
    by : ((x : ℕ) × (slice_get (next s l) i ≡ Some x) × (led next x p w ≡ Some t)) → ((x : ℕ) × (slice_get (next s l) j ≡ Some x) × (led next x q w ≡ Some t)) → ((x : ℕ) → p ≢ q → IsPath next x t p w → IsPath next x t q w → 1 ≤ paths next t x (z ++ l ∷ []) → AnyFork next) → (i ≡ j) ⊎ (i ≢ j) → AnyFork next
    by a b rest (inr d) =
        record {
          state = s;
          letter = l;
          first = i;
          second = j;
          one = a.0;
          other = b.0;
          word = w ++ z;
          forks = record {
            apart = d;
            one_move = a.1;
            other_move = b.1;
            one_back = joined-path next a.0 t s w z (path-counts next a.0 t p w a.2) back;
            other_back = joined-path next b.0 t s w z (path-counts next b.0 t q w b.2) back;
          };
        }
    by a b rest (inl e) =
        let o : Some a.0 ≡ Some b.0 = sym a.1 ∙ (ap (slice_get (next s l)) e ∙ b.1) in
        let same : a.0 ≡ b.0 = cc in
        let k2 : led next a.0 q w ≡ Some t = rw same b.2 in
        let step : 1 ≤ paths next s a.0 (l ∷ []) = move-path next s a.0 a.0 l [] (Has-at (next s l) i a.0 a.1) (omega (arith, paths-nil next a.0)) in
        rest a.0 (λ c. ne (ap₂ ◌∷◌ e c)) a.2 k2 (joined-path next t s a.0 z (l ∷ []) back step)

-- The same for a count of paths.
pub twin_fork : (next : ℕ → ℕ → List ℕ) (s t : ℕ) (w z : List ℕ) → 2 ≤ paths next s t w → 1 ≤ paths next t s z → AnyFork next
twin_fork next s t w z h back = let r = two-there next s t w h in paths_fork next s t r.0 r.1 w z r.2 r.3 r.4 back

-- A graph without a fork has no twin.
pub no_fork-no_twin : (next : ℕ → ℕ → List ℕ) → (AnyFork next → ⊥) → HasNoTwin next
no_fork-no_twin next none q w = by (cases_lt 1 (paths next q q w))
  where
    by : (1 < paths next q q w) ⊎ (paths next q q w ≤ 1) → paths next q q w ≤ 1
    by (inr h) = h
    by (inl h) = absurd (none (twin_fork next q q w [] (omega arith) (omega (arith, paths-nil next q))))

-- The same in the words of lists of moves.
pub no_twin-no_paths : (next : ℕ → ℕ → List ℕ) → HasNoTwin next → (q : ℕ) (w p r : List ℕ) → IsTwin next q w p r → ⊥
no_twin-no_paths next none q w p r t = absurd (omega (arith, none q w, twin-count next q w p r t))

-- A fork with its two moves in the other order.
pub fork-turned : (next : ℕ → ℕ → List ℕ) (r l i j x y : ℕ) (w : List ℕ) → IsFork next r l i j x y w → IsFork next r l j i y x w
fork-turned next r l i j x y w f =
    record { apart = λ e. f.apart (sym e); one_move = f.other_move; other_move = f.one_move; one_back = f.other_back; other_back = f.one_back }

-- A move stays in the graph, and its letter is one of the graph's.
pub move-in : (next : ℕ → ℕ → List ℕ) (n k s l i m : ℕ) → IsBounded next n k → slice_get (next s l) i ≡ Some m → (m < n) × (l < k)
move-in next n k s l i m b e = (b.targets s l m (Has-at (next s l) i m e), by (cases_lt l k))
  where
    by : (l < k) ⊎ (k ≤ l) → l < k
    by (inl h) = h
    by (inr h) = absurd (subst (λ (r : List ℕ). Has m r) (b.letters s l h) (Has-at (next s l) i m e))

-- A path that is not empty from a state of the graph ends in one.
pub path-end : (next : ℕ → ℕ → List ℕ) (n k s t : ℕ) (w : List ℕ) → IsBounded next n k → s < n → 1 ≤ paths next s t w → t < n
path-end next n k s t w b h p = along_moves (λ m. m < n) next (λ q l m i j. b.targets q l m j) s t w h p

-- A fork that starts in the graph.
pub fork-start : (next : ℕ → ℕ → List ℕ) (n k r l i j x y : ℕ) (w : List ℕ) → IsBounded next n k → IsFork next r l i j x y w → r < n
fork-start next n k r l i j x y w b f = path-end next n k x r w b (move-in next n k r l i x b f.one_move).0 f.one_back

-- The targets of a fork lie in the part of its state.
pub fork-part : (next : ℕ → ℕ → List ℕ) (n k : ℕ) (p : PartTable) → IsBounded next n k → IsParts next n p → (r l i x : ℕ) (w : List ℕ) → r < n → slice_get (next r l) i ≡ Some x → 1 ≤ paths next x r w → number_of p x ≡ number_of p r
fork-part next n k p b parts r l i x w hr e back =
    (parts.same x r (move-in next n k r l i x b e).0 hr).1 ((w, back), Reaches-move next r x l (Has-at (next r l) i x e))

-- It is enough to refute the forks whose first move has the smaller number.
pub fork-ordered : (next : ℕ → ℕ → List ℕ) (c : ℕ) (p : PartTable) → ((r l i j x y : ℕ) (w : List ℕ) → number_of p r ≡ c → i < j → IsFork next r l i j x y w → ⊥) → (f : AnyFork next) → number_of p f.state ≡ c → ⊥
fork-ordered next c p less f at = any f.state f.letter f.first f.second f.one f.other f.word at f.forks (cases_order f.first f.second)
  where
    any : (r l i j x y : ℕ) (w : List ℕ) → number_of p r ≡ c → IsFork next r l i j x y w → (i ≡ j) ⊎ ((i < j) ⊎ (j < i)) → ⊥
    any r l i j x y w at f (inl e) = f.apart e
    any r l i j x y w at f (inr (inl h)) = less r l i j x y w at h f
    any r l i j x y w at f (inr (inr h)) = less r l j i y x w at h (fork-turned next r l i j x y w f)

-- If no two moves of a state of a part on one letter both stay in the part, no fork begins there.
pub no_fork_by_components : (next : ℕ → ℕ → List ℕ) (n k c : ℕ) (p : PartTable) → IsBounded next n k → IsParts next n p
    → ((r l i j x y : ℕ) → r < n → l < k → number_of p r ≡ c → i < j → slice_get (next r l) i ≡ Some x → slice_get (next r l) j ≡ Some y → number_of p x ≡ number_of p r → number_of p y ≡ number_of p r → ⊥)
    → (f : AnyFork next) → number_of p f.state ≡ c → ⊥
no_fork_by_components next n k c p b parts none = fork-ordered next c p less
  where
    less : (r l i j x y : ℕ) (w : List ℕ) → number_of p r ≡ c → i < j → IsFork next r l i j x y w → ⊥
    less r l i j x y w at lt f =
        let hr = fork-start next n k r l i j x y w b f in
        none r l i j x y hr (move-in next n k r l i x b f.one_move).1 at lt f.one_move f.other_move
        (fork-part next n k p b parts r l i x w hr f.one_move f.one_back) (fork-part next n k p b parts r l j y w hr f.other_move f.other_back)
