-- A path of the product taken apart into two paths of the graph.
use Rattle.std.proofs.Common.{◌≡◌, ◌∙◌, ap₂, ℕ, zero, suc, ◌+◌, ◌*◌, ◌/◌, ◌%◌, ◌<◌, ◌≤◌, List, [], ◌∷◌, ◌++◌, length, Some, slice_get, refl, sym, ap, subst, arith, get_or, drop, drop-cons, add-one, length-drop, div-add-mod'}
use Rattle.std.proofs.lemmas.Nat.{div-mul-add, mod-mul-add, div_below, mod_below}
use Rattle.std.specs.List.{All}
use Rattle.rl_graph.specs.Paths.{led, IsPath, IsBounded}
use Rattle.rl_graph.specs.Twins.{IsTwin}
use Rattle.rl_graph.specs.Product.{pair_moves}
use Rattle.rl_graph.proofs.Sums.{Has-at, at-short, get_or-at}
use Rattle.rl_graph.proofs.TwinPaths.{onto-some}
use Rattle.rl_graph.proofs.ProductLaws.{step-pair, pairs_of, length-pairs, bounded-pairs}
use Rattle.rl_expo.specs.declared.twins.TwinPaths.{TwinPaths}
use Rattle.rl_expo.specs.internal.Search.{AreMoves, IsLonger, targets_of}
use Rattle.rl_expo.specs.internal.Sides.{AreSides, IsOnWay}
use Rattle.rl_expo.specs.declared.forks.Fork.{Fork}
use Rattle.rl_graph.specs.Graph.{Graph, edges_of, IsWhole}
use Rattle.rl_expo.proofs.ForkLaws.{move-in}

-- One more move behind a path.
pub path-push : (next : ℕ → ℕ → List ℕ) (s m t l i : ℕ) (p w : List ℕ) → IsPath next s m p w → slice_get (next m l) i ≡ Some t → IsPath next s t (p ++ i ∷ []) (w ++ l ∷ [])
path-push next s m t l i [] [] h e = let same : s ≡ m = cc in rw same (rw e refl)
path-push next s m t l i [] (c ∷ w) h e = cc
path-push next s m t l i (a ∷ p) [] h e = cc
path-push next s m t l i (a ∷ p) (c ∷ w) h e =
    let r = onto-some (λ x. led next x p w) (slice_get (next s c) a) m h in
    rw r.1 (path-push next r.0 m t l i p w r.2 e)

pub path-long : (next : ℕ → ℕ → List ℕ) (s t : ℕ) (p w : List ℕ) → IsPath next s t p w → length p ≡ length w
path-long next s t [] [] h = refl
path-long next s t [] (l ∷ w) h = cc
path-long next s t (i ∷ p) [] h = cc
path-long next s t (i ∷ p) (l ∷ w) h =
    let r = onto-some (λ m. led next m p w) (slice_get (next s l) i) t h in omega (arith, path-long next r.0 t p w r.2)

-- The letters of a path are letters of the graph.
pub path-letters : (next : ℕ → ℕ → List ℕ) (n k s t : ℕ) (p w : List ℕ) → IsBounded next n k → IsPath next s t p w → All (λ l. l < k) w
path-letters next n k s t p w b h c d lt = at next n k s t p w b h c d lt
  where
    at : (next : ℕ → ℕ → List ℕ) (n k s t : ℕ) (p w : List ℕ) → IsBounded next n k → IsPath next s t p w → (c d : ℕ) → c < length w → get_or w c d < k
    at next n k s t p [] b h c d lt = absurd (omega arith)
    at next n k s t [] (l ∷ w) b h c d lt = cc
    at next n k s t (i ∷ p) (l ∷ w) b h zero d lt =
        let r = onto-some (λ m. led next m p w) (slice_get (next s l) i) t h in (move-in next n k s l i r.0 b r.1).1
    at next n k s t (i ∷ p) (l ∷ w) b h (suc c) d lt =
        let r = onto-some (λ m. led next m p w) (slice_get (next s l) i) t h in at next n k r.0 t p w b r.2 c d (omega arith)

-- Moves of the product

not-below-zero : (k m : ℕ) → m < k * 0 → ⊥
not-below-zero k m h = omega arith

some-width : (a b m : ℕ) → m < a * b → 0 < b
some-width a zero m h = absurd (not-below-zero a m h)
some-width a (suc b) m h = omega arith

pub sides-there : (next : ℕ → ℕ → List ℕ) (n k one other l m : ℕ) → IsBounded next n k → other < n → m < length (next one l) * length (next other l) → AreSides next n one other l m (m / length (next other l)) (m % length (next other l)) (get_or (next one l) (m / length (next other l)) 0) (get_or (next other l) (m % length (next other l)) 0)
sides-there next n k one other l m b h lt =
    let a = next one l in
    let c = next other l in
    let w = some-width (length (next one l)) (length (next other l)) m lt in
    let i = get_or-at (next one l) (m / length (next other l)) 0 (div_below m (length (next other l)) (length (next one l)) w lt) in
    let j = get_or-at (next other l) (m % length (next other l)) 0 (mod_below m (length (next other l)) w) in
    let s = step-pair next n one other l (m / length (next other l)) (m % length (next other l)) (get_or (next one l) (m / length (next other l)) 0) (get_or (next other l) (m % length (next other l)) 0) h i j in
    record {
      one_in = (move-in next n k one l (m / length (next other l)) (get_or (next one l) (m / length (next other l)) 0) b i).0;
      other_in = (move-in next n k other l (m % length (next other l)) (get_or (next other l) (m % length (next other l)) 0) b j).0;
      one_move = i;
      other_move = j;
      both = ap (slice_get (pair_moves next n (one * n + other) l)) (sym (div-add-mod' m (length (next other l)))) ∙ s;
    }

pair-length : (next : ℕ → ℕ → List ℕ) (n p q l : ℕ) → q < n → length (pair_moves next n (p * n + q) l) ≡ length (next p l) * length (next q l)
pair-length next n p q l h =
    ap₂ (λ u v. length (pairs_of n (next v l) (next u l))) (div-mul-add p n q h) (mod-mul-add p n q h) ∙ length-pairs n (next p l) (next q l)

-- A path of the product on its way

-- What comes next on the way, at the place `c`.
pub record IsAhead (next : ℕ → ℕ → List ℕ) (n k : ℕ) (moves word : List ℕ) (c one other r : ℕ) : Type 0 where
  pub number_there : c < length moves
  pub letter_in : get_or word c 0 < k
  pub number_in : get_or moves c 0 < length (next one (get_or word c 0)) * length (next other (get_or word c 0))
  pub target : ℕ
  pub move : slice_get (pair_moves next n (one * n + other) (get_or word c 0)) (get_or moves c 0) ≡ Some target
  pub rest : IsPath (pair_moves next n) target (r * n + r) (drop (suc c) moves) (drop (suc c) word)

pub ahead : (next : ℕ → ℕ → List ℕ) (n k i j c one other : ℕ) (moves word : List ℕ) (t : TwinPaths) → IsBounded next n k → IsOnWay next n i j moves word c one other t → c < length word → IsAhead next n k moves word c one other t.state
ahead next n k i j c one other moves word t b w lt =
    let long = path-long (pair_moves next n) (one * n + other) (t.state * n + t.state) (drop c moves) (drop c word) w.rest in
    let there : c < length moves = omega (arith, long, length-drop c moves, length-drop c word) in
    let r2 : IsPath (pair_moves next n) (one * n + other) (t.state * n + t.state) (get_or moves c 0 ∷ drop (suc c) moves) (get_or word c 0 ∷ drop (suc c) word) =
    subst (λ (z : List ℕ). IsPath (pair_moves next n) (one * n + other) (t.state * n + t.state) (get_or moves c 0 ∷ drop (suc c) moves) z) (drop-cons word c 0 lt)
    (subst (λ (z : List ℕ). IsPath (pair_moves next n) (one * n + other) (t.state * n + t.state) z (drop c word)) (drop-cons moves c 0 there) w.rest) in
    let o = onto-some (λ m. led (pair_moves next n) m (drop (suc c) moves) (drop (suc c) word)) (slice_get (pair_moves next n (one * n + other) (get_or word c 0)) (get_or moves c 0)) (t.state * n + t.state) r2 in
    record {
      number_there = there;
      letter_in = (move-in (pair_moves next n) (n * n) k (one * n + other) (get_or word c 0) (get_or moves c 0) o.0 (bounded-pairs next n k b) o.1).1;
      number_in = omega (arith, at-short (pair_moves next n (one * n + other) (get_or word c 0)) (get_or moves c 0) o.0 o.1, pair-length next n one other (get_or word c 0) w.other_in);
      target = o.0;
      move = o.1;
      rest = o.2;
    }

pub way-more : (next : ℕ → ℕ → List ℕ) (n k i j c one other a d x y : ℕ) (moves word : List ℕ) (t u : TwinPaths) → IsBounded next n k → IsOnWay next n i j moves word c one other t → c < length word → AreSides next n one other (get_or word c 0) (get_or moves c 0) a d x y → IsLonger (get_or word c 0) a d t u → IsOnWay next n i j moves word (c + 1) x y u
way-more next n k i j c one other a d x y moves word t u b w lt s g =
    let h = ahead next n k i j c one other moves word t b w lt in
    let o : Some h.target ≡ Some (x * n + y) = sym h.move ∙ s.both in
    let same : h.target ≡ x * n + y = cc in
    record {
      home = omega (arith, g.state, w.home);
      one_in = s.one_in;
      other_in = s.other_in;
      one_way = rw (g.state, g.first, g.word) (path-push next t.state one x (get_or word c 0) a t.first t.word w.one_way s.one_move);
      other_way = rw (g.state, g.second, g.word) (path-push next t.state other y (get_or word c 0) d t.second t.word w.other_way s.other_move);
      first = (w.first.0 ++ a ∷ [], g.first ∙ ap (λ (z : List ℕ). z ++ a ∷ []) w.first.1);
      second = (w.second.0 ++ d ∷ [], g.second ∙ ap (λ (z : List ℕ). z ++ d ∷ []) w.second.1);
      rest = rw (g.state, add-one) (subst (λ (z : ℕ). IsPath (pair_moves next n) z (t.state * n + t.state) (drop (suc c) moves) (drop (suc c) word)) same h.rest);
    }

-- A path along no letter stays.
path-done : (next : ℕ → ℕ → List ℕ) (s t : ℕ) (p w : List ℕ) → length w ≡ 0 → IsPath next s t p w → s ≡ t
path-done next s t [] [] e h = cc
path-done next s t (i ∷ p) [] e h = cc
path-done next s t p (l ∷ w) e h = absurd (omega arith)

pub way-end : (next : ℕ → ℕ → List ℕ) (n i j c one other : ℕ) (moves word : List ℕ) (t : TwinPaths) → i < j → IsOnWay next n i j moves word c one other t → length word ≤ c → IsTwin next t.state t.word t.first t.second
way-end next n i j c one other moves word t ij w le =
    let r = t.state in
    let e = path-done (pair_moves next n) (one * n + other) (t.state * n + t.state) (drop c moves) (drop c word) (omega (arith, length-drop c word)) w.rest in
    let a : one ≡ t.state = sym (div-mul-add one n other w.other_in) ∙ (ap (λ z. z / n) e ∙ div-mul-add t.state n t.state w.home) in
    let b : other ≡ t.state = sym (mod-mul-add one n other w.other_in) ∙ (ap (λ z. z % n) e ∙ mod-mul-add t.state n t.state w.home) in
    record {
      apart = λ f. heads i j w.first.0 w.second.0 ij (sym w.first.1 ∙ (f ∙ w.second.1));
      one_way = subst (λ (z : ℕ). IsPath next t.state z t.first t.word) a w.one_way;
      other_way = subst (λ (z : ℕ). IsPath next t.state z t.second t.word) b w.other_way;
    }
  where
    heads : (i j : ℕ) (u v : List ℕ) → i < j → i ∷ u ≡ j ∷ v → ⊥
    heads i j u v lt e = let same : i ≡ j = cc in absurd (omega arith)

-- The way begins with the two moves of a fork.
pub way-first : (g : Graph) (f : Fork) (t u : TwinPaths) (moves word : List ℕ) → IsWhole g → AreMoves g f → t.state ≡ f.state → t.word ≡ [] → t.first ≡ [] → t.second ≡ [] → IsLonger f.letter f.first f.second t u → IsPath (pair_moves (edges_of g) g.states) (targets_of g f) (f.state * g.states + f.state) moves word
    → IsOnWay (edges_of g) g.states f.first f.second moves word 0 (get_or (edges_of g f.state f.letter) f.first 0) (get_or (edges_of g f.state f.letter) f.second 0) u
way-first g f t u moves word w m es ew ef eq l back =
    let row = edges_of g f.state f.letter in
    let i = get_or-at (edges_of g f.state f.letter) f.first 0 (omega (arith, m.order, m.number_in)) in
    let j = get_or-at (edges_of g f.state f.letter) f.second 0 m.number_in in
    let s : u.state ≡ f.state = l.state ∙ es in
    let v : u.word ≡ f.letter ∷ [] = l.word ∙ ap (λ (z : List ℕ). z ++ f.letter ∷ []) ew in
    let p : u.first ≡ f.first ∷ [] = l.first ∙ ap (λ (z : List ℕ). z ++ f.first ∷ []) ef in
    let q : u.second ≡ f.second ∷ [] = l.second ∙ ap (λ (z : List ℕ). z ++ f.second ∷ []) eq in
    record {
      home = omega (arith, s, m.state_in);
      one_in = w.targets f.state f.letter (get_or (edges_of g f.state f.letter) f.first 0) (Has-at (edges_of g f.state f.letter) f.first (get_or (edges_of g f.state f.letter) f.first 0) i);
      other_in = w.targets f.state f.letter (get_or (edges_of g f.state f.letter) f.second 0) (Has-at (edges_of g f.state f.letter) f.second (get_or (edges_of g f.state f.letter) f.second 0) j);
      one_way = rw (s, v, p) (one_move f.first (get_or (edges_of g f.state f.letter) f.first 0) i);
      other_way = rw (s, v, q) (one_move f.second (get_or (edges_of g f.state f.letter) f.second 0) j);
      first = ([], p);
      second = ([], q);
      rest = rw s back;
    }
  where
    one_move : (i x : ℕ) → slice_get (edges_of g f.state f.letter) i ≡ Some x → IsPath (edges_of g) f.state x (i ∷ []) (f.letter ∷ [])
    one_move i x e = rw e refl
