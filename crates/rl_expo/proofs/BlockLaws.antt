-- From the product of two copies of a component to forks of the graph, and back.
use Rattle.std.proofs.Common.{◌≡◌, ℕ, ◌+◌, ◌*◌, ◌<◌, ◌≤◌, true, List, [], ◌∷◌, length, get_or, sym, ◌∙◌, ap, subst, arith}
use Rattle.std.proofs.lemmas.Nat.{mul-add-lt}
use Rattle.rl_graph.specs.Paths.{Has, paths, IsBounded}
use Rattle.rl_graph.specs.Graph.{Graph, edges_of, IsWhole}
use Rattle.rl_graph.specs.Product.{pair_moves}
use Rattle.rl_graph.specs.Parts.{PartTable, IsParts, number_of}
use Rattle.rl_graph.proofs.Sums.{Has-at, at-short, at-get_or}
use Rattle.rl_graph.proofs.PathLaws.{paths-nil, move-path}
use Rattle.rl_graph.proofs.GraphLaws.{bounded-whole}
use Rattle.rl_graph.proofs.ProductLaws.{pair_paths}
use Rattle.rl_kernel.specs.Inner.{IsInner}
use Rattle.rl_kernel.specs.Members.{is_member}
use Rattle.rl_kernel.specs.Seats.{Seats, state_at, AreSeats}
use Rattle.rl_kernel.proofs.MemberLaws.{member-there}
use Rattle.rl_kernel.proofs.InnerPaths.{inner-path, path-inner, bounded-inner, positive-parts, both-paths}
use Rattle.rl_expo.specs.declared.forks.Fork.{Fork}
use Rattle.rl_expo.specs.internal.Forks.{IsFork}
use Rattle.rl_expo.specs.internal.Search.{AreMoves, LeadsBack}
use Rattle.rl_expo.specs.internal.Meeting.{Meets, own_part, IsMet, NoneMeets}
use Rattle.rl_expo.specs.internal.Blocks.{HasNoForkIn}
use Rattle.rl_expo.proofs.ForkLaws.{fork-start, fork-part, fork-ordered, move-in}

module _ (g h : Graph) (p parts : PartTable) (s : Seats) (c : ℕ) (whole : IsWhole g) (components : IsParts (edges_of g) g.states p) (seats : AreSeats p g.states g.states s) (inner : IsInner g p s h) (product : IsParts (pair_moves (edges_of h) h.states) (h.states * h.states) parts) where
  m : ℕ
  m = length s.states

  bounded : IsBounded (edges_of h) (length s.states) g.letters
  bounded = subst (λ z. IsBounded (edges_of h) z g.letters) inner.same_states (bounded-inner g h p s inner)

  places : IsParts (pair_moves (edges_of h) (length s.states)) (length s.states * length s.states) parts
  places = subst (λ z. IsParts (pair_moves (edges_of h) z) (z * z) parts) inner.same_states product

  -- A fork of the component meets.
  met : ((q : ℕ) → q < g.states → number_of p q ≡ c → is_member s.states s.places q ≡ true) → (i r l x y : ℕ) (w : List ℕ) → i < length s.states → state_at s i ≡ r → number_of p r ≡ c
      → x < g.states → y < g.states → number_of p x ≡ c → number_of p y ≡ c → Has x (edges_of g r l) → Has y (edges_of g r l) → 1 ≤ paths (edges_of g) x r w → 1 ≤ paths (edges_of g) y r w
      → Meets s parts (own_part s parts i) x y
  met all i r l x y w hi er er_c hx hy ex ey mx my bx by =
      let n = length s.states in
      let tx = member-there s.states s.places x (all x hx ex) in
      let ty = member-there s.states s.places y (all y hy ey) in
      let px = get_or s.places x 0 in
      let py = get_or s.places y 0 in
      let ci = ap (number_of p) er ∙ er_c in
      let there = λ (z : ℕ) (hz : get_or s.places z 0 < n) (ez : state_at s (get_or s.places z 0) ≡ z) (cz : number_of p z ≡ c) (move : Has z (edges_of g r l)).
      path-inner g h p s c whole components seats inner all i (get_or s.places z 0) (l ∷ []) hi hz ci (ap (number_of p) ez ∙ cz)
      (subst (λ (v : ℕ). 1 ≤ paths (edges_of g) v (state_at s (get_or s.places z 0)) (l ∷ [])) (sym er)
      (subst (λ (v : ℕ). 1 ≤ paths (edges_of g) r v (l ∷ [])) (sym ez) (move-path (edges_of g) r z z l [] move (omega (arith, paths-nil (edges_of g) z))))) in
      let back = λ (z : ℕ) (hz : get_or s.places z 0 < n) (ez : state_at s (get_or s.places z 0) ≡ z) (cz : number_of p z ≡ c) (way : 1 ≤ paths (edges_of g) z r w).
      path-inner g h p s c whole components seats inner all (get_or s.places z 0) i w hz hi (ap (number_of p) ez ∙ cz) ci
      (subst (λ (v : ℕ). 1 ≤ paths (edges_of g) v (state_at s i) w) (sym ez) (subst (λ (v : ℕ). 1 ≤ paths (edges_of g) z v w) (sym er) way)) in
      let to = both-paths (edges_of h) n g.letters bounded i i px py (l ∷ []) hi hi tx.0 ty.0 (there x tx.0 tx.1 ex mx) (there y ty.0 ty.1 ey my) in
      let from = both-paths (edges_of h) n g.letters bounded px py i i w tx.0 ty.0 hi hi (back x tx.0 tx.1 ex bx) (back y ty.0 ty.1 ey by) in
      record {
        one = all x hx ex;
        other = all y hy ey;
        part = (places.same (px * n + py) (i * n + i) (mul-add-lt px n py n tx.0 ty.0) (mul-add-lt i n i n hi hi)).1 ((w, from), (l ∷ [], to));
      }

  -- So if no two moves meet, there is no fork.
  pub none_meets-no_fork : ((q : ℕ) → q < g.states → number_of p q ≡ c → is_member s.states s.places q ≡ true) → ((i l : ℕ) → i < length s.states → l < g.letters → NoneMeets g s parts i l) → HasNoForkIn (edges_of g) p c
  none_meets-no_fork all none = fork-ordered (edges_of g) c p less
    where
      less : (r l i j x y : ℕ) (w : List ℕ) → number_of p r ≡ c → i < j → IsFork (edges_of g) r l i j x y w → ⊥
      less r l i j x y w at lt f =
          let next = edges_of g in
          let b = bounded-whole g whole in
          let hr = fork-start next g.states g.letters r l i j x y w b f in
          let hx = move-in next g.states g.letters r l i x b f.one_move in
          let hy = move-in next g.states g.letters r l j y b f.other_move in
          let t = member-there s.states s.places r (all r hr at) in
          let k = get_or s.places r 0 in
          let meets = met all k r l x y w t.0 t.1 at hx.0 hy.0
          (fork-part next g.states g.letters p b components r l i x w hr f.one_move f.one_back ∙ at) (fork-part next g.states g.letters p b components r l j y w hr f.other_move f.other_back ∙ at)
          (Has-at (next r l) i x f.one_move) (Has-at (next r l) j y f.other_move) f.one_back f.other_back in
          none k l t.0 hx.1 i j lt (rw t.1 (at-short (next r l) j y f.other_move))
          (rw (t.1, at-get_or (next r l) i x 0 f.one_move, at-get_or (next r l) j y 0 f.other_move) meets)

  -- The targets of two moves that meet lead back.
  pub met-back : (f : Fork) → AreMoves g f → IsMet g s parts f → LeadsBack g f
  met-back f moves is =
      let n = length s.states in
      let x = get_or (edges_of g f.state f.letter) f.first 0 in
      let y = get_or (edges_of g f.state f.letter) f.second 0 in
      let i = is.place in
      let tx = member-there s.states s.places x is.meet.one in
      let ty = member-there s.states s.places y is.meet.other in
      let px = get_or s.places x 0 in
      let py = get_or s.places y 0 in
      let r = ((places.same (px * n + py) (i * n + i) (mul-add-lt px n py n tx.0 ty.0) (mul-add-lt i n i n is.place_in is.place_in)).0 is.meet.part).0 in
      let both = positive-parts (paths (edges_of h) px i r.0) (paths (edges_of h) py i r.0)
      (subst (λ (z : ℕ). 1 ≤ z) (pair_paths (edges_of h) n g.letters bounded px py i i r.0 tx.0 ty.0 is.place_in is.place_in) r.1) in
      let way = λ (z : ℕ) (ez : state_at s (get_or s.places z 0) ≡ z) (inside : 1 ≤ paths (edges_of h) (get_or s.places z 0) i r.0).
      subst (λ (v : ℕ). 1 ≤ paths (edges_of g) v f.state r.0) ez
      (subst (λ (v : ℕ). 1 ≤ paths (edges_of g) (state_at s (get_or s.places z 0)) v r.0) (sym is.state) (inner-path g h p s inner (get_or s.places z 0) i r.0 inside)) in
      let hx : x < g.states = rw (← tx.1) (seats.below px tx.0) in
      let hy : y < g.states = rw (← ty.1) (seats.below py ty.0) in
      (r.0, both-paths (edges_of g) g.states g.letters (bounded-whole g whole) x y f.state f.state r.0 hx hy moves.state_in moves.state_in (way x tx.1 both.0) (way y ty.1 both.1))
