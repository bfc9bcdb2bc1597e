-- The exact cost by live pairs: the walk of an automaton has one step for each path of live pairs whose last set refuses the
-- rest of the word.
use Rattle.std.proofs.Common.{◌≡◌, ◌≢◌, ◌∙◌, ℕ, suc, ◌+◌, ◌<◌, ◌≤◌, ◌⊎◌, inl, inr, List, [], ◌∷◌, ◌++◌, Bool, true, false, ◌||◌, eqb, eqb-true, eq-eqb, cond, refl, sym, ap, subst, arith}
use Rattle.std.proofs.lemmas.Bool.{cases_Bool, false≢true, or_cases, cases_lt}
use Rattle.std.specs.List.{list_any}
use Rattle.rl_graph.specs.Paths.{Has, total, one, paths, walked}
use Rattle.rl_graph.proofs.Sums.{total-there}
use Rattle.rl_graph.proofs.PathLaws.{nil-same}
use Rattle.rl_syntax.specs.Cost.{up_to_hit, has_hit}
use Rattle.rl_prio.specs.Automaton.{Automaton, letters_count, accepting_state, dead_state, moves_at}
use Rattle.rl_prio.specs.Walk.{stepped, walk, walk_cost}
use Rattle.rl_sets.specs.Live.{accepts, image, joined, refuses, IsRest, IsLive}
use Rattle.rl_sets.proofs.AcceptLemmas.{walk-accepts}
use Rattle.rl_sets.proofs.RowLemmas.{joined-dead}
use Rattle.rl_pairs.specs.declared.pair.Pair.{Pair}
use Rattle.rl_pairs.specs.LivePairs.{pairs_from, next_pairs, refused}
use Rattle.rl_pairs.specs.PairGraph.{KeptLive, IsPairGraph}
use Rattle.rl_pairs.proofs.SetLaws.{any-there, any-has, image-has, Has-image, image-alive, Within, image-within, joined-old, joined-new, Has-joined, joined-within, refuses-member, refuses-none, accepts-member, refuses-not}
use Rattle.rl_pairs.proofs.GraphWords.{Stays}

-- What is required of an automaton: its moves lead to states, the accepting state and the dead state have no moves, and each
-- move on the end letter leads to one of these two.
pub record IsStill (a : Automaton) : Type 0 where
  pub three : 3 ≤ a.states
  pub targets : (q letter t : ℕ) → Has t (moves_at a q letter) → t < a.states
  pub accepted : (letter : ℕ) → moves_at a (accepting_state a) letter ≡ []
  pub died : (letter : ℕ) → moves_at a (dead_state a) letter ≡ []
  pub ends : (q t : ℕ) → Has t (moves_at a q (letters_count a)) → (t ≡ accepting_state a) ⊎ (t ≡ dead_state a)

-- Steps of walks

up_to_hit-hit : (l m : List Bool) → has_hit l ≡ true → up_to_hit (l ++ m) ≡ up_to_hit l
up_to_hit-hit [] m h = absurd (false≢true h)
up_to_hit-hit (true ∷ l) m h = refl
up_to_hit-hit (false ∷ l) m h = ap suc (up_to_hit-hit l m h)

up_to_hit-miss : (l m : List Bool) → has_hit l ≡ false → up_to_hit (l ++ m) ≡ up_to_hit l + up_to_hit m
up_to_hit-miss [] m h = omega arith
up_to_hit-miss (true ∷ l) m h = absurd (false≢true (sym h))
up_to_hit-miss (false ∷ l) m h = omega (arith, up_to_hit-miss l m h)

step-hit : (e : Bool) (l m : List Bool) → (e || has_hit l) ≡ true → (e ≡ true → l ≡ []) → up_to_hit (cond e (true ∷ []) (false ∷ l) ++ m) ≡ 1 + up_to_hit l
step-hit true l m h k = rw (k refl) refl
step-hit false l m h k = omega (arith, up_to_hit-hit l m h)

step-miss : (e : Bool) (l m : List Bool) → (e || has_hit l) ≡ false → up_to_hit (cond e (true ∷ []) (false ∷ l) ++ m) ≡ 1 + up_to_hit l + up_to_hit m
step-miss true l m h = absurd (false≢true (sym h))
step-miss false l m h = omega (arith, up_to_hit-miss l m h)

one-off : (b : Bool) (m : ℕ) → b ≡ false → m ≡ 0 → one b + m ≡ 0
one-off true m h e = absurd (false≢true (sym h))
one-off false m h e = omega arith

one-on : (b : Bool) (m n : ℕ) → b ≡ true → m ≡ n → one b + m ≡ 1 + n
one-on true m n h e = omega arith
one-on false m n h e = absurd (false≢true h)

or-first : (x y : Bool) → x ≡ true → (x || y) ≡ true
or-first true y h = refl
or-first false y h = absurd (false≢true h)

or-second : (x y : Bool) → y ≡ true → (x || y) ≡ true
or-second true y h = refl
or-second false y h = h

accepts-accepting : (a : Automaton) (w : List ℕ) (q : ℕ) → q ≡ accepting_state a → accepts a q w ≡ true
accepts-accepting a [] q e = eq-eqb q (accepting_state a) e
accepts-accepting a (l ∷ w) q e = or-first (eqb q (accepting_state a)) (list_any (λ t. accepts a t w) (moves_at a q l)) (eq-eqb q (accepting_state a) e)

-- A set that holds the accepting state refuses nothing.
pub live-free : (a : Automaton) (set : List ℕ) → IsLive a set → Has (accepting_state a) set → ⊥
live-free a set live h = refuses-member a set live.0 (accepting_state a) live.2 h (accepts-accepting a live.0 (accepting_state a) refl)

pub image-refuses : (a : Automaton) (set : List ℕ) (l : ℕ) (w : List ℕ) → refuses a set (l ∷ w) ≡ true → refuses a (image a set l) w ≡ true
image-refuses a set l w h = refuses-none a (image a set l) w (λ t i k.
    let r = Has-image a set l t i in
    refuses-member a set (l ∷ w) r.0 h r.1 (or-second (eqb r.0 (accepting_state a)) (list_any (λ t. accepts a t w) (moves_at a r.0 l)) (any-has (λ t. accepts a t w) t (moves_at a r.0 l) r.2 k)))

module _ (a : Automaton) (still : IsStill a) where
  walk-accepting : (w : List ℕ) (q : ℕ) → q ≡ accepting_state a → walk a q w ≡ []
  walk-accepting [] q e = refl
  walk-accepting (l ∷ w) q e = ap (λ (ts : List ℕ). stepped (accepting_state a) (λ r. walk a r w) ts) (ap (λ x. moves_at a x l) e ∙ still.accepted l)

  accepts-dead : (w : List ℕ) (q : ℕ) → q ≡ dead_state a → accepts a q w ≡ true → ⊥
  accepts-dead [] q e h = let k : q ≡ accepting_state a = eqb-true q (accepting_state a) h in omega (arith, still.three)
  accepts-dead (l ∷ w) q e h = by (or_cases (eqb q (accepting_state a)) (list_any (λ t. accepts a t w) (moves_at a q l)) h)
    where
      by : (eqb q (accepting_state a) ≡ true) ⊎ (list_any (λ t. accepts a t w) (moves_at a q l) ≡ true) → ⊥
      by (inl k) = let m : q ≡ accepting_state a = eqb-true q (accepting_state a) k in omega (arith, still.three)
      by (inr k) = let none : moves_at a q l ≡ [] = ap (λ x. moves_at a x l) e ∙ still.died l in false≢true (rw none at k)

  -- Some target of a member that accepts the letters accepts the letters behind.
  target-accepts : (q l : ℕ) (w : List ℕ) → q ≢ accepting_state a → accepts a q (l ∷ w) ≡ true → (t : ℕ) × Has t (moves_at a q l) × (accepts a t w ≡ true)
  target-accepts q l w ne h = any-there (λ t. accepts a t w) (moves_at a q l) (by (or_cases (eqb q (accepting_state a)) (list_any (λ t. accepts a t w) (moves_at a q l)) h))
    where
      by : (eqb q (accepting_state a) ≡ true) ⊎ (list_any (λ t. accepts a t w) (moves_at a q l) ≡ true) → list_any (λ t. accepts a t w) (moves_at a q l) ≡ true
      by (inl e) = absurd (ne (eqb-true q (accepting_state a) e))
      by (inr e) = e

  pub image-accepts : (set : List ℕ) (l : ℕ) (w : List ℕ) → IsLive a set → refuses a set (l ∷ w) ≡ false → refuses a (image a set l) w ≡ false
  image-accepts set l w live h =
      let m = accepts-member a set (l ∷ w) h in
      let t = target-accepts m.0 l w (λ e. live-free a set live (subst (λ (x : ℕ). Has x set) e m.1)) m.2 in
      refuses-not a (image a set l) w t.0 (image-has a set l m.0 t.0 m.1 t.1 (λ e. accepts-dead w t.0 e t.2) (still.targets m.0 l t.0 t.1)) t.2

  -- What follows the letters read is a rest; or nothing, and then the end letter leads to each target and each member.
  Ending : List ℕ → List ℕ → List ℕ → Type 0
  Ending w ts set =
      IsRest a w ⊎ ((w ≡ []) × ((t : ℕ) → Has t ts → (t ≡ accepting_state a) ⊎ (t ≡ dead_state a)) × ((q : ℕ) → Has q set → q ≡ accepting_state a))

  live-there : (w ts set : List ℕ) → Ending w ts set → refuses a set w ≡ true → IsLive a set
  unfolding Ending
  live-there w ts set (inl r) h = (w, r, h)
  live-there w ts set (inr (e, x, only)) h =
      (letters_count a ∷ [], inl (refl, refl), refuses-none a set (letters_count a ∷ []) (λ q i k. refuses-member a set w q h i (accepts-accepting a w q (only q i))))

  Ending-next : (w : List ℕ) (t : ℕ) (ts set : List ℕ) → Ending w (t ∷ ts) set → Ending w ts (joined a t set)
  unfolding Ending
  Ending-next w t ts set (inl r) = inl r
  Ending-next w t ts set (inr (e, x, only)) = inr (e, (λ u i. x u (inr i)), by (x t (inl refl)))
    where
      old : t ≡ accepting_state a → (q : ℕ) → (q ≡ t) ⊎ Has q set → q ≡ accepting_state a
      old d q (inl c) = c ∙ d
      old d q (inr i) = only q i

      by : (t ≡ accepting_state a) ⊎ (t ≡ dead_state a) → (q : ℕ) → Has q (joined a t set) → q ≡ accepting_state a
      by (inl d) q i = old d q (Has-joined a t q set i)
      by (inr d) q i = only q (rw (joined-dead a t set d) at i)

  joined-refuses : (t : ℕ) (set w : List ℕ) → refuses a set w ≡ true → accepts a t w ≡ false → refuses a (joined a t set) w ≡ true
  joined-refuses t set w h k = refuses-none a (joined a t set) w (λ q i e. by q e (Has-joined a t q set i))
    where
      by : (q : ℕ) → accepts a q w ≡ true → (q ≡ t) ⊎ Has q set → ⊥
      by q e (inl d) = false≢true (sym k ∙ (ap (λ x. accepts a x w) (sym d) ∙ e))
      by q e (inr i) = refuses-member a set w q h i e

  joined-accepts : (t : ℕ) (set w : List ℕ) → t < a.states → accepts a t w ≡ true → refuses a (joined a t set) w ≡ false
  joined-accepts t set w lt k = refuses-not a (joined a t set) w t (joined-new a t set lt (λ e. accepts-dead w t e k)) k

  still-accepts : (t : ℕ) (set w : List ℕ) → Within a set → refuses a set w ≡ false → refuses a (joined a t set) w ≡ false
  still-accepts t set w within h = let m = accepts-member a set w h in refuses-not a (joined a t set) w m.0 (joined-old a t m.0 set within m.1) m.2

-- The pairs behind the kept numbers of moves

pairs-hold : (a : Automaton) (set ts : List ℕ) (p : Pair) (x : ℕ) → Within a set → Has p (pairs_from a set ts) → Has x set → Has x p.set
pairs-hold a set [] p x w h i = absurd h
pairs-hold a set (t ∷ ts) p x w (inl e) i = subst (λ (p : Pair). Has x p.set) (sym e) i
pairs-hold a set (t ∷ ts) p x w (inr h) i = pairs-hold a (joined a t set) ts p x (joined-within a t set w) h (joined-old a t x set w i)

pub kept-pair : (a : Automaton) (at : ℕ → Pair) (ps : List Pair) (ks : List ℕ) (k : ℕ) → KeptLive a at ps ks → Has k ks → Has (at k) ps
kept-pair a at [] ks k e h = absurd (rw e at h)
kept-pair a at (p ∷ ps) ks k (inl (dead, more)) h = inr (kept-pair a at ps ks k more h)
kept-pair a at (p ∷ ps) ks k (inr (j, rest, live, e, same, more)) h = by (rw e at h) (kept-pair a at ps rest k more)
  where
    by : Has k (j ∷ rest) → (Has k rest → Has (at k) ps) → Has (at k) (p ∷ ps)
    by (inl d) deeper = inl (ap at d ∙ same)
    by (inr i) deeper = inr (deeper i)

module _ (a : Automaton) (still : IsStill a) (next : ℕ → ℕ → List ℕ) (at : ℕ → Pair) (n : ℕ) where
  -- The paths that begin with one move: the move itself if its set refuses the rest, and the paths that go on.
  begun : List ℕ → ℕ → ℕ
  begun w k = one (refuses a (at k).set w) + walked next (refused a at) k w

  -- Once a target accepts the rest no path is counted.
  nothing : (w ts ks set : List ℕ) → ((k : ℕ) → k < n → refuses a (at k).set w ≡ false → walked next (refused a at) k w ≡ 0) → Within a set → KeptLive a at (pairs_from a set ts) ks → ((k : ℕ) → Has k ks → k < n) → refuses a set w ≡ false → total (begun w) ks ≡ 0
  unfolding begun
  nothing w [] ks set quiet within e small h = rw e refl
  nothing w (t ∷ ts) ks set quiet within (inl (dead, more)) small h =
      nothing w ts ks (joined a t set) quiet (joined-within a t set within) more small (still-accepts a still t set w within h)
  nothing w (t ∷ ts) ks set quiet within (inr (k, rest, live, e, same, more)) small h =
      let off : refuses a (at k).set w ≡ false = ap (λ (p : Pair). refuses a p.set w) same ∙ h in
      let here = one-off (refuses a (at k).set w) (walked next (refused a at) k w) off (quiet k (small k (rw e (inl refl))) off) in
      let later = nothing w ts rest (joined a t set) quiet (joined-within a t set within) more (λ j i. small j (rw e (inr i))) (still-accepts a still t set w within h) in
      rw e (omega (arith, here, later))

  -- Before that, the paths counted are the steps.
  in_order : (w ts ks set : List ℕ) → ((k : ℕ) → k < n → refuses a (at k).set w ≡ false → walked next (refused a at) k w ≡ 0) → ((k : ℕ) → k < n → refuses a (at k).set w ≡ true → walked next (refused a at) k w ≡ up_to_hit (walk a (at k).state w))
      → Within a set → ((t : ℕ) → Has t ts → t < a.states) → KeptLive a at (pairs_from a set ts) ks → ((k : ℕ) → Has k ks → k < n) → Ending a still w ts set → refuses a set w ≡ true
      → total (begun w) ks ≡ up_to_hit (stepped (accepting_state a) (λ r. walk a r w) ts)
  unfolding begun
  in_order w [] ks set quiet steps within states e small ending h = rw e refl
  in_order w (t ∷ ts) ks set quiet steps within states (inl (dead, more)) small ending h = absurd (dead (live-there a still w (t ∷ ts) set ending h))
  in_order w (t ∷ ts) ks set quiet steps within states (inr (k, rest, live, e, same, more)) small ending h =
      let on : refuses a (at k).set w ≡ true = ap (λ (p : Pair). refuses a p.set w) same ∙ h in
      let in_it : k < n = small k (rw e (inl refl)) in
      let here = one-on (refuses a (at k).set w) (walked next (refused a at) k w) (up_to_hit (walk a t w)) on (steps k in_it on ∙ ap (λ (p : Pair). up_to_hit (walk a p.state w)) same) in
      rw e (by here (cases_Bool (accepts a t w))
      (λ does. nothing w ts rest (joined a t set) quiet (joined-within a t set within) more (λ j i. small j (rw e (inr i))) (joined-accepts a still t set w (states t (inl refl)) does))
      (λ fails. in_order w ts rest (joined a t set) quiet steps (joined-within a t set within) (λ u i. states u (inr i)) more (λ j i. small j (rw e (inr i))) (Ending-next a still w t ts set ending) (joined-refuses a still t set w h fails)))
    where
      by : begun w k ≡ 1 + up_to_hit (walk a t w) → (accepts a t w ≡ true) ⊎ (accepts a t w ≡ false)
          → (accepts a t w ≡ true → total (begun w) rest ≡ 0) → (accepts a t w ≡ false → total (begun w) rest ≡ up_to_hit (stepped (accepting_state a) (λ r. walk a r w) ts))
          → begun w k + total (begun w) rest ≡ up_to_hit (stepped (accepting_state a) (λ r. walk a r w) (t ∷ ts))
      by here (inl does) none more =
          let step = step-hit (eqb t (accepting_state a)) (walk a t w) (stepped (accepting_state a) (λ r. walk a r w) ts) (walk-accepts a w t ∙ does) (λ e. walk-accepting a still w t (eqb-true t (accepting_state a) e)) in
          omega (arith, here, none does, step)
      by here (inr fails) none more =
          let step = step-miss (eqb t (accepting_state a)) (walk a t w) (stepped (accepting_state a) (λ r. walk a r w) ts) (walk-accepts a w t ∙ fails) in
          omega (arith, here, more fails, step)

module _ (a : Automaton) (still : IsStill a) (next : ℕ → ℕ → List ℕ) (at : ℕ → Pair) (n : ℕ) (g : IsPairGraph a next at n) where
  no-letter : (k l : ℕ) (w : List ℕ) → letters_count a < l → total (begun a still next at n w) (next k l) ≡ 0
  no-letter k l w lt = ap (total (begun a still next at n w)) (g.empty k l (inr lt))

  pub quiet : (w : List ℕ) (k : ℕ) → k < n → refuses a (at k).set w ≡ false → walked next (refused a at) k w ≡ 0
  unfolding begun
  quiet [] k lt h = refl
  quiet (l ∷ w) k lt h = by (quiet w) (cases_lt (letters_count a) l)
    where
      by : ((k : ℕ) → k < n → refuses a (at k).set w ≡ false → walked next (refused a at) k w ≡ 0) → (letters_count a < l) ⊎ (l ≤ letters_count a) → total (begun a still next at n w) (next k l) ≡ 0
      by deeper (inl big) = no-letter k l w big
      by deeper (inr le) =
          nothing a still next at n w (moves_at a (at k).state l) (next k l) (image a (at k).set l) deeper (image-within a (at k).set l) (g.moves k l lt le) (λ j i. g.targets k l j lt i) (image-accepts a still (at k).set l w (g.live k lt) h)

  exact-more : (w : List ℕ) → IsRest a w ⊎ (w ≡ []) → (k : ℕ) → k < n → refuses a (at k).set w ≡ true → walked next (refused a at) k w ≡ up_to_hit (walk a (at k).state w)
  unfolding begun Ending
  exact-more [] r k lt h = refl
  exact-more (l ∷ w) (inr e) k lt h = cc
  exact-more (l ∷ w) (inl (inl (last, e))) k lt h =
      in_order a still next at n w (moves_at a (at k).state l) (next k l) (image a (at k).set l) (quiet w) (exact-more w (inr e)) (image-within a (at k).set l) (still.targets (at k).state l) (g.moves k l lt (omega arith)) (λ j i. g.targets k l j lt i)
      (inr (e, (λ t i. still.ends (at k).state t (rw last at i)), only)) (image-refuses a (at k).set l w h)
    where
      not-dead : (q : ℕ) → Has q (image a (at k).set l) → (q ≡ accepting_state a) ⊎ (q ≡ dead_state a) → q ≡ accepting_state a
      not-dead q i (inl d) = d
      not-dead q i (inr d) = absurd (image-alive a (at k).set l (subst (λ (x : ℕ). Has x (image a (at k).set l)) d i))

      only : (q : ℕ) → Has q (image a (at k).set l) → q ≡ accepting_state a
      only q i = let r = Has-image a (at k).set l q i in not-dead q i (still.ends r.0 q (subst (λ (x : ℕ). Has q (moves_at a r.0 x)) last r.2))
  exact-more (l ∷ w) (inl (inr (lt2, r))) k lt h =
      in_order a still next at n w (moves_at a (at k).state l) (next k l) (image a (at k).set l) (quiet w) (exact-more w (inl r)) (image-within a (at k).set l) (still.targets (at k).state l) (g.moves k l lt (omega arith)) (λ j i. g.targets k l j lt i)
      (inl r) (image-refuses a (at k).set l w h)

  pub exact : (w : List ℕ) → IsRest a w → (k : ℕ) → k < n → refuses a (at k).set w ≡ true → walked next (refused a at) k w ≡ up_to_hit (walk a (at k).state w)
  exact w r k lt h = exact-more w (inl r) k lt h

  pub exact_cost : (w : List ℕ) → IsRest a w → walk_cost a w ≡ 1 + walked next (refused a at) 0 w
  exact_cost w r =
      let none : refuses a (at 0).set w ≡ true = ap (λ (p : Pair). refuses a p.set w) g.first ∙ refuses-none a [] w (λ q i e. absurd i) in
      let steps = exact w r 0 g.some none in
      let start : up_to_hit (walk a (at 0).state w) ≡ up_to_hit (walk a 0 w) = ap (λ (p : Pair). up_to_hit (walk a p.state w)) g.first in
      omega (arith, steps, start)

  -- A set holds the image of each set before it, so what it refuses is refused before too, with the letters between in front.
  pub stays_all : Stays next (refused a at)
  stays_all s t [] v h ok = rw (nil-same next s t h) ok
  stays_all s t (l ∷ u) v h ok =
      let m = total-there (λ m. paths next m t u) (next s l) h in
      by m.0 m.1 (stays_all m.0 t u v m.2 ok) (cases_lt s n) (cases_lt (letters_count a) l)
    where
      by : (m : ℕ) → Has m (next s l) → refused a at m (u ++ v) ≡ true → (s < n) ⊎ (n ≤ s) → (letters_count a < l) ⊎ (l ≤ letters_count a) → refused a at s (l ∷ (u ++ v)) ≡ true
      by m i r (inr out) c = absurd (rw (g.empty s l (inl out)) at i)
      by m i r (inl lt) (inl big) = absurd (rw (g.empty s l (inr big)) at i)
      by m i r (inl lt) (inr le) = same (cases_Bool (refuses a (at s).set (l ∷ (u ++ v))))
        where
          same : (refuses a (at s).set (l ∷ (u ++ v)) ≡ true) ⊎ (refuses a (at s).set (l ∷ (u ++ v)) ≡ false) → refused a at s (l ∷ (u ++ v)) ≡ true
          same (inl e) = e
          same (inr e) =
              let q = accepts-member a (image a (at s).set l) (u ++ v) (image-accepts a still (at s).set l (u ++ v) (g.live s lt) e) in
              let p = kept-pair a at (next_pairs a (at s) l) (next s l) m (g.moves s l lt le) i in
              absurd (refuses-member a (at m).set (u ++ v) q.0 r (pairs-hold a (image a (at s).set l) (moves_at a (at s).state l) (at m) q.0 (image-within a (at s).set l) p q.1) q.2)
