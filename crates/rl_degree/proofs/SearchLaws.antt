-- Splits and the search for their words.
use Rattle.std.proofs.Common.{◌≡◌, ℕ, ◌+◌, ◌*◌, ◌/◌, ◌%◌, ◌<◌, ◌≤◌, ◌⊎◌, inl, inr, Bool, true, List, [], ◌∷◌, ◌++◌, length, get_or, set, replicate, ltb, IsTrue, ◌↔◌, Option, Some, None, IfSome, IfNone, is_some, lt-ltb, refl, sym, ◌∙◌, ap, ap₂, subst, arith, div-add-mod'}
use Rattle.std.proofs.lemmas.Bool.{cases_lt, cases_eq, both_ways, ltb-true, and_parts, and_from}
use Rattle.std.proofs.lemmas.List.{get_or-set_same, get_or-set_other, length-set, get_or-replicate, get_or_past, length-replicate}
use Rattle.std.proofs.lemmas.Nat.{mul-add-lt, div-mul-add, mod-mul-add}
use Rattle.rl_graph.specs.Paths.{paths, Reaches, OnCycle, IsBounded}
use Rattle.rl_graph.specs.Graph.{Graph, edges_of, IsWhole}
use Rattle.rl_graph.specs.Product.{pair_moves}
use Rattle.rl_graph.specs.Parts.{PartTable, IsParts, number_of, cycle_of}
use Rattle.rl_graph.specs.Twins.{HasNoTwin, IsSplit}
use Rattle.rl_graph.proofs.PathLaws.{nil-same, positive, along_moves}
use Rattle.rl_graph.proofs.ProductLaws.{pair_paths, bounded-pairs}
use Rattle.rl_kernel.specs.Members.{is_member, IsPlace}
use Rattle.rl_kernel.specs.Seats.{seats_of, state_at}
use Rattle.rl_degree.specs.internal.FallingPairs.{falls, falling_moves}
use Rattle.rl_degree.specs.internal.Pairs.{is_wanted, lists_of, row_of, IsTable}
use Rattle.rl_degree.specs.internal.Rows.{SearchState, field_of, start_state, has_middle, word_at, behind, IsSearching, IsFurther, IsFollowedUpTo}
use Rattle.rl_degree.specs.declared.rows.Found.{Found}
use Rattle.rl_degree.specs.internal.Splits.{HasSplit, IsPairFor, IsMark, AreMarks}
use Rattle.rl_degree.specs.declared.pairs.PairTable.{PairTable}
use Rattle.rl_kernel.proofs.InnerPaths.{inner-path, path-inner, bounded-inner, pair-first, pair-second, pair-both, cycle-same}
use Rattle.rl_degree.proofs.SplitLaws.{split_in_component, split_falls}
use Rattle.rl_kernel.proofs.MemberLaws.{there-member, member-there}
use Rattle.rl_degree.specs.internal.Reached.{reaches, IsHopeless}
use Rattle.rl_degree.proofs.ReachLaws.{path-reached, hopeless-closed, hopeless-lacks}
use Rattle.rl_degree.proofs.FallingPairLaws.{falls-along, pair-falling, falling-pair}
use Rattle.rl_degree.proofs.RowLaws.{searching-start, settle, never-reached}

-- The laws below are about pairs.

pub both-pair : (h : ℕ → ℕ → List ℕ) (n k : ℕ) → IsBounded h n k → (r q : ℕ) (w : List ℕ) → r < n → q < n → 1 ≤ paths h r r w → 1 ≤ paths h q q w → 1 ≤ paths (pair_moves h n) (r * n + q) (r * n + q) w
both-pair h n k b r q w hr hq p s =
    subst (λ (z : ℕ). 1 ≤ z) (sym (pair_paths h n k b r q r q w hr hq hr hq)) (positive (paths h r r w) (paths h q q w) p s)

-- In a graph without a twin, a split leads to a lower component.
pub split-below : (next : ℕ → ℕ → List ℕ) (n : ℕ) (p : PartTable) → IsParts next n p → HasNoTwin next → (r q : ℕ) (y : List ℕ) → r < n → q < n → IsSplit next r q y → number_of p q < number_of p r
split-below next n p parts none r q y hr hq s = by (cases_lt (number_of p q) (number_of p r))
  where
    by : (number_of p q < number_of p r) ⊎ (number_of p r ≤ number_of p q) → number_of p q < number_of p r
    by (inl h) = h
    by (inr h) =
        let e : number_of p r ≡ number_of p q = omega (arith, parts.order r q hr hq (y, s.over)) in
        let back = ((parts.same r q hr hq).0 e).1 in
        absurd (split_falls next r q y back.0 none s back.1)

-- The laws below are about tables.

-- A search is for the split of two states, in the part of their pair.
pub record IsFor (g : Graph) (t : PairTable) (x part : ℕ) (s : SearchState) : Type 0 where
  pub pair : IsPairFor t s.from s.to x
  pub of_part : part ≡ number_of t.parts x
  pub place : s.place ≡ get_or (lists_of t.placed).places x 0

-- While something is still to be followed, the search is for the same.
pub for-behind : (g : Graph) (t : PairTable) (x part : ℕ) (s old : SearchState) (f : Found) → old ≡ behind f s → IsFor g t x part old → IsFor g t x part s
for-behind g t x part s old f e is = record {
  pair = subst (λ (z : SearchState). IsPairFor t z.from z.to x) e is.pair;
  of_part = is.of_part;
  place = sym (ap (λ (z : SearchState). z.place) e) ∙ is.place;
}

module _ (g : Graph) (t : PairTable) (whole : IsWhole g) (table : IsTable g t) where
  abbrev pub product : ℕ → ℕ → List ℕ
  product = pair_moves (edges_of t.inner) t.inner.states

  abbrev pub falling : ℕ → ℕ → List ℕ
  falling = falling_moves (edges_of t.inner) t.kernel.levels.items t.inner.states

  abbrev pub first : ℕ → ℕ
  first x = state_at (seats_of t.kernel) (x / t.inner.states)

  abbrev pub second : ℕ → ℕ
  second x = state_at (seats_of t.kernel) (x % t.inner.states)

  bounded : IsBounded (edges_of t.inner) t.inner.states g.letters
  bounded = bounded-inner g t.inner t.components (seats_of t.kernel) table.inner

  at-first : (x : ℕ) → x < t.inner.states * t.inner.states → x / t.inner.states < length (seats_of t.kernel).states
  at-first x h = omega (arith, pair-first t.inner.states x h, table.inner.same_states)

  at-second : (x : ℕ) → x < t.inner.states * t.inner.states → x % t.inner.states < length (seats_of t.kernel).states
  at-second x h = omega (arith, pair-second t.inner.states x h, table.inner.same_states)

  pub first-in : (x : ℕ) → x < t.inner.states * t.inner.states → first x < g.states
  first-in x h = table.kernel.seats.below (x / t.inner.states) (at-first x h)

  pub second-in : (x : ℕ) → x < t.inner.states * t.inner.states → second x < g.states
  second-in x h = table.kernel.seats.below (x % t.inner.states) (at-second x h)

  -- A wanted pair lies on a cycle, and its second state is in a lower component.
  wanted-parts : (x : ℕ) → x < t.inner.states * t.inner.states → is_wanted t.kernel.levels.items t.parts t.inner.states x ≡ true → IsTrue (cycle_of t.parts x) × (number_of t.components (second x) < number_of t.components (first x))
  wanted-parts x hx w =
      let n = t.inner.states in
      let levels = t.kernel.levels.items in
      let a = and_parts (cycle_of t.parts x) (ltb (get_or levels (x % n) 0) (get_or levels (x / n) 0)) w in
      let less = ltb-true (get_or levels (x % n) 0) (get_or levels (x / n) 0) a.1 in
      (a.0, omega (arith, less, table.kernel.seats.level (x / n) (at-first x hx), table.kernel.seats.level (x % n) (at-second x hx)))

  falls-from : (x : ℕ) → x < t.inner.states * t.inner.states → number_of t.components (second x) < number_of t.components (first x) → falls t.kernel.levels.items t.inner.states x ≡ true
  falls-from x hx less =
      let n = t.inner.states in
      let levels = t.kernel.levels.items in
      lt-ltb (get_or levels (x % n) 0) (get_or levels (x / n) 0) (omega (arith, less, table.kernel.seats.level (x / n) (at-first x hx), table.kernel.seats.level (x % n) (at-second x hx)))

  wanted-from : (x : ℕ) → x < t.inner.states * t.inner.states → IsTrue (cycle_of t.parts x) → number_of t.components (second x) < number_of t.components (first x) → is_wanted t.kernel.levels.items t.parts t.inner.states x ≡ true
  wanted-from x hx c less =
      and_from (cycle_of t.parts x) (falls t.kernel.levels.items t.inner.states x) c (falls-from x hx less)

  -- A wanted pair falls.
  wanted-falls : (x : ℕ) → is_wanted t.kernel.levels.items t.parts t.inner.states x ≡ true → falls t.kernel.levels.items t.inner.states x ≡ true
  wanted-falls x w = (and_parts (cycle_of t.parts x) (falls t.kernel.levels.items t.inner.states x) w).1

  -- A pair that falls reaches the same pairs by the moves of the pairs that fall.
  to-falling : (x y : ℕ) → falls t.kernel.levels.items t.inner.states x ≡ true → Reaches product x y → Reaches falling x y
  to-falling x y f r = (r.0, pair-falling g t.components (seats_of t.kernel) t.inner table.kernel.seats table.inner x y r.0 f r.1)

  from-falling : (x y : ℕ) → Reaches falling x y → Reaches product x y
  from-falling x y r = (r.0, falling-pair g t.components (seats_of t.kernel) t.inner table.kernel.seats table.inner x y r.0 r.1)

  -- If it reaches a pair that leads back, it does both by these moves.
  round-falling : (x y : ℕ) → falls t.kernel.levels.items t.inner.states x ≡ true → Reaches product x y → Reaches product y x → Reaches falling x y × Reaches falling y x
  round-falling x y f r s =
      (to-falling x y f r, to-falling y x (falls-along g t.components (seats_of t.kernel) t.inner table.kernel.seats table.inner x y r.0 f r.1) s)

  pub product-in : (x y : ℕ) → x < t.inner.states * t.inner.states → Reaches product x y → y < t.inner.states * t.inner.states
  product-in x y h r =
      along_moves (λ m. m < t.inner.states * t.inner.states) product (λ q l m i j. (bounded-pairs (edges_of t.inner) t.inner.states g.letters bounded).targets q l m j) x y r.0 h r.1

  -- If a pair reaches another one, so do its states.
  pub pair-reaches : (x y : ℕ) → x < t.inner.states * t.inner.states → y < t.inner.states * t.inner.states → (w : List ℕ) → 1 ≤ paths product x y w
      → (1 ≤ paths (edges_of g) (first x) (first y) w) × (1 ≤ paths (edges_of g) (second x) (second y) w)
  pair-reaches x y hx hy w p =
      let n = t.inner.states in
      let b = pair-both (edges_of t.inner) n g.letters bounded x y w hx hy p in
      (inner-path g t.inner t.components (seats_of t.kernel) table.inner (x / n) (y / n) w b.0, inner-path g t.inner t.components (seats_of t.kernel) table.inner (x % n) (y % n) w b.1)

  -- If one pair of a part is a split, so is each other one.
  pub part-splits : HasNoTwin (edges_of g) → (x y : ℕ) → x < t.inner.states * t.inner.states → y < t.inner.states * t.inner.states → number_of t.parts x ≡ number_of t.parts y
      → HasSplit (edges_of g) (first x) (second x) → HasSplit (edges_of g) (first y) (second y)
  part-splits none x y hx hy e s =
      let r = (table.parts.same x y hx hy).0 e in
      let go = from-falling y x r.1 in
      let come = from-falling x y r.0 in
      let to = pair-reaches y x hy hx go.0 go.1 in
      let back = pair-reaches x y hx hy come.0 come.1 in
      (go.0 ++ (s.0 ++ come.0), split_in_component (edges_of g) (first x) (second x) (first y) (second y) s.0 go.0 come.0 none s.1 to.0 to.1 back.0 back.1)

  -- If one pair of a part is wanted, so is each other one.
  pub part-wanted : (x y : ℕ) → x < t.inner.states * t.inner.states → Reaches product x y → Reaches product y x → is_wanted t.kernel.levels.items t.parts t.inner.states x ≡ true → is_wanted t.kernel.levels.items t.parts t.inner.states y ≡ true
  part-wanted x y hx r s w =
      let hy = product-in x y hx r in
      let f = wanted-falls x w in
      let both = round-falling x y f r s in
      let cycle = (table.parts.on_cycle x hx).0 (wanted-parts x hx w).0 in
      and_from (cycle_of t.parts y) (falls t.kernel.levels.items t.inner.states y) ((table.parts.on_cycle y hy).1 (cycle-same falling x y both.0 both.1 cycle))
      (falls-along g t.components (seats_of t.kernel) t.inner table.kernel.seats table.inner x y r.0 f r.1)

  -- The list has all states of the components of a split.
  split-there : HasNoTwin (edges_of g) → (r q : ℕ) (y : List ℕ) → r < g.states → q < g.states → IsSplit (edges_of g) r q y
      → (f e : ℕ) → f < g.states → e < g.states → number_of t.components f ≡ number_of t.components r → number_of t.components e ≡ number_of t.components q
      → (is_member (seats_of t.kernel).states (seats_of t.kernel).places f ≡ true) × (is_member (seats_of t.kernel).states (seats_of t.kernel).places e ≡ true)
  split-there none r q [] hr hq s f e hf he ef ee = absurd (s.apart (nil-same (edges_of g) r q s.over))
  split-there none r q (l ∷ y) hr hq s f e hf he ef ee =
      let next = edges_of g in
      let rf = (table.components.same r f hr hf).0 (sym ef) in
      let qe = (table.components.same q e hq he).0 (sym ee) in
      let cf = cycle-same next r f rf.0 rf.1 (l, y, s.before) in
      let ce = cycle-same next q e qe.0 qe.1 (l, y, s.behind) in
      table.kernel.covers f e hf he ((table.components.on_cycle f hf).1 cf) ((table.components.on_cycle e he).1 ce)
      (omega (arith, ef, ee, split-below next g.states t.components table.components none r q (l ∷ y) hr hq s))

  -- The word of a split leads the pair of its states to itself.
  split-pair : HasNoTwin (edges_of g) → (x : ℕ) (y : List ℕ) → x < t.inner.states * t.inner.states → IsSplit (edges_of g) (first x) (second x) y → 1 ≤ paths product x x y
  split-pair none x y hx s =
      let n = t.inner.states in
      let p = t.components in
      let seats = seats_of t.kernel in
      let r = first x in
      let q = second x in
      let hr = first-in x hx in
      let hq = second-in x hx in
      let a = path-inner g t.inner p seats (number_of p r) whole table.components table.kernel.seats table.inner (λ f hf ef. (split-there none r q y hr hq s f q hf hq ef refl).0) (x / n) (x / n) y (at-first x hx) (at-first x hx) refl refl s.before in
      let b = path-inner g t.inner p seats (number_of p q) whole table.components table.kernel.seats table.inner (λ f hf ef. (split-there none r q y hr hq s r f hr hf refl ef).1) (x % n) (x % n) y (at-second x hx) (at-second x hx) refl refl s.behind in
      let c = both-pair (edges_of t.inner) n g.letters bounded (x / n) (x % n) y (pair-first n x hx) (pair-second n x hx) a b in
      subst (λ (z : ℕ). 1 ≤ paths product z z y) (div-add-mod' x n) c

  -- A pair that is a split is wanted.
  pub split-wanted : HasNoTwin (edges_of g) → (x : ℕ) → x < t.inner.states * t.inner.states → HasSplit (edges_of g) (first x) (second x) → is_wanted t.kernel.levels.items t.parts t.inner.states x ≡ true
  split-wanted none x hx s = wanted-from x hx ((table.parts.on_cycle x hx).1 (cycle s.0 s.1)) less
    where
      less : number_of t.components (second x) < number_of t.components (first x)
      less = split-below (edges_of g) g.states t.components table.components none (first x) (second x) s.0 (first-in x hx) (second-in x hx) s.1

      cycle : (y : List ℕ) → IsSplit (edges_of g) (first x) (second x) y → OnCycle falling x
      cycle [] s = absurd (s.apart (nil-same (edges_of g) (first x) (second x) s.over))
      cycle (l ∷ y) s = (l, y, pair-falling g t.components (seats_of t.kernel) t.inner table.kernel.seats table.inner x x (l ∷ y) (falls-from x hx less) (split-pair none x (l ∷ y) hx s))

  -- The first state of a split reaches the second.
  pub split-reaches : (r q : ℕ) → r < g.states → q < g.states → HasSplit (edges_of g) r q → reaches t.components t.reached.items r q ≡ true
  split-reaches r q hr hq s = path-reached g t.components t.reached.items whole table.components table.reached r q s.0 hr hq s.1.over

  -- The laws below are about the pair of two states.

  pub not-there : HasNoTwin (edges_of g) → (r q : ℕ) → r < g.states → q < g.states → HasSplit (edges_of g) r q
      → (is_member (seats_of t.kernel).states (seats_of t.kernel).places r ≡ true) × (is_member (seats_of t.kernel).states (seats_of t.kernel).places q ≡ true)
  not-there none r q hr hq s = split-there none r q s.0 hr hq s.1 r q hr hq refl refl

  pub record IsAt (r q x : ℕ) : Type 0 where
    pub within : x < t.inner.states * t.inner.states
    pub from : first x ≡ r
    pub to : second x ≡ q

  pub at-places : (r q i j n x : ℕ) → n ≡ t.inner.states → x ≡ i * n + j → IsPlace (seats_of t.kernel).states (seats_of t.kernel).places r i → IsPlace (seats_of t.kernel).states (seats_of t.kernel).places q j → IsAt r q x
  at-places r q i j n x en ex pi pj =
      let m = t.inner.states in
      let states = (seats_of t.kernel).states in
      let places = (seats_of t.kernel).places in
      let a = member-there states places r pi.member in
      let b = member-there states places q pj.member in
      let hi : i < m = omega (arith, pi.place, a.0, table.inner.same_states) in
      let hj : j < m = omega (arith, pj.place, b.0, table.inner.same_states) in
      let e : x ≡ i * m + j = ex ∙ ap (λ z. i * z + j) en in
      record {
        within = subst (λ (z : ℕ). z < m * m) (sym e) (mul-add-lt i m j m hi hj);
        from = ap (state_at (seats_of t.kernel)) (ap (λ z. z / m) e ∙ (div-mul-add i m j hj ∙ pi.place)) ∙ a.1;
        to = ap (state_at (seats_of t.kernel)) (ap (λ z. z % m) e ∙ (mod-mul-add i m j hj ∙ pj.place)) ∙ b.1;
      }

  -- The laws below are about the search.

  -- The members and places of a wanted pair's part.
  pub record IsStart (x : ℕ) (members places : List ℕ) : Type 0 where
    pub members_are : members ≡ row_of (lists_of t.placed) (number_of t.parts x)
    pub places_are : places ≡ (lists_of t.placed).places
    pub within : get_or places x 0 < length members
    pub here : get_or members (get_or places x 0) 0 ≡ x

  pub start-there : (x k : ℕ) (members places : List ℕ) → x < t.inner.states * t.inner.states → is_wanted t.kernel.levels.items t.parts t.inner.states x ≡ true → k ≡ number_of t.parts x → members ≡ row_of (lists_of t.placed) k → places ≡ (lists_of t.placed).places → IsStart x members places
  start-there x k members places hx w ek em ep =
      let held = table.placed.held x hx w in
      let e : members ≡ row_of (lists_of t.placed) (number_of t.parts x) = em ∙ ap (row_of (lists_of t.placed)) ek in
      let p : get_or places x 0 ≡ get_or (lists_of t.placed).places x 0 = ap (λ (z : List ℕ). get_or z x 0) ep in
      record {
        members_are = e;
        places_are = ep;
        within = omega (arith, p, ap length e, held.within);
        here = ap₂ (λ (r : List ℕ) (z : ℕ). get_or r z 0) e p ∙ held.here;
      }

  -- The members of the part of a wanted pair stand at their places.
  start-members : (x : ℕ) (members places : List ℕ) → x < t.inner.states * t.inner.states → is_wanted t.kernel.levels.items t.parts t.inner.states x ≡ true → IsStart x members places
      → (v : ℕ) → Reaches product x v → Reaches product v x → is_member members places v ≡ true
  start-members x members places hx w s v to back =
      let hv = product-in x v hx to in
      let both = round-falling x v (wanted-falls x w) to back in
      let same = (table.parts.same v x hv hx).1 (both.1, both.0) in
      let there = start-there v (number_of t.parts x) members places hv (part-wanted x v hx to back w) (sym same) s.members_are s.places_are in
      there-member members places v there.within there.here

  -- A word is that of a split if it leads the pair to itself and its first state to its second one.
  path-split : (x : ℕ) (w : List ℕ) → x < t.inner.states * t.inner.states → is_wanted t.kernel.levels.items t.parts t.inner.states x ≡ true
      → 1 ≤ paths product x x w → 1 ≤ paths (edges_of g) (first x) (second x) w → IsSplit (edges_of g) (first x) (second x) w
  path-split x w hx wanted pair over =
      let sides = pair-reaches x x hx hx w pair in
      let a = wanted-parts x hx wanted in
      record {
        apart = λ e. absurd (omega (arith, a.1, ap (number_of t.components) e));
        before = sides.0;
        over = over;
        behind = sides.1;
      }

  start-of : (x part : ℕ) (s : SearchState) → IsFor g t x part s → IsStart x (row_of (lists_of t.placed) part) (lists_of t.placed).places
  start-of x part s f =
      start-there x part (row_of (lists_of t.placed) part) (lists_of t.placed).places f.pair.within f.pair.wanted f.of_part refl refl

  -- The row of the states that can't reach the second state of a pair is there.
  pub hopeless-there : (r q x : ℕ) → IsPairFor t r q x → IsHopeless g.states t.components t.reached.items (number_of t.components q) (get_or t.hopeless.items (number_of t.components q) [])
  hopeless-there r q x pair =
      let i = x % t.inner.states in
      let at = at-second x pair.within in
      let e : get_or t.kernel.levels.items i 0 ≡ number_of t.components q = table.kernel.seats.level i at ∙ ap (number_of t.components) pair.to in
      subst (λ (k : ℕ). IsHopeless g.states t.components t.reached.items k (get_or t.hopeless.items k [])) e
      (table.hopeless.right i (omega (arith, at, table.kernel.seats.same_length)))

  -- The search begins right.
  pub search-start : (keeps : Bool) (hopeless : List Bool) (x part pairs place r q : ℕ) (s : SearchState) → r < g.states → q < g.states → IsHopeless g.states t.components t.reached.items (number_of t.components q) hopeless → IsPairFor t r q x → part ≡ number_of t.parts x
      → place ≡ get_or (lists_of t.placed).places x 0 → pairs ≡ length (row_of (lists_of t.placed) part) → s ≡ start_state keeps hopeless pairs place r q
      → IsSearching (field_of g t part) s × IsFor g t x part s
  search-start keeps hopeless x part pairs place r q s hr hq lost pair of_part at long es =
      let is : IsFor g t x part (start_state keeps hopeless pairs place r q) = record { pair = pair; of_part = of_part; place = at } in
      let start = start-of x part (start_state keeps hopeless pairs place r q) is in (
        subst (IsSearching (field_of g t part)) (sym es) (searching-start (field_of g t part) keeps hopeless pairs place r q long (omega (arith, at, long, start.within)) hr lost.wide
            (hopeless-closed g t.components t.reached.items whole table.components table.reached q hopeless lost) (hopeless-lacks g t.components t.reached.items whole table.components table.reached q hopeless hq lost)),
        subst (IsFor g t x part) (sym es) is,
      )

  -- The search goes on right.
  pub search-further : (x part : ℕ) (s new : SearchState) (f : Found) → IsFor g t x part s → IsFurther (field_of g t part) f s new → IsFollowedUpTo (field_of g t part) f g.letters new
      → (f.place ≡ s.place → has_middle f s.to ≡ true → ⊥) → IsSearching (field_of g t part) new × IsFor g t x part new
  search-further x part s new f is further all other = (
    settle (field_of g t part) f new g.letters (λ y l h. (bounded-pairs (edges_of t.inner) t.inner.states g.letters bounded).letters y l h) further.searching all
        (λ at fresh. other (at ∙ further.place) (subst (λ (z : ℕ). has_middle f z ≡ true) further.to fresh)),
    record {
      pair = subst (λ (z : ℕ). IsPairFor t z new.to x) (sym further.from) (subst (λ (z : ℕ). IsPairFor t s.from z x) (sym further.to) is.pair);
      of_part = is.of_part;
      place = further.place ∙ is.place;
    },
  )

  -- A word to what is looked for is that of a split.
  pub search-found : (x part : ℕ) (s : SearchState) (f : Found) → IsFor g t x part s → (h : IsSearching (field_of g t part) (behind f s)) → f.place ≡ s.place → has_middle f s.to ≡ true
      → IsSplit (edges_of g) s.from s.to (h.found f (inl refl)).word
  search-found x part s f is h at fresh =
      let d = h.found f (inl refl) in
      let start = start-of x part s is in
      let here : get_or (row_of (lists_of t.placed) part) s.place 0 ≡ x = ap (λ z. get_or (row_of (lists_of t.placed) part) z 0) is.place ∙ start.here in
      let there : get_or (row_of (lists_of t.placed) part) f.place 0 ≡ x = ap (λ z. get_or (row_of (lists_of t.placed) part) z 0) at ∙ here in
      let pair : 1 ≤ paths product x x d.word =
      subst (λ (z : ℕ). 1 ≤ paths product x z d.word) there (subst (λ (z : ℕ). 1 ≤ paths product z (get_or (row_of (lists_of t.placed) part) f.place 0) d.word) here d.outer) in
      let over : 1 ≤ paths (edges_of g) (first x) (second x) d.word =
      subst (λ (z : ℕ). 1 ≤ paths (edges_of g) z (second x) d.word) (sym is.pair.from) (subst (λ (z : ℕ). 1 ≤ paths (edges_of g) s.from z d.word) (sym is.pair.to) (d.inner s.to fresh)) in
      subst (λ (z : ℕ). IsSplit (edges_of g) z s.to d.word) is.pair.from (subst (λ (z : ℕ). IsSplit (edges_of g) (first x) z d.word) is.pair.to
      (path-split x d.word is.pair.within is.pair.wanted pair over))

  -- If steps are kept, the word of its step is that word.
  pub search-word : (x part : ℕ) (s : SearchState) (f : Found) (word : List ℕ) → IsFor g t x part s → IsSearching (field_of g t part) (behind f s) → f.place ≡ s.place → has_middle f s.to ≡ true
      → s.keeps ≡ true → word ≡ word_at s.steps f.step → IsSplit (edges_of g) s.from s.to word
  search-word x part s f word is h at fresh keeps e =
      subst (IsSplit (edges_of g) s.from s.to) ((h.found f (inl refl)).kept keeps ∙ sym e) (search-found x part s f is h at fresh)

  -- If nothing is left to follow, there is no split.
  pub search-none : HasNoTwin (edges_of g) → (x part : ℕ) (s : SearchState) → IsFor g t x part s → IsSearching (field_of g t part) s → s.queue ≡ [] → HasSplit (edges_of g) s.from s.to → ⊥
  search-none none x part s is h empty split =
      let start = start-of x part s is in
      let here : IsSplit (edges_of g) (first x) (second x) split.0 =
      subst (λ (z : ℕ). IsSplit (edges_of g) z (second x) split.0) (sym is.pair.from) (subst (λ (z : ℕ). IsSplit (edges_of g) s.from z split.0) (sym is.pair.to) split.1) in
      never-reached (field_of g t part) s h empty x split.0 (sym is.place)
      (start-members x (row_of (lists_of t.placed) part) (lists_of t.placed).places is.pair.within is.pair.wanted start)
      (split-pair none x split.0 is.pair.within here) split.1.over

  -- The laws below are about marks.

  pub split-marked : (marks : List (Option Bool)) (r q x k : ℕ) (b : Bool) → AreMarks g t marks → IsPairFor t r q x → k ≡ number_of t.parts x
      → get_or marks k None ≡ Some b → IsTrue b ↔ HasSplit (edges_of g) r q
  split-marked marks r q x k b are pair e at =
      subst (λ (z : ℕ). IsTrue b ↔ HasSplit (edges_of g) r z) pair.to
      (subst (λ (z : ℕ). IsTrue b ↔ HasSplit (edges_of g) z (second x)) pair.from (are.right k b at x pair.within pair.wanted (sym e)))

  -- Whether one pair of a part is a split tells it of all of them.
  pub mark-of : HasNoTwin (edges_of g) → (r q x k : ℕ) (b : Bool) → IsPairFor t r q x → k ≡ number_of t.parts x → IsTrue b ↔ HasSplit (edges_of g) r q → IsMark g t k b
  mark-of none r q x k b pair ek both y hy w e =
      let hx = pair.within in
      let same : number_of t.parts x ≡ number_of t.parts y = sym ek ∙ sym e in
      let at : (IsTrue b → HasSplit (edges_of g) (first x) (second x)) × (HasSplit (edges_of g) (first x) (second x) → IsTrue b) =
      subst (λ (z : ℕ). IsTrue b ↔ HasSplit (edges_of g) z (second x)) (sym pair.from) (subst (λ (z : ℕ). IsTrue b ↔ HasSplit (edges_of g) r z) (sym pair.to) both) in
      (λ h. part-splits none x y hx hy same (at.0 h), λ s. at.1 (part-splits none y x hy hx (sym same) s))

  -- The answer of a search tells whether there is a split.
  pub search-tells : {A : Type 0} (r q : ℕ) (o : Option A) (b : Bool) → b ≡ is_some o → IfSome o (λ w. HasSplit (edges_of g) r q) → IfNone o (HasSplit (edges_of g) r q → ⊥) → IsTrue b ↔ HasSplit (edges_of g) r q
  search-tells r q (Some w) b e s o = (λ h. s, λ h. e)
  search-tells r q None b e s o = (λ h. absurd (both_ways b e h), λ h. absurd (o h))

-- No mark is known yet.
pub marks-none : (g : Graph) (t : PairTable) (marks : List (Option Bool)) → marks ≡ replicate (t.inner.states * t.inner.states) None → AreMarks g t marks
marks-none g t marks e = record {
  size = ap length e ∙ length-replicate n None;
  right = λ k b at. absurd (unknown k b (sym (ap (λ (l : List (Option Bool)). get_or l k None) e) ∙ at) (cases_lt k n));
}
  where
    n : ℕ
    n = t.inner.states * t.inner.states

    none-some : (b : Bool) → None ≡ Some b → ⊥
    none-some b e = cc

    unknown : (k : ℕ) (b : Bool) → get_or (replicate n None) k None ≡ Some b → (k < n) ⊎ (n ≤ k) → ⊥
    unknown k b at (inl lt) = none-some b (sym (get_or-replicate n k None None lt) ∙ at)
    unknown k b at (inr past) = none-some b (sym (get_or_past (replicate n None) k None (omega (arith, length-replicate {A = Option Bool} n None, past))) ∙ at)

-- One more mark is right.
pub marks-set : (g : Graph) (t : PairTable) (marks : List (Option Bool)) (k : ℕ) (b : Bool) → AreMarks g t marks → k < length marks → IsMark g t k b → AreMarks g t (set marks k (Some b))
marks-set g t marks k b are h here = record {
  size = length-set marks k (Some b) ∙ are.size;
  right = λ j c e. by j c e (cases_eq j k);
}
  where
    inside : (c : Bool) → Some b ≡ Some c → b ≡ c
    inside c e = cc

    by : (j : ℕ) (c : Bool) → get_or (set marks k (Some b)) j None ≡ Some c → (j ≡ k) ⊎ (j ≡ k → ⊥) → IsMark g t j c
    by j c e (inr n) = are.right j c (sym (get_or-set_other marks k j (Some b) None n) ∙ e)
    by j c e (inl f) =
        let same : b ≡ c = inside c (sym (ap (λ z. get_or (set marks k (Some b)) z None) f ∙ get_or-set_same marks k (Some b) None h) ∙ e) in
        subst (λ (z : ℕ). IsMark g t z c) (sym f) (subst (IsMark g t k) same here)
