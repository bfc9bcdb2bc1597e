-- Paths of the automaton are ways along texts.
use Rattle.std.proofs.Common.{◌≡◌, ℕ, zero, suc, ◌+◌, ◌*◌, ◌/◌, ◌%◌, ◌<◌, ◌≤◌, inl, inr, ⊎_elim, Bool, true, false, List, [], ◌∷◌, ◌++◌, length, map, All, Option, None, Some, slice_get, option_map, nat_lt, if◌then◌else◌, refl, sym, ap, ap₂, ◌∙◌, subst, arith}
use Rattle.std.proofs.lemmas.Bool.{cases_lt, cond-true, cond-false, lt-ltb, le-ltb}
use Rattle.std.proofs.lemmas.List.Elements.{All-head, All-tail}
use Rattle.std.proofs.lemmas.Nat.{mul-add-lt, div-mul-add, mod-mul-add}
use Rattle.std.proofs.lemmas.Option.{slice_get-map, none-some, same_Some}
use Rattle.rl_graph.specs.Paths.{onto, led, IsPath}
use Rattle.rl_graph.specs.Twins.{IsTwin}
use Rattle.rl_ranges.specs.Letters.{alike, classes, class_of, letter_at}
use Rattle.rl_ranges.proofs.LetterLemmas.{class_found, class_of-same, class_of-lt, alike-back}
use Rattle.rl_syntax.specs.declared.anchors.Guard.{Guard}
use Rattle.rl_syntax.specs.declared.re.Ending.{Ending}
use Rattle.rl_syntax.specs.Tree.{Tree, places, sets_in, guard_sets}
use Rattle.rl_prio.specs.Items.{Item, after, set_of, all_hold}
use Rattle.rl_prio.specs.Letters.{all_sets, kinds, kind_of}
use Rattle.rl_prio.specs.States.{place_states, state_of, accepting, dead, state_count, ends_here, moves_on, items_of, kind_before, moves}
use Rattle.rl_prio.specs.Automaton.{Automaton, letters_count, accepting_state, moves_at}
use Rattle.rl_prio.specs.StandsFor.{StandsFor}
use Rattle.rl_prio.proofs.AutomatonLemmas.{moves_at-outside}
use Rattle.rl_prio.proofs.LikenessLemmas.{Finer-itself, Finer-first, Finer-second, Like, GuardsKnown, ItemsKnown, all_hold-like, first-known, after-known, set_of-alike}
use Rattle.rl_ways.specs.Told.{ToldItem, item_at, item_of, forgotten}
use Rattle.rl_ways.specs.Ways.{open_ones, target_of, told_at, told_of, way, decisions_of, if_taken, if_any, text_way, last_place, Leads, state_after, IsPoint, place_of_state}
use Rattle.rl_ways.proofs.ForgetLaws.{forgotten-told_first, forgotten-told_after}
use Rattle.rl_ways.proofs.WayLaws.{targets-open, forgotten-told_of, begun, ways-apart}

-- ---- paths of the automaton are paths of the tree's moves

pub opened : (f : ℕ → Option ℕ) (o : Option ℕ) (s : ℕ) → onto f o ≡ Some s → (m : ℕ) × (o ≡ Some m) × (f m ≡ Some s)
opened f None s h = absurd (none-some s h)
opened f (Some m) s h = (m, refl, h)

module _ (a : Automaton) (t : Tree) (ending : Ending) (stands : StandsFor a t ending) where
  pub same_move : (q l i m : ℕ) → slice_get (moves_at a q l) i ≡ Some m → slice_get (moves t ending a.table.codes q l) i ≡ Some m
  same_move q l i m h =
      let none : moves_at a q l ≡ [] → slice_get (moves t ending a.table.codes q l) i ≡ Some m =
      λ e. absurd (none-some m (sym (ap (λ xs. slice_get xs i) e) ∙ h)) in
      ⊎_elim
      (λ lt. ⊎_elim
      (λ le. ap (λ xs. slice_get xs i) (sym (stands.same_moves q l lt (omega arith))) ∙ h)
      (λ beyond. none (moves_at-outside a q l (inr (omega arith))))
      (cases_lt l (suc (letters_count a))))
      (λ beyond. none (moves_at-outside a q l (inl beyond)))
      (cases_lt q a.states)

  pub path-moves : (w p : List ℕ) (q s : ℕ) → IsPath (moves_at a) q s p w → IsPath (moves t ending a.table.codes) q s p w
  path-moves [] [] q s path = path
  path-moves [] (i ∷ p) q s path = absurd (none-some s path)
  path-moves (l ∷ w) [] q s path = absurd (none-some s path)
  path-moves (l ∷ w) (i ∷ p) q s path =
      let x = opened (λ m. led (moves_at a) m p w) (slice_get (moves_at a q l) i) s path in
      ap (onto (λ m. led (moves t ending a.table.codes) m p w)) (same_move q l i x.0 x.1) ∙ path-moves w p x.0 s x.2

  pub twins-apart : (q : ℕ) (w p r : List ℕ) → IsTwin (moves_at a) q w p r
      → decisions_of (way t ending a.table.codes q w p) ≡ decisions_of (way t ending a.table.codes q w r) → ⊥
  twins-apart q w p r twin =
      ways-apart t ending a.table.codes w p r q q q (path-moves w p q q twin.one_way) (path-moves w r q q twin.other_way) twin.apart

-- ---- what is known of told items

module _ (t : Tree) where
  abbrev pub IsPlace : Option ℕ → Type 0
  IsPlace None = Unit {0}
  IsPlace (Some p) = p < places t

  -- The guards of the told items are the tree's, and their places too.
  abbrev pub Known : List ToldItem → Type 0
  Known [] = Unit {0}
  Known (m ∷ l) = GuardsKnown (guard_sets t) m.guards × IsPlace m.place × Known l

  known_head : (o : Option ℕ) (gs : List Guard) (l : List Item) → ItemsKnown (guard_sets t) (places t) (item_at o gs ∷ l)
      → GuardsKnown (guard_sets t) gs × IsPlace o × ItemsKnown (guard_sets t) (places t) l
  known_head None gs l h = (h.0, tt, h.1)
  known_head (Some p) gs l h = (h.0, h.1, h.2)

  known_of : (l : List ToldItem) → ItemsKnown (guard_sets t) (places t) (forgotten l) → Known l
  known_of [] h = tt
  known_of (m ∷ l) h = let k = known_head m.place m.guards (forgotten l) h in (k.0, k.1, known_of l k.2)

  pub told_at-known : (place : Option ℕ) → Known (told_at t place)
  told_at-known None =
      known_of (told_at t None)
      (subst (ItemsKnown (guard_sets t) (places t)) (sym (forgotten-told_first t 0 0))
      (first-known (guard_sets t) (places t) t 0 (omega arith) (Finer-itself (guard_sets t))))
  told_at-known (Some p) =
      known_of (told_at t (Some p))
      (subst (ItemsKnown (guard_sets t) (places t)) (sym (forgotten-told_after t 0 0 p))
      (after-known (guard_sets t) (places t) t 0 p (omega arith) (Finer-itself (guard_sets t))))

  open-same : (b c x y : Option ℕ) (l : List ToldItem) → Known l → Like (guard_sets t) b c → Like (guard_sets t) x y → open_ones b x l ≡ open_ones c y l
  open-same b c x y [] k p q = refl
  open-same b c x y (m ∷ l) k p q =
      ap₂ (λ v rest. (if v then m ∷ [] else []) ++ rest) (all_hold-like (guard_sets t) m.guards b c x y k.0 p q) (open-same b c x y l k.2 p q)

  known_if : (v : Bool) (m : ToldItem) (l : List ToldItem) → GuardsKnown (guard_sets t) m.guards → IsPlace m.place → Known l → Known ((if v then m ∷ [] else []) ++ l)
  known_if true m l g p k = (g, p, k)
  known_if false m l g p k = k

  pub open-known : (b x : Option ℕ) (l : List ToldItem) → Known l → Known (open_ones b x l)
  open-known b x [] k = tt
  open-known b x (m ∷ l) k = known_if (all_hold m.guards b x) m (open_ones b x l) k.0 k.1 (open-known b x l k.2)

  pub known_index : (l : List ToldItem) (i : ℕ) (m : ToldItem) → Known l → slice_get l i ≡ Some m → IsPlace m.place
  known_index [] i m k e = absurd (none-some m e)
  known_index (x ∷ l) zero m k e = subst (λ y. IsPlace y.place) (same_Some x m e) k.1
  known_index (x ∷ l) (suc i) m k e = known_index l i m k.2 e

-- A state after a place, with a code before that its kind doesn't distinguish from the given one.
pub record At (t : Tree) (n q : ℕ) (place before : Option ℕ) : Type 0 where
  pub in_states : q < state_count t n
  pub same_told : told_of t n q ≡ told_at t place
  pub same_place : place ≡ place_of_state t n q
  pub same_kind : Like (guard_sets t) (kind_before t n q) before

pub at-place : (t : Tree) (n p c : ℕ) → p < places t → c < n → At t n (state_of t n p (kind_of t n c)) (Some p) (Some c)
at-place t n p c in_places in_codes =
    let g = length (kinds t n) in
    let k = kind_of t n c in
    let k_in : k < g = class_of-lt (guard_sets t) n c in_codes in
    let below : p * g + k < place_states t n = omega (arith, mul-add-lt p g k (places t) in_places k_in) in
    let found = class_found (guard_sets t) n c in_codes in
    let kind : slice_get (kinds t n) ((p * g + k) % g) ≡ Some found.0 = ap (slice_get (kinds t n)) (mod-mul-add p g k k_in) ∙ found.1 in
    record {
      in_states = omega arith;
      same_told = cond-true (nat_lt (p * g + k) (place_states t n)) (told_at t (Some ((p * g + k) / g))) [] (lt-ltb (p * g + k) (place_states t n) below)
          ∙ ap (λ r. told_at t (Some r)) (div-mul-add p g k k_in);
      same_place = ap Some (sym (div-mul-add p g k k_in));
      same_kind = subst (λ o. Like (guard_sets t) o (Some c)) (sym kind) (alike-back (guard_sets t) c found.0 found.2);
    }

at-point : (t : Tree) (n : ℕ) (place before : Option ℕ) → IsPoint t n place before → At t n (state_after t n place before) place before
at-point t n None None point = record { in_states = omega arith; same_told = refl; same_place = refl; same_kind = tt }
at-point t n None (Some c) point = absurd point
at-point t n (Some p) None point = absurd point
at-point t n (Some p) (Some c) point = at-place t n p c point.0 point.1

-- ---- paths of the automaton are ways along texts

module _ (a : Automaton) (t : Tree) (ending : Ending) (stands : StandsFor a t ending) where
  pub no_moves : (q l : ℕ) → accepting t a.table.codes ≤ q → moves_at a q l ≡ []
  no_moves zero l le = absurd (omega (arith, le))
  no_moves (suc r) l le =
      let n = a.table.codes in
      ⊎_elim
      (λ lt. ⊎_elim
      (λ letter. stands.same_moves (suc r) l lt (omega arith)
      ∙ ap (moves_on t ending n (kind_before t n (suc r)) (slice_get (classes (all_sets t) n) l))
      (cond-false (nat_lt r (place_states t n)) (after t 0 (r / length (kinds t n))) [] (le-ltb r (place_states t n) (omega arith))))
      (λ beyond. moves_at-outside a (suc r) l (inr (omega arith)))
      (cases_lt l (suc (letters_count a))))
      (λ beyond. moves_at-outside a (suc r) l (inl beyond))
      (cases_lt (suc r) a.states)

  -- No path leads on from the last two states.
  stuck : (q s : ℕ) (p w : List ℕ) → accepting t a.table.codes ≤ q → led (moves_at a) q p w ≡ Some s → s < accepting t a.table.codes → ⊥
  stuck q s [] [] le path lt = let same : q ≡ s = same_Some q s path in omega arith
  stuck q s [] (l ∷ w) le path lt = none-some s path
  stuck q s (i ∷ p) [] le path lt = none-some s path
  stuck q s (i ∷ p) (l ∷ w) le path lt =
      none-some s (sym (ap (λ xs. onto (λ m. led (moves_at a) m p w) (slice_get xs i)) (no_moves q l le)) ∙ path)

  -- The way reads the whole text, and its last place is that of the state.
  pub record Reads (place : Option ℕ) (s count : ℕ) (l : List ToldItem) : Type 0 where
    pub many : length l ≡ count
    pub last : last_place place l ≡ place_of_state t a.table.codes s

  -- One move, and what follows it.
  step : (c d s count : ℕ) (m : ToldItem) (place o : Option ℕ) (p ls : List ℕ) (next : ℕ → List ToldItem) → m.place ≡ o → IsPlace t o
      → ((r : ℕ) → set_of t 0 r d ≡ set_of t 0 r c)
      → led (moves_at a) (target_of t ending a.table.codes (Some d) (item_at o m.guards)) p ls ≡ Some s → s < accepting t a.table.codes
      → ((r : ℕ) → r < places t → led (moves_at a) (state_of t a.table.codes r (kind_of t a.table.codes d)) p ls ≡ Some s → Reads (Some r) s count (next r))
      → Reads place s (suc count) (if_taken t c m next o)
  step c d s count m place None p ls next is known same path lt goes = absurd (by (ends_here ending (Some d)) path)
    where
      by : (v : Bool) → led (moves_at a) (if v then accepting t a.table.codes else dead t a.table.codes) p ls ≡ Some s → ⊥
      by true h = stuck (accepting t a.table.codes) s p ls (omega arith) h lt
      by false h = stuck (dead t a.table.codes) s p ls (omega arith) h lt
  step c d s count m place (Some r) p ls next is known same path lt goes = by (set_of t 0 r c)
      (ap (λ v. led (moves_at a) (if v then state_of t a.table.codes r (kind_of t a.table.codes d) else dead t a.table.codes) p ls) (sym (same r)) ∙ path)
    where
      by : (v : Bool) → led (moves_at a) (if v then state_of t a.table.codes r (kind_of t a.table.codes d) else dead t a.table.codes) p ls ≡ Some s → Reads place s (suc count) (if v then m ∷ next r else [])
      by true h =
          let rest = goes r known h in
          record { many = ap suc rest.many; last = ap (λ x. last_place x (next r)) is ∙ rest.last }
      by false h = absurd (stuck (dead t a.table.codes) s p ls (omega arith) h lt)

  pub reads : (w p : List ℕ) (q s : ℕ) (place before : Option ℕ) → At t a.table.codes q place before → All (λ c. c < a.table.codes) w
      → led (moves_at a) q p (map (letter_at a.table) w) ≡ Some s → s < accepting t a.table.codes
      → Reads place s (length w) (text_way t place before w p)
  reads [] [] q s place before at codes path lt = record { many = refl; last = at.same_place ∙ ap (place_of_state t a.table.codes) (same_Some q s path) }
  reads [] (i ∷ p) q s place before at codes path lt = absurd (none-some s path)
  reads (c ∷ w) [] q s place before at codes path lt = absurd (none-some s path)
  reads (c ∷ w) (i ∷ p) q s place before at codes path lt =
      let n = a.table.codes in
      let sets = all_sets t in
      let c_in : c < n = All-head (λ x. x < n) c w codes in
      let found = class_found sets n c c_in in
      let d = found.0 in
      let letter = letter_at a.table c in
      let ls = map (letter_at a.table) w in
      let is_letter : letter ≡ class_of sets n c = stands.same_letters.same_letter c c_in in
      let o : slice_get (classes sets n) letter ≡ Some d = ap (slice_get (classes sets n)) is_letter ∙ found.1 in
      let letter_in : letter ≤ letters_count a = omega (arith, is_letter, class_of-lt sets n c c_in, stands.same_letters.same_count) in
      let likes : alike sets d c ≡ true = alike-back sets c d found.2 in
      let kinds_like : alike (guard_sets t) d c ≡ true = Finer-second (sets_in t) (guard_sets t) d c likes in
      let told = told_at t place in
      let items = open_ones before (Some c) told in
      let f : ToldItem → ℕ = λ m. target_of t ending n (Some d) (item_of m) in
      let moves_are : moves_at a q letter ≡ map f items =
      stands.same_moves q letter (omega (arith, at.in_states, stands.same_states)) letter_in
      ∙ ap (λ x. moves_on t ending n (kind_before t n q) x (items_of t n q)) o
      ∙ ap (moves_on t ending n (kind_before t n q) (Some d)) (sym (forgotten-told_of t n q) ∙ ap forgotten at.same_told)
      ∙ sym (targets-open t ending n (kind_before t n q) (Some d) told)
      ∙ ap (map f) (open-same t (kind_before t n q) before (Some d) (Some c) told (told_at-known t place) at.same_kind kinds_like) in
      let is : option_map f (slice_get items i) ≡ slice_get (moves_at a q letter) i =
      sym (slice_get-map f items i) ∙ ap (λ xs. slice_get xs i) (sym moves_are) in
      let one = begun (moves_at a) f s p ls (slice_get items i) (ap (onto (λ m. led (moves_at a) m p ls)) is ∙ path) in
      let m = one.0 in
      let next : ℕ → List ToldItem = λ r. text_way t (Some r) (Some c) w p in
      subst (λ x. Reads place s (suc (length w)) (if_any (λ y. if_taken t c y next y.place) x)) (sym one.1)
      (step c d s (length w) m place m.place p ls next refl
      (known_index t items i m (open-known t before (Some c) told (told_at-known t place)) one.1)
      (λ r. set_of-alike sets t 0 r d c (Finer-first (sets_in t) (guard_sets t)) likes) one.2 lt
      (λ r r_in rest. reads w p (state_of t n r (kind_of t n d)) s (Some r) (Some c)
      (subst (λ k. At t n (state_of t n r k) (Some r) (Some c)) (sym (class_of-same (guard_sets t) n d c kinds_like)) (at-place t n r c r_in c_in))
      (All-tail (λ x. x < n) c w codes) rest lt))

  point-below : (place before : Option ℕ) → IsPoint t a.table.codes place before → state_after t a.table.codes place before < accepting t a.table.codes
  point-below None None point = omega arith
  point-below None (Some c) point = absurd point
  point-below (Some p) None point = absurd point
  point-below (Some p) (Some c) point =
      omega (arith, mul-add-lt p (length (kinds t a.table.codes)) (kind_of t a.table.codes c) (places t) point.0 (class_of-lt (guard_sets t) a.table.codes c point.1))

  pub paths-read : (w p : List ℕ) (s : ℕ) (place before : Option ℕ) → IsPoint t a.table.codes place before → All (λ c. c < a.table.codes) w
      → IsPath (moves_at a) (state_after t a.table.codes place before) s p (map (letter_at a.table) w) → s < accepting_state a
      → length (text_way t place before w p) ≡ length w
  paths-read w p s place before point codes path lt =
      (reads w p (state_after t a.table.codes place before) s place before (at-point t a.table.codes place before point) codes path
      (omega (arith, lt, stands.same_states))).many

  pub paths-lead : (w p : List ℕ) (from to before last : Option ℕ) → IsPoint t a.table.codes from before → IsPoint t a.table.codes to last
      → All (λ c. c < a.table.codes) w
      → IsPath (moves_at a) (state_after t a.table.codes from before) (state_after t a.table.codes to last) p (map (letter_at a.table) w)
      → Leads from to w (text_way t from before w p)
  paths-lead w p from to before last point other codes path =
      let s = state_after t a.table.codes to last in
      let all = reads w p (state_after t a.table.codes from before) s from before (at-point t a.table.codes from before point) codes path (point-below to last other) in
      let end = at-point t a.table.codes to last other in
      record { whole = all.many; ends = all.last ∙ sym end.same_place }
