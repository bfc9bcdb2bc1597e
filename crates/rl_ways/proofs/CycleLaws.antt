-- A path that begins on a cycle is a way along its text, with the last code of the text in front.
use Rattle.std.proofs.Common.{◌≡◌, ℕ, zero, suc, ◌/◌, ◌<◌, ◌≤◌, ⊎_elim, Bool, true, false, List, [], ◌∷◌, length, map, All, Option, None, Some, slice_get, option_map, nat_lt, if◌then◌else◌, refl, sym, ap, ◌∙◌, subst, arith}
use Rattle.std.proofs.lemmas.Bool.{cases_lt}
use Rattle.std.proofs.lemmas.List.Elements.{All-head, All-tail}
use Rattle.std.proofs.lemmas.Option.{slice_get-map, none-some, same_Some}
use Rattle.rl_graph.specs.Paths.{onto, led, IsPath}
use Rattle.rl_ranges.specs.Letters.{alike, classes, letter_at}
use Rattle.rl_ranges.proofs.LetterLemmas.{class_found, class_of-same, alike-back}
use Rattle.rl_syntax.specs.declared.re.Ending.{Ending}
use Rattle.rl_syntax.specs.Tree.{Tree, places, sets_in, guard_sets}
use Rattle.rl_prio.specs.Items.{set_of}
use Rattle.rl_prio.specs.Letters.{all_sets, letters, kinds, kind_of}
use Rattle.rl_prio.specs.States.{place_states, state_of, accepting, dead, ends_here, kind_before}
use Rattle.rl_prio.specs.Automaton.{Automaton, accepting_state, moves_at}
use Rattle.rl_prio.specs.StandsFor.{StandsFor}
use Rattle.rl_prio.proofs.LikenessLemmas.{Finer-second}
use Rattle.rl_ways.specs.Told.{ToldItem, item_at, item_of}
use Rattle.rl_ways.specs.Ways.{target_of, told_at, told_of, told_moves, text_way, Leads, place_of_state, last_of}
use Rattle.rl_ways.proofs.WayLaws.{targets-told_moves}
use Rattle.rl_ways.proofs.LinkLaws.{opened, same_move, IsPlace, Known, told_at-known, open-known, known_index, At, at-place, no_moves, Reads, reads}

known_unless : (t : Tree) (v : Bool) (l : List ToldItem) → Known t l → Known t (if v then l else [])
known_unless t true l k = k
known_unless t false l k = tt

told_of-known : (t : Tree) (n q : ℕ) → Known t (told_of t n q)
told_of-known t n zero = told_at-known t None
told_of-known t n (suc r) =
    let p = r / length (kinds t n) in known_unless t (nat_lt r (place_states t n)) (told_at t (Some p)) (told_at-known t (Some p))

-- What becomes a state, if it is there.
mapped : (f : ToldItem → ℕ) (o : Option ToldItem) (s : ℕ) → option_map f o ≡ Some s → (m : ToldItem) × (o ≡ Some m) × (f m ≡ s)
mapped f None s h = absurd (none-some s h)
mapped f (Some m) s h = (m, refl, same_Some (f m) s h)

-- The target of a told item before a code, unless it is one of the last two states.
landed : (t : Tree) (ending : Ending) (n c d s : ℕ) (m : ToldItem) (o : Option ℕ) → IsPlace t o → c < n → alike (guard_sets t) d c ≡ true
    → target_of t ending n (Some d) (item_at o m.guards) ≡ s → s < accepting t n → At t n s (place_of_state t n s) (Some c)
landed t ending n c d s m None known c_in likes is lt = absurd (by (ends_here ending (Some d)) is)
  where
    by : (v : Bool) → (if v then accepting t n else dead t n) ≡ s → ⊥
    by true e = omega (arith, e, lt)
    by false e = omega (arith, e, lt)
landed t ending n c d s m (Some r) known c_in likes is lt = by (set_of t 0 r d) is
  where
    there : At t n (state_of t n r (kind_of t n d)) (Some r) (Some c)
    there = subst (λ k. At t n (state_of t n r k) (Some r) (Some c)) (sym (class_of-same (guard_sets t) n d c likes)) (at-place t n r c known c_in)

    by : (v : Bool) → (if v then state_of t n r (kind_of t n d) else dead t n) ≡ s → At t n s (place_of_state t n s) (Some c)
    by true e =
        let here = subst (λ q. At t n q (Some r) (Some c)) e there in
        subst (λ o. At t n s o (Some c)) here.same_place here
    by false e = absurd (omega (arith, e, lt))

module _ (a : Automaton) (t : Tree) (ending : Ending) (stands : StandsFor a t ending) where
  -- A move on the letter of a code leads to a state of a place on that code, or to one of the last two states.
  arrives : (c q s i : ℕ) → c < a.table.codes → slice_get (moves_at a q (letter_at a.table c)) i ≡ Some s → s < accepting t a.table.codes
      → At t a.table.codes s (place_of_state t a.table.codes s) (Some c)
  arrives c q s i c_in move lt =
      let n = a.table.codes in
      let sets = all_sets t in
      let found = class_found sets n c c_in in
      let d = found.0 in
      let letter = letter_at a.table c in
      let o : slice_get (classes sets n) letter ≡ Some d = ap (slice_get (classes sets n)) (stands.same_letters.same_letter c c_in) ∙ found.1 in
      let likes : alike (guard_sets t) d c ≡ true = Finer-second (sets_in t) (guard_sets t) d c (alike-back sets c d found.2) in
      let items = told_moves t n q letter in
      let f : ToldItem → ℕ = λ m. target_of t ending n (slice_get (letters t n) letter) (item_of m) in
      let is : option_map f (slice_get items i) ≡ Some s =
      sym (slice_get-map f items i) ∙ ap (λ xs. slice_get xs i) (targets-told_moves t ending n q letter) ∙ same_move a t ending stands q letter i s move in
      let one = mapped f (slice_get items i) s is in
      let m = one.0 in
      landed t ending n c d s m m.place
      (known_index t items i m (open-known t (kind_before t n q) (slice_get (letters t n) letter) (told_of t n q) (told_of-known t n q)) one.1)
      c_in likes (ap (λ x. target_of t ending n x (item_of m)) (sym o) ∙ one.2) lt

  -- The end of a path along a text that isn't empty.
  ends_at : (w p : List ℕ) (q s : ℕ) → All (λ c. c < a.table.codes) w → 1 ≤ length w → led (moves_at a) q p (map (letter_at a.table) w) ≡ Some s
      → s < accepting t a.table.codes → At t a.table.codes s (place_of_state t a.table.codes s) (last_of w)
  ends_at [] p q s codes some path lt = absurd (omega (arith, some))
  ends_at (c ∷ []) [] q s codes some path lt = absurd (none-some s path)
  ends_at (c ∷ []) (i ∷ []) q s codes some path lt =
      let x = opened (λ m. led (moves_at a) m [] []) (slice_get (moves_at a q (letter_at a.table c)) i) s path in
      arrives c q s i (All-head (λ x. x < a.table.codes) c [] codes) (x.1 ∙ x.2) lt
  ends_at (c ∷ []) (i ∷ j ∷ p) q s codes some path lt =
      let x = opened (λ m. led (moves_at a) m (j ∷ p) []) (slice_get (moves_at a q (letter_at a.table c)) i) s path in
      absurd (none-some s x.2)
  ends_at (c ∷ d ∷ w) [] q s codes some path lt = absurd (none-some s path)
  ends_at (c ∷ d ∷ w) (i ∷ p) q s codes some path lt =
      let x = opened (λ m. led (moves_at a) m p (map (letter_at a.table) (d ∷ w))) (slice_get (moves_at a q (letter_at a.table c)) i) s path in
      ends_at (d ∷ w) p x.0 s (All-tail (λ x. x < a.table.codes) c (d ∷ w) codes) (omega arith) x.2 lt

  -- Where a path along a text that isn't empty can begin.
  before_end : (w p : List ℕ) (q s : ℕ) → 1 ≤ length w → led (moves_at a) q p (map (letter_at a.table) w) ≡ Some s → q < accepting t a.table.codes
  before_end [] p q s some path = absurd (omega (arith, some))
  before_end (c ∷ w) [] q s some path = absurd (none-some s path)
  before_end (c ∷ w) (i ∷ p) q s some path =
      ⊎_elim (λ lt. lt)
      (λ le. absurd (none-some s (sym (ap (λ xs. onto (λ m. led (moves_at a) m p (map (letter_at a.table) w)) (slice_get xs i)) (no_moves a t ending stands q (letter_at a.table c) le)) ∙ path)))
      (cases_lt q (accepting t a.table.codes))

  pub paths-begin : (w p : List ℕ) (q s : ℕ) → 1 ≤ length w → IsPath (moves_at a) q s p (map (letter_at a.table) w) → q < accepting_state a
  paths-begin w p q s some path = omega (arith, before_end w p q s some path, stands.same_states)

  pub cycles-lead : (w e p : List ℕ) (r s : ℕ) → All (λ c. c < a.table.codes) w → 1 ≤ length w
      → IsPath (moves_at a) r r e (map (letter_at a.table) w) → IsPath (moves_at a) r s p (map (letter_at a.table) w) → s < accepting_state a
      → Leads (place_of_state t a.table.codes r) (place_of_state t a.table.codes s) w (text_way t (place_of_state t a.table.codes r) (last_of w) w p)
  cycles-lead w e p r s codes some around path lt =
      let at = ends_at w e r r codes some around (before_end w e r r some around) in
      let all = reads a t ending stands w p r s (place_of_state t a.table.codes r) (last_of w) at codes path (omega (arith, lt, stands.same_states)) in
      record { whole = all.many; ends = all.last }
