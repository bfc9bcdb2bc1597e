-- Ways follow one another, and a pump is read behind its head as behind itself.
use Rattle.std.proofs.Common.{◌≡◌, ℕ, zero, suc, ◌/◌, ◌<◌, ◌≤◌, Bool, true, false, List, [], ◌∷◌, ◌++◌, length, map, All, Option, None, Some, slice_get, option_map, nat_lt, if◌then◌else◌, refl, sym, ap, ap₂, ◌∙◌, subst, arith}
use Rattle.std.proofs.lemmas.List.Elements.{All-head, All-tail}
use Rattle.std.proofs.lemmas.Option.{slice_get-map, none-some, same_Some}
use Rattle.rl_graph.specs.Paths.{led, IsPath}
use Rattle.rl_ranges.specs.Letters.{alike, classes, letter_at}
use Rattle.rl_ranges.proofs.LetterLemmas.{alike-itself, alike-back, alike-onward, class_found, class_of-same}
use Rattle.rl_syntax.specs.declared.re.Ending.{Ending}
use Rattle.rl_syntax.specs.Family.{copies}
use Rattle.rl_syntax.specs.Tree.{Tree, sets_in, guard_sets}
use Rattle.rl_prio.specs.Items.{set_of}
use Rattle.rl_prio.specs.Letters.{all_sets, letters, kinds, kind_of}
use Rattle.rl_prio.specs.States.{place_states, state_of, accepting, dead, ends_here, kind_before}
use Rattle.rl_prio.specs.Automaton.{Automaton, moves_at}
use Rattle.rl_prio.specs.StandsFor.{StandsFor}
use Rattle.rl_prio.proofs.LikenessLemmas.{Finer-second, Like, all_hold-like}
use Rattle.rl_ways.specs.declared.item.ToldItem.{ToldItem}
use Rattle.rl_ways.specs.Told.{item_at, item_of}
use Rattle.rl_ways.specs.Ways.{open_ones, target_of, told_at, told_of, told_moves, if_taken, if_any, text_way, last_place, Leads, place_of_state, last_code, last_of}
use Rattle.rl_ways.proofs.WayLaws.{targets-told_moves}
use Rattle.rl_ways.proofs.LinkLaws.{opened, same_move, IsPlace, Known, told_at-known, open-known, known_index, At, at-place, reads}
use Rattle.rl_ways.proofs.CycleLaws.{paths-begin}
use Rattle.rl_why.specs.Readings.{way_again, IsEntered}
use Rattle.rl_why.specs.Again.{told_again}

-- ---- ways follow one another

-- What is read first goes on with the rest.
module _ (t : Tree) (code count : ℕ) (to : Option ℕ) (f g : ℕ → List ToldItem) (z : List ToldItem)
    (ih : (q : ℕ) → length (f q) ≡ count → last_place (Some q) (f q) ≡ to → g q ≡ f q ++ z) where
  follow-taken : (from : Option ℕ) (m : ToldItem) (o : Option ℕ) → m.place ≡ o → length (if_taken t code m f o) ≡ suc count → last_place from (if_taken t code m f o) ≡ to
      → if_taken t code m g o ≡ if_taken t code m f o ++ z
  follow-taken from m None is long ends = absurd (omega (arith, long))
  follow-taken from m (Some q) is long ends = by (set_of t 0 q code) long ends
    where
      by : (v : Bool) → length (if v then m ∷ f q else []) ≡ suc count → last_place from (if v then m ∷ f q else []) ≡ to → (if v then m ∷ g q else []) ≡ (if v then m ∷ f q else []) ++ z
      by true long ends = ap (λ l. m ∷ l) (ih q (omega (arith, long)) (sym (ap (λ o. last_place o (f q)) is) ∙ ends))
      by false long ends = absurd (omega (arith, long))

  follow-any : (from : Option ℕ) (o : Option ToldItem) → length (if_any (λ m. if_taken t code m f m.place) o) ≡ suc count
      → last_place from (if_any (λ m. if_taken t code m f m.place) o) ≡ to
      → if_any (λ m. if_taken t code m g m.place) o ≡ if_any (λ m. if_taken t code m f m.place) o ++ z
  follow-any from None long ends = absurd (omega (arith, long))
  follow-any from (Some m) long ends = follow-taken from m m.place refl long ends

follow : (t : Tree) (to : Option ℕ) (text more numbers others : List ℕ) (from before : Option ℕ) → length numbers ≡ length text
    → length (text_way t from before text numbers) ≡ length text → last_place from (text_way t from before text numbers) ≡ to
    → text_way t from before (text ++ more) (numbers ++ others) ≡ text_way t from before text numbers ++ text_way t to (last_code before text) more others
follow t to [] more [] others from before long whole ends = ap (λ o. text_way t o before more others) ends
follow t to [] more (k ∷ numbers) others from before long whole ends = absurd (omega (arith, long))
follow t to (code ∷ text) more [] others from before long whole ends = absurd (omega (arith, long))
follow t to (code ∷ text) more (k ∷ numbers) others from before long whole ends =
    follow-any t code (length text) to (λ q. text_way t (Some q) (Some code) text numbers) (λ q. text_way t (Some q) (Some code) (text ++ more) (numbers ++ others))
    (text_way t to (last_code (Some code) text) more others)
    (λ q there last. follow t to text more numbers others (Some q) (Some code) (omega (arith, long)) there last)
    from (slice_get (open_ones before (Some code) (told_at t from)) k) whole ends

pub ways-follow : (t : Tree) (from to before : Option ℕ) (text more numbers others : List ℕ) → length numbers ≡ length text → Leads from to text (text_way t from before text numbers)
    → text_way t from before (text ++ more) (numbers ++ others) ≡ text_way t from before text numbers ++ text_way t to (last_code before text) more others
ways-follow t from to before text more numbers others long h = follow t to text more numbers others from before long h.whole h.ends

-- The last code of a text, with itself in front, is its last code.
last-again : (text : List ℕ) → last_code (last_of text) text ≡ last_of text
last-again [] = refl
last-again (code ∷ text) = refl

pub rounds-again : (t : Tree) (place : Option ℕ) (pump round : List ℕ) (k : ℕ) → length round ≡ length pump → Leads place place pump (way_again t pump place round)
    → text_way t place (last_of pump) (copies k pump) (copies k round) ≡ told_again k (way_again t pump place round)
rounds-again t place pump round zero long h = refl
rounds-again t place pump round (suc k) long h =
    ways-follow t place place (last_of pump) pump (copies k pump) round (copies k round) long h
    ∙ ap (λ l. way_again t pump place round ++ l)
    (ap (λ o. text_way t place o (copies k pump) (copies k round)) (last-again pump) ∙ rounds-again t place pump round k long h)

pub pumps-again : (t : Tree) (from before to : Option ℕ) (head pump round : List ℕ) (k : ℕ) (e : IsEntered t from before head pump to)
    → length round ≡ length pump → Leads to to pump (way_again t pump to round)
    → text_way t from before (head ++ copies k pump) (e.numbers ++ copies k round) ≡ text_way t from before head e.numbers ++ told_again k (way_again t pump to round)
pumps-again t from before to head pump round k e long h =
    ways-follow t from to before head (copies k pump) e.numbers (copies k round) e.long e.leads
    ∙ ap (λ l. text_way t from before head e.numbers ++ l) (e.alike (copies k pump) (copies k round) ∙ rounds-again t to pump round k long h)

-- ---- codes that no guard tells apart

like-itself : (sets : List (ℕ → Bool)) (o : Option ℕ) → Like sets o o
like-itself sets None = tt
like-itself sets (Some c) = alike-itself sets c

like-back : (sets : List (ℕ → Bool)) (o n : Option ℕ) → Like sets o n → Like sets n o
like-back sets None None h = tt
like-back sets None (Some d) h = absurd h
like-back sets (Some c) None h = absurd h
like-back sets (Some c) (Some d) h = alike-back sets c d h

like-onward : (sets : List (ℕ → Bool)) (o n m : Option ℕ) → Like sets o n → Like sets n m → Like sets o m
like-onward sets None None m h k = k
like-onward sets None (Some d) m h k = absurd h
like-onward sets (Some c) None m h k = absurd h
like-onward sets (Some c) (Some d) None h k = absurd k
like-onward sets (Some c) (Some d) (Some e) h k = alike-onward sets c d e h k

open-like : (t : Tree) (b c next : Option ℕ) (l : List ToldItem) → Known t l → Like (guard_sets t) b c → open_ones b next l ≡ open_ones c next l
open-like t b c next [] k p = refl
open-like t b c next (m ∷ l) k p =
    ap₂ (λ v rest. (if v then m ∷ [] else []) ++ rest) (all_hold-like (guard_sets t) m.guards b c next next k.0 p (like-itself (guard_sets t) next)) (open-like t b c next l k.2 p)

-- The same is read behind either code.
pub way-like : (t : Tree) (place b c : Option ℕ) (text numbers : List ℕ) → Like (guard_sets t) b c → text_way t place b text numbers ≡ text_way t place c text numbers
way-like t place b c [] numbers p = refl
way-like t place b c (code ∷ text) [] p = refl
way-like t place b c (code ∷ text) (k ∷ numbers) p =
    ap (λ l. if_any (λ m. if_taken t code m (λ q. text_way t (Some q) (Some code) text numbers) m.place) (slice_get l k))
    (open-like t b c (Some code) (told_at t place) (told_at-known t place) p)

-- ---- the state to which a path leads

known-unless : (t : Tree) (v : Bool) (l : List ToldItem) → Known t l → Known t (if v then l else [])
known-unless t true l k = k
known-unless t false l k = tt

told_of-knows : (t : Tree) (n q : ℕ) → Known t (told_of t n q)
told_of-knows t n zero = told_at-known t None
told_of-knows t n (suc r) =
    let p = r / length (kinds t n) in known-unless t (nat_lt r (place_states t n)) (told_at t (Some p)) (told_at-known t (Some p))

mapped-from : (f : ToldItem → ℕ) (o : Option ToldItem) (s : ℕ) → option_map f o ≡ Some s → (m : ToldItem) × (o ≡ Some m) × (f m ≡ s)
mapped-from f None s h = absurd (none-some s h)
mapped-from f (Some m) s h = (m, refl, same_Some (f m) s h)

-- The target of a told item before a code, unless it is one of the last two states.
lands : (t : Tree) (ending : Ending) (n c d s : ℕ) (m : ToldItem) (o : Option ℕ) → IsPlace t o → c < n → alike (guard_sets t) d c ≡ true
    → target_of t ending n (Some d) (item_at o m.guards) ≡ s → s < accepting t n → At t n s (place_of_state t n s) (Some c)
lands t ending n c d s m None known c_in likes is lt = absurd (by (ends_here ending (Some d)) is)
  where
    by : (v : Bool) → (if v then accepting t n else dead t n) ≡ s → ⊥
    by true e = omega (arith, e, lt)
    by false e = omega (arith, e, lt)
lands t ending n c d s m (Some r) known c_in likes is lt = by (set_of t 0 r d) is
  where
    there : At t n (state_of t n r (kind_of t n d)) (Some r) (Some c)
    there = subst (λ k. At t n (state_of t n r k) (Some r) (Some c)) (sym (class_of-same (guard_sets t) n d c likes)) (at-place t n r c known c_in)

    by : (v : Bool) → (if v then state_of t n r (kind_of t n d) else dead t n) ≡ s → At t n s (place_of_state t n s) (Some c)
    by true e =
        let here = subst (λ q. At t n q (Some r) (Some c)) e there in
        subst (λ o. At t n s o (Some c)) here.same_place here
    by false e = absurd (omega (arith, e, lt))

module _ (a : Automaton) (t : Tree) (ending : Ending) (stands : StandsFor a t ending) where
  -- A move on the letter of a code leads to a state of a place on that code, or to one of the last two states.
  arrives : (c q s i : ℕ) → c < a.table.codes → slice_get (moves_at a q (letter_at a.table c)) i ≡ Some s → s < accepting t a.table.codes
      → At t a.table.codes s (place_of_state t a.table.codes s) (Some c)
  arrives c q s i c_in move lt =
      let n = a.table.codes in
      let sets = all_sets t in
      let found = class_found sets n c c_in in
      let d = found.0 in
      let letter = letter_at a.table c in
      let o : slice_get (classes sets n) letter ≡ Some d = ap (slice_get (classes sets n)) (stands.same_letters.same_letter c c_in) ∙ found.1 in
      let likes : alike (guard_sets t) d c ≡ true = Finer-second (sets_in t) (guard_sets t) d c (alike-back sets c d found.2) in
      let items = told_moves t n q letter in
      let f : ToldItem → ℕ = λ m. target_of t ending n (slice_get (letters t n) letter) (item_of m) in
      let is : option_map f (slice_get items i) ≡ Some s =
      sym (slice_get-map f items i) ∙ ap (λ xs. slice_get xs i) (targets-told_moves t ending n q letter) ∙ same_move a t ending stands q letter i s move in
      let one = mapped-from f (slice_get items i) s is in
      let m = one.0 in
      lands t ending n c d s m m.place
      (known_index t items i m (open-known t (kind_before t n q) (slice_get (letters t n) letter) (told_of t n q) (told_of-knows t n q)) one.1)
      c_in likes (ap (λ x. target_of t ending n x (item_of m)) (sym o) ∙ one.2) lt

  -- The state at the end of a path along a text, if the path doesn't lead to one of the last two states.
  pub arrives-at : (w p : List ℕ) (q s : ℕ) → All (λ c. c < a.table.codes) w → 1 ≤ length w → led (moves_at a) q p (map (letter_at a.table) w) ≡ Some s
      → s < accepting t a.table.codes → At t a.table.codes s (place_of_state t a.table.codes s) (last_of w)
  arrives-at [] p q s codes some path lt = absurd (omega (arith, some))
  arrives-at (c ∷ []) [] q s codes some path lt = absurd (none-some s path)
  arrives-at (c ∷ []) (i ∷ []) q s codes some path lt =
      let x = opened (λ m. led (moves_at a) m [] []) (slice_get (moves_at a q (letter_at a.table c)) i) s path in
      arrives c q s i (All-head (λ x. x < a.table.codes) c [] codes) (x.1 ∙ x.2) lt
  arrives-at (c ∷ []) (i ∷ j ∷ p) q s codes some path lt =
      let x = opened (λ m. led (moves_at a) m (j ∷ p) []) (slice_get (moves_at a q (letter_at a.table c)) i) s path in
      absurd (none-some s x.2)
  arrives-at (c ∷ d ∷ w) [] q s codes some path lt = absurd (none-some s path)
  arrives-at (c ∷ d ∷ w) (i ∷ p) q s codes some path lt =
      let x = opened (λ m. led (moves_at a) m p (map (letter_at a.table) (d ∷ w))) (slice_get (moves_at a q (letter_at a.table c)) i) s path in
      arrives-at (d ∷ w) p x.0 s (All-tail (λ x. x < a.table.codes) c (d ∷ w) codes) (omega arith) x.2 lt

  -- The same, also of the empty text.
  arrives-from : (w p : List ℕ) (q s : ℕ) (place before : Option ℕ) → At t a.table.codes q place before → All (λ c. c < a.table.codes) w
      → led (moves_at a) q p (map (letter_at a.table) w) ≡ Some s → s < accepting t a.table.codes → At t a.table.codes s (place_of_state t a.table.codes s) (last_code before w)
  arrives-from [] [] q s place before at codes path lt =
      let same : q ≡ s = same_Some q s path in
      subst (λ x. At t a.table.codes x (place_of_state t a.table.codes x) before) same (subst (λ o. At t a.table.codes q o before) at.same_place at)
  arrives-from [] (i ∷ p) q s place before at codes path lt = absurd (none-some s path)
  arrives-from (c ∷ w) p q s place before at codes path lt = arrives-at (c ∷ w) p q s codes (omega arith) path lt

  -- A path to a cycle, along the head, and the cycle's own one, along the pump.
  pub paths-enter : (head pump p f : List ℕ) (q s : ℕ) (place before : Option ℕ) → At t a.table.codes q place before
      → All (λ c. c < a.table.codes) head → All (λ c. c < a.table.codes) pump → 1 ≤ length pump → length p ≡ length head
      → IsPath (moves_at a) q s p (map (letter_at a.table) head) → IsPath (moves_at a) s s f (map (letter_at a.table) pump)
      → IsEntered t place before head pump (place_of_state t a.table.codes s)
  paths-enter head pump p f q s place before at head_codes pump_codes some long path around =
      let n = a.table.codes in
      let lt : s < accepting t n = omega (arith, paths-begin a t ending stands pump f s s some around, stands.same_states) in
      let all = reads a t ending stands head p q s place before at head_codes path lt in
      let here = arrives-from head p q s place before at head_codes path lt in
      let there = arrives-at pump f s s pump_codes some around lt in
      let like : Like (guard_sets t) (last_code before head) (last_of pump) =
      like-onward (guard_sets t) (last_code before head) (kind_before t n s) (last_of pump)
      (like-back (guard_sets t) (kind_before t n s) (last_code before head) here.same_kind) there.same_kind in
      record {
        numbers = p;
        long = long;
        leads = record { whole = all.many; ends = all.last };
        alike = λ text others. way-like t (place_of_state t n s) (last_code before head) (last_of pump) text others like;
      }

-- The start of the tree.
pub at-start : (t : Tree) (n : ℕ) → At t n 0 None None
at-start t n = record { in_states = omega arith; same_told = refl; same_place = refl; same_kind = tt }
