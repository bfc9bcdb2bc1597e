-- Lemmas on rows of truth values as sets.
use Rattle.std.proofs.Common.{◌≡◌, ◌≢◌, ℕ, ◌+◌, ◌<◌, ◌≤◌, ◌⊎◌, Bool, true, false, not, ◌&&◌, ◌||◌, eqb, All, filter, List, [], ◌∷◌, ◌++◌, length, get_or, set, drop, replicate, refl, sym, ap, ◌∙◌, subst, inl, inr, arith}
use Rattle.std.specs.List.{list_any, flat_map}
use Rattle.std.proofs.lemmas.Bool.{cases_lt, cases_eq, eq-eqb, ne_eqb, cond-true, cond-false, false≢true}
use Rattle.std.proofs.lemmas.List.{flat_map_more, set-set, at_drop_more, get_or-set_same, get_or-set_other, length-set, length-replicate, ext_get_or}
use Rattle.std.proofs.lemmas.List.Folds.{list_any-append}
use Rattle.rl_lanes.specs.Rows.{list_or, list_and_not, Meets, NoneFrom, IsLeastFrom}
use Rattle.rl_lanes.specs.Tables.{image as rows_image}
use Rattle.rl_lanes.proofs.ImageLemmas.{get_or-image}
use Rattle.rl_lanes.proofs.RowLemmas.{place_within, get_or-replicate_false, length-list_or, get_or-list_or, length-list_and_not, get_or-list_and_not}
use Rattle.rl_prio.specs.Automaton.{Automaton, dead_state, moves_at}
use Rattle.rl_sets.specs.Live.{below, holds, set_where, image, joined, left_out}
use Rattle.rl_sets.specs.Walk.{set_of}
use Rattle.rl_sets.specs.Rows.{members_of, marked}
use Rattle.rl_sets.specs.internal.Moves.{targets_of, IsReached, MoveAlike}
use Rattle.rl_sets.proofs.SetLemmas.{same_tests, filter_same, filter_both, filter_gap, filter_next, any-there, any-from, holds-there, holds-from}

-- A state is a member if its bit is set.
pub holds-members : (row : List Bool) (q : ℕ) → holds (members_of row) q ≡ get_or row q false
unfolding members_of
holds-members row q =
    same_tests _ _ (λ e. (holds-there (λ k. get_or row k false) (length row) q e).1) (λ e.
    holds-from (λ k. get_or row k false) (length row) q (place_within row q e) e)

-- Rows of one length with the same members are equal.
pub same_rows : (a b : List Bool) → length a ≡ length b → members_of a ≡ members_of b → a ≡ b
same_rows a b long same = ext_get_or false a b long (λ q lt. sym (holds-members a q) ∙ ap (λ l. holds l q) same ∙ holds-members b q)

-- The set of a row whose bits say whether a test is true.
pub members-where : (a : Automaton) (row : List Bool) (p : ℕ → Bool) → length row ≡ a.states → ((q : ℕ) → q < a.states → get_or row q false ≡ p q) → members_of row ≡ set_where a p
unfolding members_of
members-where a row p long says =
    ap (λ n. filter (λ q. get_or row q false) (below n)) long ∙ filter_same (λ q. get_or row q false) p a.states says

-- A row represents the set of its members.
pub members-set : (a : Automaton) (row : List Bool) → length row ≡ a.states → members_of row ≡ set_where a (holds (members_of row))
members-set a row long = members-where a row (holds (members_of row)) long (λ q lt. sym (holds-members row q))

-- ---- marks
pub length-marked : (row : List Bool) (qs : List ℕ) → length (marked row qs) ≡ length row
length-marked row [] = refl
length-marked row (q ∷ qs) = length-marked (set row q true) qs ∙ length-set row q true

pub get_or-marked : (row : List Bool) (qs : List ℕ) (t : ℕ) → t < length row → get_or (marked row qs) t false ≡ (get_or row t false || holds qs t)
get_or-marked row [] t lt = or_false (get_or row t false)
  where
    or_false : (b : Bool) → b ≡ (b || false)
    or_false true = refl
    or_false false = refl
get_or-marked row (q ∷ qs) t lt =
    get_or-marked (set row q true) qs t (omega (arith, length-set row q true)) ∙ by (cases_eq t q)
  where
    all_true : (b c : Bool) → true ≡ (b || (true || c))
    all_true true c = refl
    all_true false c = refl

    by : (t ≡ q) ⊎ (t ≡ q → ⊥) → (get_or (set row q true) t false || holds qs t) ≡ (get_or row t false || (eqb q t || holds qs t))
    by (inl here) =
        ap (λ b. b || holds qs t) (ap (λ k. get_or (set row q true) k false) here ∙ get_or-set_same row q true false (omega arith))
        ∙ all_true (get_or row t false) (holds qs t)
        ∙ ap (λ b. get_or row t false || (b || holds qs t)) (sym (eq-eqb q t (sym here)))
    by (inr other) =
        ap (λ b. b || holds qs t) (get_or-set_other row q t true false other)
        ∙ ap (λ b. get_or row t false || (b || holds qs t)) (sym (ne_eqb q t (λ e. other (sym e))))

-- The row of listed states.
pub get_or-marked_zeros : (n : ℕ) (qs : List ℕ) (t : ℕ) → t < n → get_or (marked (replicate n false) qs) t false ≡ holds qs t
get_or-marked_zeros n qs t lt =
    get_or-marked (replicate n false) qs t (omega (arith, length-replicate n false)) ∙ ap (λ b. b || holds qs t) (get_or-replicate_false n t)

pub length-marked_zeros : (n : ℕ) (qs : List ℕ) → length (marked (replicate n false) qs) ≡ n
length-marked_zeros n qs = length-marked (replicate n false) qs ∙ length-replicate n false

-- ---- images
-- the test of an image before the dead state is left out
abbrev reaches : Automaton → ℕ → List ℕ → ℕ → Bool
reaches a letter members t = list_any (λ q. holds (moves_at a q letter) t) members

-- The test of an image, by a row that says whether it reaches each state but the dead one.
image_says : (a : Automaton) (letter : ℕ) (into : List Bool) (members : List ℕ) (t : ℕ) → length into ≡ a.states → t < a.states → (t < dead_state a → get_or into t false ≡ reaches a letter members t)
    → get_or (set into (dead_state a) false) t false ≡ (not (eqb t (dead_state a)) && reaches a letter members t)
image_says a letter into members t long lt same = by (cases_eq t (dead_state a))
  where
    by : (t ≡ dead_state a) ⊎ (t ≡ dead_state a → ⊥) → get_or (set into (dead_state a) false) t false ≡ (not (eqb t (dead_state a)) && reaches a letter members t)
    by (inl here) =
        ap (λ k. get_or (set into (dead_state a) false) k false) here
        ∙ get_or-set_same into (dead_state a) false false (omega arith)
        ∙ ap (λ b. not b && reaches a letter members t) (sym (eq-eqb t (dead_state a) here))
    by (inr other) =
        get_or-set_other into (dead_state a) t false false other
        ∙ same (omega arith)
        ∙ ap (λ b. not b && reaches a letter members t) (sym (ne_eqb t (dead_state a) other))

-- The row of the states to which the members move, without the dead state, is the row of the image.
pub members-reached : (a : Automaton) (letter : ℕ) (members : List ℕ) (row : List Bool) → IsReached a members letter row → members_of (set row (dead_state a) false) ≡ image a members letter
unfolding image
members-reached a letter members row r =
    members-where a (set row (dead_state a) false) (λ t. not (eqb t (dead_state a)) && reaches a letter members t) (length-set row (dead_state a) false ∙ r.wide) (λ t lt.
    image_says a letter row members t r.wide lt (r.moves t))

-- A state is a target if a member moves to it.
pub holds-targets : (a : Automaton) (letter : ℕ) (members : List ℕ) (t : ℕ) → holds (targets_of a members letter) t ≡ list_any (λ q. holds (moves_at a q letter) t) members
holds-targets a letter [] t = refl
holds-targets a letter (q ∷ qs) t =
    list_any-append (λ x. eqb x t) (moves_at a q letter) (targets_of a qs letter) ∙ ap (λ b. holds (moves_at a q letter) t || b) (holds-targets a letter qs t)

-- The marks of the members' moves are that row too.
pub reached-by_moves : (a : Automaton) (letter : ℕ) (members : List ℕ) (row : List Bool) → row ≡ marked (replicate a.states false) (targets_of a members letter) → IsReached a members letter row
reached-by_moves a letter members row e =
    let targets = targets_of a members letter in
    record {
      wide = ap length e ∙ length-marked_zeros a.states targets;
      moves = λ t lt. ap (λ r. get_or r t false) e ∙ get_or-marked_zeros a.states targets t (omega arith) ∙ holds-targets a letter members t;
    }

marked-append : (row : List Bool) (ps qs : List ℕ) → marked row (ps ++ qs) ≡ marked (marked row ps) qs
marked-append row [] qs = refl
marked-append row (p ∷ ps) qs = marked-append (set row p true) ps qs

-- The state of the marking of the moves of a set's members, before the state `from`.
pub record IsMarkingMoves (a : Automaton) (letter : ℕ) (chosen old now : List Bool) (from : ℕ) : Type 0 where
  pub marks : now ≡ marked old (targets_of a (filter (λ q. get_or chosen q false) (below from)) letter)
  pub long : length now ≡ length old
  pub small : from ≤ length chosen

pub IsMarkingMoves-more : (a : Automaton) (letter : ℕ) (chosen old now new : List Bool) (from q : ℕ) → IsMarkingMoves a letter chosen old now from → IsLeastFrom chosen from q → new ≡ marked now (moves_at a q letter) → IsMarkingMoves a letter chosen old new (q + 1)
IsMarkingMoves-more a letter chosen old now new from q m least e =
    let f = λ (x : ℕ). moves_at a x letter in
    let p = λ (x : ℕ). get_or chosen x false in
    let before = filter p (below from) in
    record {
      marks =
          e
          ∙ ap (λ r. marked r (f q)) m.marks
          ∙ sym (marked-append old (flat_map f before) (f q))
          ∙ ap (marked old) (flat_map_more f [] before q ∙ ap (flat_map f) (sym (filter_next p from q least.after least.before least.member)));
      long = ap length e ∙ length-marked now (f q) ∙ m.long;
      small = omega (arith, least.within);
    }

pub IsMarkingMoves-all : (a : Automaton) (letter : ℕ) (chosen old now : List Bool) (from : ℕ) → IsMarkingMoves a letter chosen old now from → NoneFrom chosen from → now ≡ marked old (targets_of a (members_of chosen) letter)
unfolding members_of
IsMarkingMoves-all a letter chosen old now from m none =
    m.marks
    ∙ ap (λ qs. marked old (targets_of a qs letter)) (sym (filter_gap (λ q. get_or chosen q false) from (length chosen) m.small (λ k after lt. none k after)))

-- ---- letters on which the members move alike

pub alike-more : (a : Automaton) (row : List Bool) (from q before letter : ℕ) → MoveAlike a row from before letter → IsLeastFrom row from q → moves_at a q before ≡ moves_at a q letter → MoveAlike a row (q + 1) before letter
alike-more a row from q before letter h least e = λ k lt member. elim (cases_lt k from) [
  | inl less ↦ h k less member
  | inr more ↦ elim (cases_lt k q) [
    | inl early ↦ absurd (false≢true (sym (least.before k more early) ∙ member))
    | inr late ↦ let here : q ≡ k = omega arith in subst (λ x. moves_at a x before ≡ moves_at a x letter) here e
  ]
]

reaches-alike : (a : Automaton) (row : List Bool) (before letter t : ℕ) → MoveAlike a row (length row) before letter → reaches a before (members_of row) t ≡ reaches a letter (members_of row) t
unfolding members_of
reaches-alike a row before letter t h =
    let p = λ (q : ℕ). get_or row q false in
    let f = λ (q : ℕ). holds (moves_at a q before) t in
    let g = λ (q : ℕ). holds (moves_at a q letter) t in
    same_tests _ _ (λ e.
    let there = any-there f p (length row) e in
    any-from g p (length row) there.0 there.1 there.2 (ap (λ qs. holds qs t) (sym (h there.0 there.1 there.2)) ∙ there.3)) (λ e.
    let there = any-there g p (length row) e in
    any-from f p (length row) there.0 there.1 there.2 (ap (λ qs. holds qs t) (h there.0 there.1 there.2) ∙ there.3))

-- The image is that on the other letter.
pub image-alike : (a : Automaton) (row : List Bool) (before letter : ℕ) → MoveAlike a row (length row) before letter → image a (members_of row) before ≡ image a (members_of row) letter
unfolding image
image-alike a row before letter h =
    filter_same (λ t. not (eqb t (dead_state a)) && reaches a before (members_of row) t) (λ t. not (eqb t (dead_state a)) && reaches a letter (members_of row) t) a.states
    (λ t lt. ap (λ b. not (eqb t (dead_state a)) && b) (reaches-alike a row before letter t h))

-- ---- tables
-- The state of the marking of a row of a table, before the state with the number `i`.
pub record IsMarking (old now : List (List Bool)) (at : ℕ) (qs : List ℕ) (i : ℕ) : Type 0 where
  pub rest_same : now ≡ set old at (get_or now at [])
  pub left : marked (get_or now at []) (drop i qs) ≡ marked (get_or old at []) qs
  pub long : length (get_or now at []) ≡ length (get_or old at [])

pub IsMarking-more : (old now new : List (List Bool)) (at i q : ℕ) (qs : List ℕ) → at < length old → i < length qs → q ≡ get_or qs i 0 → IsMarking old now at qs i → new ≡ set now at (set (get_or now at []) q true) → IsMarking old new at qs (i + 1)
IsMarking-more old now new at i q qs in' lt read m e =
    let row = get_or now at [] in
    let long : length now ≡ length old = ap length m.rest_same ∙ length-set old at row in
    let row_is : get_or new at [] ≡ set row q true = ap (λ t. get_or t at []) e ∙ get_or-set_same now at (set row q true) [] (omega arith) in
    record {
      rest_same = e ∙ ap (λ t. set t at (set row q true)) m.rest_same ∙ set-set old at row (set row q true) ∙ ap (set old at) (sym row_is);
      left =
          ap (λ r. marked r (drop (i + 1) qs)) row_is
          ∙ sym (at_drop_more (marked row) qs i 0 lt ∙ ap (λ x. marked row (x ∷ drop (i + 1) qs)) (sym read))
          ∙ m.left;
      long = ap length row_is ∙ length-set row q true ∙ m.long;
    }

-- ---- the rows of listed and of joined sets
-- the union of a row with one that holds nothing
pub list_or-zeros : (row : List Bool) → list_or (replicate (length row) false) row ≡ row
list_or-zeros row =
    let zeros = replicate (length row) false in
    let same : length zeros ≡ length row = length-replicate (length row) false in
    ext_get_or false (list_or zeros row) row (length-list_or zeros row same ∙ same) (λ q lt. get_or-list_or zeros row q same ∙ ap (λ b. b || get_or row q false) (get_or-replicate_false (length row) q))

pub members-listed : (a : Automaton) (row : List Bool) (qs : List ℕ) → row ≡ marked (replicate a.states false) qs → members_of row ≡ set_of a qs
members-listed a row qs e =
    members-where a row (holds qs) (ap length e ∙ length-marked_zeros a.states qs) (λ q lt. ap (λ r. get_or r q false) e ∙ get_or-marked_zeros a.states qs q lt)

pub joined-dead : (a : Automaton) (t : ℕ) (set : List ℕ) → t ≡ dead_state a → joined a t set ≡ set
unfolding joined
joined-dead a t set here = cond-true (eqb t (dead_state a)) set (set_where a (λ x. eqb x t || holds set x)) (eq-eqb t (dead_state a) here)

pub members-joined : (a : Automaton) (row : List Bool) (t : ℕ) → length row ≡ a.states → t < a.states → t ≢ dead_state a → members_of (set row t true) ≡ joined a t (members_of row)
unfolding joined
members-joined a row t long lt other =
    members-where a (set row t true) (λ x. eqb x t || holds (members_of row) x) (length-set row t true ∙ long) (λ x small. by x (cases_eq x t))
    ∙ sym (cond-false (eqb t (dead_state a)) (members_of row) (set_where a (λ x. eqb x t || holds (members_of row) x)) (ne_eqb t (dead_state a) other))
  where
    by : (x : ℕ) → (x ≡ t) ⊎ (x ≡ t → ⊥) → get_or (set row t true) x false ≡ (eqb x t || holds (members_of row) x)
    by x (inl here) =
        ap (λ k. get_or (set row t true) k false) here
        ∙ get_or-set_same row t true false (omega arith)
        ∙ ap (λ b. b || holds (members_of row) x) (sym (eq-eqb x t here))
    by x (inr apart) =
        get_or-set_other row t x true false apart
        ∙ sym (holds-members row x)
        ∙ ap (λ b. b || holds (members_of row) x) (sym (ne_eqb x t apart))

-- ---- rows of other states
-- The row of a set meets another if the set has a member there.
pub meets-members : (row states : List Bool) (r : Bool) → ((r ≡ true → Meets row states) × (Meets row states → r ≡ true)) → r ≡ list_any (λ q. get_or states q false) (members_of row)
unfolding members_of
meets-members row states r says =
    let p = λ (q : ℕ). get_or row q false in
    let f = λ (q : ℕ). get_or states q false in
    same_tests _ _ (λ e.
    let h = says.0 e in
    any-from f p (length row) h.0 (place_within row h.0 h.1) h.1 h.2) (λ e.
    let h = any-there f p (length row) e in
    says.1 (h.0, h.2, h.3))

-- The union of the rows of the members has a bit set if the row of some member has.
pub image-members : (row : List Bool) (table : List (List Bool)) (len k : ℕ) → All (λ r. length r ≡ len) table → get_or (rows_image table row len) k false ≡ list_any (λ q. get_or (get_or table q []) k false) (members_of row)
unfolding members_of
image-members row table len k wide =
    let p = λ (q : ℕ). get_or row q false in
    let f = λ (q : ℕ). get_or (get_or table q []) k false in
    let says = get_or-image table row len k wide in
    same_tests _ _ (λ e.
    let h = says.0 e in
    any-from f p (length row) h.0 (place_within row h.0 h.1) h.1 h.2) (λ e.
    let h = any-there f p (length row) e in
    says.1 (h.0, h.2, h.3))

-- The row without the states of another.
pub members-left_out : (row states : List Bool) → length row ≡ length states → members_of (list_and_not row states) ≡ left_out states (members_of row)
unfolding members_of left_out
members-left_out row states same =
    let kept = λ (q : ℕ). not (get_or states q false) in
    ap (λ n. filter (λ q. get_or (list_and_not row states) q false) (below n)) (length-list_and_not row states same)
    ∙ filter_same (λ q. get_or (list_and_not row states) q false) (λ q. get_or row q false && kept q) (length row) (λ q lt. get_or-list_and_not row states q same)
    ∙ sym (filter_both kept (λ q. get_or row q false) (below (length row)))
