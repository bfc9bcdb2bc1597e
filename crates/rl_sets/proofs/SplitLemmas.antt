-- Lemmas on split moves: what the check of a state shows, and what the targets of a set's members on a letter are.
use Rattle.std.proofs.Common.{◌≡◌, ◌≢◌, ℕ, ◌+◌, ◌<◌, ◌≤◌, ◌⊎◌, Bool, true, false, not, ◌&&◌, ◌||◌, List, [], length, get_or, set, replicate, refl, sym, ap, ◌∙◌, subst, inl, inr, arith}
use Rattle.std.specs.List.{list_any}
use Rattle.std.proofs.lemmas.Bool.{both_ways, cases_eq, cases_Bool, or_cases, or_left, or_right, and_parts, and_from, false≢true}
use Rattle.std.proofs.lemmas.List.{length-set, length-replicate, get_or-set_same, get_or-set_other, ext_get_or}
use Rattle.std.proofs.lemmas.List.Elements.{All-set}
use Rattle.rl_lanes.specs.Rows.{list_and_not}
use Rattle.rl_lanes.specs.Tables.{image as rows_image}
use Rattle.rl_lanes.proofs.RowLemmas.{place_within, get_or-replicate_false, length-list_and_not, get_or-list_and_not}
use Rattle.rl_lanes.proofs.ImageLemmas.{get_or-image, length-image}
use Rattle.rl_prio.specs.Automaton.{Automaton, letters_count, dead_state, moves_at}
use Rattle.rl_sets.specs.declared.split.SplitMoves.{SplitMoves}
use Rattle.rl_sets.specs.declared.split.SetMoves.{SetMoves}
use Rattle.rl_sets.specs.Live.{below, holds}
use Rattle.rl_sets.specs.Rows.{members_of, marked}
use Rattle.rl_sets.specs.Split.{IsSquare, IsSplit, IsSplitOn, AreSplitAt, AreMovesOf}
use Rattle.rl_sets.specs.internal.Moves.{targets_of, IsReached}
use Rattle.rl_sets.proofs.SetLemmas.{same_tests, any-there, any-from}
use Rattle.rl_sets.proofs.RowLemmas.{length-marked, get_or-marked, get_or-marked_zeros, holds-targets}

-- ---- the table of the targets
pub IsSquare-marked : (n at : ℕ) (table new : List (List Bool)) (qs : List ℕ) → at < n → IsSquare n table → new ≡ set table at (marked (get_or table at []) qs) → IsSquare n new
IsSquare-marked n at table new qs lt sq e =
    let row = marked (get_or table at []) qs in
    let here : at < length table = omega (arith, sq.high) in
    subst (IsSquare n) (sym e) (record {
      high = length-set table at row ∙ sq.high;
      wide = All-set (λ r. length r ≡ n) table at row (length-marked (get_or table at []) qs ∙ sq.wide at [] here) sq.wide;
    })

-- The union of the row of one state is that row.
get_or-alone : (n q t : ℕ) (table : List (List Bool)) → IsSquare n table → q < n → get_or (rows_image table (set (replicate n false) q true) n) t false ≡ get_or (get_or table q []) t false
get_or-alone n q t table sq lt =
    let alone = set (replicate n false) q true in
    let says = get_or-image table alone n t sq.wide in
    same_tests _ _ (λ e. let h = says.0 e in by h.0 h.1 h.2 (cases_eq h.0 q)) (λ e. says.1 (q, get_or-set_same (replicate n false) q true false (omega (arith, length-replicate n false)), e))
  where
    by : (i : ℕ) → get_or (set (replicate n false) q true) i false ≡ true → get_or (get_or table i []) t false ≡ true → (i ≡ q) ⊎ (i ≡ q → ⊥) → get_or (get_or table q []) t false ≡ true
    by i on held (inl here) = subst (λ k. get_or (get_or table k []) t false ≡ true) here held
    by i on held (inr other) = absurd (both_ways (get_or (replicate n false) i false) (get_or-replicate_false n i) (sym (get_or-set_other (replicate n false) q i true false other) ∙ on))

pub alone-row : (n q : ℕ) (table : List (List Bool)) → IsSquare n table → q < n → rows_image table (set (replicate n false) q true) n ≡ get_or table q []
alone-row n q table sq lt =
    let here : q < length table = omega (arith, sq.high) in
    let wide = length-image table (set (replicate n false) q true) n sq.wide in
    ext_get_or false (rows_image table (set (replicate n false) q true) n) (get_or table q []) (wide ∙ sym (sq.wide q [] here)) (λ t below. get_or-alone n q t table sq lt)

-- ---- the check of a state
-- Two equal rows, of the targets on the letter and of the targets on all letters that aren't barred, show that the moves are
-- split.
pub IsSplitOn-rows : (a : Automaton) (q letter : ℕ) (targets barred own left : List Bool) → length targets ≡ a.states → length barred ≡ a.states
    → own ≡ set (marked (replicate a.states false) (moves_at a q letter)) (dead_state a) false → left ≡ set (list_and_not targets barred) (dead_state a) false → own ≡ left → IsSplitOn a targets barred q letter
IsSplitOn-rows a q letter targets barred own left wide same_wide own_is left_is same t lt =
    let other : t ≢ dead_state a = λ e. omega arith in
    let marks = marked (replicate a.states false) (moves_at a q letter) in
    sym (get_or-list_and_not targets barred t (wide ∙ sym same_wide))
    ∙ sym (get_or-set_other (list_and_not targets barred) (dead_state a) t false false other)
    ∙ ap (λ r. get_or r t false) (sym left_is ∙ sym same ∙ own_is)
    ∙ get_or-set_other marks (dead_state a) t false false other
    ∙ get_or-marked_zeros a.states (moves_at a q letter) t (omega arith)

-- One more state.
pub AreSplit-more : (a : Automaton) (targets barred : List (List Bool)) (unsplit : List Bool) (q : ℕ) (split : Bool) → length unsplit ≡ a.states → q < a.states
    → ((k : ℕ) → k < q → get_or unsplit k false ≡ false → AreSplitAt a (get_or targets k []) barred k) → (split ≡ true → AreSplitAt a (get_or targets q []) barred q)
    → (k : ℕ) → k < q + 1 → get_or (set unsplit q (not split)) k false ≡ false → AreSplitAt a (get_or targets k []) barred k
AreSplit-more a targets barred unsplit q split wide lt before here k below e = by (cases_eq k q)
  where
    was : (b : Bool) → not b ≡ false → b ≡ true
    was true e = refl
    was false e = absurd (false≢true (sym e))

    by : (k ≡ q) ⊎ (k ≡ q → ⊥) → AreSplitAt a (get_or targets k []) barred k
    by (inl same) =
        let read : not split ≡ false = sym (get_or-set_same unsplit q (not split) false (omega (arith, wide))) ∙ ap (λ i. get_or (set unsplit q (not split)) i false) (sym same) ∙ e in
        subst (λ (i : ℕ). AreSplitAt a (get_or targets i []) barred i) (sym same) (here (was split read))
    by (inr other) = before k (omega arith) (sym (get_or-set_other unsplit q k (not split) false other) ∙ e)

-- ---- the targets of the members of a set
and_false : (b : Bool) → (b && false) ≡ false
and_false true = refl
and_false false = refl

not_true : (b : Bool) → not b ≡ true → b ≡ false
not_true false e = refl
not_true true e = absurd (false≢true e)

module _ (a : Automaton) (s : SplitMoves) (members : List Bool) (m : SetMoves) (letter : ℕ) (split : IsSplit a s) (long : length members ≡ a.states) (small : letter ≤ letters_count a) (moves : AreMovesOf s members m) where
  abbrev chosen : List Bool
  chosen = list_and_not members s.unsplit

  abbrev barred : List Bool
  barred = get_or s.barred.items letter []

  barred_wide : length barred ≡ a.states
  barred_wide = split.shape.barred_wide letter [] (omega (arith, split.letters))

  chosen_wide : length chosen ≡ length members
  chosen_wide = length-list_and_not members s.unsplit (long ∙ sym split.shape.unsplit_wide)

  chosen_at : (q : ℕ) → get_or chosen q false ≡ (get_or members q false && not (get_or s.unsplit q false))
  chosen_at q = get_or-list_and_not members s.unsplit q (long ∙ sym split.shape.unsplit_wide)

  unsplit_at : (q : ℕ) → get_or m.unsplit q false ≡ (get_or members q false && not (get_or chosen q false))
  unsplit_at q = ap (λ r. get_or r q false) moves.unsplit ∙ get_or-list_and_not members chosen q (sym chosen_wide)

  targets_are : m.targets ≡ rows_image s.targets chosen a.states
  targets_are = moves.targets ∙ ap (rows_image s.targets chosen) long

  pub targets_wide : length m.targets ≡ a.states
  targets_wide = ap length targets_are ∙ length-image s.targets chosen a.states split.shape.square.wide

  pub unsplit_wide : length m.unsplit ≡ a.states
  unsplit_wide = ap length moves.unsplit ∙ length-list_and_not members chosen (sym chosen_wide) ∙ long

  abbrev pub base : List Bool
  base = list_and_not m.targets barred

  base_wide : length base ≡ a.states
  base_wide = length-list_and_not m.targets barred (targets_wide ∙ sym barred_wide) ∙ targets_wide

  base_at : (t : ℕ) → get_or base t false ≡ (get_or m.targets t false && not (get_or barred t false))
  base_at t = get_or-list_and_not m.targets barred t (targets_wide ∙ sym barred_wide)

  -- A target of a split member that isn't barred.
  from_split : (t : ℕ) → t < dead_state a → get_or base t false ≡ true → (q : ℕ) × (get_or members q false ≡ true) × (holds (moves_at a q letter) t ≡ true)
  from_split t lt e =
      let both = and_parts (get_or m.targets t false) (not (get_or barred t false)) (sym (base_at t) ∙ e) in
      let h = (get_or-image s.targets chosen a.states t split.shape.square.wide).0 (ap (λ r. get_or r t false) (sym targets_are) ∙ both.0) in
      let q = h.0 in
      let parts = and_parts (get_or members q false) (not (get_or s.unsplit q false)) (sym (chosen_at q) ∙ h.1) in
      let within : q < a.states = omega (arith, place_within members q parts.0, long) in
      (q, parts.0, sym (split.moves q within (not_true (get_or s.unsplit q false) parts.1) letter small t lt) ∙ and_from (get_or (get_or s.targets q []) t false) (not (get_or barred t false)) h.2 both.1)

  to_base : (t q : ℕ) → t < dead_state a → get_or members q false ≡ true → get_or s.unsplit q false ≡ false → holds (moves_at a q letter) t ≡ true → get_or base t false ≡ true
  to_base t q lt in' free e =
      let within : q < a.states = omega (arith, place_within members q in', long) in
      let both = and_parts (get_or (get_or s.targets q []) t false) (not (get_or barred t false)) (split.moves q within free letter small t lt ∙ e) in
      let on : get_or chosen q false ≡ true = chosen_at q ∙ and_from (get_or members q false) (not (get_or s.unsplit q false)) in' (ap not free) in
      let held = (get_or-image s.targets chosen a.states t split.shape.square.wide).1 (q, on, both.0) in
      base_at t ∙ and_from (get_or m.targets t false) (not (get_or barred t false)) (ap (λ r. get_or r t false) targets_are ∙ held) both.1

  pub reached-by_split : (row : List Bool) → row ≡ marked base (targets_of a (members_of m.unsplit) letter) → IsReached a (members_of members) letter row
  unfolding members_of
  reached-by_split row e =
      let targets = targets_of a (members_of m.unsplit) letter in
      record {
        wide = ap length e ∙ length-marked base targets ∙ base_wide;
        moves = λ t lt.
            ap (λ r. get_or r t false) e
            ∙ get_or-marked base targets t (omega (arith, base_wide))
            ∙ ap (λ b. get_or base t false || b) (holds-targets a letter (members_of m.unsplit) t)
            ∙ same_tests _ _ (λ h. there t lt (or_cases (get_or base t false) _ h)) (λ h. back t lt (any-there (λ q. holds (moves_at a q letter) t) (λ q. get_or members q false) (length members) h));
      }
    where
      there : (t : ℕ) → t < dead_state a → (get_or base t false ≡ true) ⊎ (list_any (λ q. holds (moves_at a q letter) t) (members_of m.unsplit) ≡ true) → list_any (λ q. holds (moves_at a q letter) t) (members_of members) ≡ true
      there t lt (inl split_one) =
          let h = from_split t lt split_one in
          any-from (λ q. holds (moves_at a q letter) t) (λ q. get_or members q false) (length members) h.0 (place_within members h.0 h.1) h.1 h.2
      there t lt (inr unsplit_one) =
          let h = any-there (λ q. holds (moves_at a q letter) t) (λ q. get_or m.unsplit q false) (length m.unsplit) unsplit_one in
          let in' : get_or members h.0 false ≡ true = (and_parts (get_or members h.0 false) (not (get_or chosen h.0 false)) (sym (unsplit_at h.0) ∙ h.2)).0 in
          any-from (λ q. holds (moves_at a q letter) t) (λ q. get_or members q false) (length members) h.0 (place_within members h.0 in') in' h.3

      back : (t : ℕ) → t < dead_state a → (q : ℕ) × (q < length members) × (get_or members q false ≡ true) × (holds (moves_at a q letter) t ≡ true) → (get_or base t false || list_any (λ q. holds (moves_at a q letter) t) (members_of m.unsplit)) ≡ true
      back t lt (q, within, in', e) =
          let here = get_or base t false in
          let others = list_any (λ q. holds (moves_at a q letter) t) (members_of m.unsplit) in
          elim (cases_Bool (get_or s.unsplit q false)) [
            | inr free ↦ or_left here others (to_base t q lt in' free e)
            | inl odd ↦
                let off : get_or chosen q false ≡ false = chosen_at q ∙ ap (λ b. get_or members q false && not b) odd ∙ and_false (get_or members q false) in
                let on : get_or m.unsplit q false ≡ true = unsplit_at q ∙ and_from (get_or members q false) (not (get_or chosen q false)) in' (ap not off) in
                or_right here others (any-from (λ q. holds (moves_at a q letter) t) (λ q. get_or m.unsplit q false) (length m.unsplit) q (place_within m.unsplit q on) on e)
          ]
