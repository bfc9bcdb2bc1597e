-- Laws of letters on which states move otherwise than on the letter before.
use Rattle.std.proofs.Common.{◌≡◌, ◌∙◌, ℕ, suc, ◌<◌, List, [], length, get_or, All, Bool, false, not, ◌&&◌, eqb, sym, ap, subst}
use Rattle.std.specs.List.{list_any}
use Rattle.std.proofs.lemmas.Bool.{both_ways, or_left, or_right, false_from_ne_true}
use Rattle.std.proofs.lemmas.List.Elements.{All-weaker}
use Rattle.std.proofs.lemmas.List.Folds.{list_any_at}
use Rattle.rl_lanes.specs.Rows.{list_or}
use Rattle.rl_lanes.proofs.RowLemmas.{get_or-list_or}
use Rattle.rl_prio.specs.Automaton.{Automaton, letters_count, dead_state, moves_at}
use Rattle.rl_sets.specs.Live.{holds, image}
use Rattle.rl_sets.specs.Walk.{Walk, set_at, IsMadeFor}
use Rattle.rl_sets.proofs.SetLemmas.{filter_same}
use Rattle.rl_trim.proofs.SetLaws.{holds-member, member-small}
use Rattle.rl_trim.proofs.EndLaws.{any-alike}
use Rattle.rl_equiv.specs.declared.pair.SetPair.{SetPair}
use Rattle.rl_trim.specs.internal.Trims.{trimmed, trim_on}
use Rattle.rl_trim.specs.Changes.{IsWide, IsSame, AreRows}
use Rattle.rl_trim.specs.internal.Changing.{IsSameOn}

-- ---- the table of all states

-- What holds of the table while the changes of the state `state` are marked; the letters below `letter` were looked at.
pub record IsMarking (a : Automaton) (state letter : ℕ) (rows : List (List Bool)) : Type 0 where
  pub high : length rows ≡ a.states
  pub wide : All (IsWide a) rows
  pub before : (q : ℕ) → q < state → IsSame a (get_or rows q []) q
  pub same : (l : ℕ) → suc l < letter → get_or (get_or rows state []) (suc l) false ≡ false → moves_at a state l ≡ moves_at a state (suc l)

-- ---- the row of a set

-- A letter that is no change of the set is none of each member.
pub union-same : (a : Automaton) (w : Walk) (n : ℕ) (rows : List (List Bool)) (row : List Bool) → IsMadeFor w a → n < length w.sets → AreRows a a.states rows
    → ((k : ℕ) → k < letters_count a → get_or row k false ≡ list_any (λ q. get_or (get_or rows q []) k false) (set_at w n)) → IsSameOn a row (set_at w n)
union-same a w n rows row made lt r union i d small l less none =
    let q = get_or (set_at w n) i d in
    let marks = λ (p : ℕ). get_or (get_or rows p []) (suc l) false in
    let low : q < a.states = member-small a (set_at w n) (made.sets n lt) q (holds-member (set_at w n) i d small) in
    r.same q low l less (false_from_ne_true (marks q) (λ h. both_ways (list_any marks (set_at w n)) (sym (union (suc l) less) ∙ none) (list_any_at marks (set_at w n) i d small h)))

joined-less : (row added : List Bool) → length row ≡ length added → (k : ℕ) → get_or (list_or row added) k false ≡ false → (get_or row k false ≡ false) × (get_or added k false ≡ false)
joined-less row added e k none = (
  false_from_ne_true (get_or row k false) (λ h. both_ways (get_or (list_or row added) k false) none (get_or-list_or row added k e ∙ or_left (get_or row k false) (get_or added k false) h)),
  false_from_ne_true (get_or added k false) (λ h. both_ways (get_or (list_or row added) k false) none (get_or-list_or row added k e ∙ or_right (get_or row k false) (get_or added k false) h)),
)

-- Two rows joined.
pub joined-first : (a : Automaton) (row added both : List Bool) (set : List ℕ) → length row ≡ length added → both ≡ list_or row added → IsSameOn a row set → IsSameOn a both set
joined-first a row added both set alike e same = subst (λ (r : List Bool). IsSameOn a r set) (sym e) (λ i d small l less none. same i d small l less (joined-less row added alike (suc l) none).0)

pub joined-second : (a : Automaton) (row added both : List Bool) (set : List ℕ) → length row ≡ length added → both ≡ list_or row added → IsSameOn a added set → IsSameOn a both set
joined-second a row added both set alike e same = subst (λ (r : List Bool). IsSameOn a r set) (sym e) (λ i d small l less none. same i d small l less (joined-less row added alike (suc l) none).1)

-- ---- images on letters on which the members move alike

image-alike : (a : Automaton) (set : List ℕ) (l : ℕ) → All (λ q. moves_at a q l ≡ moves_at a q (suc l)) set → image a set l ≡ image a set (suc l)
unfolding image
image-alike a set l same =
    filter_same (λ t. not (eqb t (dead_state a)) && list_any (λ q. holds (moves_at a q l) t) set) (λ t. not (eqb t (dead_state a)) && list_any (λ q. holds (moves_at a q (suc l)) t) set) a.states
    (λ t lt. ap (λ b. not (eqb t (dead_state a)) && b)
    (any-alike (λ q. holds (moves_at a q l) t) (λ q. holds (moves_at a q (suc l)) t) set (All-weaker (λ q. moves_at a q l ≡ moves_at a q (suc l)) (λ q. holds (moves_at a q l) t ≡ holds (moves_at a q (suc l)) t) (λ q e. ap (λ (ms : List ℕ). holds ms t) e) set same)))

image-same : (a : Automaton) (row : List Bool) (set : List ℕ) (l : ℕ) → suc l < letters_count a → get_or row (suc l) false ≡ false → IsSameOn a row set → image a set l ≡ image a set (suc l)
image-same a row set l small none h = image-alike a set l (All-weaker (IsSame a row) (λ q. moves_at a q l ≡ moves_at a q (suc l)) (λ q each. each l small none) set h)

-- The next pair is that of the letter before.
pub next-alike : (a : Automaton) (keep row : List Bool) (p : SetPair) (l : ℕ) → suc l < letters_count a → get_or row (suc l) false ≡ false → IsSameOn a row p.first → IsSameOn a row p.second
    → trim_on a keep p l ≡ trim_on a keep p (suc l)
next-alike a keep row p l small none one two =
    let e = image-same a row p.first l small none one in
    let f = image-same a row p.second l small none two in
    λ i. record { first = e i; second = trimmed keep (f i) }
