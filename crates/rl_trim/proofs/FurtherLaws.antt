-- Further branches with equal ones beside them. Where the branches left out before, and the further ones too, have equal
-- branches beside them, each set pair of the two smaller trees is one set that the whole tree reaches, first without the states
-- of the former and then without those of the latter, numbered anew. So no more set pairs are found than the whole tree reaches
-- sets, and none shows a difference.
use Rattle.std.proofs.Common.{◌≡◌, ◌∙◌, ℕ, ◌<◌, ◌≤◌, List, [], ◌∷◌, ◌++◌, length, get_or, map, filter, slice_get, Option, None, Some, All, Contains, Bool, true, false, not, ◌&&◌, eqb, if◌then◌else◌, refl, sym, ap, ap₂, subst, arith}
use Rattle.std.specs.List.{list_any}
use Rattle.std.proofs.lemmas.Bool.{and_from}
use Rattle.std.proofs.lemmas.List.{length-map, get_or-map, get_or_default}
use Rattle.std.proofs.lemmas.List.Elements.{All-map, All-weaker, All-contains, Contains-append_left}
use Rattle.std.proofs.lemmas.Option.{slice_get-get_or, slice_get_past}
use Rattle.rl_ranges.specs.declared.universe.Universe.{Universe}
use Rattle.rl_ranges.specs.Letters.{classes, class_of}
use Rattle.rl_ranges.specs.Text.{code_count}
use Rattle.rl_ranges.proofs.LetterLemmas.{alike-itself, class_found, class_of-same, class_of-lt, classes-below}
use Rattle.rl_syntax.specs.declared.re.Ending.TheVariants.{AtEnd}
use Rattle.rl_syntax.specs.Tree.{Tree, places, sets_in, guard_sets, guards_in}
use Rattle.rl_prio.specs.Automaton.{Automaton, letters_count, accepting_state}
use Rattle.rl_prio.specs.Items.{Item, test_at, pass, all_hold}
use Rattle.rl_prio.specs.Letters.{all_sets}
use Rattle.rl_prio.specs.States.{state_of, accepting, dead, state_count, test_target, end_target, moves_on, items_of, kind_before, moves_over}
use Rattle.rl_prio.proofs.BuildLemmas.{some_codes}
use Rattle.rl_prio.proofs.LikenessLemmas.{Finer-first, Finer-second, Like, Like-finer, ItemsKnown, all_hold-like, set_of-alike}
use Rattle.rl_sets.specs.Live.{below, holds, image}
use Rattle.rl_equiv.specs.declared.pair.SetPair.{SetPair}
use Rattle.rl_equiv.specs.SetPairs.{joint_sets, image_over, rises, first_pair, differs, set_pairs}
use Rattle.rl_equiv.specs.Numbering.{found_after}
use Rattle.rl_equiv.specs.Bases.{IsBase}
use Rattle.rl_equiv.specs.Languages.{SameLanguage}
use Rattle.rl_equiv.specs.internal.Machines.{all_proper}
use Rattle.rl_equiv.proofs.ClosedLaws.{true-beq}
use Rattle.rl_equiv.proofs.ImageLaws.{length-below, get_or-below, image-over}
use Rattle.rl_equiv.proofs.ReaderLaws.{reads}
use Rattle.rl_equiv.proofs.RiseLaws.{rises-cons, rises-lower, rises-filter}
use Rattle.rl_equiv.proofs.RunLaws.{found-zero, found-extends, found-nexts}
use Rattle.rl_trim.specs.declared.judgement.Judgement.TheVariants.{Equal}
use Rattle.rl_trim.specs.Judged.{IsJudged, IsFound}
use Rattle.rl_trim.specs.Known.{whole_on, whole_pairs}
use Rattle.rl_trim.specs.Twins.{is_kept, AreTwins, HasTwin}
use Rattle.rl_trim.specs.Without.{Without}
use Rattle.rl_trim.specs.internal.Sunk.{sunk, AreSunk}
use Rattle.rl_trim.specs.internal.Trims.{trimmed, set_ends}
use Rattle.rl_trim.proofs.BesideLaws.{items-known, judged-told}
use Rattle.rl_trim.proofs.CoverLaws.{cover_equal}
use Rattle.rl_trim.proofs.LiftLaws.{trimmed-kept, image-sunk, ends-sunk, accepting-sunk}
use Rattle.rl_trim.proofs.OrderLaws.{found-fit, order-all}
use Rattle.rl_trim.proofs.TrimOrder.{all-below, sunk-rise, judged}
use Rattle.rl_trim.proofs.TwinLaws.{whole-pairs-nexts, IsDoubled, start-doubled, image-doubled, image-trimmed, ends-trimmed, twin-found}
use Rattle.rl_trim.proofs.WithoutMoves.{sunk_states}

-- ---- the moves on codes that a tree's sets don't tell apart

like-itself : (sets : List (ℕ → Bool)) (o : Option ℕ) → Like sets o o
like-itself sets None = tt
like-itself sets (Some c) = alike-itself sets c

same-test : (t : Tree) (n q : ℕ) (o p : Option ℕ) → Like (all_sets t) o p → test_target t n q o ≡ test_target t n q p
same-test t n q None None like = refl
same-test t n q None (Some d) like = absurd like
same-test t n q (Some c) None like = absurd like
same-test t n q (Some c) (Some d) like =
    ap₂ (λ (b : Bool) (k : ℕ). if b then state_of t n q k else dead t n)
    (set_of-alike (all_sets t) t 0 q c d (Finer-first (sets_in t) (guard_sets t)) like)
    (class_of-same (guard_sets t) n c d (Finer-second (sets_in t) (guard_sets t) c d like))

same-end : (t : Tree) (n : ℕ) (o p : Option ℕ) → Like (all_sets t) o p → end_target t AtEnd n o ≡ end_target t AtEnd n p
same-end t n None None like = refl
same-end t n None (Some d) like = absurd like
same-end t n (Some c) None like = absurd like
same-end t n (Some c) (Some d) like = refl

moves-like : (t : Tree) (n : ℕ) (before o p : Option ℕ) → Like (all_sets t) o p → (l : List Item) → ItemsKnown (guard_sets t) (places t) l → moves_on t AtEnd n before o l ≡ moves_on t AtEnd n before p l
moves-like t n before o p like [] known = refl
moves-like t n before o p like (test_at gs q ∷ l) known =
    let guards = Like-finer (all_sets t) (guard_sets t) o p (Finer-second (sets_in t) (guard_sets t)) like in
    let hold : all_hold gs before o ≡ all_hold gs before p = all_hold-like (guard_sets t) gs before before o p known.0 (like-itself (guard_sets t) before) guards in
    ap₂ (λ (x y : List ℕ). x ++ y)
    (ap₂ (λ (b : Bool) (k : ℕ). if b then k ∷ [] else []) hold (same-test t n q o p like))
    (moves-like t n before o p like l known.2)
moves-like t n before o p like (pass gs ∷ l) known =
    let guards = Like-finer (all_sets t) (guard_sets t) o p (Finer-second (sets_in t) (guard_sets t)) like in
    let hold : all_hold gs before o ≡ all_hold gs before p = all_hold-like (guard_sets t) gs before before o p known.0 (like-itself (guard_sets t) before) guards in
    ap₂ (λ (x y : List ℕ). x ++ y)
    (ap₂ (λ (b : Bool) (k : ℕ). if b then k ∷ [] else []) hold (same-end t n o p like))
    (moves-like t n before o p like l known.1)

-- ---- letters of other sets

module _ (u : Universe) (t : Tree) (a : Automaton) (base : IsBase u t a) (sets : List (ℕ → Bool)) where
  abbrev n : ℕ
  n = code_count u

  like-image : (letter big : ℕ) → Like (all_sets t) (slice_get (classes sets n) letter) (slice_get (classes (all_sets t) n) big) → (set : List ℕ) → image_over sets t n set letter ≡ image_over (all_sets t) t n set big
  unfolding image_over
  like-image letter big like set =
      let m : (q : ℕ) → moves_over sets t AtEnd n q letter ≡ moves_over (all_sets t) t AtEnd n q big =
      λ q. moves-like t n (kind_before t n q) (slice_get (classes sets n) letter) (slice_get (classes (all_sets t) n) big) like (items_of t n q) (items-known t n q) in
      λ i. filter (λ x. not (eqb x (dead t n)) && list_any (λ q. holds (m q i) x) set) (below (state_count t n))

  own-image : (set : List ℕ) (big : ℕ) → big ≤ letters_count a → image a set big ≡ image_over (all_sets t) t n set big
  own-image set big le = image-over a t (all_sets t) base.stands set big le ∙ ap (λ (m : ℕ). image_over (all_sets t) t m set big) base.codes

  own-count : letters_count a ≡ length (classes (all_sets t) n)
  own-count = base.stands.same_letters.same_count ∙ ap (λ (m : ℕ). length (classes (all_sets t) m)) base.codes

  -- The tree's own letter of the least code of a letter.
  own-letter : (letter : ℕ) → letter < length (classes sets n) → (big : ℕ) × (big < letters_count a) × ((set : List ℕ) → image_over sets t n set letter ≡ image a set big)
  own-letter letter lt =
      let c = get_or (classes sets n) letter 0 in
      let in_codes : c < n = classes-below sets n letter lt in
      let found = class_found (all_sets t) n c in_codes in
      let big = class_of (all_sets t) n c in
      let here : slice_get (classes sets n) letter ≡ Some c = slice_get-get_or (classes sets n) letter 0 lt in
      let like : Like (all_sets t) (slice_get (classes sets n) letter) (slice_get (classes (all_sets t) n) big) =
      subst (λ (o : Option ℕ). Like (all_sets t) o (slice_get (classes (all_sets t) n) big)) (sym here)
      (subst (λ (o : Option ℕ). Like (all_sets t) (Some c) o) (sym found.1) found.2) in
      let small : big < letters_count a = omega (arith, class_of-lt (all_sets t) n c in_codes, own-count) in
      (big, small, λ set. like-image letter big like set ∙ sym (own-image set big (omega arith)))

  own-end : (set : List ℕ) → image_over sets t n set (length (classes sets n)) ≡ image a set (letters_count a)
  own-end set =
      let end = length (classes sets n) in
      let here : slice_get (classes sets n) end ≡ None = slice_get_past (classes sets n) end (omega arith) in
      let there : slice_get (classes (all_sets t) n) (letters_count a) ≡ None = slice_get_past (classes (all_sets t) n) (letters_count a) (omega (arith, own-count)) in
      let like : Like (all_sets t) (slice_get (classes sets n) end) (slice_get (classes (all_sets t) n) (letters_count a)) =
      subst (λ (o : Option ℕ). Like (all_sets t) o (slice_get (classes (all_sets t) n) (letters_count a))) (sym here)
      (subst (λ (o : Option ℕ). Like (all_sets t) None o) (sym there) tt) in
      like-image end (letters_count a) like set ∙ sym (own-image set (letters_count a) (omega arith))

  own-accepting : accepting_state a ≡ accepting t n
  own-accepting =
      let e : accepting_state a ≡ accepting t a.table.codes = omega (arith, base.stands.same_states) in
      e ∙ ap (accepting t) base.codes

  -- ---- one smaller tree

  module _ (s : Tree) (keep : List Bool) (f : ℕ → ℕ) (twins : AreTwins a keep f) (are : AreSunk sets n keep s t) where
    -- The set of the smaller tree.
    abbrev smaller : List ℕ → List ℕ
    smaller set = map (sunk keep) (trimmed keep set)

    smaller-image : (set : List ℕ) (letter big : ℕ) → big ≤ letters_count a → ((x : List ℕ) → image_over sets t n x letter ≡ image a x big) → IsDoubled a f set
        → image_over sets s n (smaller set) letter ≡ smaller (image a set big)
    smaller-image set letter big le same doubled =
        sym (image-sunk sets n keep s t are (trimmed keep set) (trimmed-kept keep set) letter)
        ∙ ap smaller (same (trimmed keep set))
        ∙ ap (map (sunk keep)) (image-trimmed a keep f base.whole twins set big le doubled)

    smaller-ends : (set : List ℕ) → IsDoubled a f set → holds (image_over sets s n (smaller set) (length (classes sets n))) (accepting s n) ≡ set_ends a set
    smaller-ends set doubled =
        sym (ends-sunk sets n keep s t are (trimmed keep set) (trimmed-kept keep set) (length (classes sets n)))
        ∙ ap₂ holds (own-end (trimmed keep set)) (sym own-accepting)
        ∙ ends-trimmed a keep f base.whole twins set doubled

    smaller-proper : (set : List ℕ) → all_proper a set ≡ true → rises 0 (accepting s n) (smaller set) ≡ true
    smaller-proper set proper =
        let left = rises-filter (is_kept keep) 0 (accepting_state a) set proper in
        let rising : rises 0 (accepting t n) (trimmed keep set) ≡ true = subst (λ (k : ℕ). rises 0 k (trimmed keep set) ≡ true) own-accepting left in
        let under : sunk keep (accepting t n) ≡ accepting s n = accepting-sunk sets n keep s t are in
        rises-lower 0 (sunk keep 0) (accepting s n) (smaller set) (omega arith)
        (subst (λ (k : ℕ). rises (sunk keep 0) k (smaller set) ≡ true) under (sunk-rise keep 0 (accepting t n) (trimmed keep set) (trimmed-kept keep set) rising))

-- ---- both smaller trees

-- The pair of the sets of both smaller trees.
abbrev both_smaller : List Bool → List Bool → SetPair → SetPair
both_smaller dropped keep w = record { first = map (sunk dropped) (trimmed dropped w.first); second = map (sunk keep) (trimmed keep w.first) }

-- The set has, with each state, what stands in for it where either branches are left out, and it rises.
record Fits (a : Automaton) (f g : ℕ → ℕ) (w : SetPair) : Type 0 where
  pub first_doubled : IsDoubled a f w.first
  pub second_doubled : IsDoubled a g w.first
  pub proper : all_proper a w.first ≡ true

module _ (u : Universe) (a : Automaton) (r s t : Tree) (dropped keep : List Bool) (f g : ℕ → ℕ) (base : IsBase u t a) (first : AreTwins a dropped f) (second : AreTwins a keep g)
    (first_are : AreSunk (joint_sets s r) (code_count u) dropped s t) (second_are : AreSunk (joint_sets s r) (code_count u) keep r t) where
  start-fits : Fits a f g first_pair
  start-fits = record {
    first_doubled = start-doubled a dropped f base.whole first;
    second_doubled = start-doubled a keep g base.whole second;
    proper = rises-cons 0 (accepting_state a) 0 [] (omega arith) (omega (arith, base.whole.three_states)) refl;
  }

  next-fits : (w : SetPair) → Fits a f g w → (letter : ℕ) → letter < letters_count a → Fits a f g (whole_on a w letter)
  next-fits w fits letter lt = record {
    first_doubled = image-doubled a dropped f base.whole first w.first letter (omega arith) fits.first_doubled;
    second_doubled = image-doubled a keep g base.whole second w.first letter (omega arith) fits.second_doubled;
    proper = (reads a t (all_sets t) base.whole base.stands).on_letters w.first letter lt;
  }

  nexts-fit : (w : SetPair) → Fits a f g w → All (Fits a f g) ((whole_pairs a).nexts w)
  nexts-fit w fits =
      subst (All (Fits a f g)) (sym (whole-pairs-nexts a w))
      (All-map (Fits a f g) (whole_on a w) (below (letters_count a)) (all-below (λ l. Fits a f g (whole_on a w l)) (letters_count a) (next-fits w fits)))

  calm : (w : SetPair) → Fits a f g w → differs (set_pairs u s r) (both_smaller dropped keep w) ≡ false
  unfolding set_pairs
  calm w fits =
      let sets = joint_sets s r in
      let x = smaller-ends u t a base sets s dropped f first first_are w.first fits.first_doubled in
      let y = smaller-ends u t a base sets r keep g second second_are w.first fits.second_doubled in
      ap not (true-beq _ _ (x ∙ sym y))

  proper-both : (w : SetPair) → Fits a f g w → (set_pairs u s r).proper (both_smaller dropped keep w) ≡ true
  unfolding set_pairs
  proper-both w fits =
      let sets = joint_sets s r in
      and_from (rises 0 (accepting s (code_count u)) (map (sunk dropped) (trimmed dropped w.first))) (rises 0 (accepting r (code_count u)) (map (sunk keep) (trimmed keep w.first)))
      (smaller-proper u t a base sets s dropped f first first_are w.first fits.proper)
      (smaller-proper u t a base sets r keep g second second_are w.first fits.proper)

  -- The next pairs are those of the next sets.
  nexts-both : (cover : List SetPair) (w : SetPair) → Fits a f g w → ((letter : ℕ) → letter < letters_count a → Contains cover (both_smaller dropped keep (whole_on a w letter)))
      → All (Contains cover) ((set_pairs u s r).nexts (both_smaller dropped keep w))
  unfolding set_pairs
  nexts-both cover w fits in' =
      let sets = joint_sets s r in
      let n = code_count u in
      let p = both_smaller dropped keep w in
      let next : ℕ → SetPair = λ l. record { first = image_over sets s n p.first l; second = image_over sets r n p.second l } in
      All-map (Contains cover) next (below (length (classes sets n)))
      (all-below (λ l. Contains cover (next l)) (length (classes sets n)) (λ l lt.
      let big = own-letter u t a base sets l lt in
      let x = smaller-image u t a base sets s dropped f first first_are w.first l big.0 (omega (arith, big.1)) big.2 fits.first_doubled in
      let y = smaller-image u t a base sets r keep g second second_are w.first l big.0 (omega (arith, big.1)) big.2 fits.second_doubled in
      let e : both_smaller dropped keep (whole_on a w big.0) ≡ next l = λ i. record { first = sym x i; second = sym y i } in
      subst (Contains cover) e (in' big.0 big.1)))

  module _ (limit : ℕ) (few : length (found_after (whole_pairs a) limit) ≤ limit) where
    abbrev found : List SetPair
    found = found_after (whole_pairs a) limit

    abbrev both : SetPair → SetPair
    both = both_smaller dropped keep

    abbrev cover : List SetPair
    cover = map both found

    fit : All (Fits a f g) found
    fit = found-fit (whole_pairs a) (Fits a f g) start-fits nexts-fit limit

    in-cover : (w : SetPair) → Contains found w → Contains cover (both w)
    in-cover w c = (c.0, omega (arith, c.1, length-map found both), get_or-map both found c.0 w (both w) c.1 ∙ ap both c.2)

    first-in : Contains cover first_pair
    first-in =
        let x = found-extends (whole_pairs a) 0 limit (omega arith) in
        let whole : found ≡ (first_pair ∷ []) ++ x.0 = x.1 ∙ ap (λ (l : List SetPair). l ++ x.0) (found-zero (whole_pairs a)) in
        in-cover first_pair (subst (λ (l : List SetPair). Contains l first_pair) (sym whole) (Contains-append_left (first_pair ∷ []) x.0 first_pair (0, omega arith, refl)))

    next-in : (k : ℕ) (x : SetPair) → k < length found → (letter : ℕ) → letter < letters_count a → Contains found (whole_on a (get_or found k x) letter)
    next-in k x lt letter small =
        let w = get_or found k x in
        let nexts = subst (λ (p : SetPair). All (Contains found) ((whole_pairs a).nexts p)) (get_or_default found k first_pair x lt) (found-nexts (whole_pairs a) found limit k refl lt few) in
        let each : All (Contains found) (map (whole_on a w) (below (letters_count a))) = subst (All (Contains found)) (whole-pairs-nexts a w) nexts in
        subst (Contains found) (get_or-below (whole_on a w) (letters_count a) letter first_pair small)
        (each letter first_pair (omega (arith, length-map (below (letters_count a)) (whole_on a w), length-below (letters_count a))))

    covered : All (λ p. (differs (set_pairs u s r) p ≡ false) × All (Contains cover) ((set_pairs u s r).nexts p)) cover
    covered =
        All-map (λ p. (differs (set_pairs u s r) p ≡ false) × All (Contains cover) ((set_pairs u s r).nexts p)) both found (λ k x lt. (
          calm (get_or found k x) (fit k x lt),
          nexts-both cover (get_or found k x) (fit k x lt) (λ letter small. in-cover (whole_on a (get_or found k x) letter) (next-in k x lt letter small)),
        ))

    both-found : IsFound (set_pairs u s r) limit Equal
    both-found = cover_equal (set_pairs u s r) limit cover (omega (arith, few, length-map found both)) first-in covered

    both-proper : All (λ p. (set_pairs u s r).proper p ≡ true) (found_after (set_pairs u s r) limit)
    both-proper =
        let d = set_pairs u s r in
        let in' : All (Contains cover) (found_after d limit) =
        found-fit d (Contains cover) first-in (λ p c. (All-contains (λ q. (differs d q ≡ false) × All (Contains cover) (d.nexts q)) cover p covered c).1) limit in
        let each : All (λ p. d.proper p ≡ true) cover = All-map (λ p. d.proper p ≡ true) both found (λ k x lt. proper-both (get_or found k x) (fit k x lt)) in
        All-weaker (Contains cover) (λ p. d.proper p ≡ true) (λ p c. All-contains (λ q. d.proper q ≡ true) cover p each c) (found_after d limit) in'

    both-judged : IsJudged (set_pairs u s r) limit Equal
    both-judged = (found_after (set_pairs u s r) limit, order-all (set_pairs u s r) limit both-found.0 both-proper both-found.1)

-- ---- what was found of the whole tree

pub further-judged : (u : Universe) (a : Automaton) (r s t : Tree) (dropped keep : List Bool) (limit : ℕ) → IsBase u t a → guards_in t ≡ [] → Without dropped s t → Without keep r t
    → HasTwin a dropped → HasTwin a keep → IsFound (whole_pairs a) limit Equal → IsJudged (set_pairs u s r) limit Equal
further-judged u a r s t dropped keep limit base unguarded without_first without_second first second found =
    let sets = joint_sets s r in
    both-judged u a r s t dropped keep first.stands_in second.stands_in base first.are second.are
    (sunk_states sets (code_count u) (some_codes u) unguarded without_first) (sunk_states sets (code_count u) (some_codes u) unguarded without_second) limit found.0

-- Each smaller tree spans what the whole one does.
one-told : (u : Universe) (a : Automaton) (s t : Tree) (keep : List Bool) (limit : ℕ) → IsBase u t a → guards_in t ≡ [] → Without keep s t → HasTwin a keep → IsFound (whole_pairs a) limit Equal
    → SameLanguage u t s
one-told u a s t keep limit base unguarded without has found =
    judged-told u a s t keep limit Equal base without (judged u a s t keep limit Equal base unguarded without (twin-found a keep limit Equal has found))

pub further-told : (u : Universe) (a : Automaton) (r s t : Tree) (dropped keep : List Bool) (limit : ℕ) → IsBase u t a → guards_in t ≡ [] → Without dropped s t → Without keep r t
    → HasTwin a dropped → HasTwin a keep → IsFound (whole_pairs a) limit Equal → SameLanguage u s r
further-told u a r s t dropped keep limit base unguarded without_first without_second first second found w text =
    let x = one-told u a s t dropped limit base unguarded without_first first found w text in
    let y = one-told u a r t keep limit base unguarded without_second second found w text in
    (λ i. y.0 (x.1 i), λ i. x.0 (y.1 i))
