-- A tree that tells no more codes apart than another one has an automaton over the letters of that one's automaton. So a closed
-- relation of their set pairs keeps their languages equal, though no such automaton was built.
use Rattle.std.proofs.Common.{◌≡◌, ◌∙◌, ℕ, zero, suc, ◌+◌, ◌*◌, ◌/◌, ◌%◌, ◌<◌, ◌≤◌, Bool, true, false, ◌&&◌, List, [], ◌∷◌, length, map, slice_get, get_or, slice_index_or, Option, None, Some, All, if◌then◌else◌, refl, sym, ap, ap₂, subst, arith}
use Rattle.std.proofs.lemmas.Bool.{cond_both}
use Rattle.std.proofs.lemmas.List.{length-map}
use Rattle.std.proofs.lemmas.List.Elements.{All-nil, All-cons, All-append}
use Rattle.std.proofs.lemmas.Nat.{mul-add-lt, div-mul-add, mod-mul-add}
use Rattle.std.proofs.lemmas.Option.{slice_get_within, get_or_from_slice_get}
use Rattle.rl_ranges.specs.declared.universe.Universe.{Universe}
use Rattle.rl_ranges.specs.Letters.{alike, classes}
use Rattle.rl_ranges.specs.Text.{code_count}
use Rattle.rl_ranges.proofs.LetterLemmas.{alike-append, class_of-lt, classes-below}
use Rattle.rl_syntax.specs.declared.re.Ending.TheVariants.{AtEnd}
use Rattle.rl_syntax.specs.Tree.{Tree, places, guard_sets}
use Rattle.rl_prio.specs.Items.{Item, test_at, pass, after, set_of, all_hold}
use Rattle.rl_prio.specs.Letters.{all_sets, kinds, kind_of}
use Rattle.rl_prio.specs.States.{state_of, accepting, dead, state_count, test_target, end_target, ends_here, moves_on, items_of, kind_before, moves_over}
use Rattle.rl_prio.specs.Automaton.{Automaton, IsAutomaton, letters_count, accepting_state, dead_state}
use Rattle.rl_prio.specs.StandsFor.{StandsOver}
use Rattle.rl_prio.proofs.AutomatonLemmas.{moves_at-inside, automaton_of}
use Rattle.rl_prio.proofs.LikenessLemmas.{Finer-itself, ItemsKnown, first-known, after-known}
use Rattle.rl_prio.proofs.WholeLemmas.{no_accepting_moves, no_dead_moves}
use Rattle.rl_sets.specs.Live.{below}
use Rattle.rl_equiv.specs.Bases.{DistinguishesNoMore, IsBase}
use Rattle.rl_equiv.specs.Joined.{StandTogether}
use Rattle.rl_equiv.specs.Languages.{SameLanguage}
use Rattle.rl_equiv.specs.declared.pair.SetPair.{SetPair}
use Rattle.rl_equiv.specs.SetPairs.{joint_sets, set_pairs, IsClosed}
use Rattle.rl_equiv.proofs.ClosedLaws.{closed-same}
use Rattle.rl_trim.specs.declared.judgement.Judgement.{Judgement}
use Rattle.rl_trim.specs.declared.judgement.Judgement.TheVariants.{Equal, Apart, Exceeded}
use Rattle.rl_trim.specs.Judged.{IsJudged, IsTrueJudgement}
use Rattle.rl_trim.specs.Without.{Without}
use Rattle.rl_trim.proofs.WithoutMoves.{without_tells}
use Rattle.rl_equiv.proofs.ImageLaws.{length-below, get_or-below}
use Rattle.rl_equiv.proofs.BaseLaws.{same-stands}

-- ---- moves lead to states

module _ (t : Tree) (n : ℕ) where
  place-below : (p c : ℕ) → c < n → p < places t → state_of t n p (kind_of t n c) < state_count t n
  place-below p c in_codes in_places =
      omega (arith, mul-add-lt p (length (kinds t n)) (kind_of t n c) (places t) in_places (class_of-lt (guard_sets t) n c in_codes))

  test-below : (p : ℕ) (next : Option ℕ) → ((c : ℕ) → next ≡ Some c → c < n) → p < places t → test_target t n p next < state_count t n
  test-below p None codes in_places = omega arith
  test-below p (Some c) codes in_places =
      cond_both (set_of t 0 p c) (state_of t n p (kind_of t n c)) (dead t n) (λ q. q < state_count t n) (λ _. place-below p c (codes c refl) in_places) (λ _. omega arith)

  pass-below : (next : Option ℕ) → end_target t AtEnd n next < state_count t n
  pass-below next = cond_both (ends_here AtEnd next) (accepting t n) (dead t n) (λ q. q < state_count t n) (λ _. omega arith) (λ _. omega arith)

  abbrev AreBelow : List ℕ → Type 0
  AreBelow l = All (λ q. q < state_count t n) l

  one-below : (b : Bool) (q : ℕ) → q < state_count t n → AreBelow (if b then q ∷ [] else [])
  one-below b q lt = cond_both b (q ∷ []) [] AreBelow (λ _. All-cons (λ r. r < state_count t n) q [] lt (All-nil (λ r. r < state_count t n))) (λ _. All-nil (λ r. r < state_count t n))

  moves-below : (before next : Option ℕ) → ((c : ℕ) → next ≡ Some c → c < n) → (l : List Item) → ItemsKnown (guard_sets t) (places t) l → AreBelow (moves_on t AtEnd n before next l)
  moves-below before next codes [] known = All-nil (λ q. q < state_count t n)
  moves-below before next codes (test_at gs p ∷ l) known =
      All-append (λ q. q < state_count t n) (if all_hold gs before next then test_target t n p next ∷ [] else []) (moves_on t AtEnd n before next l)
      (one-below (all_hold gs before next) (test_target t n p next) (test-below p next codes known.1)) (moves-below before next codes l known.2)
  moves-below before next codes (pass gs ∷ l) known =
      All-append (λ q. q < state_count t n) (if all_hold gs before next then end_target t AtEnd n next ∷ [] else []) (moves_on t AtEnd n before next l)
      (one-below (all_hold gs before next) (end_target t AtEnd n next) (pass-below next)) (moves-below before next codes l known.1)

  pub items-known : (q : ℕ) → ItemsKnown (guard_sets t) (places t) (items_of t n q)
  items-known zero = first-known (guard_sets t) (places t) t 0 (omega arith) (Finer-itself (guard_sets t))
  items-known (suc r) =
      cond_both _ (after t 0 (r / length (kinds t n))) [] (ItemsKnown (guard_sets t) (places t))
      (λ _. after-known (guard_sets t) (places t) t 0 (r / length (kinds t n)) (omega arith) (Finer-itself (guard_sets t))) (λ _. tt)

  over-below : (sets : List (ℕ → Bool)) (q letter : ℕ) → AreBelow (moves_over sets t AtEnd n q letter)
  over-below sets q letter =
      moves-below (kind_before t n q) (slice_get (classes sets n) letter)
      (λ c e.
      let lt = slice_get_within (classes sets n) letter c e in
      let is : get_or (classes sets n) letter 0 ≡ c = get_or_from_slice_get (classes sets n) letter c 0 e in
      subst (λ (k : ℕ). k < n) is (classes-below sets n letter lt))
      (items_of t n q) (items-known q)

-- ---- the automaton of the other tree

module _ (u : Universe) (a : Automaton) (s t : Tree) (base : IsBase u t a) (fewer : DistinguishesNoMore t s) where
  abbrev n : ℕ
  n = code_count u

  abbrev width : ℕ
  width = suc (letters_count a)

  alike-both : (c d : ℕ) → alike (all_sets t) c d ≡ alike (joint_sets t s) c d
  alike-both c d = sym (alike-append (all_sets t) (all_sets s) c d ∙ by (alike (all_sets t) c d) refl)
    where
      by : (b : Bool) → alike (all_sets t) c d ≡ b → (alike (all_sets t) c d && alike (all_sets s) c d) ≡ alike (all_sets t) c d
      by true e = ap (λ x. x && alike (all_sets s) c d) e ∙ fewer c d e ∙ sym e
      by false e = ap (λ x. x && alike (all_sets s) c d) e ∙ sym e

  first-stands : StandsOver a t AtEnd (joint_sets t s)
  first-stands = same-stands (all_sets t) (joint_sets t s) alike-both a t AtEnd base.stands

  abbrev row : ℕ → List ℕ
  row i = moves_over (joint_sets t s) s AtEnd n (i / width) (i % width)

  abbrev pub other : Automaton
  other = record { table = a.table; states = state_count s n; rows = map row (below (state_count s n * width)) }

  row-at : (q letter : ℕ) → q < state_count s n → letter ≤ letters_count a → slice_index_or other.rows (q * width + letter) [] ≡ moves_over (joint_sets t s) s AtEnd n q letter
  row-at q letter lt le =
      get_or-below row (state_count s n * width) (q * width + letter) [] (omega (arith, mul-add-lt q width letter (state_count s n) lt (omega arith)))
      ∙ ap₂ (moves_over (joint_sets t s) s AtEnd n) (div-mul-add q width letter (omega arith)) (mod-mul-add q width letter (omega arith))

  other-stands : StandsOver other s AtEnd (joint_sets t s)
  other-stands = record {
    same_letters = first-stands.same_letters;
    same_states = ap (state_count s) (sym base.codes);
    same_moves = λ q letter lt le. moves_at-inside other q letter lt le ∙ row-at q letter lt le ∙ ap (λ (m : ℕ). moves_over (joint_sets t s) s AtEnd m q letter) (sym base.codes);
  }

  other-whole : IsAutomaton other
  other-whole =
      automaton_of other (omega arith) (length-map (below (state_count s n * width)) row ∙ length-below (state_count s n * width))
      (λ q letter lt le. subst (All (λ target. target < state_count s n)) (sym (row-at q letter lt le)) (over-below s n (joint_sets t s) q letter))
      (λ letter le. sym (moves_at-inside other (accepting_state other) letter (omega arith) le) ∙ no_accepting_moves other s AtEnd (joint_sets t s) other-stands letter)
      (λ letter le. sym (moves_at-inside other (dead_state other) letter (omega arith) le) ∙ no_dead_moves other s AtEnd (joint_sets t s) other-stands letter)

  pub stand-beside : StandTogether u t s a other
  stand-beside = record {
    first_stands = first-stands;
    second_stands = other-stands;
    first_codes = base.codes;
    second_codes = base.codes;
    first_whole = base.whole;
    second_whole = other-whole;
  }

-- A closed relation of the set pairs keeps the languages equal.
pub same-language : (u : Universe) (a : Automaton) (s t : Tree) (relation : List SetPair) → IsBase u t a → DistinguishesNoMore t s → IsClosed (set_pairs u t s) relation → SameLanguage u t s
same-language u a s t relation base fewer closed = closed-same u t s a (other u a s t base fewer) relation (stand-beside u a s t base fewer) closed

-- What a judgement tells of the languages.
pub judged-told : (u : Universe) (a : Automaton) (s t : Tree) (keep : List Bool) (limit : ℕ) (j : Judgement) → IsBase u t a → Without keep s t → IsJudged (set_pairs u t s) limit j → IsTrueJudgement u t s j
judged-told u a s t keep limit Equal base without h = same-language u a s t h.0 base (without_tells without) h.1.closed
judged-told u a s t keep limit Apart base without h = tt
judged-told u a s t keep limit Exceeded base without h = tt
