-- If the sets of a second tree tell no more codes apart, the letters of both trees are those of the first tree by
-- itself.
use Rattle.std.proofs.Common.{◌≡◌, ◌∙◌, ◌⊎◌, inl, inr, ℕ, ◌<◌, ◌≤◌, Bool, true, false, ◌&&◌, List, length, Some, slice_get, refl, sym, ap, subst, arith}
use Rattle.rl_ranges.specs.declared.universe.Universe.{Universe}
use Rattle.rl_ranges.specs.Letters.{alike, classes, class_of, place_where, LetterTable, IsLetters, IsPlain, IsSample}
use Rattle.rl_ranges.specs.Numbering.{firsts}
use Rattle.rl_ranges.specs.Text.{code_count}
use Rattle.rl_ranges.proofs.LetterLemmas.{alike-append, classes-firsts, class_of-place}
use Rattle.rl_ranges.specs.declared.letters.TheConstants.{MOST_LETTERS}
use Rattle.rl_syntax.specs.declared.re.Ending.{Ending}
use Rattle.rl_syntax.specs.declared.re.Ending.TheVariants.{AtEnd}
use Rattle.rl_syntax.specs.Tree.{Tree}
use Rattle.rl_syntax.specs.declared.limits.TheConstants.{MOST_MOVES}
use Rattle.rl_prio.specs.Automaton.{Automaton, IsAutomaton, letters_count}
use Rattle.rl_prio.specs.Items.{longest}
use Rattle.rl_prio.specs.Letters.{all_sets}
use Rattle.rl_prio.specs.StandsFor.{StandsOver}
use Rattle.rl_prio.specs.States.{moves_before}
use Rattle.rl_prio.specs.declared.error.PrioError.{PrioError}
use Rattle.rl_prio.specs.declared.error.PrioError.TheVariants.{Letters, Moves, OutOfMemory}
use Rattle.rl_prio.proofs.LikenessLemmas.{Finer-second}
use Rattle.rl_equiv.specs.SetPairs.{joint_sets, joint_letters}
use Rattle.rl_equiv.specs.Bases.{DistinguishesNoMore, IsBase}
use Rattle.rl_equiv.specs.Joined.{StandTogether}
use Rattle.rl_equiv.specs.Limits.{AreSmall, AreWithin, IsExceeded, same_error}

-- Two lists of sets that tell the same codes apart.
module _ (xs ys : List (ℕ → Bool)) (f : (c d : ℕ) → alike xs c d ≡ alike ys c d) where
  same-alike : alike xs ≡ alike ys
  same-alike = λ i c d. f c d i

  pub same-classes : (n : ℕ) → classes xs n ≡ classes ys n
  same-classes n = classes-firsts xs n ∙ ap (λ (like : ℕ → ℕ → Bool). firsts like n) same-alike ∙ sym (classes-firsts ys n)

  same-class : (n c : ℕ) → class_of xs n c ≡ class_of ys n c
  same-class n c = class_of-place xs n c ∙ ap (λ (like : ℕ → ℕ → Bool). place_where (like c) (firsts like n)) same-alike ∙ sym (class_of-place ys n c)

  same-sample : (n l code : ℕ) → IsSample xs n l code → IsSample ys n l code
  same-sample n l code h = record {
    within = h.within;
    in_it = sym (same-class n code) ∙ h.in_it;
    least = λ d lt e. h.least d lt (same-class n d ∙ e);
    plain = by h.plain;
  }
    where
      by : (IsPlain code ⊎ ((slice_get (classes xs n) l ≡ Some code) × ((d : ℕ) → d < n → class_of xs n d ≡ l → IsPlain d → ⊥)))
          → (IsPlain code ⊎ ((slice_get (classes ys n) l ≡ Some code) × ((d : ℕ) → d < n → class_of ys n d ≡ l → IsPlain d → ⊥)))
      by (inl p) = inl p
      by (inr m) = inr (ap (λ (least : List ℕ). slice_get least l) (sym (same-classes n)) ∙ m.0, λ d lt e. m.1 d lt (same-class n d ∙ e))

  pub same-letters : (table : LetterTable) (n : ℕ) → IsLetters table xs n → IsLetters table ys n
  same-letters table n h = record {
    same_codes = h.same_codes;
    same_count = h.same_count ∙ ap length (same-classes n);
    same_letter = λ c lt. h.same_letter c lt ∙ same-class n c;
    same_sample = λ l lt. same-sample n l _ (h.same_sample l lt);
  }

  pub same-stands : (a : Automaton) (t : Tree) (ending : Ending) → StandsOver a t ending xs → StandsOver a t ending ys
  same-stands a t ending h = record {
    same_letters = same-letters a.table a.table.codes h.same_letters;
    same_states = h.same_states;
    same_moves = λ q letter q_in l_in. h.same_moves q letter q_in l_in ∙ ap (λ (least : List ℕ). moves_before t ending a.table.codes q (slice_get least letter)) (same-classes a.table.codes);
  }

-- An automaton with the letters of another one stands for the tree over those letters, whichever sets have told them
-- apart.
abbrev pub OverAny : Universe → Tree → Automaton → Automaton → Type 0
OverAny u t a b = (sets : List (ℕ → Bool)) → IsLetters a.table sets (code_count u) → ((c d : ℕ) → alike sets c d ≡ true → alike (all_sets t) c d ≡ true) → StandsOver b t AtEnd sets

-- What the error of the first automaton says about both trees.
pub first-exceeded : (u : Universe) (s t : Tree) (sets : List (ℕ → Bool)) → sets ≡ joint_sets s t → AreSmall s t → (e : PrioError) → (e ≡ Letters → MOST_LETTERS < length (classes sets (code_count u)))
    → (e ≡ Moves → (length (classes sets (code_count u)) ≤ MOST_LETTERS) × (MOST_MOVES < longest s)) → IsExceeded u s t (same_error e)
first-exceeded u s t sets same small Letters letters moves = (small, subst (λ (l : List (ℕ → Bool)). MOST_LETTERS < length (classes l (code_count u))) same (letters refl))
first-exceeded u s t sets same small Moves letters moves =
    (small, subst (λ (l : List (ℕ → Bool)). length (classes l (code_count u)) ≤ MOST_LETTERS) same (moves refl).0, inl (moves refl).1)
first-exceeded u s t sets same small OutOfMemory letters moves = tt

-- What the error of the second automaton says about both trees.
pub second-exceeded : (u : Universe) (s t : Tree) → AreSmall s t → length (joint_letters u s t) ≤ MOST_LETTERS → (e : PrioError) → (e ≡ Moves → MOST_MOVES < longest t) → (e ≡ Letters → ⊥) → IsExceeded u s t (same_error e)
second-exceeded u s t small few Letters moves none = absurd (none refl)
second-exceeded u s t small few Moves moves none = (small, few, inr (moves refl))
second-exceeded u s t small few OutOfMemory moves none = tt

-- The first automaton is built over the sets of both trees.
module _ (u : Universe) (s t : Tree) (sets : List (ℕ → Bool)) (same : sets ≡ joint_sets s t) (a : Automaton) (over : StandsOver a s AtEnd sets) (codes : a.table.codes ≡ code_count u) where
  first-stands : StandsOver a s AtEnd (joint_sets s t)
  first-stands = subst (StandsOver a s AtEnd) same over

  pub first-letters : IsLetters a.table (joint_sets s t) (code_count u)
  first-letters = subst (IsLetters a.table (joint_sets s t)) codes first-stands.same_letters

  pub joint-few : length (classes sets (code_count u)) ≤ MOST_LETTERS → length (joint_letters u s t) ≤ MOST_LETTERS
  joint-few few = subst (λ (l : List (ℕ → Bool)). length (classes l (code_count u)) ≤ MOST_LETTERS) same few

  pub count-few : length (classes sets (code_count u)) ≤ MOST_LETTERS → letters_count a ≤ MOST_LETTERS
  count-few few = omega (arith, first-letters.same_count, joint-few few)

  pub joint-together : (b : Automaton) → IsAutomaton a → IsAutomaton b → b.table ≡ a.table → OverAny u t a b → StandTogether u s t a b
  joint-together b first_whole second_whole table beside = record {
    first_stands = first-stands;
    second_stands = beside (joint_sets s t) first-letters (Finer-second (all_sets s) (all_sets t));
    first_codes = codes;
    second_codes = ap (λ (l : LetterTable). l.codes) table ∙ codes;
    first_whole = first_whole;
    second_whole = second_whole;
  }

module _ (u : Universe) (s t : Tree) (no : DistinguishesNoMore s t) where
  joint-alike : (c d : ℕ) → alike (joint_sets s t) c d ≡ alike (all_sets s) c d
  joint-alike c d = alike-append (all_sets s) (all_sets t) c d ∙ by (alike (all_sets s) c d) refl
    where
      by : (b : Bool) → alike (all_sets s) c d ≡ b → (alike (all_sets s) c d && alike (all_sets t) c d) ≡ alike (all_sets s) c d
      by true e = ap (λ x. x && alike (all_sets t) c d) e ∙ no c d e ∙ sym e
      by false e = ap (λ x. x && alike (all_sets t) c d) e ∙ sym e

  -- The letters of both trees are those of the first one.
  pub joint-known : joint_letters u s t ≡ classes (all_sets s) (code_count u)
  joint-known = same-classes (joint_sets s t) (all_sets s) joint-alike (code_count u)

  module _ (a : Automaton) (base : IsBase u s a) where
    pub base-letters : IsLetters a.table (all_sets s) (code_count u)
    base-letters = subst (IsLetters a.table (all_sets s)) base.codes base.stands.same_letters

    pub base-few : letters_count a ≤ MOST_LETTERS
    base-few = omega (arith, base-letters.same_count, base.within.few_letters)

    few-joint : length (joint_letters u s t) ≤ MOST_LETTERS
    few-joint = subst (λ l. length l ≤ MOST_LETTERS) (sym joint-known) base.within.few_letters

    pub base-within : AreSmall s t → longest t ≤ MOST_MOVES → AreWithin u s t
    base-within small short = record { small = small; few_letters = few-joint; first_moves = base.within.few_moves; second_moves = short }

    pub base-exceeded : AreSmall s t → (e : PrioError) → (e ≡ Moves → MOST_MOVES < longest t) → (e ≡ Letters → ⊥) → IsExceeded u s t (same_error e)
    base-exceeded small e moves none = second-exceeded u s t small few-joint e moves none

    -- What is built over all letters stands together.
    pub base-together : (b : Automaton) → IsAutomaton b → b.table ≡ a.table → OverAny u t a b → StandTogether u s t a b
    base-together b whole table over =
        let back : (c d : ℕ) → alike (all_sets s) c d ≡ alike (joint_sets s t) c d = λ c d. sym (joint-alike c d) in
        record {
          first_stands = same-stands (all_sets s) (joint_sets s t) back a s AtEnd base.stands;
          second_stands = over (joint_sets s t) (same-letters (all_sets s) (joint_sets s t) back a.table (code_count u) base-letters) (Finer-second (all_sets s) (all_sets t));
          first_codes = base.codes;
          second_codes = ap (λ (l : LetterTable). l.codes) table ∙ base.codes;
          first_whole = base.whole;
          second_whole = whole;
        }
