-- What is required of an automaton follows if it stands for a tree; and letters of texts.
use Rattle.std.proofs.Common.{◌≡◌, ◌∙◌, ℕ, ◌<◌, ◌⊎◌, inl, inr, List, [], ◌∷◌, get_or, All, Bool, refl, sym, ap, subst, arith}
use Rattle.std.proofs.lemmas.List.Elements.{All-get_or}
use Rattle.rl_graph.specs.Paths.{Has}
use Rattle.rl_graph.proofs.Sums.{at-has, at-short, at-get_or, Has-get_or, has-map}
use Rattle.rl_ranges.specs.Letters.{IsLetters, letter_at}
use Rattle.rl_ranges.proofs.LetterLemmas.{class_of-lt}
use Rattle.rl_syntax.specs.declared.re.Ending.{Ending}
use Rattle.rl_syntax.specs.Tree.{Tree}
use Rattle.rl_prio.specs.Automaton.{Automaton, IsAutomaton, letters_count, accepting_state, dead_state, moves_at}
use Rattle.rl_prio.specs.StandsFor.{StandsOver}
use Rattle.rl_prio.proofs.WholeLemmas.{end_moves, no_accepting_moves, no_dead_moves}
use Rattle.rl_sets.specs.Live.{IsRest}
use Rattle.rl_pairs.specs.Families.{letters_in, to_end, spelled}
use Rattle.rl_pairs.proofs.ExactLaws.{IsStill}

pub All-has : {A : Type 0} (P : A → Type 0) (l : List A) (x : A) → All P l → Has x l → P x
All-has P l x all h = let r = at-has x l h in subst P (at-get_or l r.0 x x r.1) (All-get_or P l r.0 x (at-short l r.0 x r.1) all)

pub has-All : {A : Type 0} (P : A → Type 0) (l : List A) → ((x : A) → Has x l → P x) → All P l
has-All P l h = λ k d lt. h (get_or l k d) (Has-get_or l k d lt)

pub still_of : (a : Automaton) (t : Tree) (ending : Ending) (sets : List (ℕ → Bool)) → IsAutomaton a → StandsOver a t ending sets → IsStill a
still_of a t ending sets whole stands =
    record {
      three = whole.three_states;
      targets = λ q letter u h. All-has (λ target. target < a.states) (moves_at a q letter) u (whole.targets q letter) h;
      accepted = no_accepting_moves a t ending sets stands;
      died = no_dead_moves a t ending sets stands;
      ends = λ q u h. All-has (λ target. (target ≡ accepting_state a) ⊎ (target ≡ dead_state a)) (moves_at a q (letters_count a)) u (end_moves a t ending sets stands q) h;
    }

-- Letters and then the end letter are a rest.
pub rest-of : (a : Automaton) (w : List ℕ) → ((l : ℕ) → Has l w → l < letters_count a) → IsRest a (to_end a w)
rest-of a [] h = inl (refl, refl)
rest-of a (l ∷ w) h = inr (h l (inl refl), rest-of a w (λ c i. h c (inr i)))

pub rest-letters : (a : Automaton) (w : List ℕ) → IsRest a (to_end a w) → (l : ℕ) → Has l w → l < letters_count a
rest-letters a [] r l h = absurd h
rest-letters a (c ∷ []) (inl (e, d)) l h = cc
rest-letters a (c ∷ (b ∷ w)) (inl (e, d)) l h = cc
rest-letters a (c ∷ w) (inr (lt, r)) l (inl e) = omega arith
rest-letters a (c ∷ w) (inr (lt, r)) l (inr h) = rest-letters a w r l h

-- Codes have letters.
pub letter-within : (a : Automaton) (sets : List (ℕ → Bool)) → IsLetters a.table sets a.table.codes → (c : ℕ) → c < a.table.codes → letter_at a.table c < letters_count a
letter-within a sets is c lt = omega (arith, is.same_letter c lt, class_of-lt sets a.table.codes c lt, is.same_count)

pub text-letters : (a : Automaton) (sets : List (ℕ → Bool)) → IsLetters a.table sets a.table.codes → (w : List ℕ) → ((c : ℕ) → Has c w → c < a.table.codes) → (l : ℕ) → Has l (letters_in a w) → l < letters_count a
text-letters a sets is w h l i = let r = has-map (letter_at a.table) l w i in omega (arith, ap (λ x. x) r.2, letter-within a sets is r.0 (h r.0 r.1))

-- The sample of a letter is a code of it.
pub sample-within : (a : Automaton) (sets : List (ℕ → Bool)) → IsLetters a.table sets a.table.codes → (l : ℕ) → l < letters_count a → get_or a.table.samples l 0 < a.table.codes
sample-within a sets is l lt = (is.same_sample l lt).within

sample-letter : (a : Automaton) (sets : List (ℕ → Bool)) → IsLetters a.table sets a.table.codes → (l : ℕ) → l < letters_count a → letter_at a.table (get_or a.table.samples l 0) ≡ l
sample-letter a sets is l lt = is.same_letter (get_or a.table.samples l 0) (sample-within a sets is l lt) ∙ (is.same_sample l lt).in_it

pub spelled-within : (a : Automaton) (sets : List (ℕ → Bool)) → IsLetters a.table sets a.table.codes → (w : List ℕ) → ((l : ℕ) → Has l w → l < letters_count a) → (c : ℕ) → Has c (spelled a w) → c < a.table.codes
spelled-within a sets is w h c i =
    let r = has-map (λ letter. get_or a.table.samples letter 0) c w i in
    subst (λ x. x < a.table.codes) (sym r.2) (sample-within a sets is r.0 (h r.0 r.1))

pub letters-spelled : (a : Automaton) (sets : List (ℕ → Bool)) → IsLetters a.table sets a.table.codes → (w : List ℕ) → ((l : ℕ) → Has l w → l < letters_count a) → letters_in a (spelled a w) ≡ w
letters-spelled a sets is [] h = refl
letters-spelled a sets is (l ∷ w) h =
    ap (λ c. c ∷ letters_in a (spelled a w)) (sample-letter a sets is l (h l (inl refl))) ∙ ap (λ (v : List ℕ). l ∷ v) (letters-spelled a sets is w (λ c i. h c (inr i)))
