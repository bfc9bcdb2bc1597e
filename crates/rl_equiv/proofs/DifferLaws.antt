-- A set pair that shows a difference gives a text of exactly one language: the least codes of the letters of a word
-- that leads to it.
use Rattle.std.proofs.Common.{◌≡◌, ◌⊎◌, ◌∙◌, ℕ, ◌<◌, inl, inr, List, [], ◌∷◌, length, get_or, map, All, Any, length-take, Bool, true, false, not, refl, sym, ap, ap₂, subst, arith}
use Rattle.std.proofs.Math.Bool.{beq}
use Rattle.std.proofs.lemmas.Bool.{false≢true}
use Rattle.std.proofs.lemmas.List.{length-map, get_or-map, get_or-take}
use Rattle.std.proofs.lemmas.List.Elements.{All-nil, All-cons, All-head, All-tail, All-get_or}
use Rattle.std.proofs.lemmas.Option.{slice_get_within}
use Rattle.rl_ranges.specs.declared.universe.Universe.{Universe}
use Rattle.rl_ranges.specs.Letters.{classes, class_of}
use Rattle.rl_ranges.specs.Text.{code_count, IsText}
use Rattle.rl_ranges.proofs.LetterLemmas.{class_of-first, classes-below}
use Rattle.rl_syntax.specs.declared.re.Ending.TheVariants.{AtEnd}
use Rattle.rl_syntax.specs.Tree.{Tree}
use Rattle.rl_syntax.specs.Cost.{matched}
use Rattle.rl_prio.proofs.MatchLemmas.{matched_to_end}
use Rattle.rl_sets.specs.Live.{below}
use Rattle.rl_equiv.specs.declared.pair.SetPair.{SetPair}
use Rattle.rl_equiv.specs.Languages.{IsIn, IsOfOne}
use Rattle.rl_equiv.specs.Numbering.{found_after, first_ones, Reached, reached_after, Reads, stay, onward, IsReached}
use Rattle.rl_equiv.specs.SetPairs.{joint_sets, joint_letters, image_over, first_pair, differs, set_pairs, word_of}
use Rattle.rl_equiv.proofs.ImageLaws.{length-below}
use Rattle.rl_equiv.proofs.ReadLaws.{text-told}
use Rattle.rl_equiv.proofs.Together.{together}
use Rattle.rl_equiv.proofs.WordLaws.{reached-found, reached-reads}

-- The least codes of letters.
least_codes : (sets : List (ℕ → Bool)) (n : ℕ) (word : List ℕ) → List ℕ
least_codes sets n word = map (λ letter. get_or (classes sets n) letter 0) word

codes-below : (sets : List (ℕ → Bool)) (n : ℕ) (word : List ℕ) → All (λ l. l < length (classes sets n)) word → All (λ c. c < n) (least_codes sets n word)
unfolding least_codes
codes-below sets n [] small = All-nil (λ c. c < n)
codes-below sets n (l ∷ word) small =
    All-cons (λ c. c < n) (get_or (classes sets n) l 0) (least_codes sets n word) (classes-below sets n l (All-head (λ x. x < length (classes sets n)) l word small))
    (codes-below sets n word (All-tail (λ x. x < length (classes sets n)) l word small))

codes-letters : (sets : List (ℕ → Bool)) (n : ℕ) (word : List ℕ) → All (λ l. l < length (classes sets n)) word → map (class_of sets n) (least_codes sets n word) ≡ word
unfolding least_codes
codes-letters sets n [] small = refl
codes-letters sets n (l ∷ word) small =
    ap₂ (λ (x : ℕ) (xs : List ℕ). x ∷ xs) (class_of-first sets n l (All-head (λ x. x < length (classes sets n)) l word small))
    (codes-letters sets n word (All-tail (λ x. x < length (classes sets n)) l word small))

-- Each set pair has a next one on each letter.
nexts-length : (u : Universe) (s t : Tree) (p : SetPair) → length ((set_pairs u s t).nexts p) ≡ length (joint_letters u s t)
unfolding set_pairs
nexts-length u s t p =
    let n = code_count u in
    let sets = joint_sets s t in
    length-map (below (length (joint_letters u s t))) (λ letter. record { first = image_over sets s n p.first letter; second = image_over sets t n p.second letter })
    ∙ length-below (length (joint_letters u s t))

-- A word that leads from set pair to set pair has letters of both trees.
reads-small : (u : Universe) (s t : Tree) (p q : SetPair) (word : List ℕ) → Reads (set_pairs u s t) p word q → All (λ l. l < length (joint_letters u s t)) word
reads-small u s t p _ _ stay = All-nil (λ l. l < length (joint_letters u s t))
reads-small u s t p q _ (onward {q = m} {letter = letter} {word = word} e more) =
    let end = length (joint_letters u s t) in
    let small : letter < end = omega (arith, slice_get_within ((set_pairs u s t).nexts p) letter m e, nexts-length u s t p) in
    All-cons (λ l. l < end) letter word small (reads-small u s t m q word more)

-- The text is matched by exactly one of two trees.
one-matched : (u : Universe) (s t : Tree) (w : List ℕ) (x y : Bool) → matched s AtEnd w ≡ x → matched t AtEnd w ≡ y → not (beq x y) ≡ true → (IsIn s w × (IsIn t w → ⊥)) ⊎ ((IsIn s w → ⊥) × IsIn t w)
one-matched u s t w true true e f h = absurd (false≢true h)
one-matched u s t w true false e f h = inl ((matched_to_end s w).0 e, λ i. false≢true (sym f ∙ (matched_to_end t w).1 i))
one-matched u s t w false true e f h = inr (λ i. false≢true (sym e ∙ (matched_to_end s w).1 i), (matched_to_end t w).0 f)
one-matched u s t w false false e f h = absurd (false≢true h)

-- The text of a reached set pair that shows a difference.
reached-text : (u : Universe) (s t : Tree) (r : Reached) → IsReached (set_pairs u s t) r → differs (set_pairs u s t) r.pair ≡ true → (w : List ℕ) × IsOfOne u s t w
reached-text u s t r reads apart =
    let sets = joint_sets s t in
    let n = code_count u in
    let small = reads-small u s t first_pair r.pair r.word reads in
    let w = least_codes sets n r.word in
    let text : IsText u w = codes-below sets n r.word small in
    let there : Reads (set_pairs u s t) first_pair (word_of u s t w) r.pair = subst (λ (l : List ℕ). Reads (set_pairs u s t) first_pair l r.pair) (sym (codes-letters sets n r.word small)) reads in
    let both = together u s t in
    let told = text-told u s t both.0 both.1 both.2 w text r.pair there in
    (w, record { text = text; one = one-matched u s t w (matched s AtEnd w) (matched t AtEnd w) refl refl (sym (ap₂ (λ x y. not (beq x y)) told.0 told.1) ∙ apart) })

pub differences-tell : (u : Universe) (s t : Tree) (limit : ℕ) → Any (λ p. differs (set_pairs u s t) p ≡ true) (first_ones (set_pairs u s t) limit) → (w : List ℕ) × IsOfOne u s t w
differences-tell u s t limit (k, x, lt, is, apart) =
    let d = set_pairs u s t in
    let F = found_after d limit in
    let R = reached_after d limit in
    let same = reached-found d limit in
    let few : k < limit = omega (arith, lt, length-take limit F) in
    let in_R : k < length R = omega (arith, lt, length-take limit F, ap length same, length-map R (λ (r : Reached). r.pair)) in
    let r0 : Reached = record { pair = x; word = [] } in
    let r = get_or R k r0 in
    let e : r.pair ≡ x = sym (get_or-map (λ (y : Reached). y.pair) R k r0 x in_R) ∙ ap (λ (l : List SetPair). get_or l k x) same ∙ sym (get_or-take limit F k x few) ∙ is in
    reached-text u s t r (All-get_or (IsReached d) R k r0 in_R (reached-reads d limit)) (ap (differs d) e ∙ apart)
