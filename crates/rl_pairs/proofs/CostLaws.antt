-- The lower bounds on costs: a twin of the graph of live pairs gives powers of two, a chain of splits that ends on a cycle gives
-- powers of the number of rounds.
use Rattle.std.proofs.Common.{◌≡◌, ◌∙◌, ℕ, suc, ◌+◌, ◌^◌, ◌<◌, ◌≤◌, inl, inr, List, [], ◌∷◌, ◌++◌, length, All, Bool, true, refl, sym, ap, subst, arith, eqb}
use Rattle.rl_graph.specs.Paths.{Has, paths, walked}
use Rattle.rl_graph.proofs.PathLaws.{one-le}
use Rattle.rl_graph.specs.Twins.{Link}
use Rattle.rl_ranges.specs.Letters.{IsLetters}
use Rattle.rl_ranges.specs.Text.{code_count}
use Rattle.rl_ranges.specs.declared.universe.Universe.{Universe}
use Rattle.rl_syntax.specs.declared.re.Ending.{Ending}
use Rattle.rl_syntax.specs.declared.verdict.Family.{Family}
use Rattle.rl_syntax.specs.Tree.{Tree}
use Rattle.rl_syntax.specs.Cost.{cost}
use Rattle.rl_syntax.specs.Family.{copies, pumped, family_text, IsFamily}
use Rattle.rl_prio.specs.Automaton.{Automaton, IsAutomaton, letters_count}
use Rattle.rl_prio.specs.Letters.{all_sets}
use Rattle.rl_prio.specs.StandsFor.{StandsFor, StandsOver}
use Rattle.rl_prio.specs.Walk.{walk_cost, word_at}
use Rattle.rl_prio.proofs.WalkLemmas.{walk_cost-cost}
use Rattle.rl_sets.specs.Live.{refuses, IsRest}
use Rattle.rl_pairs.specs.declared.pair.Pair.{Pair}
use Rattle.rl_pairs.specs.LivePairs.{refused}
use Rattle.rl_pairs.specs.PairGraph.{IsPairGraph}
use Rattle.rl_pairs.specs.Families.{Chained, chain_heads, chain_pumps, letters_in, to_end, Reads, Spells}
use Rattle.rl_pairs.proofs.GraphWords.{two_to_the, power_of_links, chain_word, text_of_chain}
use Rattle.rl_pairs.proofs.ExactLaws.{IsStill, exact_cost, stays_all}
use Rattle.rl_pairs.proofs.StillLaws.{still_of, rest-of, rest-letters, text-letters, All-has, has-All}
use Rattle.rl_pairs.proofs.WordLaws.{HasMove, word-move, inner_word, chain-moves, chain-rounds, chain-some}
use Rattle.rl_pairs.proofs.FamilyLaws.{Inside, text-word, text-codes, spells-reads, spells-family, pumped-each}

heads-count : (links : List Link) (x last : List ℕ) → length (chain_heads links x last) ≡ suc (suc (length links))
heads-count [] x last = refl
heads-count (m ∷ links) x last = ap suc (heads-count links x last)

pumps-count : (links : List Link) (y : List ℕ) → length (chain_pumps links y) ≡ suc (length links)
pumps-count [] y = refl
pumps-count (m ∷ links) y = ap suc (pumps-count links y)

-- Words of letters

module _ (a : Automaton) (still : IsStill a) (next : ℕ → ℕ → List ℕ) (at : ℕ → Pair) (n : ℕ) (g : IsPairGraph a next at n) where
  pub cost_of_twin : (q : ℕ) (x y rest : List ℕ) (k : ℕ) → 1 ≤ paths next 0 q x → 2 ≤ paths next q q y → refuses a (at q).set rest ≡ true → IsRest a (x ++ (copies k y ++ rest)) → 2 ^ k ≤ walk_cost a (x ++ (copies k y ++ rest))
  cost_of_twin q x y rest k lead twin ok r = omega (arith, two_to_the next (refused a at) 0 q x y rest k lead twin ok, exact_cost a still next at n g (x ++ (copies k y ++ rest)) r)

  pub cost_of_chain : (links : List Link) (x : List ℕ) (z : ℕ) (y rest : List ℕ) (k : ℕ) → Chained next 0 links x z → 1 ≤ paths next z z y → 1 ≤ length y → refuses a (at z).set rest ≡ true → IsRest a (chain_word k links x ++ (copies k y ++ rest)) → k ^ suc (length links) ≤ walk_cost a (chain_word k links x ++ (copies k y ++ rest))
  cost_of_chain links x z y rest k chain cycle some ok r =
      omega (arith, power_of_links next (refused a at) 0 links x z y rest k (stays_all a still next at n g) chain cycle some ok, exact_cost a still next at n g (chain_word k links x ++ (copies k y ++ rest)) r)

  -- The same with the words pumped as a family's texts are.
  pub pumped_twin : (q : ℕ) (x y last : List ℕ) (k : ℕ) → 1 ≤ paths next 0 q x → 2 ≤ paths next q q y → refuses a (at q).set (to_end a last) ≡ true → IsRest a (to_end a (pumped k (x ∷ (last ∷ [])) (y ∷ []))) → 2 ^ k ≤ walk_cost a (to_end a (pumped k (x ∷ (last ∷ [])) (y ∷ [])))
  pumped_twin q x y last k lead twin ok r =
      let word : to_end a (pumped k (x ∷ (last ∷ [])) (y ∷ [])) ≡ x ++ (copies k y ++ to_end a last) = text_of_chain k [] x last y (letters_count a ∷ []) in
      subst (λ (w : List ℕ). 2 ^ k ≤ walk_cost a w) (sym word) (cost_of_twin q x y (to_end a last) k lead twin ok (subst (IsRest a) word r))

  pub pumped_chain : (links : List Link) (x : List ℕ) (z : ℕ) (y last : List ℕ) (k : ℕ) → Chained next 0 links x z → 1 ≤ paths next z z y → 1 ≤ length y → refuses a (at z).set (to_end a last) ≡ true → IsRest a (to_end a (pumped k (chain_heads links x last) (chain_pumps links y)))
      → k ^ suc (length links) ≤ walk_cost a (to_end a (pumped k (chain_heads links x last) (chain_pumps links y)))
  pumped_chain links x z y last k chain cycle some ok r =
      let word : to_end a (pumped k (chain_heads links x last) (chain_pumps links y)) ≡ chain_word k links x ++ (copies k y ++ to_end a last) = text_of_chain k links x last y (letters_count a ∷ []) in
      subst (λ (w : List ℕ). k ^ suc (length links) ≤ walk_cost a w) (sym word) (cost_of_chain links x z y (to_end a last) k chain cycle some ok (subst (IsRest a) word r))

  -- Each word of a twin's family, and of a chain's, is made of letters.
  pub twin-move : (q : ℕ) (y : List ℕ) → 2 ≤ paths next q q y → HasMove next q
  twin-move q [] h = absurd (none (eqb-one q) h)
    where
      eqb-one : (q : ℕ) → paths next q q [] ≤ 1
      eqb-one q = omega (arith, one-le (eqb q q))

      none : paths next q q [] ≤ 1 → 2 ≤ paths next q q [] → ⊥
      none h k = omega arith
  twin-move q (l ∷ y) h = word-move next q q (l ∷ y) (omega arith) (omega arith)

  pub twin-inside : (q : ℕ) (x y last : List ℕ) → 1 ≤ paths next 0 q x → 2 ≤ paths next q q y → IsRest a (to_end a last) → Inside a (x ∷ (last ∷ [])) × Inside a (y ∷ [])
  twin-inside q x y last lead twin r = (heads, pumps)
    where
      heads : Inside a (x ∷ (last ∷ []))
      heads w (inl e) l i = inner_word a still next at n g 0 q x lead (twin-move q y twin) l (subst (λ (v : List ℕ). Has l v) e i)
      heads w (inr (inl e)) l i = rest-letters a last r l (subst (λ (v : List ℕ). Has l v) e i)
      heads w (inr (inr e)) l i = absurd e

      pumps : Inside a (y ∷ [])
      pumps w (inl e) l i = inner_word a still next at n g q q y (omega arith) (twin-move q y twin) l (subst (λ (v : List ℕ). Has l v) e i)
      pumps w (inr e) l i = absurd e

  pub chain-inside : (links : List Link) (x : List ℕ) (z : ℕ) (y last : List ℕ) → Chained next 0 links x z → 1 ≤ paths next z z y → 1 ≤ length y → IsRest a (to_end a last) → Inside a (chain_heads links x last) × Inside a (chain_pumps links y)
  chain-inside links x z y last chain cycle some r =
      let move = word-move next z z y some cycle in
      (chain-moves a still next at n g 0 links x z chain move last (rest-letters a last r), chain-rounds a still next at n g 0 links x z y chain move cycle)

-- Texts of codes

text-rest : (a : Automaton) (sets : List (ℕ → Bool)) → IsLetters a.table sets a.table.codes → (f : Family) (heads pumps : List (List ℕ)) (k : ℕ) → Reads a f heads pumps → IsRest a (to_end a (pumped k heads pumps))
text-rest a sets is f heads pumps k reads =
    subst (λ (w : List ℕ). IsRest a (to_end a w)) (text-word a f heads pumps k reads)
    (rest-of a (letters_in a (family_text f k)) (text-letters a sets is (family_text f k) (λ c i. All-has (λ c. c < a.table.codes) (family_text f k) c (text-codes a f heads pumps k reads) i)))

text-cost : (a : Automaton) (t : Tree) (ending : Ending) → StandsFor a t ending → (f : Family) (heads pumps : List (List ℕ)) (k : ℕ) → Reads a f heads pumps → walk_cost a (to_end a (pumped k heads pumps)) ≡ cost t ending (family_text f k)
text-cost a t ending stands f heads pumps k reads =
    ap (λ (w : List ℕ). walk_cost a (to_end a w)) (sym (text-word a f heads pumps k reads)) ∙ walk_cost-cost a t ending (family_text f k) stands (text-codes a f heads pumps k reads)

module _ (a : Automaton) (t : Tree) (ending : Ending) (next : ℕ → ℕ → List ℕ) (at : ℕ → Pair) (n : ℕ) (whole : IsAutomaton a) (stands : StandsFor a t ending) (g : IsPairGraph a next at n) where
  still-here : IsStill a
  still-here = still_of a t ending (all_sets t) whole stands

  -- If the letters of a family's texts are the letters of a twin: at least a power of two.
  pub twin_reads : (f : Family) (q : ℕ) (x y last : List ℕ) → Reads a f (x ∷ (last ∷ [])) (y ∷ []) → 1 ≤ paths next 0 q x → 2 ≤ paths next q q y → refuses a (at q).set (to_end a last) ≡ true → (k : ℕ) → 2 ^ k ≤ cost t ending (family_text f k)
  twin_reads f q x y last reads lead twin ok k =
      omega (
        arith,
        text-cost a t ending stands f (x ∷ (last ∷ [])) (y ∷ []) k reads,
        pumped_twin a still-here next at n g q x y last k lead twin ok (text-rest a (all_sets t) stands.same_letters f (x ∷ (last ∷ [])) (y ∷ []) k reads),
      )

  -- If the letters of a family's texts are the letters of a chain: at least a power of the number of rounds.
  pub chain_reads : (f : Family) (links : List Link) (x : List ℕ) (z : ℕ) (y last : List ℕ) → Reads a f (chain_heads links x last) (chain_pumps links y) → Chained next 0 links x z → 1 ≤ paths next z z y → 1 ≤ length y → refuses a (at z).set (to_end a last) ≡ true
      → (k : ℕ) → k ^ suc (length links) ≤ cost t ending (family_text f k)
  chain_reads f links x z y last reads chain cycle some ok k =
      omega (
        arith,
        text-cost a t ending stands f (chain_heads links x last) (chain_pumps links y) k reads,
        pumped_chain a still-here next at n g links x z y last k chain cycle some ok (text-rest a (all_sets t) stands.same_letters f (chain_heads links x last) (chain_pumps links y) k reads),
      )

  -- The same for the samples of a twin's letters, and of a chain's.
  pub twin_spells : (f : Family) (q : ℕ) (x y last : List ℕ) → Spells a f (x ∷ (last ∷ [])) (y ∷ []) → 1 ≤ paths next 0 q x → 2 ≤ paths next q q y → IsRest a (to_end a last) → refuses a (at q).set (to_end a last) ≡ true → (k : ℕ) → 2 ^ k ≤ cost t ending (family_text f k)
  twin_spells f q x y last spells lead twin r ok k =
      let inside = twin-inside a still-here next at n g q x y last lead twin r in
      twin_reads f q x y last (spells-reads a (all_sets t) f (x ∷ (last ∷ [])) (y ∷ []) stands.same_letters inside.0 inside.1 spells) lead twin ok k

  pub chain_spells : (f : Family) (links : List Link) (x : List ℕ) (z : ℕ) (y last : List ℕ) → Spells a f (chain_heads links x last) (chain_pumps links y) → Chained next 0 links x z → 1 ≤ paths next z z y → 1 ≤ length y → IsRest a (to_end a last) → refuses a (at z).set (to_end a last) ≡ true
      → (k : ℕ) → k ^ suc (length links) ≤ cost t ending (family_text f k)
  chain_spells f links x z y last spells chain cycle some r ok k =
      let inside = chain-inside a still-here next at n g links x z y last chain cycle some r in
      chain_reads f links x z y last (spells-reads a (all_sets t) f (chain_heads links x last) (chain_pumps links y) stands.same_letters inside.0 inside.1 spells) chain cycle some ok k

  -- These samples make a family of the universe.
  pub twin_family : (universe : Universe) (f : Family) (q : ℕ) (x y last : List ℕ) → a.table.codes ≡ code_count universe → Spells a f (x ∷ (last ∷ [])) (y ∷ []) → 1 ≤ paths next 0 q x → 2 ≤ paths next q q y → IsRest a (to_end a last) → IsFamily universe 1 f
  twin_family universe f q x y last codes spells lead twin r =
      let inside = twin-inside a still-here next at n g q x y last lead twin r in
      spells-family a (all_sets t) universe 1 f (x ∷ (last ∷ [])) (y ∷ []) stands.same_letters codes inside.0 inside.1 spells some refl refl
    where
      long : (y : List ℕ) → 2 ≤ paths next q q y → 1 ≤ length y
      long [] h = absurd (omega (arith, one-le (eqb q q)))
      long (l ∷ y) h = omega arith

      some : (w : List ℕ) → Has w (y ∷ []) → 1 ≤ length w
      some w (inl e) = subst (λ (v : List ℕ). 1 ≤ length v) (sym e) (long y twin)
      some w (inr e) = absurd e

  pub chain_family : (universe : Universe) (f : Family) (links : List Link) (x : List ℕ) (z : ℕ) (y last : List ℕ) → a.table.codes ≡ code_count universe → Spells a f (chain_heads links x last) (chain_pumps links y) → Chained next 0 links x z → 1 ≤ paths next z z y → 1 ≤ length y → IsRest a (to_end a last)
      → IsFamily universe (suc (length links)) f
  chain_family universe f links x z y last codes spells chain cycle some r =
      let inside = chain-inside a still-here next at n g links x z y last chain cycle some r in
      spells-family a (all_sets t) universe (suc (length links)) f (chain_heads links x last) (chain_pumps links y) stands.same_letters codes inside.0 inside.1 spells
      (chain-some next 0 links x z y chain some) (heads-count links x last) (pumps-count links y)

-- The laws as they are cited

pub words_exact : (a : Automaton) (t : Tree) (ending : Ending) (sets : List (ℕ → Bool)) (next : ℕ → ℕ → List ℕ) (at : ℕ → Pair) (n : ℕ) → IsAutomaton a → StandsOver a t ending sets → IsPairGraph a next at n
    → (w : List ℕ) → IsRest a w → walk_cost a w ≡ 1 + walked next (refused a at) 0 w
words_exact a t ending sets next at n whole stands g = exact_cost a (still_of a t ending sets whole stands) next at n g

pub texts_exact : (a : Automaton) (t : Tree) (ending : Ending) (next : ℕ → ℕ → List ℕ) (at : ℕ → Pair) (n : ℕ) → IsAutomaton a → StandsFor a t ending → IsPairGraph a next at n
    → (w : List ℕ) → All (λ c. c < a.table.codes) w → cost t ending w ≡ 1 + walked next (refused a at) 0 (word_at a w)
texts_exact a t ending next at n whole stands g w codes =
    sym (walk_cost-cost a t ending w stands codes)
    ∙ words_exact a t ending (all_sets t) next at n whole stands g (word_at a w)
    (rest-of a (letters_in a w) (text-letters a (all_sets t) stands.same_letters w (λ c i. All-has (λ c. c < a.table.codes) w c codes i)))

pub sets_stay : (a : Automaton) (t : Tree) (ending : Ending) (sets : List (ℕ → Bool)) (next : ℕ → ℕ → List ℕ) (at : ℕ → Pair) (n : ℕ) → IsAutomaton a → StandsOver a t ending sets → IsPairGraph a next at n
    → (p q : ℕ) (u v : List ℕ) → 1 ≤ paths next p q u → refused a at q v ≡ true → refused a at p (u ++ v) ≡ true
sets_stay a t ending sets next at n whole stands g = stays_all a (still_of a t ending sets whole stands) next at n g

pub letters_before : (a : Automaton) (t : Tree) (ending : Ending) (sets : List (ℕ → Bool)) (next : ℕ → ℕ → List ℕ) (at : ℕ → Pair) (n : ℕ) → IsAutomaton a → StandsOver a t ending sets → IsPairGraph a next at n
    → (p q letter target : ℕ) (w : List ℕ) → 1 ≤ paths next p q w → Has target (next q letter) → All (λ l. l < letters_count a) w
letters_before a t ending sets next at n whole stands g p q letter target w h i =
    has-All (λ l. l < letters_count a) w (inner_word a (still_of a t ending sets whole stands) next at n g p q w h (letter, target, i))

pub twin_words : (a : Automaton) (t : Tree) (ending : Ending) (sets : List (ℕ → Bool)) (next : ℕ → ℕ → List ℕ) (at : ℕ → Pair) (n : ℕ) → IsAutomaton a → StandsOver a t ending sets → IsPairGraph a next at n
    → (q : ℕ) (x y last : List ℕ) → 1 ≤ paths next 0 q x → 2 ≤ paths next q q y → IsRest a (to_end a last) → refused a at q (to_end a last) ≡ true
    → (k : ℕ) → 2 ^ k ≤ walk_cost a (to_end a (pumped k (x ∷ (last ∷ [])) (y ∷ [])))
twin_words a t ending sets next at n whole stands g q x y last lead twin r ok k =
    let still = still_of a t ending sets whole stands in
    let inside = twin-inside a still next at n g q x y last lead twin r in
    pumped_twin a still next at n g q x y last k lead twin ok (rest-of a (pumped k (x ∷ (last ∷ [])) (y ∷ [])) (pumped-each (λ l. l < letters_count a) k (x ∷ (last ∷ [])) (y ∷ []) inside.0 inside.1))

pub chain_words : (a : Automaton) (t : Tree) (ending : Ending) (sets : List (ℕ → Bool)) (next : ℕ → ℕ → List ℕ) (at : ℕ → Pair) (n : ℕ) → IsAutomaton a → StandsOver a t ending sets → IsPairGraph a next at n
    → (links : List Link) (x : List ℕ) (z : ℕ) (y last : List ℕ) → Chained next 0 links x z → 1 ≤ paths next z z y → 1 ≤ length y → IsRest a (to_end a last) → refused a at z (to_end a last) ≡ true
    → (k : ℕ) → k ^ suc (length links) ≤ walk_cost a (to_end a (pumped k (chain_heads links x last) (chain_pumps links y)))
chain_words a t ending sets next at n whole stands g links x z y last chain cycle some r ok k =
    let still = still_of a t ending sets whole stands in
    let inside = chain-inside a still next at n g links x z y last chain cycle some r in
    pumped_chain a still next at n g links x z y last k chain cycle some ok (rest-of a (pumped k (chain_heads links x last) (chain_pumps links y)) (pumped-each (λ l. l < letters_count a) k (chain_heads links x last) (chain_pumps links y) inside.0 inside.1))
