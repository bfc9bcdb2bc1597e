-- The words of a chain of splits, split by split, and the texts that spell them.
use Rattle.std.proofs.Common.{◌≡◌, ℕ, zero, suc, ◌+◌, ◌<◌, ◌≤◌, List, [], ◌∷◌, length, map, get_or, All, refl, sym, ap, ◌∙◌, subst, arith}
use Rattle.std.proofs.lemmas.List.{length-map, get_or-map}
use Rattle.std.proofs.lemmas.List.Elements.{All-get_or}
use Rattle.rl_graph.specs.Paths.{paths}
use Rattle.rl_graph.specs.Twins.{Link}
use Rattle.rl_prio.specs.Automaton.{Automaton, letters_count}
use Rattle.rl_degree.specs.declared.chains.Split.{Split}
use Rattle.rl_degree.specs.Chains.{link_of, links_of}
use Rattle.rl_pairs.specs.PairTable.{PairTable, moves_in, pair_in}
use Rattle.rl_pairs.specs.Families.{chain_pumps, spelled}
use Rattle.rl_growth.specs.FamilyWords.{AreLetters, IsChainWords}
use Rattle.rl_growth.specs.Routes.{split_at, state_after, bare, IsRoute}
use Rattle.rl_growth.proofs.RouteLaws.{after-none, after-last}
use Rattle.rl_why.specs.internal.Settings.{IsPumped}

pub link_same : (x y : Link) (l m : List Link) → x ∷ l ≡ y ∷ m → x ≡ y
link_same x y l m e = cc

pub links_same : (x y : Link) (l m : List Link) → x ∷ l ≡ y ∷ m → l ≡ m
links_same x y l m e = cc

-- The pumps of a chain are the words of its splits, and last the word of its cycle.
pump-at : (links : List Link) (splits : List Split) (round : List ℕ) (k : ℕ) → map bare links ≡ links_of splits → k < length splits
    → get_or (chain_pumps links round) k [] ≡ (split_at splits k).word
pump-at [] [] round k e lt = absurd (omega (arith, lt))
pump-at [] (s ∷ splits) round k e lt = let none : 0 ≡ suc (length (links_of splits)) = ap length e in absurd (omega (arith, none))
pump-at (m ∷ links) [] round k e lt = absurd (omega (arith, lt))
pump-at (m ∷ links) (s ∷ splits) round zero e lt = ap (λ x. x.word) (link_same (bare m) (link_of s) (map bare links) (links_of splits) e)
pump-at (m ∷ links) (s ∷ splits) round (suc k) e lt =
    pump-at links splits round k (links_same (bare m) (link_of s) (map bare links) (links_of splits) e) (omega (arith, lt))

pump-last : (links : List Link) (round : List ℕ) (k : ℕ) → k ≡ length links → get_or (chain_pumps links round) k [] ≡ round
pump-last [] round k e = let none : k ≡ 0 = omega (arith, e) in ap (λ j. get_or (round ∷ []) j []) none
pump-last (m ∷ links) round zero e = absurd (omega (arith, e))
pump-last (m ∷ links) round (suc k) e = pump-last links round k (omega (arith, e))

pumps-many : (links : List Link) (round : List ℕ) → length (chain_pumps links round) ≡ suc (length links)
pumps-many [] round = refl
pumps-many (m ∷ links) round = ap suc (pumps-many links round)

module _ (a : Automaton) (g : PairTable) (splits : List Split) (alone : ℕ) (heads words texts : List (List ℕ)) (route : IsRoute (moves_in g) g.graph.states splits)
    (w : IsChainWords a (moves_in g) (pair_in g) splits alone heads words) (letters : AreLetters a words) (spells : texts ≡ map (spelled a) words) where
  pub words-many : length words ≡ length splits + 1
  words-many = omega (arith, ap length w.same_pumps, pumps-many w.links w.round, w.count)

  pub texts-many : length texts ≡ length splits + 1
  texts-many = omega (arith, words-many, ap length spells, length-map words (spelled a))

  text-at : (k : ℕ) → k < length words → get_or texts k [] ≡ spelled a (get_or words k [])
  text-at k lt = ap (λ l. get_or l k []) spells ∙ get_or-map (spelled a) words k [] [] lt

  letters-at : (k : ℕ) → k < length words → All (λ letter. letter < letters_count a) (get_or words k [])
  letters-at k lt = All-get_or (All (λ letter. letter < letters_count a)) words k [] lt letters

  pub pumped : (k : ℕ) → k < length splits → IsPumped a g (get_or texts k []) (split_at splits k)
  pumped k lt =
      let same : get_or words k [] ≡ (split_at splits k).word = ap (λ l. get_or l k []) w.same_pumps ∙ pump-at w.links splits w.round k w.ends lt in
      record {
        split = route.split k lt;
        from_in = route.from_in k lt;
        to_in = route.to_in k lt;
        letters = subst (All (λ letter. letter < letters_count a)) same (letters-at k (omega (arith, lt, words-many)));
        spells = text-at k (omega (arith, lt, words-many)) ∙ ap (spelled a) same;
      }

  pub after-in : alone < g.graph.states → state_after splits alone < g.graph.states
  after-in lt = by (length splits) refl
    where
      by : (m : ℕ) → length splits ≡ m → state_after splits alone < g.graph.states
      by zero e = subst (λ q. q < g.graph.states) (after-none splits alone e) lt
      by (suc k) e = subst (λ q. q < g.graph.states) (after-last splits k alone (omega (arith, e))) (route.to_in k (omega (arith, e)))

  last-is : get_or words (length splits) [] ≡ w.round
  last-is = ap (λ l. get_or l (length splits) []) w.same_pumps ∙ pump-last w.links w.round (length splits) (sym w.count)

  pub cycle-some : 1 ≤ length (get_or words (length splits) [])
  cycle-some = omega (arith, w.some, ap length last-is)

  pub cycle-there : (state : ℕ) → state ≡ state_after splits alone → 1 ≤ paths (moves_in g) state state (get_or words (length splits) [])
  cycle-there state e =
      let same : state ≡ w.state = e ∙ sym w.at_end in
      subst (λ q. 1 ≤ paths (moves_in g) q q (get_or words (length splits) [])) (sym same)
      (subst (λ y. 1 ≤ paths (moves_in g) w.state w.state y) (sym last-is) w.cycle)

  pub cycle-letters : All (λ letter. letter < letters_count a) (get_or words (length splits) [])
  cycle-letters = letters-at (length splits) (omega (arith, words-many))

  pub cycle-text : get_or texts (length splits) [] ≡ spelled a (get_or words (length splits) [])
  cycle-text = text-at (length splits) (omega (arith, words-many))
