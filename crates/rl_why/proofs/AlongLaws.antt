-- Paths of the graph of live pairs are ways of the texts that spell their words.
use Rattle.std.proofs.Common.{◌≡◌, ℕ, ◌<◌, ◌≤◌, List, length, map, All, sym, subst, arith}
use Rattle.std.proofs.lemmas.List.{length-map}
use Rattle.rl_graph.specs.Paths.{IsPath, Has}
use Rattle.rl_syntax.specs.Tree.{Tree}
use Rattle.rl_prio.specs.Automaton.{Automaton, letters_count, moves_at}
use Rattle.rl_prio.specs.Letters.{all_sets}
use Rattle.rl_prio.specs.States.{accepting}
use Rattle.rl_pairs.specs.PairTable.{PairTable, moves_in, pair_in}
use Rattle.rl_pairs.specs.Families.{spelled, letters_in}
use Rattle.rl_pairs.proofs.StillLaws.{All-has, has-All, spelled-within, letters-spelled}
use Rattle.rl_ways.specs.Ways.{Leads, place_of_state}
use Rattle.rl_ways.proofs.CycleLaws.{cycles-lead, paths-begin}
use Rattle.rl_why.specs.Readings.{way_again}
use Rattle.rl_why.specs.internal.Numbers.{state_in, numbers_in}
use Rattle.rl_why.specs.internal.Settings.{IsSetting}
use Rattle.rl_why.proofs.NumberLaws.{Among, among-graph, path-long, numbers-path, numbers-apart}

module _ (t : Tree) (a : Automaton) (g : PairTable) (s : IsSetting t a g) where
  among : (i l : ℕ) → i < g.graph.states → Among (map (state_in g) (moves_in g i l)) (moves_at a (state_in g i) l)
  among = among-graph a (moves_in g) (pair_in g) g.graph.states s.led.graph

  -- The numbers of a path of the graph are a path of the automaton.
  pub numbers-lead : (w p : List ℕ) (i k : ℕ) → i < g.graph.states → IsPath (moves_in g) i k p w → IsPath (moves_at a) (state_in g i) (state_in g k) (numbers_in a g i w p) w
  numbers-lead = numbers-path (moves_in g) (state_in g) (moves_at a) g.graph.states among s.led.graph.targets

  pub numbers-differ : (w p r : List ℕ) (i k m : ℕ) → i < g.graph.states → IsPath (moves_in g) i k p w → IsPath (moves_in g) i m r w
      → (p ≡ r → ⊥) → numbers_in a g i w p ≡ numbers_in a g i w r → ⊥
  numbers-differ w p r i k m lt one two other same =
      other (numbers-apart (moves_in g) (state_in g) (moves_at a) g.graph.states among s.led.graph.targets w p r i k m lt one two same)

  pub numbers-long : (w p : List ℕ) (i k : ℕ) → i < g.graph.states → IsPath (moves_in g) i k p w → length (numbers_in a g i w p) ≡ length w
  numbers-long w p i k lt path = path-long (moves_at a) (state_in g i) (state_in g k) w (numbers_in a g i w p) (numbers-lead w p i k lt path)

  -- A state from which a word that isn't empty leads on is that of a place, or the start.
  pub begins : (w p : List ℕ) (i k : ℕ) → i < g.graph.states → 1 ≤ length w → All (λ letter. letter < letters_count a) w
      → IsPath (moves_in g) i k p w → state_in g i < accepting t a.table.codes
  begins w p i k lt some letters path =
      let text = spelled a w in
      let same : letters_in a text ≡ w = letters-spelled a (all_sets t) s.stands.same_letters w (λ l h. All-has (λ letter. letter < letters_count a) w l letters h) in
      let long : length text ≡ length w = length-map w _ in
      let below = paths-begin a t s.ending s.stands text (numbers_in a g i w p) (state_in g i) (state_in g k) (omega (arith, some, long))
      (subst (IsPath (moves_at a) (state_in g i) (state_in g k) (numbers_in a g i w p)) (sym same) (numbers-lead w p i k lt path)) in
      omega (arith, below, s.stands.same_states)

  -- A path that begins on a cycle and ends on one, with the same word for all three, is a way.
  pub paths-lead_along : (w e p f : List ℕ) (i k : ℕ) → i < g.graph.states → k < g.graph.states → 1 ≤ length w → All (λ letter. letter < letters_count a) w
      → IsPath (moves_in g) i i e w → IsPath (moves_in g) i k p w → IsPath (moves_in g) k k f w
      → Leads (place_of_state t a.table.codes (state_in g i)) (place_of_state t a.table.codes (state_in g k)) (spelled a w)
      (way_again t (spelled a w) (place_of_state t a.table.codes (state_in g i)) (numbers_in a g i w p))
  paths-lead_along w e p f i k i_in k_in some letters around path behind =
      let text = spelled a w in
      let each = λ (l : ℕ) (h : Has l w). All-has (λ letter. letter < letters_count a) w l letters h in
      let same : letters_in a text ≡ w = letters-spelled a (all_sets t) s.stands.same_letters w each in
      let long : length text ≡ length w = length-map w _ in
      let codes : All (λ c. c < a.table.codes) text = has-All (λ c. c < a.table.codes) text (spelled-within a (all_sets t) s.stands.same_letters w each) in
      let below = begins w f k k k_in some letters behind in
      cycles-lead a t s.ending s.stands text (numbers_in a g i w e) (numbers_in a g i w p) (state_in g i) (state_in g k) codes (omega (arith, some, long))
      (subst (IsPath (moves_at a) (state_in g i) (state_in g i) (numbers_in a g i w e)) (sym same) (numbers-lead w e i i i_in around))
      (subst (IsPath (moves_at a) (state_in g i) (state_in g k) (numbers_in a g i w p)) (sym same) (numbers-lead w p i k i_in path))
      (omega (arith, below, s.stands.same_states))
