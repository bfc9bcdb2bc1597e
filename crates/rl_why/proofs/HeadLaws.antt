-- The heads of a family lead to the places from which its pumps are read.
use Rattle.std.proofs.Common.{◌≡◌, ℕ, zero, suc, ◌<◌, ◌≤◌, ⊎_elim, Bool, true, false, List, [], ◌∷◌, length, map, get_or, All, Option, None, if◌then◌else◌, eqb, refl, sym, ap, ◌∙◌, subst, arith}
use Rattle.std.proofs.lemmas.Bool.{cases_lt}
use Rattle.std.proofs.lemmas.List.{length-map, get_or-map}
use Rattle.std.proofs.lemmas.List.Elements.{All-get_or, All-head}
use Rattle.rl_graph.specs.Paths.{paths, IsPath}
use Rattle.rl_graph.specs.Twins.{Link}
use Rattle.rl_graph.proofs.PathLaws.{split-word}
use Rattle.rl_graph.proofs.TwinPaths.{path-there}
use Rattle.rl_syntax.specs.Tree.{Tree}
use Rattle.rl_prio.specs.Automaton.{Automaton, letters_count, moves_at}
use Rattle.rl_prio.specs.Letters.{all_sets}
use Rattle.rl_degree.specs.declared.chains.Split.{Split}
use Rattle.rl_degree.specs.Chains.{link_of, links_of}
use Rattle.rl_pairs.specs.PairTable.{PairTable, moves_in, pair_in}
use Rattle.rl_pairs.specs.Families.{Chained, chain_heads, spelled, letters_in}
use Rattle.rl_pairs.proofs.StillLaws.{All-has, has-All, spelled-within, letters-spelled}
use Rattle.rl_growth.specs.FamilyWords.{AreLetters, IsTwinWords, IsChainWords}
use Rattle.rl_growth.specs.Routes.{split_at, state_after, bare, IsRoute}
use Rattle.rl_ways.specs.Ways.{last_of}
use Rattle.rl_ways.proofs.LinkLaws.{At}
use Rattle.rl_why.specs.Readings.{IsEntered}
use Rattle.rl_why.specs.internal.Numbers.{state_in, numbers_in}
use Rattle.rl_why.specs.internal.Settings.{IsSetting, place_of, from_at}
use Rattle.rl_why.proofs.AlongLaws.{numbers-lead, numbers-long, begins}
use Rattle.rl_why.proofs.ChainLaws.{link_same, links_same, pumped, after-in, cycle-some, cycle-there, cycle-letters, cycle-text}
use Rattle.rl_why.proofs.EnterLaws.{arrives-at, paths-enter, at-start}

module _ (t : Tree) (a : Automaton) (g : PairTable) (s : IsSetting t a g) where
  letters-back : (w : List ℕ) → All (λ letter. letter < letters_count a) w → letters_in a (spelled a w) ≡ w
  letters-back w letters = letters-spelled a (all_sets t) s.stands.same_letters w (λ l h. All-has (λ letter. letter < letters_count a) w l letters h)

  codes-in : (w : List ℕ) → All (λ letter. letter < letters_count a) w → All (λ c. c < a.table.codes) (spelled a w)
  codes-in w letters =
      has-All (λ c. c < a.table.codes) (spelled a w) (spelled-within a (all_sets t) s.stands.same_letters w (λ l h. All-has (λ letter. letter < letters_count a) w l letters h))

  -- A path of the graph as one of the automaton, on the letters of the text that spells its word.
  spelled-path : (w p : List ℕ) (i k : ℕ) → i < g.graph.states → All (λ letter. letter < letters_count a) w → IsPath (moves_in g) i k p w
      → IsPath (moves_at a) (state_in g i) (state_in g k) (numbers_in a g i w p) (letters_in a (spelled a w))
  spelled-path w p i k lt letters path =
      subst (IsPath (moves_at a) (state_in g i) (state_in g k) (numbers_in a g i w p)) (sym (letters-back w letters)) (numbers-lead t a g s w p i k lt path)

  pub pairs-enter : (i k : ℕ) (w y : List ℕ) (place before : Option ℕ) → i < g.graph.states → k < g.graph.states → At t a.table.codes (state_in g i) place before
      → All (λ letter. letter < letters_count a) w → All (λ letter. letter < letters_count a) y → 1 ≤ length y → 1 ≤ paths (moves_in g) i k w → 1 ≤ paths (moves_in g) k k y
      → IsEntered t place before (spelled a w) (spelled a y) (place_of t a g k)
  pairs-enter i k w y place before i_in k_in at w_letters y_letters some there around =
      let p = path-there (moves_in g) i k w there in
      let f = path-there (moves_in g) k k y around in
      let w_long : length (spelled a w) ≡ length w = length-map w _ in
      let y_long : length (spelled a y) ≡ length y = length-map y _ in
      paths-enter a t s.ending s.stands (spelled a w) (spelled a y) (numbers_in a g i w p.0) (numbers_in a g k y f.0) (state_in g i) (state_in g k) place before at
      (codes-in w w_letters) (codes-in y y_letters) (omega (arith, some, y_long)) (numbers-long t a g s w p.0 i k i_in p.1 ∙ sym w_long)
      (spelled-path w p.0 i k i_in w_letters p.1) (spelled-path y f.0 k k k_in y_letters f.1)

  -- The state of a pair with a path back to itself, behind the text of this path.
  pub pair-at : (i : ℕ) (y : List ℕ) → i < g.graph.states → All (λ letter. letter < letters_count a) y → 1 ≤ length y → 1 ≤ paths (moves_in g) i i y
      → At t a.table.codes (state_in g i) (place_of t a g i) (last_of (spelled a y))
  pair-at i y lt letters some around =
      let f = path-there (moves_in g) i i y around in
      let y_long : length (spelled a y) ≡ length y = length-map y _ in
      arrives-at a t s.ending s.stands (spelled a y) (numbers_in a g i y f.0) (state_in g i) (state_in g i) (codes-in y letters) (omega (arith, some, y_long))
      (spelled-path y f.0 i i lt letters f.1) (begins t a g s y f.0 i i lt some letters f.1)

  first-at : At t a.table.codes (state_in g 0) None None
  first-at = subst (λ q. At t a.table.codes q None None) (sym (ap (λ p. p.state) s.led.graph.first)) (at-start t a.table.codes)

  -- ---- twins

  twice-some : (i : ℕ) (w : List ℕ) → 2 ≤ paths (moves_in g) i i w → 1 ≤ length w
  twice-some i [] h = absurd (by (eqb i i) h)
    where
      by : (v : Bool) → 2 ≤ (if v then 1 else 0) → ⊥
      by true h = let few : 2 ≤ 1 = h in omega (arith, few)
      by false h = let few : 2 ≤ 0 = h in omega (arith, few)
  twice-some i (l ∷ w) h = omega arith

  pub twin-entered : (i : ℕ) (heads pumps texts rounds : List (List ℕ)) → i < g.graph.states → IsTwinWords a (moves_in g) (pair_in g) i heads pumps
      → AreLetters a heads → AreLetters a pumps → texts ≡ map (spelled a) heads → rounds ≡ map (spelled a) pumps
      → IsEntered t None None (get_or texts 0 []) (get_or rounds 0 []) (place_of t a g i)
  twin-entered i heads pumps texts rounds lt words head_letters pump_letters texts_are rounds_are =
      let first : get_or texts 0 [] ≡ spelled a words.lead = ap (λ l. get_or l 0 []) (texts_are ∙ ap (map (spelled a)) words.same_heads) in
      let round : get_or rounds 0 [] ≡ spelled a words.round = ap (λ l. get_or l 0 []) (rounds_are ∙ ap (map (spelled a)) words.same_pumps) in
      let all = pairs-enter 0 i words.lead words.round None None s.led.graph.some lt first-at
      (All-head (All (λ letter. letter < letters_count a)) words.lead (words.last ∷ []) (subst (AreLetters a) words.same_heads head_letters))
      (All-head (All (λ letter. letter < letters_count a)) words.round [] (subst (AreLetters a) words.same_pumps pump_letters))
      (twice-some i words.round words.twice) words.leads (omega (arith, words.twice)) in
      subst (λ x. IsEntered t None None x (get_or rounds 0 []) (place_of t a g i)) (sym first)
      (subst (λ x. IsEntered t None None (spelled a words.lead) x (place_of t a g i)) (sym round) all)

-- ---- chains

-- The states from which the pumps are read.
pub from-split : (splits : List Split) (q k : ℕ) → k < length splits → from_at splits q k ≡ (split_at splits k).from
from-split [] q k lt = absurd (omega (arith, lt))
from-split (x ∷ splits) q zero lt = refl
from-split (x ∷ splits) q (suc k) lt = from-split splits x.to k (omega (arith, lt))

pub from-last : (splits : List Split) (q k : ℕ) → k ≡ length splits → from_at splits q k ≡ state_after splits q
from-last [] q k e = refl
from-last (x ∷ splits) q zero e = absurd (omega (arith, e))
from-last (x ∷ splits) q (suc k) e = from-last splits x.to k (omega (arith, e))

-- The heads of a chain that begins at a state lead from split to split.
record Leading (next : ℕ → ℕ → List ℕ) (first q : ℕ) (splits : List Split) (heads : List (List ℕ)) : Type 0 where
  begin : 1 ≤ paths next first (from_at splits q 0) (get_or heads 0 [])
  later : (k : ℕ) → k < length splits → 1 ≤ paths next (split_at splits k).to (from_at splits q (suc k)) (get_or heads (suc k) [])

leading : (next : ℕ → ℕ → List ℕ) (links : List Link) (splits : List Split) (lead last : List ℕ) (first q state : ℕ) → map bare links ≡ links_of splits → state ≡ state_after splits q
    → Chained next first links lead state → Leading next first q splits (chain_heads links lead last)
leading next [] [] lead last first q state same end chained =
    record { begin = subst (λ x. 1 ≤ paths next first x lead) end chained; later = λ k lt. absurd (omega (arith, lt)) }
leading next [] (x ∷ splits) lead last first q state same end chained = let none : 0 ≡ suc (length (links_of splits)) = ap length same in absurd (omega (arith, none))
leading next (m ∷ links) [] lead last first q state same end chained = let none : suc (length (map bare links)) ≡ 0 = ap length same in absurd (omega (arith, none))
leading next (m ∷ links) (x ∷ splits) lead last first q state same end chained =
    let here : bare m ≡ link_of x = link_same (bare m) (link_of x) (map bare links) (links_of splits) same in
    let from : m.from ≡ x.from = ap (λ y. y.from) here in
    let to : m.to ≡ x.to = ap (λ y. y.to) here in
    let rest = leading next links splits lead last x.to x.to state (links_same (bare m) (link_of x) (map bare links) (links_of splits) same) end
    (subst (λ y. Chained next y links lead state) to chained.2) in
    record { begin = subst (λ y. 1 ≤ paths next first y m.lead) from chained.0; later = onward rest }
  where
    onward : Leading next x.to x.to splits (chain_heads links lead last) → (k : ℕ) → k < suc (length splits)
        → 1 ≤ paths next (split_at (x ∷ splits) k).to (from_at (x ∷ splits) q (suc k)) (get_or (m.lead ∷ chain_heads links lead last) (suc k) [])
    onward rest zero lt = rest.begin
    onward rest (suc k) lt = rest.later k (omega (arith, lt))

heads-many : (links : List Link) (lead last : List ℕ) → length (chain_heads links lead last) ≡ suc (suc (length links))
heads-many [] lead last = refl
heads-many (m ∷ links) lead last = ap suc (heads-many links lead last)

-- A pair with a path back to itself along the word that the text spells.
record IsRound (a : Automaton) (g : PairTable) (text : List ℕ) (i : ℕ) : Type 0 where
  word : List ℕ
  letters : All (λ letter. letter < letters_count a) word
  some : 1 ≤ length word
  around : 1 ≤ paths (moves_in g) i i word
  spells : text ≡ spelled a word
  inside : i < g.graph.states

module _ (t : Tree) (a : Automaton) (g : PairTable) (s : IsSetting t a g) (splits : List Split) (alone : ℕ) (heads words tops texts : List (List ℕ))
    (route : IsRoute (moves_in g) g.graph.states splits) (alone_in : alone < g.graph.states)
    (w : IsChainWords a (moves_in g) (pair_in g) splits alone heads words) (head_letters : AreLetters a heads) (letters : AreLetters a words)
    (head_spells : tops ≡ map (spelled a) heads) (spells : texts ≡ map (spelled a) words) where
  round-of : (k : ℕ) → k < length splits → IsRound a g (get_or texts k []) (split_at splits k).from
  round-of k lt =
      let p = pumped a g splits alone heads words texts route w letters spells k lt in
      record {
        word = (split_at splits k).word;
        letters = p.letters;
        some = split-word (moves_in g) (split_at splits k).from (split_at splits k).to (split_at splits k).word p.split;
        around = p.split.before;
        spells = p.spells;
        inside = p.from_in;
      }

  round-behind : (k : ℕ) → k < length splits → IsRound a g (get_or texts k []) (split_at splits k).to
  round-behind k lt =
      let p = pumped a g splits alone heads words texts route w letters spells k lt in
      record {
        word = (split_at splits k).word;
        letters = p.letters;
        some = split-word (moves_in g) (split_at splits k).from (split_at splits k).to (split_at splits k).word p.split;
        around = p.split.behind;
        spells = p.spells;
        inside = p.to_in;
      }

  round-last : IsRound a g (get_or texts (length splits) []) (state_after splits alone)
  round-last =
      record {
        word = get_or words (length splits) [];
        letters = cycle-letters a g splits alone heads words texts route w letters spells;
        some = cycle-some a g splits alone heads words texts route w letters spells;
        around = cycle-there a g splits alone heads words texts route w letters spells (state_after splits alone) refl;
        spells = cycle-text a g splits alone heads words texts route w letters spells;
        inside = after-in a g splits alone heads words texts route w letters spells alone_in;
      }

  round-at : (k : ℕ) → k ≤ length splits → IsRound a g (get_or texts k []) (from_at splits alone k)
  round-at k le =
      ⊎_elim
      (λ lt. subst (IsRound a g (get_or texts k [])) (sym (from-split splits alone k lt)) (round-of k lt))
      (λ more.
      let e : k ≡ length splits = omega (arith, le, more) in
      subst (IsRound a g (get_or texts k [])) (sym (from-last splits alone k e)) (subst (λ j. IsRound a g (get_or texts j []) (state_after splits alone)) (sym e) round-last))
      (cases_lt k (length splits))

  heads-lead : Leading (moves_in g) 0 alone splits heads
  heads-lead = subst (Leading (moves_in g) 0 alone splits) (sym w.same_heads) (leading (moves_in g) w.links splits w.lead w.last 0 alone w.state w.ends w.at_end w.chained)

  head-in : (k : ℕ) → k ≤ length splits → k < length heads
  head-in k le = omega (arith, le, ap length w.same_heads, heads-many w.links w.lead w.last, w.count)

  -- From a pair, behind a code, along a head to where the pump with the same number is read.
  enters : (k i : ℕ) (place before : Option ℕ) → k ≤ length splits → i < g.graph.states → At t a.table.codes (state_in g i) place before
      → 1 ≤ paths (moves_in g) i (from_at splits alone k) (get_or heads k [])
      → IsEntered t place before (get_or tops k []) (get_or texts k []) (place_of t a g (from_at splits alone k))
  enters k i place before le lt at there =
      let q = from_at splits alone k in
      let r = round-at k le in
      let top : get_or tops k [] ≡ spelled a (get_or heads k []) = ap (λ l. get_or l k []) head_spells ∙ get_or-map (spelled a) heads k [] [] (head-in k le) in
      let all = pairs-enter t a g s i q (get_or heads k []) r.word place before lt r.inside at
      (All-get_or (All (λ letter. letter < letters_count a)) heads k [] (head-in k le) head_letters) r.letters r.some there r.around in
      subst (λ x. IsEntered t place before x (get_or texts k []) (place_of t a g q)) (sym top)
      (subst (λ x. IsEntered t place before (spelled a (get_or heads k [])) x (place_of t a g q)) (sym r.spells) all)

  pub chain-first : IsEntered t None None (get_or tops 0 []) (get_or texts 0 []) (place_of t a g (from_at splits alone 0))
  chain-first = enters 0 0 None None (omega arith) s.led.graph.some (first-at t a g s) heads-lead.begin

  pub chain-later : (k : ℕ) → k < length splits
      → IsEntered t (place_of t a g (split_at splits k).to) (last_of (get_or texts k [])) (get_or tops (suc k) []) (get_or texts (suc k) []) (place_of t a g (from_at splits alone (suc k)))
  chain-later k lt =
      let i = (split_at splits k).to in
      let r = round-behind k lt in
      enters (suc k) i (place_of t a g i) (last_of (get_or texts k [])) (omega (arith, lt)) r.inside
      (subst (λ x. At t a.table.codes (state_in g i) (place_of t a g i) (last_of x)) (sym r.spells) (pair-at t a g s i r.word r.inside r.letters r.some r.around))
      (heads-lead.later k lt)
