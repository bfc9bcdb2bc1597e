-- From a twin or a chain of the graph of live pairs to a verdict; how large the graph is.
use Rattle.std.proofs.Common.{◌≡◌, ℕ, suc, ◌<◌, ◌≤◌, ◌⊎◌, inl, inr, List, [], ◌∷◌, length, Bool, true, refl, ap, arith, All, map, length-append, mul-le-mul, ◌+◌, ◌*◌, ◌^◌, subst, sym}
use Rattle.std.proofs.lemmas.Bool.{cases_lt}
use Rattle.std.proofs.Math.Nat.{pow-zero, pow-le-pow_right}
use Rattle.std.proofs.lemmas.List.{length-map}
use Rattle.rl_ranges.specs.Text.{IsText}
use Rattle.rl_ranges.specs.Letters.{letter_at}
use Rattle.rl_prio.specs.Letters.{all_sets}
use Rattle.rl_prio.specs.Walk.{word_at}
use Rattle.rl_pairs.proofs.PrefixLaws.{bound_by_paths, bound_without_cycle}
use Rattle.rl_syntax.specs.Cost.{cost}
use Rattle.rl_graph.specs.Paths.{paths, IsWithin, walked, Has}
use Rattle.rl_graph.specs.Twins.{Link}
use Rattle.rl_graph.specs.Bounds.{bound_n, bound_k, bound_h, bound_c}
use Rattle.rl_syntax.specs.declared.re.Ending.{Ending}
use Rattle.rl_syntax.specs.declared.verdict.Family.{Family}
use Rattle.rl_syntax.specs.declared.verdict.Limit.{Limit}
use Rattle.rl_syntax.specs.declared.verdict.Limit.TheVariants.{Pairs}
use Rattle.rl_syntax.specs.Tree.{Tree, size}
use Rattle.rl_syntax.specs.Family.{IsFamily}
use Rattle.rl_prio.specs.Automaton.{Automaton, IsAutomaton, letters_count, moves_at}
use Rattle.rl_prio.specs.StandsFor.{StandsOver}
use Rattle.rl_prio.specs.Measure.{measure}
use Rattle.rl_prio.proofs.WholeLemmas.{states-few, moves-short}
use Rattle.rl_prio.proofs.KindLemmas.{size-measure}
use Rattle.rl_sets.specs.Live.{image, joined, IsRest}
use Rattle.rl_pairs.specs.declared.pair.Pair.{Pair}
use Rattle.rl_pairs.specs.LivePairs.{LivePair, pairs_from, next_pairs, refused}
use Rattle.rl_pairs.specs.PairGraph.{IsPairGraph, IsNumbered, KeptLive}
use Rattle.rl_pairs.specs.Counted.{MoreThan}
use Rattle.rl_pairs.specs.Families.{Chained, chain_heads, chain_pumps, to_end, Spells}
use Rattle.rl_pairs.specs.RightVerdict.{Question, IsMachine, IsExceeded, HasDegree, IsExpo, IsBounded, measure_of}
use Rattle.rl_pairs.proofs.StillLaws.{still_of}
use Rattle.rl_pairs.proofs.CostLaws.{twin_spells, twin_family, chain_spells, chain_family, texts_exact}
use Rattle.rl_pairs.proofs.CountLaws.{few-pairs, no-more-than-states}
use Rattle.rl_pairs.proofs.NumberLaws.{more-than-limit}
use Rattle.rl_pairs.proofs.SameLaws.{pairs-passed}

pub twin_verdict : (q : Question) (a : Automaton) (next : ℕ → ℕ → List ℕ) (at : ℕ → Pair) (n : ℕ) → IsMachine q a → IsAutomaton a → IsPairGraph a next at n → ((limit : Limit) → IsExceeded q limit → ⊥)
    → (f : Family) (p : ℕ) (x y last : List ℕ) → Spells a f (x ∷ (last ∷ [])) (y ∷ []) → 1 ≤ paths next 0 p x → 2 ≤ paths next p p y → IsRest a (to_end a last) → refused a at p (to_end a last) ≡ true → IsExpo q f
twin_verdict q a next at n machine whole g within f p x y last spells lead twin r ok =
    record {
      within = within;
      family = twin_family a q.tree q.ending next at n whole machine.stands g q.universe f p x y last machine.same_codes spells lead twin r;
      lower = twin_spells a q.tree q.ending next at n whole machine.stands g f p x y last spells lead twin r ok;
    }

pub chain_verdict : (q : Question) (a : Automaton) (next : ℕ → ℕ → List ℕ) (at : ℕ → Pair) (n : ℕ) → IsMachine q a → IsAutomaton a → IsPairGraph a next at n → ((limit : Limit) → IsExceeded q limit → ⊥)
    → (f : Family) (links : List Link) (x : List ℕ) (z : ℕ) (y last : List ℕ) → Spells a f (chain_heads links x last) (chain_pumps links y) → Chained next 0 links x z → 1 ≤ paths next z z y → 1 ≤ length y → IsRest a (to_end a last) → refused a at z (to_end a last) ≡ true
    → HasDegree q (suc (length links)) f
chain_verdict q a next at n machine whole g within f links x z y last spells chain cycle some r ok =
    record {
      within = within;
      family = chain_family a q.tree q.ending next at n whole machine.stands g q.universe f links x z y last machine.same_codes spells chain cycle some r;
      lower = chain_spells a q.tree q.ending next at n whole machine.stands g f links x z y last spells chain cycle some r ok;
    }

pub flat_verdict : (q : Question) → ((limit : Limit) → IsExceeded q limit → ⊥) → (f : Family) → IsFamily q.universe 0 f → HasDegree q 0 f
flat_verdict q within f family = record { within = within; family = family; lower = λ k. omega (arith, pow-zero k) }

pub few-live : (a : Automaton) (t : Tree) (ending : Ending) (sets : List (ℕ → Bool)) → IsAutomaton a → StandsOver a t ending sets → MoreThan (bound_n (measure a.table.codes t)) (LivePair a) → ⊥
few-live a t ending sets whole stands = few-pairs a (still_of a t ending sets whole stands) (measure a.table.codes t) (omega (arith, states-few a t ending sets stands))

pub few-states : (a : Automaton) (t : Tree) (ending : Ending) (sets : List (ℕ → Bool)) (next : ℕ → ℕ → List ℕ) (at : ℕ → Pair) (n : ℕ) → IsAutomaton a → StandsOver a t ending sets → IsPairGraph a next at n → IsNumbered a next at n → n ≤ bound_n (measure a.table.codes t)
few-states a t ending sets next at n whole stands g numbered = by (cases_lt (bound_n (measure a.table.codes t)) n)
  where
    by : (bound_n (measure a.table.codes t) < n) ⊎ (n ≤ bound_n (measure a.table.codes t)) → n ≤ bound_n (measure a.table.codes t)
    by (inl more) = absurd (few-live a t ending sets whole stands (more-than-limit a next at n g numbered (bound_n (measure a.table.codes t)) more))
    by (inr few) = few

length-from : (a : Automaton) (set ts : List ℕ) → length (pairs_from a set ts) ≡ length ts
length-from a set [] = refl
length-from a set (t ∷ ts) = ap suc (length-from a (joined a t set) ts)

length-kept : (a : Automaton) (at : ℕ → Pair) (ps : List Pair) (ks : List ℕ) → KeptLive a at ps ks → length ks ≤ length ps
length-kept a at [] ks e = omega (arith, ap length e)
length-kept a at (p ∷ ps) ks (inl (dead, more)) = omega (arith, length-kept a at ps ks more)
length-kept a at (p ∷ ps) ks (inr (k, rest, live, e, same, more)) = omega (arith, ap length e, length-kept a at ps rest more)

moves-measured : (s m : ℕ) → s ≤ m → 2 ^ (s * s) ≤ 2 ^ (m * m)
moves-measured s m le = pow-le-pow_right (omega arith) (mul-le-mul le le)

pub graph-within : (a : Automaton) (t : Tree) (ending : Ending) (sets : List (ℕ → Bool)) (next : ℕ → ℕ → List ℕ) (at : ℕ → Pair) (n : ℕ) → StandsOver a t ending sets → IsPairGraph a next at n → IsWithin next n (bound_k (measure a.table.codes t))
unfolding bound_k
graph-within a t ending sets next at n stands g = record { targets = λ q l m lt h. g.targets q l m lt h; moves = λ q l lt. by q l lt (cases_lt (letters_count a) l) }
  where
    by : (q l : ℕ) → q < n → (letters_count a < l) ⊎ (l ≤ letters_count a) → length (next q l) ≤ bound_k (measure a.table.codes t)
    by q l lt (inl big) = omega (arith, ap length (g.empty q l (inr big)))
    by q l lt (inr le) =
        omega (arith, length-kept a at (next_pairs a (at q) l) (next q l) (g.moves q l lt le), length-from a (image a (at q).set l) (moves_at a (at q).state l), moves-short a t ending sets stands (at q).state l, moves-measured (size t) (measure a.table.codes t) (size-measure t a.table.codes))

pub pairs-within : (q : Question) (a : Automaton) (next : ℕ → ℕ → List ℕ) (at : ℕ → Pair) (n : ℕ) → IsMachine q a → IsPairGraph a next at n → n ≤ q.max_pairs → IsExceeded q Pairs → ⊥
pairs-within q a next at n machine g few passed = no-more-than-states a next at n q.max_pairs g few (pairs-passed q a machine passed)

-- The bounds from above

pub graph-bounded : (a : Automaton) (t : Tree) (ending : Ending) (sets : List (ℕ → Bool)) (next : ℕ → ℕ → List ℕ) (at : ℕ → Pair) (n : ℕ) → IsAutomaton a → StandsOver a t ending sets → IsPairGraph a next at n → IsNumbered a next at n → IsWithin next (bound_n (measure a.table.codes t)) (bound_k (measure a.table.codes t))
graph-bounded a t ending sets next at n whole stands g numbered =
    record { targets = λ q l m lt h. inside q l m h (cases_lt q n); moves = λ q l lt. few q l (cases_lt q n) }
  where
    inside : (q l m : ℕ) → Has m (next q l) → (q < n) ⊎ (n ≤ q) → m < bound_n (measure a.table.codes t)
    inside q l m h (inl lt) = omega (arith, g.targets q l m lt h, few-states a t ending sets next at n whole stands g numbered)
    inside q l m h (inr out) = absurd (rw (g.empty q l (inl out)) at h)

    few : (q l : ℕ) → (q < n) ⊎ (n ≤ q) → length (next q l) ≤ bound_k (measure a.table.codes t)
    few q l (inl lt) = (graph-within a t ending sets next at n stands g).moves q l lt
    few q l (inr out) = omega (arith, ap length (g.empty q l (inl out)))

-- The same for the automaton of a question.
module _ (q : Question) (a : Automaton) (next : ℕ → ℕ → List ℕ) (at : ℕ → Pair) (n : ℕ) (machine : IsMachine q a) (g : IsPairGraph a next at n) where
  same-measure : measure a.table.codes q.tree ≡ measure_of q
  same-measure = ap (λ m. measure m q.tree) machine.same_codes

  pub machine-within : IsWithin next n (bound_k (measure_of q))
  machine-within = subst (λ m. IsWithin next n (bound_k m)) same-measure (graph-within a q.tree q.ending (all_sets q.tree) next at n machine.stands g)

  pub machine-few : IsAutomaton a → IsNumbered a next at n → n ≤ bound_n (measure_of q)
  machine-few whole numbered = subst (λ m. n ≤ bound_n m) same-measure (few-states a q.tree q.ending (all_sets q.tree) next at n whole machine.stands g numbered)

  pub machine-bounded : IsAutomaton a → IsNumbered a next at n → IsWithin next (bound_n (measure_of q)) (bound_k (measure_of q))
  machine-bounded whole numbered =
      subst (λ m. IsWithin next (bound_n m) (bound_k m)) same-measure (graph-bounded a q.tree q.ending (all_sets q.tree) next at n whole machine.stands g numbered)

length-word : (a : Automaton) (w : List ℕ) → length (word_at a w) ≡ length w + 1
length-word a w = omega (arith, length-append (map (letter_at a.table) w) (letters_count a ∷ []), length-map w (letter_at a.table))

module _ (q : Question) (a : Automaton) (next : ℕ → ℕ → List ℕ) (at : ℕ → Pair) (n : ℕ) (machine : IsMachine q a) (whole : IsAutomaton a) (g : IsPairGraph a next at n) (numbered : IsNumbered a next at n) where
  within-bounds : IsWithin next (bound_n (measure_of q)) (bound_k (measure_of q))
  within-bounds = machine-bounded q a next at n machine g whole numbered

  some-bound : 1 ≤ bound_n (measure_of q)
  some-bound = omega (arith, g.some, machine-few q a next at n machine g whole numbered)

  cost-walked : (w : List ℕ) → IsText q.universe w → cost q.tree q.ending w ≡ 1 + walked next (refused a at) 0 (word_at a w)
  cost-walked w text = texts_exact a q.tree q.ending next at n whole machine.stands g w (subst (λ m. All (λ c. c < m) w) (sym machine.same_codes) text)

  pub bounded_degree : (d : ℕ) → ((p : ℕ) (u : List ℕ) → paths next 0 p u ≤ (bound_h (bound_n (measure_of q)) (bound_k (measure_of q)) * (1 + bound_n (measure_of q) * bound_k (measure_of q))) ^ suc d * suc (length u) ^ d) → IsBounded q (suc d)
  bounded_degree d few w text =
      let bound = bound_by_paths next (refused a at) (measure_of q) d some-bound within-bounds few (word_at a w) (omega (arith, length-word a w)) in
      let same : cost q.tree q.ending w ≤ bound_c (measure_of q) (suc d) * length (word_at a w) ^ suc d = omega (arith, bound, cost-walked w text) in
      subst (λ m. cost q.tree q.ending w ≤ bound_c (measure_of q) (suc d) * m ^ suc d) (length-word a w) same

  pub bounded_flat : ((p l : ℕ) (u : List ℕ) → paths next p p (l ∷ u) ≡ 0) → ((p : ℕ) (u : List ℕ) → paths next 0 p u ≤ bound_h (bound_n (measure_of q)) (bound_k (measure_of q))) → IsBounded q 0
  bounded_flat none few w text =
      let bound = bound_without_cycle next (refused a at) (measure_of q) some-bound within-bounds none few (word_at a w) in
      let same : cost q.tree q.ending w ≤ bound_c (measure_of q) 0 * length (word_at a w) ^ 0 = omega (arith, bound, cost-walked w text) in
      subst (λ m. cost q.tree q.ending w ≤ bound_c (measure_of q) 0 * m ^ 0) (length-word a w) same
