-- Words along the graph of live pairs: behind the end letter there is no move, so what leads to a state that has a move is made
-- of letters.
use Rattle.std.proofs.Common.{◌≡◌, ◌≢◌, ◌∙◌, ℕ, ◌<◌, ◌≤◌, ◌⊎◌, inl, inr, List, [], ◌∷◌, length, sym, ap, subst, arith}
use Rattle.std.proofs.lemmas.Bool.{cases_eq, cases_lt}
use Rattle.rl_graph.specs.Paths.{Has, paths}
use Rattle.rl_graph.specs.Twins.{Link}
use Rattle.rl_graph.proofs.Sums.{total-there}
use Rattle.rl_graph.proofs.PathLaws.{nil-same, split-word}
use Rattle.rl_prio.specs.Automaton.{Automaton, letters_count, accepting_state, dead_state, moves_at}
use Rattle.rl_sets.specs.Live.{image, joined}
use Rattle.rl_pairs.specs.declared.pair.Pair.{Pair}
use Rattle.rl_pairs.specs.LivePairs.{pairs_from, next_pairs}
use Rattle.rl_pairs.specs.PairGraph.{IsPairGraph}
use Rattle.rl_pairs.specs.Families.{Chained, chain_heads, chain_pumps}
use Rattle.rl_pairs.proofs.ExactLaws.{IsStill, kept-pair}

-- The state of a pair of moves is a target.
pub pairs-state : (a : Automaton) (set ts : List ℕ) (p : Pair) → Has p (pairs_from a set ts) → Has p.state ts
pairs-state a set [] p h = absurd h
pairs-state a set (t ∷ ts) p (inl e) = inl (ap (λ (p : Pair). p.state) e)
pairs-state a set (t ∷ ts) p (inr h) = inr (pairs-state a (joined a t set) ts p h)

-- A state has a move.
abbrev pub HasMove : (ℕ → ℕ → List ℕ) → ℕ → Type 0
HasMove next q = (l : ℕ) × (m : ℕ) × Has m (next q l)

pub word-move : (next : ℕ → ℕ → List ℕ) (q t : ℕ) (w : List ℕ) → 1 ≤ length w → 1 ≤ paths next q t w → HasMove next q
word-move next q t [] some h = absurd (omega arith)
word-move next q t (l ∷ w) some h = let m = total-there (λ m. paths next m t w) (next q l) h in (l, m.0, m.1)

module _ (a : Automaton) (still : IsStill a) (next : ℕ → ℕ → List ℕ) (at : ℕ → Pair) (n : ℕ) (g : IsPairGraph a next at n) where
  no-moves : (k l : ℕ) → ((letter : ℕ) → moves_at a (at k).state letter ≡ []) → next k l ≡ []
  no-moves k l none = by (cases_lt k n) (cases_lt (letters_count a) l)
    where
      by : (k < n) ⊎ (n ≤ k) → (letters_count a < l) ⊎ (l ≤ letters_count a) → next k l ≡ []
      by (inr out) c = g.empty k l (inl out)
      by (inl lt) (inl big) = g.empty k l (inr big)
      by (inl lt) (inr le) =
          let kept = g.moves k l lt le in
          rw (none l) at kept

  stopped : (k : ℕ) → (at k).state ≡ accepting_state a ⊎ (at k).state ≡ dead_state a → (l : ℕ) → next k l ≡ []
  stopped k (inl e) l = no-moves k l (λ letter. ap (λ q. moves_at a q letter) e ∙ still.accepted letter)
  stopped k (inr e) l = no-moves k l (λ letter. ap (λ q. moves_at a q letter) e ∙ still.died letter)

  pub move-inside : (q l m : ℕ) → Has m (next q l) → (q < n) × (l ≤ letters_count a)
  move-inside q l m h = by (cases_lt q n) (cases_lt (letters_count a) l)
    where
      by : (q < n) ⊎ (n ≤ q) → (letters_count a < l) ⊎ (l ≤ letters_count a) → (q < n) × (l ≤ letters_count a)
      by (inr out) c = absurd (rw (g.empty q l (inl out)) at h)
      by (inl lt) (inl big) = absurd (rw (g.empty q l (inr big)) at h)
      by (inl lt) (inr le) = (lt, le)

  pub move-within : (q : ℕ) → HasMove next q → q < n
  move-within q h = (move-inside q h.0 h.1 h.2).0

  -- Behind the end letter there is no move.
  end-stops : (q m : ℕ) → Has m (next q (letters_count a)) → (l : ℕ) → next m l ≡ []
  end-stops q m h l =
      let i = move-inside q (letters_count a) m h in
      let p = kept-pair a at (next_pairs a (at q) (letters_count a)) (next q (letters_count a)) m (g.moves q (letters_count a) i.0 (omega arith)) h in
      stopped m (still.ends (at q).state (at m).state (pairs-state a (image a (at q).set (letters_count a)) (moves_at a (at q).state (letters_count a)) (at m) p)) l

  pub inner_word : (s q : ℕ) (w : List ℕ) → 1 ≤ paths next s q w → HasMove next q → (l : ℕ) → Has l w → l < letters_count a
  inner_word s q [] h move l i = absurd i
  inner_word s q (c ∷ w) h move l i =
      let m = total-there (λ m. paths next m q w) (next s c) h in
      by (move-inside s c m.0 m.1).1 m.0 m.1 m.2 i (cases_eq c (letters_count a)) (inner_word m.0 q w m.2 move l)
    where
      none-behind : (m : ℕ) (w : List ℕ) → ((l : ℕ) → next m l ≡ []) → 1 ≤ paths next m q w → ⊥
      none-behind m [] none h = let e = nil-same next m q h in absurd (rw (ap (λ x. next x move.0) (sym e) ∙ none move.0) at move.2)
      none-behind m (b ∷ v) none h = let k = rw (none b) at h in absurd (omega (arith, k))

      by : c ≤ letters_count a → (m : ℕ) → Has m (next s c) → 1 ≤ paths next m q w → Has l (c ∷ w) → (c ≡ letters_count a) ⊎ (c ≢ letters_count a) → (Has l w → l < letters_count a) → l < letters_count a
      by le m j h i (inl e) rest = absurd (none-behind m w (end-stops s m (subst (λ x. Has m (next s x)) e j)) h)
      by le m j h (inl d) (inr ne) rest = omega arith
      by le m j h (inr i) (inr ne) rest = rest i

  -- Each word of a chain is made of letters.
  Inner : List (List ℕ) → Type 0
  Inner words = (w : List ℕ) → Has w words → (l : ℕ) → Has l w → l < letters_count a

  pub chain-moves : (s : ℕ) (links : List Link) (x : List ℕ) (z : ℕ) → Chained next s links x z → HasMove next z → (last : List ℕ) → ((l : ℕ) → Has l last → l < letters_count a) → (w : List ℕ) → Has w (chain_heads links x last) → (l : ℕ) → Has l w → l < letters_count a
  chain-moves s [] x z c move last inner w (inl e) l i = inner_word s z x c move l (subst (λ (v : List ℕ). Has l v) e i)
  chain-moves s [] x z c move last inner w (inr (inl e)) l i = inner l (subst (λ (v : List ℕ). Has l v) e i)
  chain-moves s [] x z c move last inner w (inr (inr e)) l i = absurd e
  chain-moves s (m ∷ links) x z c move last inner w (inl e) l i =
      inner_word s m.from m.lead c.0 (word-move next m.from m.from m.word (split-word next m.from m.to m.word c.1) c.1.before) l (subst (λ (v : List ℕ). Has l v) e i)
  chain-moves s (m ∷ links) x z c move last inner w (inr h) l i = chain-moves m.to links x z c.2 move last inner w h l i

  pub chain-rounds : (s : ℕ) (links : List Link) (x : List ℕ) (z : ℕ) (y : List ℕ) → Chained next s links x z → HasMove next z → 1 ≤ paths next z z y → (w : List ℕ) → Has w (chain_pumps links y) → (l : ℕ) → Has l w → l < letters_count a
  chain-rounds s [] x z y c move h w (inl e) l i = inner_word z z y h move l (subst (λ (v : List ℕ). Has l v) e i)
  chain-rounds s [] x z y c move h w (inr e) l i = absurd e
  chain-rounds s (m ∷ links) x z y c move h w (inl e) l i =
      inner_word m.from m.from m.word c.1.before (word-move next m.from m.from m.word (split-word next m.from m.to m.word c.1) c.1.before) l (subst (λ (v : List ℕ). Has l v) e i)
  chain-rounds s (m ∷ links) x z y c move h w (inr j) l i = chain-rounds m.to links x z y c.2 move h w j l i

pub chain-some : (next : ℕ → ℕ → List ℕ) (s : ℕ) (links : List Link) (x : List ℕ) (z : ℕ) (y : List ℕ) → Chained next s links x z → 1 ≤ length y → (w : List ℕ) → Has w (chain_pumps links y) → 1 ≤ length w
chain-some next s [] x z y c some w (inl e) = subst (λ (v : List ℕ). 1 ≤ length v) (sym e) some
chain-some next s [] x z y c some w (inr e) = absurd e
chain-some next s (m ∷ links) x z y c some w (inl e) = subst (λ (v : List ℕ). 1 ≤ length v) (sym e) (split-word next m.from m.to m.word c.1)
chain-some next s (m ∷ links) x z y c some w (inr h) = chain-some next m.to links x z y c.2 some w h
