-- Families in the graph of live pairs: the words along a chain of splits that ends on a cycle, and the texts that spell words.
-- A split is two different states with paths along one word from the first to itself, from the first to the second, and from
-- the second to itself. A link of a chain is a split with a lead, which is a word that leads to the first of its states. A
-- family has heads and pumps: its texts are the heads in order, with each pump, repeated a number of times, after its head.
-- `next` gives the targets of a state on a letter. The sample code of a letter is one of its codes.
use Rattle.std.specs.Prelude.{◌≡◌, ℕ, ◌<◌, ◌≤◌, List, [], ◌∷◌, ◌++◌, map, slice_index_or, All}
use Rattle.rl_ranges.specs.Letters.{letter_at}
use Rattle.rl_syntax.specs.declared.verdict.Family.{Family}
use Rattle.rl_prio.specs.Automaton.{Automaton, letters_count}
use Rattle.rl_graph.specs.Paths.{paths}
use Rattle.rl_graph.specs.Twins.{IsSplit, Link}

-- The splits of the links form a chain that leads from `s` to `z`: the lead of the first link leads from `s` to its split,
-- each later lead leads from the end of a split to the next split, and `x` leads from the end of the last split to `z`. If
-- there are no links, `x` leads from `s` to `z`.
abbrev pub Chained : (ℕ → ℕ → List ℕ) → ℕ → List Link → List ℕ → ℕ → Type 0
Chained next s [] x z = 1 ≤ paths next s z x
Chained next s (m ∷ links) x z = (1 ≤ paths next s m.from m.lead) × IsSplit next m.from m.to m.word × Chained next m.to links x z

-- The heads of a chain: the leads of its links, the word `x` that leads to the cycle at its end, and the word `last` after the
-- cycle.
abbrev pub chain_heads : List Link → List ℕ → List ℕ → List (List ℕ)
chain_heads [] x last = x ∷ (last ∷ [])
chain_heads (m ∷ links) x last = m.lead ∷ chain_heads links x last

-- The pumps of a chain: the words of its splits, followed by the word `cycle` of the cycle at its end.
abbrev pub chain_pumps : List Link → List ℕ → List (List ℕ)
chain_pumps [] cycle = cycle ∷ []
chain_pumps (m ∷ links) cycle = m.word ∷ chain_pumps links cycle

-- The letters of the codes of a text, in order.
abbrev pub letters_in : Automaton → List ℕ → List ℕ
letters_in a text = map (letter_at a.table) text

-- The word followed by the end letter.
abbrev pub to_end : Automaton → List ℕ → List ℕ
to_end a word = word ++ letters_count a ∷ []

-- The text made of one code for each letter of the word: the letter's sample code. It is 0 for the end letter, which has no
-- sample.
abbrev pub spelled : Automaton → List ℕ → List ℕ
spelled a word = map (λ letter. slice_index_or a.table.samples letter 0) word

-- The heads and pumps of the family are made of the automaton's codes, and the letters of these codes are the words `heads`
-- and `pumps`.
pub record Reads (a : Automaton) (f : Family) (heads pumps : List (List ℕ)) : Type 0 where
  pub head_codes : All (All (λ code. code < a.table.codes)) f.heads
  pub pump_codes : All (All (λ code. code < a.table.codes)) f.pumps
  pub same_heads : map (letters_in a) f.heads ≡ heads
  pub same_pumps : map (letters_in a) f.pumps ≡ pumps

-- The heads and pumps of the family are the words `heads` and `pumps`, with the sample code of each letter in its place.
pub record Spells (a : Automaton) (f : Family) (heads pumps : List (List ℕ)) : Type 0 where
  pub head_samples : f.heads ≡ map (spelled a) heads
  pub pump_samples : f.pumps ≡ map (spelled a) pumps
