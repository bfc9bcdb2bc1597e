-- For the contracts of private functions: the parts of the path of a certificate, from anchor to anchor in the graph of live
-- pairs. An anchor is two states `r` and `q`: the start and the end of a split, or twice the state of a cycle. A twin of a
-- state is two different paths from it back to itself along one word. A split is two different states with paths along one
-- word from the first to itself, from the first to the second, and from the second to itself. The heads and pumps of a family
-- are words; a set of states refuses a list of letters if none of its members accepts it. `next` gives the targets of a state
-- on a letter, and `n` is the number of states.
use Rattle.std.specs.Prelude.{◌≡◌, ℕ, suc, ◌<◌, ◌≤◌, List}
use Rattle.rl_prio.specs.Automaton.{Automaton}
use Rattle.rl_graph.specs.Paths.{paths}
use Rattle.rl_graph.specs.Twins.{IsSplit}
use Rattle.rl_pairs.specs.declared.pair.Pair.{Pair}
use Rattle.rl_cert.specs.declared.certificate.Anchor.{Anchor}
use Rattle.rl_cert.specs.Ways.{Refuses}

-- The numbers of anchors, heads and pumps fit together: there is at least one anchor, there are as many pumps as anchors, and
-- there is one head more.
abbrev pub Fits : ℕ → ℕ → ℕ → Type 0
Fits anchors heads pumps = (0 < anchors) × (pumps ≡ anchors) × (heads ≡ suc anchors)

-- The anchor `m` is a split on the pump `y`, and the head `x` leads to it from the state `s`.
abbrev pub IsLinkTo : (ℕ → ℕ → List ℕ) → ℕ → ℕ → Anchor → List ℕ → List ℕ → Type 0
IsLinkTo next n s m x y = (m.r < n) × (m.q < n) × (1 ≤ paths next s m.r x) × IsSplit next m.r m.q y

-- The last anchor `z` of a chain is a single state, the head `x` leads to it from `s`, the pump `y` leads from it back to it,
-- and its set refuses the word `last` followed by the end letter.
abbrev pub IsEnd : Automaton → (ℕ → ℕ → List ℕ) → (ℕ → Pair) → ℕ → ℕ → Anchor → List ℕ → List ℕ → List ℕ → Type 0
IsEnd a next at n s z x y last = (z.r < n) × (z.r ≡ z.q) × (1 ≤ paths next s z.r x) × (1 ≤ paths next z.q z.q y) × Refuses a at z.q last

-- The anchor `z` of a twin is a single state, the head `x` leads to it from the state 0, two different paths lead from it back
-- to it along the pump `y`, and its set refuses the word `last` followed by the end letter.
abbrev pub IsTwinEnd : Automaton → (ℕ → ℕ → List ℕ) → (ℕ → Pair) → ℕ → Anchor → List ℕ → List ℕ → List ℕ → Type 0
IsTwinEnd a next at n z x y last = (z.r < n) × (z.r ≡ z.q) × (1 ≤ paths next 0 z.q x) × (2 ≤ paths next z.q z.q y) × Refuses a at z.q last
