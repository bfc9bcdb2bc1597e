-- For the contracts of private functions: what is made from the graph of live pairs of an automaton, for each question to
-- which the graph belongs. A question is a tree with an ending, a universe of texts, and the greatest number of live pairs
-- allowed. The graph belongs to it if the automaton stands for its tree and ending. A question needs too many triples if its
-- certificate would have more than `MOST_TRIPLES` of them (`IsTooLarge`).
use Rattle.rl_syntax.specs.declared.verdict.Limit.{Limit}
use Rattle.rl_prio.specs.Automaton.{Automaton}
use Rattle.rl_pairs.specs.PairTable.{PairTable, moves_in, pair_in}
use Rattle.rl_pairs.specs.RightVerdict.{Question, IsExceeded}
use Rattle.rl_cert.specs.declared.certificate.Certificate.{Certificate}
use Rattle.rl_cert.specs.Holds.{IsPairGraphOf, Shows}
use Rattle.rl_cert.specs.TooLarge.{IsTooLarge}

-- For each question to which the graph belongs (`IsPairGraphOf`) and that exceeds no limit, the certificate shows what its
-- verdict requires, and the question doesn't need too many triples.
abbrev pub IsMade : Automaton → PairTable → Certificate → Type 0
IsMade a g c =
    (q : Question) → IsPairGraphOf q a (moves_in g) (pair_in g) g.graph.states → ((limit : Limit) → IsExceeded q limit → ⊥)
    → Shows q a (moves_in g) (pair_in g) g.graph.states c c.verdict × (IsTooLarge q → ⊥)

-- Each question to which the graph belongs (`IsPairGraphOf`) and that exceeds no limit needs too many triples.
abbrev pub IsLarge : Automaton → PairTable → Type 0
IsLarge a g =
    (q : Question) → IsPairGraphOf q a (moves_in g) (pair_in g) g.graph.states → ((limit : Limit) → IsExceeded q limit → ⊥) → IsTooLarge q
