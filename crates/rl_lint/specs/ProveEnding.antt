-- How `prove` ends. It depends on the question about the tree of its pattern. A question asks how the cost of matching a
-- syntax tree grows with the length of the text; a verdict answers it: a degree, exponential, or undecided because a limit is
-- exceeded. A certificate is data that shows that a verdict is right. It contains triples of live pairs; a live pair is a
-- state of the pattern's automaton with the set of states that were tried before it. An ending says what the run does: it
-- refuses with a message, it reports an unreadable file with a message, or it writes a text.
use Rattle.std.specs.Prelude.{◌≡◌, ◌⊎◌, false, codes}
use Rattle.rl_syntax.specs.declared.verdict.Limit.{Limit}
use Rattle.rl_pairs.specs.RightVerdict.{IsNamed, Question}
use Rattle.rl_cert.specs.Form.{IsDecided, form_text}
use Rattle.rl_cert.specs.Holds.{Holds}
use Rattle.rl_cert.specs.TooLarge.{IsTooLarge}
use Rattle.rl_cert.specs.declared.certificate.Certificate.{Certificate}
use Rattle.rl_lint.specs.Endings.{Ending, writes}
use Rattle.rl_lint.specs.Messages.{undecided_line}

-- `ending` is one of these, and it has neither a finding nor a failed call: to write a certificate that holds for the question
-- `q`, whose verdict isn't undecided, if it needs no more than 1,000,000 triples; to write the line on the limit that the
-- question exceeds; or to write that it needs more triples.
abbrev pub ProveEnds : Question → Ending → Type 0
ProveEnds q ending =
    ((c : Certificate) × Holds q c × IsDecided c.verdict × ¬ IsTooLarge q × (ending ≡ writes (form_text c) false false))
    ⊎ ((limit : Limit) × IsNamed q limit × (ending ≡ writes (undecided_line q.max_pairs limit) false false))
    ⊎ (IsTooLarge q × (ending ≡ writes (codes "triples over 1000000\n") false false))
