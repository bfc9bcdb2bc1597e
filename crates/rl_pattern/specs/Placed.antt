-- Lists of spans within a pattern. A span goes from the position `from` up to, but not including, `upto`. Positions count
-- codes from 0.
use Rattle.std.specs.Prelude.{ℕ, ◌≤◌, List, All, AllPairs}
use Rattle.rl_syntax.specs.declared.span.Span.{Span}

-- Holds if each span lies within the first `count` codes and none begins before an earlier one in the list.
abbrev pub ArePlaced : ℕ → List Span → Type 0
ArePlaced count spans = All (λ s. (s.from ≤ s.upto) × (s.upto ≤ count)) spans × AllPairs (λ s t. s.from ≤ t.from) spans
