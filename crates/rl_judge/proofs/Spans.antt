-- The code points of a span are of the universe of all code points, and placed spans lie within the code points.
use Rattle.std.proofs.Common.{ℕ, ◌<◌, ◌-◌, List, drop}
use Rattle.std.specs.Prelude.{All}
use Rattle.std.proofs.lemmas.List.Elements.{All-take, All-drop}
use Rattle.rl_ranges.specs.declared.universe.Universe.{Universe}
use Rattle.rl_ranges.specs.Text.{IsText, code_count}
use Rattle.rl_syntax.specs.declared.span.Span.{Span}
use Rattle.rl_pattern.specs.Placed.{ArePlaced}
use Rattle.rl_judge.specs.internal.Conditions.{LiesIn}
use Rattle.rl_judge.specs.Analysis.{codes_of}

pub span_text : (u : Universe) (span : Span) (codes : List ℕ) → IsText u codes → IsText u (codes_of span codes)
span_text u span codes h =
    let P = λ (c : ℕ). c < code_count u in
    All-take P (span.upto - span.from) (drop span.from codes) (All-drop P span.from codes h)

pub ruleset spans = (span_text)

pub placed_within : (count : ℕ) (ss : List Span) → ArePlaced count ss → All (LiesIn count) ss
placed_within count ss h = h.0
