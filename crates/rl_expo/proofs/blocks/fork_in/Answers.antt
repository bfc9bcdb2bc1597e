use Rattle.std.proofs.Common.{◌<◌, ◌≡◌, ◌≢◌, ◌⊎◌, ◌+◌, ℕ, List, inl, inr, false, get_or, ap, ◌∙◌, refl, arith}
use Rattle.std.proofs.lemmas.Bool.{cases_eq}
use Rattle.rl_graph.specs.Graph.{edges_of}
use Rattle.rl_graph.specs.Parts.{PartTable}
use Rattle.rl_graph.proofs.GraphLaws.{bounded-whole}
use Rattle.rl_expo.specs.internal.Blocks.{HasNoForkIn}
use Rattle.rl_expo.proofs.ForkLaws.{fork-start}
use Rattle.rl_expo.proofs.SearchLaws.{none_stay-no_fork}
use Rattle.rl_expo.proofs.blocks.fork_in.Goals.{then-marks-number+in_ok-fork+in_default, else-marks-number}
use Rattle.rl_expo.proofs.blocks.fork_in.Goals as goal

-- One more component.
more : (next : ℕ → ℕ → List ℕ) (p : PartTable) (k : ℕ) → ((c : ℕ) → c < k → HasNoForkIn next p c) → HasNoForkIn next p k → (c : ℕ) → c < k + 1 → HasNoForkIn next p c
more next p k old here c lt = by (cases_eq c k)
  where
    by : (c ≡ k) ⊎ (c ≢ k) → HasNoForkIn next p c
    by (inl e) = rw e here
    by (inr n) = old c (omega arith)

pub loop-number-preserved : goal.loop-number-preserved
loop-number-preserved c =
    let g = c.args.g.now in
    let p = c.args.components.now in
    let k = c.loop-number.number in
    elim c.if-marks-number.branch [
      | then-marks-number+in_ok-fork+in_default w ↦
          more (edges_of g) p k c.loop-number.invariant (rw w.in_default.is at w.in_ok-fork.ensures.none)
      | else-marks-number w ↦
          more (edges_of g) p k c.loop-number.invariant
          (none_stay-no_fork g p k c.states-number-end.ensures.whole c.requires.parts
          (λ r l hr hl at. c.requires.marks.right r l hr hl (ap (λ z. get_or c.args.marks.now z false) at ∙ w.if-marks-number.false)))
    ]

pub returns-clause-none : goal.returns-clause-none
returns-clause-none c f =
    let g = c.args.g.now in
    let hr = fork-start (edges_of g) g.states g.letters f.state f.letter f.first f.second f.one f.other f.word (bounded-whole g c.states-number-end.ensures.whole) f.forks in
    c.loop-number.invariant _ (omega (arith, c.requires.parts.below f.state hr, c.loop-number-test.false, c.states-number-end.ensures.number)) f refl
