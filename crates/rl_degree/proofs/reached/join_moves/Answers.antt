use Rattle.std.proofs.Common.{◌<◌, ℕ, List, All, [], length, get_or, slice_index_or, refl, sym, ◌∙◌, subst, arith}
use Rattle.rl_lanes.specs.Rows.{IsSubset}
use Rattle.rl_graph.specs.Paths.{Has}
use Rattle.rl_graph.specs.Graph.{edges_of}
use Rattle.rl_graph.specs.Parts.{number_of}
use Rattle.rl_graph.proofs.Sums.{Has-get_or}
use Rattle.rl_graph.proofs.MarkedLaws.{move-in}
use Rattle.rl_degree.proofs.RowLaws.{first-more}
use Rattle.rl_degree.proofs.reached.join_moves.Goals as goal

pub join_targets-requires-clause-targets_in : goal.join_targets-requires-clause-targets_in
join_targets-requires-clause-targets_in c =
    let g = c.args.g.now in
    let l = c.loop-letter.letter in
    let row = edges_of g c.args.state l in
    subst (λ (r : List ℕ). All (λ target. target < length c.args.components.now.numbers) r) (sym c.edges.ensures.targets)
    (λ k d lt. omega (arith, c.requires.size, c.edges.ensures.whole.targets c.args.state l (slice_index_or row k d) (Has-get_or row k d lt)))

pub join_targets-requires-clause-wide : goal.join_targets-requires-clause-wide
join_targets-requires-clause-wide c k lt = c.requires.wide k lt ∙ sym c.loop-letter.invariant.len

pub loop-letter-init : goal.loop-letter-init
loop-letter-init c = record { len = refl; grows = λ i on. on; joined = λ k h. absurd (omega arith) }

pub loop-letter-preserved : goal.loop-letter-preserved
loop-letter-preserved c =
    let g = c.args.g.now in
    let p = c.args.components.now in
    let rows = c.args.rows.now in
    let i = c.loop-letter.invariant in
    let new = c.join_targets.new.row in
    let o = c.join_targets.ensures in
    record {
      len = o.len ∙ i.len;
      grows = λ j on. o.grows j (i.grows j on);
      joined = first-more (λ k. (m : ℕ) → Has m (edges_of g c.args.state k) → number_of p m < length rows → IsSubset (get_or rows (number_of p m) []) c.loop-letter.row)
          (λ k. (m : ℕ) → Has m (edges_of g c.args.state k) → number_of p m < length rows → IsSubset (get_or rows (number_of p m) []) new) c.loop-letter.letter
          (λ k old m has lt x on. o.grows x (old m has lt x on))
          (λ m has. o.joined m (subst (Has m) (sym c.edges.ensures.targets) has))
          i.joined;
    }

pub returns-clause-joined : goal.returns-clause-joined
returns-clause-joined c l m has =
    c.loop-letter.invariant.joined l (omega (arith, (move-in c.args.g.now c.args.state l m has).1, c.letters-letter-end.ensures, c.loop-letter-test.false)) m has
