use Rattle.std.proofs.Common.{◌<◌, ℕ, [], length, get_or, refl, sym, ◌∙◌, subst, arith}
use Rattle.rl_lanes.specs.Rows.{IsSubset}
use Rattle.rl_graph.specs.Parts.{number_of}
use Rattle.rl_graph.proofs.Sums.{at-has, at-short, at-get_or}
use Rattle.rl_degree.proofs.RowLaws.{first-more}
use Rattle.rl_degree.proofs.reached.join_targets.Goals as goal

pub returns-clause-joined : goal.returns-clause-joined
returns-clause-joined c m h =
    let p = c.args.components.now in
    let rows = c.args.rows.now in
    let targets = c.args.targets.now in
    let i = at-has m targets h in
    let small = at-short targets i.0 m i.1 in
    subst (λ (z : ℕ). number_of p z < length rows → IsSubset (get_or rows (number_of p z) []) c.loop-place.row) (at-get_or targets i.0 m 0 i.1)
    (c.loop-place.invariant.joined i.0 (omega (arith, small, c.loop-place-test.false)))

pub loop-place-init : goal.loop-place-init
loop-place-init c = record { len = refl; grows = λ i on. on; joined = λ i h. absurd (omega arith) }

pub loop-place-preserved : goal.loop-place-preserved
loop-place-preserved c =
    let p = c.args.components.now in
    let rows = c.args.rows.now in
    let targets = c.args.targets.now in
    let k = c.loop-place.place in
    let i = c.loop-place.invariant in
    let new = c.join_row.new.row in
    let o = c.join_row.ensures in
    record {
      len = o.len ∙ i.len;
      grows = λ j on. o.grows j (i.grows j on);
      joined = first-more (λ j. number_of p (get_or targets j 0) < length rows → IsSubset (get_or rows (number_of p (get_or targets j 0)) []) c.loop-place.row)
          (λ j. number_of p (get_or targets j 0) < length rows → IsSubset (get_or rows (number_of p (get_or targets j 0)) []) new) k
          (λ j old lt x on. o.grows x (old lt x on))
          (λ lt. subst (λ (z : ℕ). z < length rows → IsSubset (get_or rows z []) new) c.of.ensures o.joined lt)
          i.joined;
    }

pub of-requires : goal.of-requires
of-requires c = c.requires.targets_in c.loop-place.place 0 (omega arith)

pub join_row-requires : goal.join_row-requires
join_row-requires c lt = c.requires.wide c.of.result lt ∙ sym c.loop-place.invariant.len
