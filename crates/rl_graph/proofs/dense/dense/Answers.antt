use Rattle.std.proofs.Common.{List, ℕ, Bool, length, sym, subst}
use Rattle.rl_graph.specs.Parts.{PartTable}
use Rattle.rl_graph.specs.internal.Dense.{AreRanks, AreRanked, IsDense}
use Rattle.rl_graph.proofs.DenseLaws.{dense-table}
use Rattle.rl_graph.proofs.dense.dense.Goals as goal

pub returns : goal.returns
returns c =
    let p = c.args.parts.now in
    let count = c.args.count in
    let marks = c.in_ok-marks.marks.items in
    let ranks = c.in_ok-ranks.ranks.items in
    let d : PartTable = record { numbers = c.in_ok-numbers.numbers.items; cycles = c.in_ok-cycles.cycles.items } in
    let r : AreRanks marks (length marks) ranks = subst (λ (z : List Bool). AreRanks z (length z) ranks) c.deref.ensures.value c.in_ok-ranks.ensures in
    let n : AreRanked p ranks count d.numbers = subst (λ (z : List ℕ). AreRanked p z count d.numbers) c.deref-2.ensures.value c.in_ok-numbers.ensures in
    subst (IsDense p count) (sym c.new.ensures) (dense-table p c.args.size count marks ranks d c.requires.below c.in_ok-marks.ensures r n c.in_ok-cycles.ensures)
