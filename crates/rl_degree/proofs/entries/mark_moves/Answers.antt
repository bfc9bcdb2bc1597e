use Rattle.std.proofs.Common.{◌<◌, ℕ, List, All, length, slice_index_or, sym, subst, ◌∙◌, arith}
use Rattle.rl_graph.specs.Graph.{edges_of}
use Rattle.rl_graph.specs.Paths.{Has}
use Rattle.rl_graph.proofs.Sums.{Has-get_or}
use Rattle.rl_degree.proofs.EnteredLaws.{own-more, entries-more}
use Rattle.rl_degree.proofs.entries.mark_moves.Goals as goal

pub mark_targets-requires : goal.mark_targets-requires
mark_targets-requires c =
    let g = c.args.g.now in
    let l = c.loop-letter.letter in
    let row = edges_of g c.args.state l in
    subst (λ (r : List ℕ). All (λ target. target < length c.loop-letter.entries.items) r) (sym c.edges.ensures.targets)
    (λ k d lt. omega (arith, c.loop-letter.invariant.so_far.size, c.edges.ensures.whole.targets c.args.state l (slice_index_or row k d) (Has-get_or row k d lt)))

pub loop-letter-init : goal.loop-letter-init
loop-letter-init c = record { so_far = c.requires.so_far; own = λ k m h has. absurd (omega arith) }

pub loop-letter-preserved : goal.loop-letter-preserved
loop-letter-preserved c =
    let i = c.loop-letter.invariant in
    let f = c.mark_targets.ensures in
    record {
      so_far = record { size = f.size ∙ i.so_far.size; entered = λ q l m h has. f.kept m l (i.so_far.entered q l m h has) };
      own = own-more c.args.g.now c.args.state c.loop-letter.letter c.loop-letter.entries.items c.mark_targets.new.entries.items f.kept i.own
          (λ m has. f.marked m (subst (Has m) (sym c.edges.ensures.targets) has));
    }

pub returns : goal.returns
returns c =
    let i = c.loop-letter.invariant in
    entries-more c.args.g.now c.args.state c.loop-letter.letter c.loop-letter.entries.items (omega (arith, c.letters-letter-end.ensures, c.loop-letter-test.false)) i.so_far i.own
