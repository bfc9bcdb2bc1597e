use Rattle.std.proofs.Common.{◌∙◌, length, sym, ap, ap₂, arith}
use Rattle.rl_graph.proofs.PathLaws.{split-word}
use Rattle.rl_syntax.specs.Tree.{tree_of}
use Rattle.rl_pairs.specs.PairTable.{moves_in}
use Rattle.rl_pairs.specs.Families.{spelled}
use Rattle.rl_why.specs.Shown.{shown}
use Rattle.rl_why.specs.Loops.{loop_of}
use Rattle.rl_why.proofs.ReadingLaws.{split-shown}
use Rattle.rl_why.proofs.reading.split_reading.Goals as goal

pub returns : goal.returns
returns c =
    let t = tree_of c.args.tree.now in
    let nodes = c.args.sources.now.nodes in
    let w = c.args.split.now in
    split-shown t c.args.a.now c.args.g.now c.requires.setting nodes w.from w.to c.as_slice-word.result.now c.args.text.now c.in_ok-before.before c.in_ok-over.over c.in_ok-behind.behind _
    c.requires.from_in c.requires.to_in c.requires.split.apart
    (omega (arith, split-word (moves_in c.args.g.now) w.from w.to w.word c.requires.split, ap length c.as_slice-word.ensures)) (c.requires.text ∙ ap (spelled c.args.a.now) (sym c.as_slice-word.ensures))
    c.in_ok-before.ensures c.in_ok-over.ensures c.in_ok-behind.ensures
    (c.in_ok-show.ensures ∙ ap (shown nodes) c.as_slice-3.ensures) (c.in_ok-show-2.ensures ∙ ap (shown nodes) c.as_slice-4.ensures) (c.in_ok-show-3.ensures ∙ ap (shown nodes) c.as_slice-5.ensures)
    (c.in_ok-first_loop.ensures ∙ ap₂ (loop_of t) c.as_slice-nodes.ensures c.as_slice.ensures) (c.in_ok-second_loop.ensures ∙ ap₂ (loop_of t) c.as_slice-nodes.ensures c.as_slice-2.ensures)
