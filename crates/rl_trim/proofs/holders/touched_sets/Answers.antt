use Rattle.std.proofs.Common.{◌≡◌, ◌∙◌, false, length, ap}
use Rattle.std.proofs.lemmas.List.{length-replicate}
use Rattle.rl_lanes.specs.Tables.{image as union}
use Rattle.rl_trim.proofs.HolderLaws.{touched-sets}
use Rattle.rl_trim.proofs.holders.touched_sets.Goals as goal

pub returns : goal.returns
returns c =
    let b = c.args.branch.now in
    let n : length c.in_ok-touched.touched ≡ c.args.count = ap length c.in_ok-touched.ensures ∙ length-replicate c.args.count false in
    touched-sets b.automaton.now b.keep.now c.args.walk.now c.args.count c.args.holders.now b.gone c.image.new.into c.requires.made c.requires.few c.requires.holders
    b.are_gone (c.image.ensures.image ∙ ap (union c.args.holders.now b.gone) n)
