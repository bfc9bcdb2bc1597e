use Rattle.std.proofs.Common.{◌≡◌, ◌<◌, Bool, List, [], false, replicate, length, get_or, sym, ap, ◌∙◌, arith}
use Rattle.std.proofs.lemmas.List.{get_or_default}
use Rattle.rl_lanes.specs.Rows.{list_or, list_and_not}
use Rattle.rl_sets.specs.Rows.{members_of, marked}
use Rattle.rl_sets.specs.internal.Moves.{targets_of}
use Rattle.rl_sets.proofs.RowLemmas.{list_or-zeros}
use Rattle.rl_sets.proofs.split.SplitMoves.mark.Goals as goal

pub returns : goal.returns
returns c =
    let barred = c.args.self.now.barred.items in
    let targets = c.args.moves.now.targets in
    let here : c.args.letter < length barred = omega (arith, c.requires.split.letters, c.requires.letter_in) in
    let row : c.index.result.now ≡ get_or barred c.args.letter [] = c.index.ensures ∙ get_or_default barred c.args.letter c.index.result.now [] here in
    let all = c.or_into.ensures.union ∙ ap (λ (r : List Bool). list_or r targets) (c.requires.bare ∙ ap (λ n. replicate n false) (sym c.requires.targets_wide)) ∙ list_or-zeros targets in
    c.mark_moves.ensures
    ∙ ap (λ (r : List Bool). marked r (targets_of c.args.a.now (members_of c.args.moves.now.unsplit) c.args.letter)) (c.subtract.ensures.difference ∙ ap (λ (r : List Bool). list_and_not r c.index.result.now) all ∙ ap (list_and_not targets) row)
