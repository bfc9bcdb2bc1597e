use Rattle.std.proofs.Common.{◌^◌, ◌<◌, get_or, subst, rules, ◌∙◌, sym}
use Rattle.rl_lanes.proofs.PackedLemmas.{AreWords, IsRow}
use Rattle.rl_lanes.proofs.CountLemmas.{words_of-IsRow}
use Rattle.rl_lanes.proofs.row.BitRow.words.Goals as goal

pub returns : goal.returns
returns c =
    let same = c.as_slice-words.ensures in
    let fits : AreWords c.as_slice-words.result.now = λ k. (let small : get_or c.as_slice-words.result.now k 0 < 2 ^ 64 = search rules in small) in
    let row : IsRow c.self.inside.len c.self.inside.words.items c.args.self.now = record { packed = c.self.invariant; shows = c.self.view_is } in
    same ∙ sym (words_of-IsRow row (subst AreWords same fits))
