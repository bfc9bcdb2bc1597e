use Rattle.std.proofs.Common.{ap, sym, ◌∙◌, length}
use Rattle.rl_lanes.proofs.PackedLemmas.{IsRow-words}
use Rattle.rl_lanes.proofs.CountLemmas.{IsRow-words_of}
use Rattle.rl_lanes.proofs.StoredLemmas.{meets_is}
use Rattle.rl_lanes.proofs.row.BitRow.meets.Goals as goal

pub any_both-requires : goal.any_both-requires
any_both-requires c = ap length c.words.ensures ∙ IsRow-words (IsRow-words_of c.args.self.now) (IsRow-words_of c.args.other.now) c.requires ∙ sym (ap length c.words-2.ensures)

pub returns : goal.returns
returns c =
    let is = meets_is c.args.self.now c.args.other.now c.words.result.now c.words-2.result.now c.any_both.result c.requires c.words.ensures c.words-2.ensures c.any_both.ensures in
    record { meets = is.0; apart = is.1 }
