use Rattle.std.proofs.Common.{ap, sym, ◌∙◌, length}
use Rattle.rl_lanes.proofs.PackedLemmas.{IsRow-words}
use Rattle.rl_lanes.proofs.CountLemmas.{IsRow-words_of}
use Rattle.rl_lanes.proofs.StoredLemmas.{is_subset_is}
use Rattle.rl_lanes.proofs.row.BitRow.is_subset.Goals as goal

pub any_outside-requires : goal.any_outside-requires
any_outside-requires c = ap length c.words.ensures ∙ IsRow-words (IsRow-words_of c.args.self.now) (IsRow-words_of c.args.of.now) c.requires ∙ sym (ap length c.words-2.ensures)

pub returns : goal.returns
returns c =
    let is = is_subset_is c.args.self.now c.args.of.now c.words.result.now c.words-2.result.now c.any_outside.result c.requires c.words.ensures c.words-2.ensures c.any_outside.ensures in
    record { subset = is.0; other = is.1 }
