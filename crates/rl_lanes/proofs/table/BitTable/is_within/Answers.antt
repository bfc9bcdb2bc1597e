use Rattle.std.proofs.Common.{◌<◌, ◌^◌, [], sym, length, get_or, rules}
use Rattle.rl_lanes.proofs.PackedLemmas.{AreWords, IsRow, IsRow-words}
use Rattle.rl_lanes.proofs.CountLemmas.{words_of-IsRow}
use Rattle.rl_lanes.proofs.StoredLemmas.{is_subset_is}
use Rattle.rl_lanes.proofs.table.BitTable.is_within.Goals as goal

pub any_outside-requires : goal.any_outside-requires
any_outside-requires c =
    IsRow-words (record { packed = c.row_words-words.ensures.packed; shows = c.row_words-words.ensures.shows }) (record { packed = c.row_words-of_words.ensures.packed; shows = c.row_words-of_words.ensures.shows })
    (sym (c.row_words-words.ensures.alike c.args.of c.requires.of_in))

pub returns : goal.returns
returns c =
    let row = get_or c.args.self.now c.args.row [] in
    let of = get_or c.args.self.now c.args.of [] in
    let row_fits : AreWords c.row_words-words.result.now = λ k. (let small : get_or c.row_words-words.result.now k 0 < 2 ^ 64 = search rules in small) in
    let of_fits : AreWords c.row_words-of_words.result.now = λ k. (let small : get_or c.row_words-of_words.result.now k 0 < 2 ^ 64 = search rules in small) in
    let row_is : IsRow (length row) c.row_words-words.result.now row = record { packed = c.row_words-words.ensures.packed; shows = c.row_words-words.ensures.shows } in
    let of_is : IsRow (length of) c.row_words-of_words.result.now of = record { packed = c.row_words-of_words.ensures.packed; shows = c.row_words-of_words.ensures.shows } in
    (is_subset_is row of c.row_words-words.result.now c.row_words-of_words.result.now c.any_outside.result (sym (c.row_words-words.ensures.alike c.args.of c.requires.of_in)) (sym (words_of-IsRow row_is row_fits)) (sym (words_of-IsRow of_is of_fits)) c.any_outside.ensures).0.0
