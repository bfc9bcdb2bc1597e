use Rattle.std.proofs.Common.{◌<◌, ◌^◌, map, count_ones, ap, sym, ◌∙◌, arith, rules}
use Rattle.std.specs.Simd.Lanes.{sum_l}
use Rattle.std.proofs.lemmas.List.Sums.{count_by-le-length}
use Rattle.rl_lanes.proofs.PackedLemmas.{IsRow, IsRow-length}
use Rattle.rl_lanes.proofs.CountLemmas.{count_by-words_of}
use Rattle.rl_lanes.proofs.row.BitRow.count.Goals as goal

pub count_words-requires : goal.count_words-requires
count_words-requires c =
    let row : IsRow c.self.inside.len c.self.inside.words.items c.args.self.now = record { packed = c.self.invariant; shows = c.self.view_is } in
    let small : c.self.inside.len < 2 ^ 64 = search rules in
    omega (arith, count_by-words_of c.args.self.now, ap (λ ws. sum_l (map count_ones ws)) c.words.ensures, count_by-le-length (λ b. b) c.args.self.now, IsRow-length row)

pub returns : goal.returns
returns c = c.count_words.ensures ∙ ap (λ ws. sum_l (map count_ones ws)) c.words.ensures ∙ sym (count_by-words_of c.args.self.now)
