use Rattle.std.proofs.Common.{bit_and, arith, ap, ◌∙◌, map, w64}
use Rattle.std.specs.Int.{bit_not}
use Rattle.std.specs.Simd.Lanes.{chunk, zip2}
use Rattle.std.proofs.lemmas.Simd.{length-chunk, get_or-chunk, length-zip2, get_or-zip2}
use Rattle.std.proofs.lemmas.List.{length-map, get_or-map}
use Rattle.rl_lanes.specs.internal.Words.{and_not}
use Rattle.rl_lanes.proofs.WordLemmas.{JoinsAt-put_chunk}
use Rattle.rl_lanes.proofs.words.subtract_lanes.Goals as goal

pub returns : goal.returns
returns c =
    let at = c.args.at in
    let old = c.args.from.now in
    let other = c.args.other.now in
    let a = chunk at 8 old in
    let b = chunk at 8 other in
    let a_long = length-chunk at 8 old c.requires.from_in in
    let b_long = length-chunk at 8 other c.requires.other_in in
    let n = map (bit_not w64) b in
    let n_long = length-map b (bit_not w64) ∙ b_long in
    JoinsAt-put_chunk and_not at old other (zip2 bit_and a n) (length-zip2 bit_and a n (omega arith) ∙ a_long) c.requires.from_in
    (λ k lt.
    get_or-zip2 bit_and a n k 0 0 0 (omega arith) (omega arith)
    ∙ (λ i. bit_and (get_or-chunk at 8 old k 0 lt i) ((get_or-map (bit_not w64) b k 0 0 (omega arith) ∙ ap (bit_not w64) (get_or-chunk at 8 other k 0 lt)) i)))
