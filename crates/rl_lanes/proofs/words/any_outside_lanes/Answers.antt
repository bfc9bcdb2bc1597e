use Rattle.std.proofs.Common.{bit_and, arith, ap, ◌∙◌, map, w64}
use Rattle.std.specs.Int.{bit_not}
use Rattle.std.specs.Simd.Lanes.{chunk, zip2}
use Rattle.std.proofs.lemmas.Simd.{length-chunk, get_or-chunk, length-zip2, get_or-zip2}
use Rattle.std.proofs.lemmas.List.{length-map, get_or-map}
use Rattle.rl_lanes.specs.internal.Words.{and_not}
use Rattle.rl_lanes.proofs.WordLemmas.{pairs_from_lanes}
use Rattle.rl_lanes.proofs.words.any_outside_lanes.Goals as goal

pub returns : goal.returns
returns c =
    let at = c.args.at in
    let a = chunk at 8 c.args.a.now in
    let b = chunk at 8 c.args.b.now in
    let a_long = length-chunk at 8 c.args.a.now c.requires.a_in in
    let b_long = length-chunk at 8 c.args.b.now c.requires.b_in in
    let n = map (bit_not w64) b in
    let n_long = length-map b (bit_not w64) ∙ b_long in
    pairs_from_lanes and_not at c.args.a.now c.args.b.now (zip2 bit_and a n) _ (length-zip2 bit_and a n (omega arith) ∙ a_long)
    (λ k lt.
    get_or-zip2 bit_and a n k 0 0 0 (omega arith) (omega arith)
    ∙ (λ i. bit_and (get_or-chunk at 8 c.args.a.now k 0 lt i) ((get_or-map (bit_not w64) b k 0 0 (omega arith) ∙ ap (bit_not w64) (get_or-chunk at 8 c.args.b.now k 0 lt)) i)))
    c.any_lane.ensures
