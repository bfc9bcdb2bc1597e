use Rattle.std.proofs.Common.{bit_or, arith, ◌∙◌}
use Rattle.std.specs.Simd.Lanes.{chunk, zip2}
use Rattle.std.proofs.lemmas.Simd.{length-chunk, get_or-chunk, length-zip2, get_or-zip2}
use Rattle.rl_lanes.proofs.WordLemmas.{JoinsAt-put_chunk}
use Rattle.rl_lanes.proofs.words.or_lanes.Goals as goal

pub returns : goal.returns
returns c =
    let at = c.args.at in
    let old = c.args.into.now in
    let other = c.args.other.now in
    let a = chunk at 8 old in
    let b = chunk at 8 other in
    let a_long = length-chunk at 8 old c.requires.into_in in
    let b_long = length-chunk at 8 other c.requires.other_in in
    JoinsAt-put_chunk bit_or at old other (zip2 bit_or a b) (length-zip2 bit_or a b (omega arith) ∙ a_long) c.requires.into_in
    (λ k lt. get_or-zip2 bit_or a b k 0 0 0 (omega arith) (omega arith) ∙ (λ i. bit_or (get_or-chunk at 8 old k 0 lt i) (get_or-chunk at 8 other k 0 lt i)))
