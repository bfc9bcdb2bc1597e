use Rattle.std.proofs.Common.{◌≡◌, ℕ, List, ap, sym, ◌∙◌, subst, replicate, false}
use Rattle.std.specs.Int.{div_ceil}
use Rattle.rl_lanes.proofs.PackedLemmas.{IsRow, IsRow-zeros}
use Rattle.rl_lanes.proofs.row.BitRow.zeros.Goals as goal

shown : (len n : ℕ) (words : List ℕ) → words ≡ replicate n 0 → n ≡ div_ceil len 64 → IsRow len words (replicate len false)
shown len n words zeros long = subst (λ ws. IsRow len ws (replicate len false)) (sym (zeros ∙ ap (λ m. replicate m 0) long)) (IsRow-zeros len)

pub invariant_of-result : goal.invariant_of-result
invariant_of-result c = (shown c.args.len c.div_ceil.result _ (c.in_ok-words.ensures.items_if_clones_equal (λ y e. e)) c.div_ceil.ensures).packed

pub returns : goal.returns
returns c = (shown c.args.len c.div_ceil.result _ (c.in_ok-words.ensures.items_if_clones_equal (λ y e. e)) c.div_ceil.ensures).shows
