use Rattle.std.proofs.Common.{◌≡◌, ◌*◌, ℕ, List, ap, sym, ◌∙◌, subst, length, replicate, false, arith}
use Rattle.rl_lanes.proofs.TableLemmas.{IsTable, IsTable-zeros, width_of}
use Rattle.rl_lanes.proofs.table.BitTable.zeros.Goals as goal

shown : (rows len width count : ℕ) (words : List ℕ) → width ≡ width_of len → count ≡ rows * width → words ≡ replicate count 0 → IsTable rows len words (replicate rows (replicate len false))
shown rows len width count words width_is count_is zeros =
    subst (λ ws. IsTable rows len ws (replicate rows (replicate len false))) (sym (zeros ∙ ap (λ n. replicate n 0) (count_is ∙ ap (λ w. rows * w) width_is))) (IsTable-zeros rows len)

pub invariant_of-result : goal.invariant_of-result
invariant_of-result c = record {
  packed = (shown c.args.rows c.args.len c.div_ceil.result c.in-Some.count _ c.div_ceil.ensures c.in-Some.ensures.1 (c.in_ok-words.ensures.items_if_clones_equal (λ y e. e))).packed;
  runs = λ row lt. absurd (omega (arith, ap length c.new.ensures.items));
}

pub returns : goal.returns
returns c = (shown c.args.rows c.args.len c.div_ceil.result c.in-Some.count _ c.div_ceil.ensures c.in-Some.ensures.1 (c.in_ok-words.ensures.items_if_clones_equal (λ y e. e))).shows
