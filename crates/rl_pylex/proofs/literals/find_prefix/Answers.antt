-- The prefixes of no, one and two letters are tried in turn.
use Rattle.std.proofs.Common.{◌≡◌, ◌≤◌, true, false, length, refl, arith}
use Rattle.rl_pylex.specs.Literals.{opens_after}
use Rattle.rl_pylex.proofs.Fronts.{opens-bare, opens-one, opens-two, opens-none, opens-short, prefix_is}
use Rattle.rl_pylex.proofs.literals.find_prefix.Goals as goal
use Rattle.rl_pylex.proofs.literals.find_prefix.Goals.{then-is_quote-2+else-is_prefix_letter, else-is_quote-2}

pub returns-in-len1-up : goal.returns-in-len1-up
returns-in-len1-up c =
    prefix_is c.args.text.now true _ _ (opens-bare c.args.text.now true c.in-len1-up.len_at_least c.if-is_quote.ensures) refl refl

pub returns-in-len2-up : goal.returns-in-len2-up
returns-in-len2-up c =
    let text = c.args.text.now in
    prefix_is text false true _ (opens-bare text false c.in-len1-up.len_at_least c.if-is_quote.ensures)
    (opens-one text true c.in-len2-up.len_at_least c.if-is_quote-2.ensures c.if-is_prefix_letter.ensures) refl

pub returns-in-len3-up : goal.returns-in-len3-up
returns-in-len3-up c =
    let text = c.args.text.now in
    let one : opens_after text 1 ≡ false = elim c.if-is_quote-2.branch [
      | then-is_quote-2+else-is_prefix_letter w ↦
          opens-one text false c.in-len2-up.len_at_least w.if-is_quote-2.ensures w.if-is_prefix_letter.ensures
      | else-is_quote-2 w ↦ opens-none text 1 c.in-len2-up.len_at_least w.if-is_quote-2.ensures
    ] in
    prefix_is text false false true (opens-bare text false c.in-len1-up.len_at_least c.if-is_quote.ensures) one
    (opens-two text true c.in-len3-up.len_at_least c.if-is_quote-3.ensures c.if-are_prefix_letters.ensures)

pub returns-in_default : goal.returns-in_default
returns-in_default c =
    let text = c.args.text.now in
    let few : length text ≤ 0 = omega (arith, c.in_default.len_below) in
    prefix_is text false false false (opens-short text 0 few) (opens-short text 1 (omega arith)) (opens-short text 2 (omega arith))

pub returns-in_default-2 : goal.returns-in_default-2
returns-in_default-2 c =
    let text = c.args.text.now in
    let few : length text ≤ 1 = omega (arith, c.in_default.len_below) in
    prefix_is text false false false (opens-bare text false c.in-len1-up.len_at_least c.if-is_quote.ensures) (opens-short text 1 few) (opens-short text 2 (omega arith))

pub returns-in_default-3 : goal.returns-in_default-3
returns-in_default-3 c =
    let text = c.args.text.now in
    let one : opens_after text 1 ≡ false = elim c.if-is_quote-2.branch [
      | then-is_quote-2+else-is_prefix_letter w ↦
          opens-one text false c.in-len2-up.len_at_least w.if-is_quote-2.ensures w.if-is_prefix_letter.ensures
      | else-is_quote-2 w ↦ opens-none text 1 c.in-len2-up.len_at_least w.if-is_quote-2.ensures
    ] in
    let few : length text ≤ 2 = omega (arith, c.in_default.len_below) in
    prefix_is text false false false (opens-bare text false c.in-len1-up.len_at_least c.if-is_quote.ensures) one (opens-short text 2 few)

pub returns-in_default-4 : goal.returns-in_default-4
returns-in_default-4 c =
    let text = c.args.text.now in
    let one : opens_after text 1 ≡ false = elim c.if-is_quote-2.branch [
      | then-is_quote-2+else-is_prefix_letter w ↦
          opens-one text false c.in-len2-up.len_at_least w.if-is_quote-2.ensures w.if-is_prefix_letter.ensures
      | else-is_quote-2 w ↦ opens-none text 1 c.in-len2-up.len_at_least w.if-is_quote-2.ensures
    ] in
    prefix_is text false false false (opens-bare text false c.in-len1-up.len_at_least c.if-is_quote.ensures) one
    (opens-two text false c.in-len3-up.len_at_least c.if-is_quote-3.ensures c.if-are_prefix_letters.ensures)

pub returns-in_default-5 : goal.returns-in_default-5
returns-in_default-5 c =
    let text = c.args.text.now in
    let one : opens_after text 1 ≡ false = elim c.if-is_quote-2.branch [
      | then-is_quote-2+else-is_prefix_letter w ↦
          opens-one text false c.in-len2-up.len_at_least w.if-is_quote-2.ensures w.if-is_prefix_letter.ensures
      | else-is_quote-2 w ↦ opens-none text 1 c.in-len2-up.len_at_least w.if-is_quote-2.ensures
    ] in
    prefix_is text false false false (opens-bare text false c.in-len1-up.len_at_least c.if-is_quote.ensures) one
    (opens-none text 2 c.in-len3-up.len_at_least c.if-is_quote-3.ensures)
