use Rattle.std.proofs.Common.{◌<◌, [], length, sym, ◌∙◌, ap, subst, arith}
use Rattle.std.proofs.lemmas.List.{get_or_read}
use Rattle.rl_lanes.specs.Rows.{IsSubset}
use Rattle.rl_degree.proofs.ReachLaws.{union-left, union-right}
use Rattle.rl_degree.proofs.reached.join_row.Goals as goal

pub or_into-requires : goal.or_into-requires
or_into-requires c =
    let rows = c.args.rows.now in
    let k = c.args.number in
    let lt : k < length rows = omega arith in
    sym (ap length (get_or_read rows k c.index-rows-number.result lt c.index-rows-number.is []) ∙ c.requires lt)

pub returns-clause-grows : goal.returns-clause-grows
returns-clause-grows c =
    let rows = c.args.rows.now in
    let k = c.args.number in
    let lt : k < length rows = omega arith in
    let e = get_or_read rows k c.index-rows-number.result lt c.index-rows-number.is [] in
    union-left c.args.row.now c.index-rows-number.result c.or_into.new.self (sym (ap length e ∙ c.requires lt)) c.or_into.ensures.union

pub returns-clause-joined : goal.returns-clause-joined
returns-clause-joined c =
    let rows = c.args.rows.now in
    let k = c.args.number in
    let lt : k < length rows = omega arith in
    let e = get_or_read rows k c.index-rows-number.result lt c.index-rows-number.is [] in
    λ h. subst (λ r. IsSubset r c.or_into.new.self) e (union-right c.args.row.now c.index-rows-number.result c.or_into.new.self (sym (ap length e ∙ c.requires lt)) c.or_into.ensures.union)
