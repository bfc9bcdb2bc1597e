use Rattle.std.proofs.Common.{◌<◌, ◌^◌, length, get_or, subst, sym, arith, rules}
use Rattle.std.proofs.lemmas.List.{get_or_read}
use Rattle.rl_lanes.specs.Runs.{IsRun}
use Rattle.rl_lanes.proofs.TableLemmas.{IsTable, IsTable-length}
use Rattle.rl_lanes.proofs.RunLemmas.{IsRun-alone}
use Rattle.rl_lanes.proofs.table.BitTable.run_end.Goals as goal

pub overflow_add-result : goal.overflow_add-result
overflow_add-result c =
    let t : IsTable c.self.inside.rows c.self.inside.len c.self.inside.words.items c.args.self.now = record { packed = c.self.invariant.packed; shows = c.self.view_is } in
    let small : c.self.inside.rows < 2 ^ 64 = search rules in
    record { fits = omega (arith, IsTable-length t, c.requires) }

pub returns-then-row-len : goal.returns-then-row-len
returns-then-row-len c =
    let ends = c.self.inside.ends.items in
    let place = c.args.row in
    let within : place < length ends = omega (arith, c.if-row-len.true, c.len.ensures, c.self.inside.ends.ok.0) in
    subst (IsRun c.args.self.now place) (sym (get_or_read ends place c.index.result.now within c.index.ensures 0))
    (subst (λ t. IsRun t place (get_or ends place 0)) c.self.view_is (c.self.invariant.runs place within))

pub returns-else-row-len : goal.returns-else-row-len
returns-else-row-len c = IsRun-alone c.args.self.now c.args.row c.requires
