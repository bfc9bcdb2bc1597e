use Rattle.std.proofs.Common.{◌<◌, ◌^◌, length, ap, arith, rules}
use Rattle.rl_lanes.proofs.PackedLemmas.{IsRow, IsRow-length}
use Rattle.rl_lanes.proofs.CountLemmas.{IsRow-words_of}
use Rattle.rl_lanes.proofs.StoredLemmas.{least_is, none_is, none_past, next_fits}
use Rattle.rl_lanes.proofs.row.BitRow.next_from.Goals as goal

pub next_bit-requires : goal.next_bit-requires
next_bit-requires c =
    let row : IsRow c.self.inside.len c.self.inside.words.items c.args.self.now = record { packed = c.self.invariant; shows = c.self.view_is } in
    let small : c.self.inside.len < 2 ^ 64 = search rules in
    let long = ap length c.words.ensures in
    let enough = (IsRow-words_of c.args.self.now).packed.enough in
    record { within = omega (arith, long, enough, IsRow-length row); small = omega (arith, long, enough, IsRow-length row) }

pub returns-then-i-self-clause-found : goal.returns-then-i-self-clause-found
returns-then-i-self-clause-found c = least_is c.args.i c.words.result.now c.next_bit.result (IsRow-words_of c.args.self.now) c.words.ensures c.next_bit.ensures.found

pub returns-then-i-self-clause-none : goal.returns-then-i-self-clause-none
returns-then-i-self-clause-none c = none_is c.args.i c.words.result.now c.next_bit.result (IsRow-words_of c.args.self.now) c.words.ensures c.next_bit.ensures.none

pub returns-else-i-self-clause-none : goal.returns-else-i-self-clause-none
returns-else-i-self-clause-none c = none_past c.args.i (record { packed = c.self.invariant; shows = c.self.view_is }) c.if-i-self.false

pub returns-then-i-self-clause-next_fits : goal.returns-then-i-self-clause-next_fits
returns-then-i-self-clause-next_fits c =
    let row : IsRow c.self.inside.len c.self.inside.words.items c.args.self.now = record { packed = c.self.invariant; shows = c.self.view_is } in
    let small : c.self.inside.len < 2 ^ 64 = search rules in
    next_fits c.args.i c.words.result.now c.next_bit.result (IsRow-words_of c.args.self.now) c.words.ensures c.next_bit.ensures.found (omega (arith, IsRow-length row))
