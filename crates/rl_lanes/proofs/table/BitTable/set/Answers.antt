use Rattle.std.proofs.Common.{◌≡◌, ◌+◌, ◌*◌, ◌/◌, length, ap, arith}
use Rattle.rl_lanes.proofs.TableLemmas.{IsTable, IsTable-put, table_place_fits, width_of}
use Rattle.rl_lanes.proofs.table.BitTable.set.Goals as goal

pub overflow_mul-word : goal.overflow_mul-word
overflow_mul-word c =
    let t : IsTable c.self.inside.rows c.self.inside.len c.self.inside.words.items c.args.self.now = record { packed = c.self.invariant.packed; shows = c.self.view_is } in
    let at_width : c.args.row * c.div_ceil.result ≡ c.args.row * width_of c.self.inside.len = ap (λ w. c.args.row * w) c.div_ceil.ensures in
    record { fits = omega (arith, table_place_fits c.args.row c.args.i c.self.inside.words t c.requires.row_in c.requires.place_in, at_width, c.self.inside.words.small) }

pub overflow_add-word : goal.overflow_add-word
overflow_add-word c =
    let t : IsTable c.self.inside.rows c.self.inside.len c.self.inside.words.items c.args.self.now = record { packed = c.self.invariant.packed; shows = c.self.view_is } in
    let at_width : c.args.row * c.div_ceil.result ≡ c.args.row * width_of c.self.inside.len = ap (λ w. c.args.row * w) c.div_ceil.ensures in
    record { fits = omega (arith, table_place_fits c.args.row c.args.i c.self.inside.words t c.requires.row_in c.requires.place_in, at_width, c.self.inside.words.small) }

pub index-requires : goal.index-requires
index-requires c =
    let t : IsTable c.self.inside.rows c.self.inside.len c.self.inside.words.items c.args.self.now = record { packed = c.self.invariant.packed; shows = c.self.view_is } in
    let at_width : c.args.row * c.div_ceil.result ≡ c.args.row * width_of c.self.inside.len = ap (λ w. c.args.row * w) c.div_ceil.ensures in
    omega (arith, table_place_fits c.args.row c.args.i c.self.inside.words t c.requires.row_in c.requires.place_in, at_width)

pub index_mut-requires : goal.index_mut-requires
index_mut-requires c =
    let t : IsTable c.self.inside.rows c.self.inside.len c.self.inside.words.items c.args.self.now = record { packed = c.self.invariant.packed; shows = c.self.view_is } in
    let at_width : c.args.row * c.div_ceil.result ≡ c.args.row * width_of c.self.inside.len = ap (λ w. c.args.row * w) c.div_ceil.ensures in
    omega (arith, table_place_fits c.args.row c.args.i c.self.inside.words t c.requires.row_in c.requires.place_in, at_width)

pub invariant_of-self : goal.invariant_of-self
invariant_of-self c = record {
  packed = (IsTable-put c.args.row c.args.i _ c.index.result.now c.with_bit.result c.args.to c.self.inside.words (record { packed = c.self.invariant.packed; shows = c.self.view_is }) c.requires.row_in c.requires.place_in
      (ap (λ w. c.args.row * w + c.args.i / 64) c.div_ceil.ensures) c.index.ensures c.with_bit.ensures.same c.with_bit.ensures.others).packed;
  runs = λ row lt. absurd (omega (arith, ap length c.clear.ensures.items));
}

pub returns : goal.returns
returns c =
    (IsTable-put c.args.row c.args.i _ c.index.result.now c.with_bit.result c.args.to c.self.inside.words (record { packed = c.self.invariant.packed; shows = c.self.view_is }) c.requires.row_in c.requires.place_in
    (ap (λ w. c.args.row * w + c.args.i / 64) c.div_ceil.ensures) c.index.ensures c.with_bit.ensures.same c.with_bit.ensures.others).shows
