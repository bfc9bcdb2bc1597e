use Rattle.std.proofs.Common.{◌≡◌, ◌+◌, ◌-◌, ◌*◌, ◌<◌, ℕ, List, Bool, [], length, get_or, take, drop, ap, sym, ◌∙◌, subst, arith}
use Rattle.rl_lanes.specs.Packed.{words_at}
use Rattle.rl_lanes.proofs.PackedLemmas.{IsRow, IsRow-length}
use Rattle.rl_lanes.proofs.TableLemmas.{IsTable, IsTable-row, IsTable-length, row_end, width_of}
use Rattle.rl_lanes.proofs.table.BitTable.row_words.Goals as goal

pub overflow_mul-start : goal.overflow_mul-start
overflow_mul-start c =
    let t : IsTable c.self.inside.rows c.self.inside.len c.self.inside.words.items c.args.self.now = record { packed = c.self.invariant.packed; shows = c.self.view_is } in
    let w = c.div_ceil-width.result in
    let all : c.self.inside.rows * w ≡ c.self.inside.rows * width_of c.self.inside.len = ap (λ n. c.self.inside.rows * n) c.div_ceil-width.ensures in
    record { fits = omega (arith, row_end c.self.inside.rows w c.args.row (omega (arith, IsTable-length t)), all, c.self.invariant.packed.enough, c.self.inside.words.ok.0, c.self.inside.words.small) }

pub overflow_add-result : goal.overflow_add-result
overflow_add-result c =
    let t : IsTable c.self.inside.rows c.self.inside.len c.self.inside.words.items c.args.self.now = record { packed = c.self.invariant.packed; shows = c.self.view_is } in
    let w = c.div_ceil-width.result in
    let all : c.self.inside.rows * w ≡ c.self.inside.rows * width_of c.self.inside.len = ap (λ n. c.self.inside.rows * n) c.div_ceil-width.ensures in
    record { fits = omega (arith, row_end c.self.inside.rows w c.args.row (omega (arith, IsTable-length t)), all, c.self.invariant.packed.enough, c.self.inside.words.ok.0, c.deref.ensures.len, c.deref.type_inv.0) }

pub offset_bounds-deref-start : goal.offset_bounds-deref-start
offset_bounds-deref-start c =
    let t : IsTable c.self.inside.rows c.self.inside.len c.self.inside.words.items c.args.self.now = record { packed = c.self.invariant.packed; shows = c.self.view_is } in
    let w = c.div_ceil-width.result in
    let all : c.self.inside.rows * w ≡ c.self.inside.rows * width_of c.self.inside.len = ap (λ n. c.self.inside.rows * n) c.div_ceil-width.ensures in
    record { fits = omega (arith, row_end c.self.inside.rows w c.args.row (omega (arith, IsTable-length t)), all, c.self.invariant.packed.enough, c.self.inside.words.ok.0, c.deref.ensures.len, c.deref.type_inv.1) }

pub slice_bounds-result-end : goal.slice_bounds-result-end
slice_bounds-result-end c =
    let t : IsTable c.self.inside.rows c.self.inside.len c.self.inside.words.items c.args.self.now = record { packed = c.self.invariant.packed; shows = c.self.view_is } in
    let w = c.div_ceil-width.result in
    let all : c.self.inside.rows * w ≡ c.self.inside.rows * width_of c.self.inside.len = ap (λ n. c.self.inside.rows * n) c.div_ceil-width.ensures in
    omega (arith, row_end c.self.inside.rows w c.args.row (omega (arith, IsTable-length t)), all, c.self.invariant.packed.enough, c.self.inside.words.ok.0, c.deref.ensures.len)

-- The part of the words that belongs to a row holds that row.
part_is : (rows len width row : ℕ) (words all : List ℕ) (table : List (List Bool)) → IsTable rows len words table → row < length table → width ≡ width_of len → all ≡ words → IsRow (length (get_or table row [])) (take (row * width + width - row * width) (drop (row * width) all)) (get_or table row [])
part_is rows len width row words all table t lt width_is all_is =
    let r = IsTable-row row t (omega (arith, IsTable-length t)) in
    let count : width ≡ row * width + width - row * width = omega arith in
    subst (λ n. IsRow n (take (row * width + width - row * width) (drop (row * width) all)) (get_or table row [])) (sym (IsRow-length r))
    (subst (λ n. IsRow len (take n (drop (row * width) all)) (get_or table row [])) count
    (subst (λ l. IsRow len (words_at width l row) (get_or table row [])) (sym all_is)
    (subst (λ w. IsRow len (words_at w words row) (get_or table row [])) (sym width_is) r)))

pub returns : goal.returns
returns c =
    let r = part_is c.self.inside.rows c.self.inside.len c.div_ceil-width.result c.args.row c.self.inside.words.items c.deref.result.now c.args.self.now (record { packed = c.self.invariant.packed; shows = c.self.view_is }) c.requires c.div_ceil-width.ensures c.deref.ensures.value in
    let t : IsTable c.self.inside.rows c.self.inside.len c.self.inside.words.items c.args.self.now = record { packed = c.self.invariant.packed; shows = c.self.view_is } in
    record {
      packed = r.packed;
      shows = r.shows;
      alike = λ i lt. IsRow-length (IsTable-row i t (omega (arith, IsTable-length t))) ∙ sym (IsRow-length (IsTable-row c.args.row t (omega (arith, IsTable-length t, c.requires))));
    }
