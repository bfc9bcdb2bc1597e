use Rattle.std.proofs.Common.{◌<◌, length, sym, subst, arith}
use Rattle.rl_lanes.specs.internal.Words.{IsUnionOf}
use Rattle.rl_lanes.proofs.NarrowLemmas.{IsNarrow, narrow_within, narrow_clear, narrow_image}
use Rattle.rl_lanes.proofs.table.BitTable.image.Goals as goal

pub union_of-requires : goal.union_of-requires
union_of-requires c i lt on =
    let t : IsNarrow c.self.inside.rows c.self.inside.len c.self.inside.words.items c.args.self.now (length c.args.into.now) c.args.chosen.now c.word.result = record {
      table_is = record { packed = c.self.invariant.packed; shows = c.self.view_is };
      each = c.requires.places;
      some = omega arith;
      few = omega arith;
      alike = c.requires.rows;
      short = omega arith;
      holds = c.word.ensures;
    } in
    subst (λ ws. i < length ws) (sym c.as_slice.ensures.value) (narrow_within i t lt on)

pub put_word-requires-clause-clear : goal.put_word-requires-clause-clear
put_word-requires-clause-clear c i ge lt =
    let t : IsNarrow c.self.inside.rows c.self.inside.len c.self.inside.words.items c.args.self.now (length c.args.into.now) c.args.chosen.now c.word.result = record {
      table_is = record { packed = c.self.invariant.packed; shows = c.self.view_is };
      each = c.requires.places;
      some = omega arith;
      few = omega arith;
      alike = c.requires.rows;
      short = omega arith;
      holds = c.word.ensures;
    } in
    narrow_clear c.union_of.result i t (subst (λ ws. IsUnionOf ws c.word.result c.union_of.result) c.as_slice.ensures.value c.union_of.ensures) ge lt

pub returns-then-len-le-WORD-2-clause-image : goal.returns-then-len-le-WORD-2-clause-image
returns-then-len-le-WORD-2-clause-image c =
    let t : IsNarrow c.self.inside.rows c.self.inside.len c.self.inside.words.items c.args.self.now (length c.args.into.now) c.args.chosen.now c.word.result = record {
      table_is = record { packed = c.self.invariant.packed; shows = c.self.view_is };
      each = c.requires.places;
      some = omega arith;
      few = omega arith;
      alike = c.requires.rows;
      short = omega arith;
      holds = c.word.ensures;
    } in
    narrow_image c.union_of.result c.put_word.new.self t (subst (λ ws. IsUnionOf ws c.word.result c.union_of.result) c.as_slice.ensures.value c.union_of.ensures) c.put_word.ensures.len c.put_word.ensures.values
