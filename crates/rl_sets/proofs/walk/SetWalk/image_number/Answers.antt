use Rattle.std.proofs.Common.{length, refl, ap, inl, arith}
use Rattle.std.proofs.lemmas.Option.{slice_get_within}
use Rattle.std.proofs.lemmas.Result.{err_from_is_err_and}
use Rattle.rl_sets.specs.Live.{image}
use Rattle.rl_sets.specs.Rows.{members_of}
use Rattle.rl_sets.specs.Walk.{set_at}
use Rattle.rl_sets.proofs.SetLemmas.{IsSetOf-image}
use Rattle.rl_sets.proofs.WalkLemmas.{IsAsked-added, IsAsked-same}
use Rattle.rl_sets.proofs.walk.SetWalk.image_number.Goals as goal

pub returns-in-Some-clause-asked : goal.returns-in-Some-clause-asked
returns-in-Some-clause-asked c =
    let w = c.args.self.now in
    record {
      listed = record { stands = c.in-Some.ensures; grown = inl refl };
      inside = slice_get_within w.sets c.in-Some.number (image c.args.a.now (set_at w c.args.set) c.args.letter) c.in-Some.ensures;
      longer = omega arith;
      made = c.requires.made;
      limit = refl;
      full = tt;
      unchanged = tt;
    }

pub returns-in_err-row-clause-asked : goal.returns-in_err-row-clause-asked
returns-in_err-row-clause-asked c =
    let row = c.image_row.ensures in
    let p = err_from_is_err_and c.from_residual.result c.from_residual.ensures.1 in
    rw (p.1, p.2) (record { listed = tt; inside = tt; longer = omega (arith, ap length row.sets); made = row.made; limit = row.limit; full = λ is. cc; unchanged = row.sets })

pub returns-clause-asked : goal.returns-clause-asked
returns-clause-asked c =
    let a = c.args.a.now in
    let w = c.args.self.now in
    let mid = c.image_row.new.self in
    let new = c.add.new.self in
    let set = image a (set_at w c.args.set) c.args.letter in
    let row = c.image_row.ensures in
    let add = c.add.ensures in
    let asked = IsAsked-added mid new a set (members_of c.in_ok-row.row) c.add.result row.made (IsSetOf-image a (set_at w c.args.set) c.args.letter) c.in_ok-row.ensures.image add.listed add.inside add.longer add.few add.limit add.kept add.full add.unchanged in
    IsAsked-same w mid new new a set c.add.result asked row.sets row.limit refl refl asked.made
