use Rattle.std.proofs.Common.{◌≡◌, ◌-◌, ◌<◌, length, sym, subst, ap₂, ◌∙◌, arith}
use Rattle.std.specs.Cmp.Lexicographic.{same_text}
use Rattle.std.proofs.lemmas.Result.{err_from_is_err_and}
use Rattle.rl_prio.specs.Automaton.{moves_at}
use Rattle.rl_sets.specs.Live.{image}
use Rattle.rl_pairs.specs.declared.finder.Key.{Key}
use Rattle.rl_pairs.specs.LivePairs.{pairs_from, next_pairs}
use Rattle.rl_pairs.specs.internal.Counting.{HasNumber}
use Rattle.rl_pairs.specs.internal.Finding.{found_of, pair_of}
use Rattle.rl_pairs.proofs.CountingLaws.{onward-trans}
use Rattle.rl_pairs.proofs.FindingLaws.{found-keeps}
use Rattle.rl_pairs.proofs.ExpandLaws.{key-read, pair-image}
use Rattle.rl_pairs.proofs.RepeatLaws.{same-image, image-stands}
use Rattle.rl_pairs.proofs.finder.Finder.repeats.Goals as goal

pub image_of-requires : goal.image_of-requires
image_of-requires c =
    let f = found_of c.args.self.now in
    let key = c.index-pair.result.now in
    let e = key-read f c.args.from key c.index-pair.ensures in
    record {
      counting = c.requires.counting;
      set_in = subst (λ (k : Key). k.set < length c.args.walk.now.sets) (sym e) (c.requires.found.sets c.args.from c.requires.from_in);
      letter_in = omega (arith, c.requires.letter_in);
      counted = pair-image c.args.a.now c.args.walk.now f key c.args.from (c.args.letter - 1) c.requires.counting c.requires.found c.requires.from_in e (omega (arith, c.requires.letter_in));
    }

pub returns-in_err-before-clause-errors : goal.returns-in_err-before-clause-errors
returns-in_err-before-clause-errors c =
    let p = err_from_is_err_and c.from_residual.result c.from_residual.ensures.1 in
    rw (p.1, p.2) (c.in_err-before.ensures.errors c.args.self.now.limit)

pub image_of-requires-2 : goal.image_of-requires-2
image_of-requires-2 c =
    let f = found_of c.args.self.now in
    let key = c.index-pair.result.now in
    let e = key-read f c.args.from key c.index-pair.ensures in
    let o = c.in_ok-before.ensures.onward in
    record {
      counting = o.counting;
      set_in = subst (λ (k : Key). k.set < length c.image_of.new.walk.sets) (sym e) (omega (arith, c.requires.found.sets c.args.from c.requires.from_in, o.keeps.longer));
      letter_in = c.requires.letter_in;
      counted = pair-image c.args.a.now c.image_of.new.walk f key c.args.from c.args.letter o.counting (found-keeps c.args.a.now c.args.walk.now c.image_of.new.walk f o.keeps c.requires.found) c.requires.from_in e c.requires.letter_in;
    }

pub returns-in_err-after-clause-errors : goal.returns-in_err-after-clause-errors
returns-in_err-after-clause-errors c =
    let p = err_from_is_err_and c.from_residual-in_err-after.result c.from_residual-in_err-after.ensures.1 in
    rw (p.1, p.2) (c.in_err-after.ensures.errors c.args.self.now.limit)

pub moves-requires : goal.moves-requires
moves-requires c =
    let e = key-read (found_of c.args.self.now) c.args.from c.index-pair.result.now c.index-pair.ensures in
    record {
      state_in = subst (λ (k : Key). k.state < c.args.a.now.states) (sym e) (c.requires.found.states c.args.from c.requires.from_in);
      letter_in = omega (arith, c.requires.letter_in);
    }

pub moves-requires-then-before-after : goal.moves-requires-then-before-after
moves-requires-then-before-after c =
    let e = key-read (found_of c.args.self.now) c.args.from c.index-pair.result.now c.index-pair.ensures in
    record {
      state_in = subst (λ (k : Key). k.state < c.args.a.now.states) (sym e) (c.requires.found.states c.args.from c.requires.from_in);
      letter_in = c.requires.letter_in;
    }

pub returns-then-before-after-clause-onward : goal.returns-then-before-after-clause-onward
returns-then-before-after-clause-onward c = onward-trans c.args.a.now c.args.walk.now c.image_of.new.walk c.image_of-2.new.walk c.in_ok-before.ensures.onward.keeps c.in_ok-after.ensures.onward

pub returns-then-before-after-clause-stands : goal.returns-then-before-after-clause-stands
returns-then-before-after-clause-stands c =
    let e = key-read (found_of c.args.self.now) c.args.from c.index-pair.result.now c.index-pair.ensures in
    subst (λ (k : Key). HasNumber c.image_of-2.new.walk (image c.args.a.now (pair_of c.args.walk.now k).set c.args.letter)) e
    (image-stands c.args.a.now c.args.walk.now c.image_of.new.walk c.image_of-2.new.walk c.index-pair.result.now.set c.args.letter c.in_ok-after.after
    (subst (λ (k : Key). k.set < length c.args.walk.now.sets) (sym e) (c.requires.found.sets c.args.from c.requires.from_in)) c.in_ok-before.ensures.onward.keeps c.in_ok-after.ensures.image)

pub returns-then-before-after-clause-same : goal.returns-then-before-after-clause-same
returns-then-before-after-clause-same c = λ same.
    let e = key-read (found_of c.args.self.now) c.args.from c.index-pair.result.now c.index-pair.ensures in
    let a = c.args.a.now in
    let key = c.index-pair.result.now in
    let image_same = same-image a c.args.walk.now c.image_of.new.walk c.image_of-2.new.walk key.set (c.args.letter - 1) c.args.letter c.in_ok-before.before c.in_ok-after.after
    (subst (λ (k : Key). k.set < length c.args.walk.now.sets) (sym e) (c.requires.found.sets c.args.from c.requires.from_in)) c.in_ok-before.ensures.onward.keeps c.in_ok-after.ensures.onward.keeps c.in_ok-before.ensures.image c.in_ok-after.ensures.image c.if-before-after.true in
    let moves_same : moves_at a key.state (c.args.letter - 1) ≡ moves_at a key.state c.args.letter = sym c.moves.ensures.moves ∙ same_text c.moves.result.now c.moves-then-before-after.result.now (sym same ∙ c.eq.ensures) ∙ c.moves-then-before-after.ensures.moves in
    subst (λ (k : Key). next_pairs a (pair_of c.args.walk.now k) (c.args.letter - 1) ≡ next_pairs a (pair_of c.args.walk.now k) c.args.letter) e (ap₂ (pairs_from a) image_same moves_same)

pub returns-else-before-after-clause-onward : goal.returns-else-before-after-clause-onward
returns-else-before-after-clause-onward c = onward-trans c.args.a.now c.args.walk.now c.image_of.new.walk c.image_of-2.new.walk c.in_ok-before.ensures.onward.keeps c.in_ok-after.ensures.onward

pub returns-else-before-after-clause-stands : goal.returns-else-before-after-clause-stands
returns-else-before-after-clause-stands c =
    let e = key-read (found_of c.args.self.now) c.args.from c.index-pair.result.now c.index-pair.ensures in
    subst (λ (k : Key). HasNumber c.image_of-2.new.walk (image c.args.a.now (pair_of c.args.walk.now k).set c.args.letter)) e
    (image-stands c.args.a.now c.args.walk.now c.image_of.new.walk c.image_of-2.new.walk c.index-pair.result.now.set c.args.letter c.in_ok-after.after
    (subst (λ (k : Key). k.set < length c.args.walk.now.sets) (sym e) (c.requires.found.sets c.args.from c.requires.from_in)) c.in_ok-before.ensures.onward.keeps c.in_ok-after.ensures.image)
