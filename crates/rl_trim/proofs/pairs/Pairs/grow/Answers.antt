use Rattle.std.proofs.Common.{◌∙◌, ℕ, ◌+◌, ◌<◌, length, refl, sym, subst, arith}
use Rattle.std.proofs.lemmas.Bool.{false≢true}
use Rattle.rl_trim.specs.internal.Quick.{IsDone, AreDone}
use Rattle.rl_trim.proofs.SetLaws.{grown-refl, grown-grown}
use Rattle.rl_trim.proofs.PairLaws.{done-more}
use Rattle.rl_trim.proofs.pairs.Pairs.grow.Goals as goal

pub loop-place-preserved : goal.loop-place-preserved
loop-place-preserved c =
    let lt : c.loop-place.place < length c.loop-place.self.keys.keys = omega (arith, c.loop-place.invariant.inside, c.len.ensures.len) in
    record {
      grown = grown-grown c.args.branch.now.automaton.now c.args.walk.now c.loop-place.walk c.look.new.walk c.loop-place.invariant.grown c.in_ok-look.ensures.onward.grown;
      pairs = c.in_ok-look.ensures.pairs;
      done =
          subst (λ (n : ℕ). AreDone c.args.branch.now.automaton.now c.args.branch.now.keep.now c.look.new.walk n c.look.new.self.keys.keys (c.loop-place.place + 1)) (sym c.in_ok-look.ensures.count)
          (done-more c.args.branch.now.automaton.now c.args.branch.now.keep.now c.loop-place.walk c.look.new.walk c.loop-place.self.count c.loop-place.self.keys.keys c.look.new.self.keys.keys c.loop-place.place lt
          c.loop-place.invariant.pairs c.in_ok-look.ensures.onward c.loop-place.invariant.done
          (subst (λ (n : ℕ). IsDone c.args.branch.now.automaton.now c.args.branch.now.keep.now c.look.new.walk n c.look.new.self.keys.keys c.loop-place.place) c.in_ok-look.ensures.count c.in_ok-look.ensures.done));
      inside = omega (arith, c.in_ok-look.ensures.onward.longer);
      count = c.in_ok-look.ensures.count ∙ c.loop-place.invariant.count;
      trims = c.in_ok-look.ensures.trims;
    }

pub loop-place-init : goal.loop-place-init
loop-place-init c = record {
  grown = grown-refl c.args.branch.now.automaton.now c.args.walk.now c.requires.pairs.closed.made;
  pairs = c.requires.pairs;
  done = λ i lt. absurd (omega arith);
  inside = omega arith;
  count = refl;
  trims = c.requires.trims;
}

pub look-requires-clause-pairs : goal.look-requires-clause-pairs
look-requires-clause-pairs c = c.loop-place.invariant.pairs

pub look-requires-clause-trims : goal.look-requires-clause-trims
look-requires-clause-trims c = c.loop-place.invariant.trims

pub look-requires-clause-place_in : goal.look-requires-clause-place_in
look-requires-clause-place_in c = omega (arith, c.loop-place.invariant.inside, c.len.ensures.len, c.if-place-len.false)

pub returns-then-place-len-clause-grown : goal.returns-then-place-len-clause-grown
returns-then-place-len-clause-grown c = c.loop-place.invariant.grown

pub returns-then-place-len-clause-pairs : goal.returns-then-place-len-clause-pairs
returns-then-place-len-clause-pairs c = c.loop-place.invariant.pairs

pub returns-then-place-len-clause-done : goal.returns-then-place-len-clause-done
returns-then-place-len-clause-done c = λ e.
    subst (AreDone c.args.branch.now.automaton.now c.args.branch.now.keep.now c.loop-place.walk c.loop-place.self.count c.loop-place.self.keys.keys) (c.if-place-len.true ∙ c.len.ensures.len) c.loop-place.invariant.done

pub returns-then-place-len-clause-count : goal.returns-then-place-len-clause-count
returns-then-place-len-clause-count c = c.loop-place.invariant.count

pub returns-then-place-len-clause-trims : goal.returns-then-place-len-clause-trims
returns-then-place-len-clause-trims c = c.loop-place.invariant.trims

pub returns-clause-grown : goal.returns-clause-grown
returns-clause-grown c = c.loop-place.invariant.grown

pub returns-clause-pairs : goal.returns-clause-pairs
returns-clause-pairs c = c.loop-place.invariant.pairs

pub returns-clause-done : goal.returns-clause-done
returns-clause-done c = λ e. absurd (false≢true e)

pub returns-clause-count : goal.returns-clause-count
returns-clause-count c = c.loop-place.invariant.count

pub returns-clause-trims : goal.returns-clause-trims
returns-clause-trims c = c.loop-place.invariant.trims
