use Rattle.std.proofs.Common.{◌≡◌, ◌∙◌, refl, sym, subst, arith}
use Rattle.rl_trim.specs.Reached.{IsClosedTo}
use Rattle.rl_trim.specs.internal.Noting.{AreTouched}
use Rattle.rl_trim.specs.internal.Quick.{AreRooted}
use Rattle.rl_trim.proofs.SetLaws.{grown-refl, grown-grown}
use Rattle.rl_trim.proofs.TrimLaws.{trims-none}
use Rattle.rl_trim.proofs.PairLaws.{rooted-none}
use Rattle.rl_trim.proofs.pairs.Pairs.new.Goals as goal

pub loop-set-init : goal.loop-set-init
loop-set-init c = record {
  grown = grown-refl c.args.branch.now.automaton.now c.args.walk.now c.requires.closed.made;
  closed = c.requires.closed;
  touched = c.requires.touched;
  rooted = rooted-none c.args.branch.now.keep.now c.args.walk.now c.new.result.keys c.new.ensures.empty;
  count = refl;
  trims = trims-none c.args.branch.now.keep.now c.args.walk.now c.new-3.result c.new-3.ensures;
}

pub plant-requires-clause-touched : goal.plant-requires-clause-touched
plant-requires-clause-touched c = subst (λ n. AreTouched c.args.branch.now.keep.now c.loop-set.walk n c.args.touched.now) (sym c.loop-set.invariant.count) c.loop-set.invariant.touched

pub plant-requires-clause-closed : goal.plant-requires-clause-closed
plant-requires-clause-closed c = subst (λ n. IsClosedTo c.args.branch.now.automaton.now c.loop-set.walk n n) (sym c.loop-set.invariant.count) c.loop-set.invariant.closed

pub plant-requires-clause-rooted : goal.plant-requires-clause-rooted
plant-requires-clause-rooted c = c.loop-set.invariant.rooted

pub plant-requires-clause-trims : goal.plant-requires-clause-trims
plant-requires-clause-trims c = c.loop-set.invariant.trims

pub plant-requires-clause-set_in : goal.plant-requires-clause-set_in
plant-requires-clause-set_in c = omega (arith, c.loop-set-test.true, c.loop-set.invariant.count)

pub loop-set-preserved : goal.loop-set-preserved
loop-set-preserved c =
    let a = c.args.branch.now.automaton.now in
    let w = c.plant.new.walk in
    let count : c.plant.new.self.count ≡ c.args.count = c.in_ok-plant.ensures.count ∙ c.loop-set.invariant.count in
    record {
      grown = grown-grown a c.args.walk.now c.loop-set.walk w c.loop-set.invariant.grown c.in_ok-plant.ensures.grown;
      closed = subst (λ n. IsClosedTo a w n n) count c.in_ok-plant.ensures.closed;
      touched = subst (λ n. AreTouched c.args.branch.now.keep.now w n c.args.touched.now) count c.in_ok-plant.ensures.touched;
      rooted = c.in_ok-plant.ensures.rooted;
      count = count;
      trims = c.in_ok-plant.ensures.trims;
    }

pub returns-clause-grown : goal.returns-clause-grown
returns-clause-grown c = c.loop-set.invariant.grown

pub returns-clause-pairs : goal.returns-clause-pairs
returns-clause-pairs c =
    let all : c.loop-set.set ≡ c.args.count = omega (arith, c.loop-set-test.false, c.loop-set.auto) in
    record {
      closed = c.loop-set.invariant.closed;
      rooted = subst (λ n. AreRooted c.args.branch.now.keep.now c.loop-set.walk n c.loop-set.pairs.keys.keys) all c.loop-set.invariant.rooted;
    }

pub returns-clause-count : goal.returns-clause-count
returns-clause-count c = c.loop-set.invariant.count

pub returns-clause-trims : goal.returns-clause-trims
returns-clause-trims c = c.loop-set.invariant.trims
