use Rattle.std.proofs.Common.{ℕ, inl, sym, subst}
use Rattle.rl_trim.specs.Reached.{IsClosedTo}
use Rattle.rl_trim.specs.internal.Noting.{AreTouched}
use Rattle.rl_trim.specs.internal.Quick.{AreTrims}
use Rattle.rl_trim.proofs.ClosingLaws.{closed-stays}
use Rattle.rl_trim.proofs.HolderLaws.{touched-grown}
use Rattle.rl_trim.proofs.PairLaws.{rooted-next, rooted-more}
use Rattle.rl_trim.proofs.pairs.Pairs.plant.Goals as goal

pub returns-then-not-get-clause-rooted : goal.returns-then-not-get-clause-rooted
returns-then-not-get-clause-rooted c =
    rooted-next c.args.branch.now.keep.now c.args.walk.now c.args.set c.args.self.now.keys.keys c.requires.rooted (inl (c.requires.touched.whole c.args.set c.requires.set_in (sym c.if-not-get.ensures)))

pub returns-clause-touched : goal.returns-clause-touched
returns-clause-touched c =
    subst (λ (n : ℕ). AreTouched c.args.branch.now.keep.now c.trim.new.walk n c.args.touched.now) (sym c.in_ok-add.ensures.count)
    (touched-grown c.args.branch.now.automaton.now c.args.branch.now.keep.now c.args.walk.now c.trim.new.walk c.args.self.now.count c.args.touched.now c.in_ok-second.ensures.numbered.grown c.requires.closed.few c.requires.touched)

pub returns-clause-closed : goal.returns-clause-closed
returns-clause-closed c =
    subst (λ (n : ℕ). IsClosedTo c.args.branch.now.automaton.now c.trim.new.walk n n) (sym c.in_ok-add.ensures.count)
    (closed-stays c.args.branch.now.automaton.now c.args.walk.now c.trim.new.walk c.args.self.now.count c.args.self.now.count c.in_ok-second.ensures.numbered.grown c.requires.closed)

pub returns-clause-rooted : goal.returns-clause-rooted
returns-clause-rooted c =
    rooted-more c.args.branch.now.automaton.now c.args.branch.now.keep.now c.args.walk.now c.trim.new.walk c.args.set c.args.self.now.count c.in_ok-second.second c.args.self.now.keys.keys c.add.new.self.keys.keys
    c.requires.set_in c.requires.closed c.in_ok-second.ensures.numbered c.in_ok-add.ensures.put c.requires.rooted

pub returns-clause-trims : goal.returns-clause-trims
returns-clause-trims c = subst (AreTrims c.args.branch.now.keep.now c.trim.new.walk) (sym c.in_ok-add.ensures.trims) c.in_ok-second.ensures.trims
