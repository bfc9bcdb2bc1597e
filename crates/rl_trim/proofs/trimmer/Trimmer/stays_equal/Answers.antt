use Rattle.std.proofs.Common.{◌≡◌, Bool, true, Result, Ok, Err, IfOk, sym, subst}
use Rattle.rl_equiv.specs.Bases.{IsBase}
use Rattle.rl_trim.proofs.FurtherLaws.{further-judged, further-told}
use Rattle.rl_trim.proofs.trimmer.Trimmer.stays_equal.Goals as goal

-- What follows where three facts follow.
all-three : {E : Type 0} {P Q R S : Type 0} (r : Result Bool E) → (P → Q → R → S) → IfOk r (λ b. b ≡ true → P) → IfOk r (λ b. b ≡ true → Q) → IfOk r (λ b. b ≡ true → R) → IfOk r (λ b. b ≡ true → S)
all-three (Ok b) f p q r = λ e. f (p e) (q e) (r e)
all-three (Err x) f p q r = tt

pub returns-clause-judged : goal.returns-clause-judged
returns-clause-judged c =
    let told = c.stays_on-told in
    all-three told.result
    (λ found dropped keep u r s t base unguarded without_first without_second.
    further-judged u c.self.inside.automaton r s t c.args.dropped.now c.args.keep.now c.args.limit (subst (IsBase u t) (sym c.self.view_is) base) unguarded without_first without_second dropped keep found)
    told.ensures.equal told.ensures.dropped told.ensures.keep

pub returns-clause-told : goal.returns-clause-told
returns-clause-told c =
    let told = c.stays_on-told in
    all-three told.result
    (λ found dropped keep u r s t base unguarded without_first without_second.
    further-told u c.self.inside.automaton r s t c.args.dropped.now c.args.keep.now c.args.limit (subst (IsBase u t) (sym c.self.view_is) base) unguarded without_first without_second dropped keep found)
    told.ensures.equal told.ensures.dropped told.ensures.keep
