use Rattle.std.proofs.Common.{IfSome, sym, subst}
use Rattle.rl_equiv.specs.Bases.{IsBase}
use Rattle.rl_trim.specs.Judged.{IsFound}
use Rattle.rl_trim.specs.internal.Trims.{trim_pairs}
use Rattle.rl_trim.proofs.TrimOrder.{judged}
use Rattle.rl_trim.proofs.BesideLaws.{judged-told}
use Rattle.rl_trim.proofs.trimmer.Trimmer.judge.Goals as goal

pub returns-in-Some-clause-judged : goal.returns-in-Some-clause-judged
returns-in-Some-clause-judged c =
    let a = c.self.inside.automaton in
    let keep = c.args.keep.now in
    let found = subst (λ o. IfSome o (λ r. IsFound (trim_pairs a keep) c.args.limit r.0)) c.in-Some.is c.in_ok-found.ensures.found in
    λ u s t base unguarded without. judged u a s t keep c.args.limit c.in-Some.found (subst (IsBase u t) (sym c.self.view_is) base) unguarded without found

pub returns-in-Some-clause-told : goal.returns-in-Some-clause-told
returns-in-Some-clause-told c =
    let a = c.self.inside.automaton in
    let keep = c.args.keep.now in
    let limit = c.args.limit in
    let found = subst (λ o. IfSome o (λ r. IsFound (trim_pairs a keep) limit r.0)) c.in-Some.is c.in_ok-found.ensures.found in
    λ u s t base unguarded without.
    let own = subst (IsBase u t) (sym c.self.view_is) base in
    judged-told u a s t keep limit c.in-Some.found own without (judged u a s t keep limit c.in-Some.found own unguarded without found)
