-- The answers of the loop, by its laws.
use Rattle.std.proofs.Common.{◌≡◌, ℕ, ◌<◌, ◌+◌, suc, List, length, slice_get, Some, arith, subst, sym, ap}
use Rattle.std.specs.Prelude.{slice_index_or}
use Rattle.std.proofs.lemmas.Option.{slice_get-get_or}
use Rattle.rl_pattern.specs.internal.Views.{state_of}
use Rattle.rl_pattern.specs.internal.Answering.{HasRead}
use Rattle.rl_pattern.proofs.Loop.{stand_fits, went_on, went_wrong, ended_right}
use Rattle.rl_pattern.proofs.read.read.Goals as goal

code_here : (w : List ℕ) (place i : ℕ) → place ≡ i → i < length w → slice_get w place ≡ Some (slice_index_or w i 0)
code_here w place i e l = subst (λ k. slice_get w k ≡ Some (slice_index_or w i 0)) (sym e) (slice_get-get_or w i 0 l)

pub one_code-requires-clause-fits : goal.one_code-requires-clause-fits
one_code-requires-clause-fits c =
    stand_fits c.args.flags c.args.text c.args.codes.now c.loop-code.place (state_of c.loop-code.state) (omega (arith, c.loop-code.invariant.1, c.loop-code-test.true)) c.loop-code.invariant.0

pub returns-in-Err : goal.returns-in-Err
returns-in-Err c =
    (went_wrong c.args.flags c.args.text c.args.codes.now c.loop-code.place (slice_index_or c.args.codes.now c.loop-code.code-index 0) (state_of c.loop-code.state) (state_of c.one_code.new.state) c.in-Err.error c.loop-code.invariant.0 (code_here c.args.codes.now c.loop-code.place c.loop-code.code-index c.loop-code.invariant.1 c.loop-code-test.true) c.in-Err.ensures)

pub loop-code-preserved : goal.loop-code-preserved
loop-code-preserved c =
    let e : suc c.loop-code.place ≡ c.loop-code.place + 1 = omega arith in
    let next = went_on c.args.flags c.args.text c.args.codes.now c.loop-code.place (slice_index_or c.args.codes.now c.loop-code.code-index 0) (state_of c.loop-code.state) (state_of c.one_code.new.state) c.loop-code.invariant.0 (code_here c.args.codes.now c.loop-code.place c.loop-code.code-index c.loop-code.invariant.1 c.loop-code-test.true) c.in_default.ensures in
    (subst (λ k. HasRead c.args.flags c.args.text c.args.codes.now k (state_of c.one_code.new.state)) e next, ap (λ n. n + 1) c.loop-code.invariant.1)

pub at_end-requires-clause-fits : goal.at_end-requires-clause-fits
at_end-requires-clause-fits c =
    stand_fits c.args.flags c.args.text c.args.codes.now c.loop-code.place (state_of c.loop-code.state) (omega (arith, c.loop-code.invariant.1, c.loop-code.auto.code-index-end)) c.loop-code.invariant.0

pub returns : goal.returns
returns c =
    let e : c.loop-code.place ≡ length c.args.codes.now = omega (arith, c.loop-code.invariant.1, c.loop-code.auto.code-index-end, c.loop-code-test.false) in
    ended_right c.args.flags c.args.text c.args.codes.now c.loop-code.place (state_of c.loop-code.state) c.at_end.result e c.loop-code.invariant.0 c.at_end.ensures
