use Rattle.std.proofs.Common.{◌∙◌, ◌*◌, ◌<◌, ℕ, get_or, sym, subst, ap, arith}
use Rattle.std.proofs.lemmas.List.{take_all}
use Rattle.rl_graph.proofs.Sums.{Each-has, Has-get_or, at-get_or}
use Rattle.rl_numbers.specs.Listed.{listing}
use Rattle.rl_numbers.proofs.ListedLaws.{listing-more}
use Rattle.rl_numbers.proofs.listing.listed.Goals as goal

pub loop-i-preserved : goal.loop-i-preserved
loop-i-preserved c =
    listing-more c.args.parts.now c.args.states c.loop-i.i c.args.keys.now.keys c.index.result.now c.of-number.result c.triple_at.result c.loop-i.triples c.push.new.self
    (omega (arith, c.loop-i-test.true, c.len-i-end.ensures.len)) (sym (at-get_or c.args.keys.now.keys c.loop-i.i c.index.result.now 0 c.index.ensures)) c.of-number.ensures c.triple_at.ensures c.in_ok-push.ensures.pushed c.loop-i.invariant

pub triple_at-requires-clause-inside : goal.triple_at-requires-clause-inside
triple_at-requires-clause-inside c =
    let n = c.args.states in
    let keys = c.args.keys.now.keys in
    subst (λ (x : ℕ). x < n * n * n) (at-get_or keys c.loop-i.i c.index.result.now 0 c.index.ensures) (Each-has (λ (x : ℕ). x < n * n * n) (get_or keys c.loop-i.i 0) keys c.requires.inside (Has-get_or keys c.loop-i.i 0 (omega (arith, c.loop-i-test.true, c.len-i-end.ensures.len))))

pub of-number-requires : goal.of-number-requires
of-number-requires c = omega (arith, c.loop-i-test.true, c.len-i-end.ensures.len, c.requires.size)

pub overflow_cast-number : goal.overflow_cast-number
overflow_cast-number c = omega (arith, c.of-number.ensures, c.requires.low c.loop-i.i (omega (arith, c.loop-i-test.true, c.len-i-end.ensures.len)))

pub index-requires : goal.index-requires
index-requires c = omega (arith, c.loop-i-test.true, c.len-i-end.ensures.len)

pub returns : goal.returns
returns c = c.loop-i.invariant ∙ ap (listing c.args.parts.now c.args.states 0) (take_all c.loop-i.i c.args.keys.now.keys (omega (arith, c.loop-i-test.false, c.len-i-end.ensures.len)))
