use Rattle.std.proofs.Common.{◌+◌, ap, sym, ◌∙◌, arith}
use Rattle.rl_prio.proofs.PlanLemmas.{holds_at-in, test_goes-miss, test_goes-small, test_goes-read}
use Rattle.rl_prio.proofs.build.plan.Plan.test_target.Goals as goal

pub index-requires : goal.index-requires
index-requires c =
    let here = holds_at-in c.args.self.now c.args.place c.args.letter (sym c.holds.ensures ∙ c.if-holds.true) in
    omega (arith, here, c.args.self.now.kinds_of.ok.0)

pub overflow_cast-result : goal.overflow_cast-result
overflow_cast-result c =
    omega (
      arith,
      test_goes-small c.args.self.now c.args.place c.args.letter c.kinds.result c.index.result.now c.index.result.now c.requires.sound c.requires.place_in
          (sym c.holds.ensures ∙ c.if-holds.true) c.kinds.ensures.value c.index.ensures,
    )

pub returns-then-holds : goal.returns-then-holds
returns-then-holds c =
    test_goes-read c.args.self.now c.args.place c.args.letter c.kinds.result c.index.result.now c.index.result.now
    (sym c.holds.ensures ∙ c.if-holds.true) c.kinds.ensures.value c.index.ensures

pub returns-else-holds : goal.returns-else-holds
returns-else-holds c =
    ap (λ n. n + 2) c.place_states.ensures.value
    ∙ test_goes-miss c.args.self.now c.args.place c.args.letter (sym c.holds.ensures ∙ c.if-holds.false)
