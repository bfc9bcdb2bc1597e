use Rattle.std.proofs.Common.{◌∙◌, sym}
use Rattle.rl_syntax.specs.Cost.{up_to_hit}
use Rattle.rl_machine.proofs.StepLaws.{has_hit_of_both, steps_stop, steps_go_on}
use Rattle.rl_machine.proofs.steps.Counted.before.Goals as goal

pub returns-then-first : goal.returns-then-first
returns-then-first c l r one later =
    let hit = sym one.hit ∙ c.if-first.true in
    record {
      counted = rw (steps_stop l r hit) one.counted;
      hit = rw (has_hit_of_both l r, hit) c.if-first.true;
    }

pub returns-else-first : goal.returns-else-first
returns-else-first c l r one later =
    let miss = sym one.hit ∙ c.if-first.false in
    record {
      counted = rw (steps_go_on l r miss) (c.plus.ensures (up_to_hit l) (up_to_hit r) one.counted later.counted);
      hit = rw (has_hit_of_both l r, miss) later.hit;
    }
