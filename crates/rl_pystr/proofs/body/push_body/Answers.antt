-- One code point is read, and there is room for its bytes.
use Rattle.std.proofs.Common.{◌+◌, ◌∙◌, arith, sym, ap, ap₂, length}
use Rattle.std.specs.Prelude.{Ok}
use Rattle.std.specs.Char.{len_utf8}
use Rattle.std.proofs.lemmas.List.{get_or_read, length-drop}
use Rattle.rl_pystr.specs.Values.{joined_results, value_from}
use Rattle.rl_pystr.proofs.Bodies.{behind_first}
use Rattle.rl_pystr.proofs.body.push_body.Goals as goal

pub step-requires-clause-place : goal.step-requires-clause-place
step-requires-clause-place c = omega (arith, c.loop-rest.invariant.room)

pub overflow_add-place : goal.overflow_add-place
overflow_add-place c =
    omega (arith, c.loop-rest.invariant.room, c.in-len1-up.len_at_least, c.len_utf8.ensures.upper_bound)

pub loop-rest-preserved : goal.loop-rest-preserved
loop-rest-preserved c =
    let rest = c.loop-rest.rest.now in
    record {
      same =
          c.loop-rest.invariant.same
          ∙ c.in_ok-skip.ensures.ok
          ∙ ap₂ (λ size after. joined_results (Ok c.step.new.out) (value_from c.args.raw c.args.bytes (c.loop-rest.place + size) c.in_ok-skip.skip after))
          (ap len_utf8 (sym (get_or_read rest _ _ c.in-len1-up.len_at_least c.code-item.is 0)) ∙ sym c.len_utf8.ensures.value) (sym (behind_first rest));
      room = omega (arith, c.loop-rest.invariant.room, c.in-len1-up.len_at_least, c.len_utf8.ensures.upper_bound, ap length (behind_first rest), length-drop 1 rest);
    }
