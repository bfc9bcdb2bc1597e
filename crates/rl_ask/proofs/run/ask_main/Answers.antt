use Rattle.std.proofs.Common.{◌≡◌, ◌≢◌, [], map, string_bytes, subst}
use Rattle.rl_ask.specs.Runs.{invalid, replies}
use Rattle.rl_ask.proofs.RunLemmas.{keeps-same, none-mapped, some-mapped}
use Rattle.rl_ask.proofs.run.ask_main.Goals as goal

pub returns-then-is_empty : goal.returns-then-is_empty
returns-then-is_empty g c =
    record {
      run = replies (subst (λ l. map string_bytes l ≡ []) c.as_slice.ensures.value (none-mapped c.as_slice.result.now c.is_empty.result c.is_empty.ensures c.if-is_empty.true)) c.all_replied.ensures;
    }

pub returns-else-is_empty : goal.returns-else-is_empty
returns-else-is_empty g c =
    record {
      run = invalid (subst (λ l. map string_bytes l ≢ []) c.as_slice.ensures.value (some-mapped c.as_slice.result.now c.is_empty.result c.is_empty.ensures c.if-is_empty.false)) (keeps-same _) c.write_message.ensures.message;
    }
