use Rattle.std.proofs.Common.{Err, ap}
use Rattle.rl_ask.specs.Lines.{no_json}
use Rattle.rl_ask.proofs.ReplyLemmas.{reply-of, ok-is}
use Rattle.rl_ask.proofs.replies.line_reply.Goals as goal

pub returns-in-Ok : goal.returns-in-Ok
returns-in-Ok c =
    reply-of _ _ _ c.requires c.in-Ok.ensures.value.0 c.in-Ok.ensures.value.1 c.value_line-reply.ensures

pub returns-in-Err-Refused : goal.returns-in-Err-Refused
returns-in-Err-Refused c =
    ok-is c.error_line.result _ _ c.error_line.ensures (no_json c.requires (c.in-Err-Refused.ensures.refused (ap Err c.in-Err-Refused.field-0-is)))
