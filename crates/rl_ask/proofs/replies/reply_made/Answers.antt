use Rattle.std.proofs.Common.{◌∙◌, sym}
use Rattle.rl_ask.specs.Lines.{too_long}
use Rattle.rl_ask.proofs.ReplyLemmas.{ok-is}
use Rattle.rl_ask.proofs.replies.reply_made.Goals as goal

pub returns-then-is_over : goal.returns-then-is_over
returns-then-is_over c =
    ok-is c.long_reply.result _ _ c.long_reply.ensures (too_long (sym c.is_over.ensures ∙ c.if-is_over.true))
