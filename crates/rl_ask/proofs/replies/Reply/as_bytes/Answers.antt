use Rattle.std.proofs.Common.{◌∙◌, ap, sym}
use Rattle.rl_ask.specs.internal.Replied.{reply_bytes}
use Rattle.rl_ask.proofs.ReplyLemmas.{memory-text}
use Rattle.rl_ask.proofs.replies.Reply.as_bytes.Goals as goal

pub returns-in-NoMemory : goal.returns-in-NoMemory
returns-in-NoMemory c = c.as_bytes.ensures.value ∙ memory-text ∙ sym (ap reply_bytes c.in-NoMemory.is)
