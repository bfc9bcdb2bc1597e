use Rattle.rl_ask.proofs.AnswerLemmas.{right-told}
use Rattle.rl_ask.proofs.ReplyLemmas.{told-well}
use Rattle.rl_ask.proofs.replies.told_line.Goals as goal

pub reply_line-requires : goal.reply_line-requires
reply_line-requires c =
    right-told _ _ c.requires

pub returns : goal.returns
returns c =
    told-well c.reply_line.result _ _ _ c.requires c.in_ok-told.ensures c.reply_line.ensures
