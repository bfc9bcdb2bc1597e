use Rattle.rl_ask.specs.Lines.{no_memory}
use Rattle.rl_ask.proofs.replies.reply_to.Goals as goal

pub returns-in-Err : goal.returns-in-Err
returns-in-Err c =
    no_memory
