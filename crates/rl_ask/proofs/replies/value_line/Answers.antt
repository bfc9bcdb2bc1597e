use Rattle.rl_ask.proofs.ReplyLemmas.{value-answered, value-mistaken}
use Rattle.rl_ask.proofs.replies.value_line.Goals as goal

pub returns-in-Ok : goal.returns-in-Ok
returns-in-Ok c =
    value-answered c.answer_line.result _ _ _ c.question_of.ensures.question c.in-Ok.is c.answer_line.ensures

pub returns-in-Err : goal.returns-in-Err
returns-in-Err c =
    value-mistaken c.mistake_line.result _ _ _ c.question_of.ensures.question c.in-Err.is c.mistake_line.ensures
