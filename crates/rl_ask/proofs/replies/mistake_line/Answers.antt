use Rattle.std.proofs.Common.{◌≡◌, IfOk, subst, sym}
use Rattle.rl_asked.specs.Questions.{message_of}
use Rattle.rl_ask.specs.Document.{error_text}
use Rattle.rl_ask.proofs.replies.mistake_line.Goals as goal

pub returns-in-UnknownKey : goal.returns-in-UnknownKey
returns-in-UnknownKey c =
    subst (λ m. IfOk c.key_line.result (λ line. line ≡ error_text (message_of m))) (sym c.in-UnknownKey.is) c.key_line.ensures

pub returns-in-MissingKey : goal.returns-in-MissingKey
returns-in-MissingKey c =
    subst (λ m. IfOk c.key_line-in-MissingKey.result (λ line. line ≡ error_text (message_of m))) (sym c.in-MissingKey.is) c.key_line-in-MissingKey.ensures
