use Rattle.std.proofs.Common.{◌∙◌, ap}
use Rattle.serde_json.specs.Data.{object}
use Rattle.serde_json.specs.View.{members_view}
use Rattle.serde_json.specs.Written.{has_float}
use Rattle.serde_json.proofs.Views.{view-Object}
use Rattle.rl_ask.specs.Document.{beyond_members}
use Rattle.rl_ask.proofs.Plain.{told-plain}
use Rattle.rl_ask.proofs.document.object_line.Goals as goal

pub line_of-requires : goal.line_of-requires
line_of-requires c =
    ap has_float (view-Object c.put_beyond.new.members)
    ∙ ap (λ ms. has_float (object ms)) (c.in_ok-put_beyond.ensures ∙ ap (beyond_members c.args.told) (c.in_ok-put_answer.ensures (ap members_view c.new-members.ensures.empty)))
    ∙ told-plain c.args.universe c.args.limit c.args.told c.args.answer.now
