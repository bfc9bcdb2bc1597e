use Rattle.std.proofs.Common.{◌≡◌, ◌∙◌, ap, ap₂}
use Rattle.serde_json.specs.View.{view}
use Rattle.serde_json.specs.Written.{has_float}
use Rattle.rl_syntax.specs.Pattern.{body_of}
use Rattle.rl_parts.specs.Nodes.{node_data}
use Rattle.rl_parts.specs.Reply.{reply_data, tree_data}
use Rattle.rl_parts.proofs.Plain.{reply-plain}
use Rattle.rl_parts.proofs.reply.tree_reply.Goals as goal

pub returns-clause-reply : goal.returns-clause-reply
returns-clause-reply c =
    let p = c.args.pattern.now in
    let samples = c.in_ok-letters.letters.samples in
    let tree : view c.in_ok-root.root.value ≡ node_data samples (body_of p) 1 =
    c.in_ok-root.ensures.value ∙ ap (λ b. node_data samples b 1) c.body.ensures.same in
    (c.in_ok-letters.letters, c.in_ok-letters.ensures.letters, c.in_ok-value.ensures ∙ ap₂ (reply_data p) c.in_ok-samples.ensures tree)

pub returns-clause-no_float : goal.returns-clause-no_float
returns-clause-no_float c =
    let p = c.args.pattern.now in
    let samples = c.in_ok-letters.letters.samples in
    let tree : view c.in_ok-root.root.value ≡ node_data samples (body_of p) 1 =
    c.in_ok-root.ensures.value ∙ ap (λ b. node_data samples b 1) c.body.ensures.same in
    let whole : view c.in_ok-value.value ≡ tree_data samples p = c.in_ok-value.ensures ∙ ap₂ (reply_data p) c.in_ok-samples.ensures tree in
    ap has_float whole ∙ reply-plain samples p
