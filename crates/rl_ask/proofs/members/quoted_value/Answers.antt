use Rattle.std.proofs.Common.{◌∙◌, subst, sym}
use Rattle.std.specs.Str.{IsUtf8}
use Rattle.std.proofs.lemmas.Bool.{false≢true}
use Rattle.rl_report.proofs.Ascii.{quoted_utf8}
use Rattle.rl_ask.proofs.members.quoted_value.Goals as goal

pub unreachable-requires : goal.unreachable-requires
unreachable-requires c =
    let utf8 : IsUtf8 c.into_vec.result.items = subst IsUtf8 (sym (c.into_vec.ensures ∙ c.in_ok-literal.ensures)) (quoted_utf8 c.args.universe c.args.text.now) in
    absurd (false≢true (c.in-Err.ensures.succeeds utf8))

pub quote-requires : goal.quote-requires
quote-requires c =
    c.requires
