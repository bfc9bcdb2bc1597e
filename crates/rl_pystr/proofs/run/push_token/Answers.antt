-- A literal token's text is a literal, and its body is UTF-8.
use Rattle.std.proofs.Common.{sym, subst, ◌∙◌}
use Rattle.std.specs.Prelude.{IsUtf8}
use Rattle.rl_pylex.specs.Literals.{IsLiteral}
use Rattle.rl_pystr.specs.Runs.{body_of}
use Rattle.rl_pystr.proofs.Bounds.{literal_token, body_utf8}
use Rattle.rl_pystr.proofs.run.push_token.Goals as goal

pub push_literal-requires-clause-literal : goal.push_literal-requires-clause-literal
push_literal-requires-clause-literal c =
    subst IsLiteral (sym c.text_of.ensures) (literal_token c.args.source.now c.args.token c.requires.read (sym c.is_literal.ensures ∙ c.if-not-is_literal.false))

pub push_literal-requires-clause-utf8 : goal.push_literal-requires-clause-utf8
push_literal-requires-clause-utf8 c =
    subst (λ text. IsUtf8 (body_of text)) (sym c.text_of.ensures) (body_utf8 c.args.source.now c.args.token c.requires.utf8 c.requires.read (literal_token c.args.source.now c.args.token c.requires.read (sym c.is_literal.ensures ∙ c.if-not-is_literal.false)))
