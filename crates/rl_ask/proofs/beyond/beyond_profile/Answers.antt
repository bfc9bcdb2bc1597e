use Rattle.std.proofs.Common.{◌≡◌, ◌∙◌, true, false, ap, subst, sym}
use Rattle.rl_syntax.specs.declared.pattern.Pattern.{Pattern}
use Rattle.rl_ask.specs.Beyond.{IsBeyond, IsRefusedBy, beyond, holds_look, refused}
use Rattle.rl_ask.specs.Patterns.{IsReadAs}
use Rattle.rl_ask.specs.internal.Reads.{IsPatternRead}
use Rattle.rl_ask.proofs.beyond.beyond_profile.Goals as goal

pub returns-in-Refused : goal.returns-in-Refused
returns-in-Refused c =
    subst (IsBeyond c.args.grammar c.args.terms c.args.word.now) (sym c.nothing_beyond.ensures)
    (refused (c.in-Refused.field-0, subst (IsPatternRead c.args.grammar c.args.terms c.args.word.now) c.in-Refused.is c.in_ok-read_pattern.ensures))

pub returns-in_ok-inner_anchor-in-Read : goal.returns-in_ok-inner_anchor-in-Read
returns-in_ok-inner_anchor-in-Read c =
    let told = c.in_ok-inner_anchor-in-Read.inner_anchor in
    beyond c.requires (subst (IsPatternRead c.args.grammar c.args.terms c.args.word.now) c.in-Read.is c.in_ok-read_pattern.ensures) (record {
      lookaround = c.holds_look-lookaround.ensures ∙ ap holds_look c.body.ensures.same;
      anchor =
          subst (λ g. told ≡ true → IsRefusedBy g c.args.terms c.args.word.now) c.grammar_of_finds.ensures c.in_ok-inner_anchor-in-Read.ensures.yes;
      no_anchor =
          subst (λ g. told ≡ false → (q : Pattern) × IsReadAs g c.args.terms c.args.word.now q) c.grammar_of_finds.ensures
          c.in_ok-inner_anchor-in-Read.ensures.no;
    })
