-- The entry of the alias's name is written.
use Rattle.std.proofs.Common.{◌∙◌, ap, ap₂, cond, ℕ, List}
use Rattle.std.specs.Prelude.{bytes_eq}
use Rattle.rl_sites.specs.internal.Meanings.{joined, meaning_in, own_meaning}
use Rattle.rl_sites.proofs.Tabled.{added}
use Rattle.rl_sites.proofs.names.add_alias.Goals as goal

pub returns : goal.returns
returns c = λ name.
    let old = c.args.meanings.now.entries in
    added old c.insert.new.self.entries c.word_of-name.result.now name c.joined-meaning.result (own_meaning c.args.source.now c.args.alias.member)
    (c.in_ok-insert.ensures.updates.0 (record { ref_ptr = (0, 0); now = name }))
    (c.joined-meaning.ensures ∙ ap₂ joined c.meaning_in.ensures c.own_meaning.ensures)
    ∙ ap (λ (key : List ℕ). cond (bytes_eq key name) (joined (meaning_in old name) (own_meaning c.args.source.now c.args.alias.member)) (meaning_in old name)) c.word_of-name.ensures
