use Rattle.std.proofs.Common.{◌<◌, ◌∙◌, ℕ, All, sym, ap, subst}
use Rattle.std.proofs.lemmas.List.{take_all}
use Rattle.std.proofs.lemmas.List.Elements.{All-same, All-push}
use Rattle.rl_prio.specs.Automaton.{letters_count}
use Rattle.rl_pairs.specs.Families.{letters_in}
use Rattle.rl_cert.specs.Holds.{words_of}
use Rattle.rl_cert.proofs.TextLaws.{all-at, map-more}
use Rattle.rl_cert.proofs.lettering.all_letters.Goals as goal

pub letters_of-requires : goal.letters_of-requires
letters_of-requires c =
    subst (All (λ (x : ℕ). x < c.args.a.now.table.codes)) (sym c.as_slice.ensures)
    (all-at (All (λ (x : ℕ). x < c.args.a.now.table.codes)) c.args.texts.now c.loop-text.text-index c.text-item.result c.loop-text-test.true c.text-item.is c.requires)

pub loop-text-preserved : goal.loop-text-preserved
loop-text-preserved c = record {
  same = map-more (letters_in c.args.a.now) c.args.texts.now c.loop-text.text-index c.text-item.result c.in-Ok.word _ _ c.loop-text-test.true c.text-item.is
      c.loop-text.invariant.same (c.in-Ok.ensures.same ∙ ap (letters_in c.args.a.now) c.as_slice.ensures) c.in-Ok-push.ensures.pushed;
  inside = All-same (All (λ (x : ℕ). x < letters_count c.args.a.now)) _ _ c.in-Ok-push.ensures.pushed
      (All-push (All (λ (x : ℕ). x < letters_count c.args.a.now)) _ c.in-Ok.word c.loop-text.invariant.inside c.in-Ok.ensures.inside);
}

pub returns-clause-same : goal.returns-clause-same
returns-clause-same c = c.loop-text.invariant.same ∙ ap (words_of c.args.a.now) (take_all c.loop-text.text-index c.args.texts.now c.loop-text-test.false)

pub returns-clause-inside : goal.returns-clause-inside
returns-clause-inside c = c.loop-text.invariant.inside
