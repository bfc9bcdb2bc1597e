use Rattle.std.proofs.Common.{length, subst, sym}
use Rattle.serde_json.specs.View.{items_view}
use Rattle.rl_ranges.specs.Text.{IsText}
use Rattle.rl_syntax.specs.Family.{family_text}
use Rattle.rl_asked.specs.Values.{texts_of}
use Rattle.rl_ask.specs.Costs.{family_named, too_long}
use Rattle.rl_ask.specs.internal.Long.{IsLong}
use Rattle.rl_ask.proofs.CostLemmas.{counted-so}
use Rattle.rl_ask.proofs.FamilyLemmas.{family-text}
use Rattle.rl_ask.proofs.cost.family_answer.Goals as goal

pub read_answer-answer-requires : goal.read_answer-answer-requires
read_answer-answer-requires c = record {
  text =
      subst (IsText c.args.terms.universe) (sym c.in-Ok.ensures.text)
      (family-text c.args.terms.universe c.args.k (texts_of (items_view c.args.heads.now)) (texts_of (items_view c.args.pumps.now)) c.requires.heads c.requires.pumps);
}

pub returns-in-Ok : goal.returns-in-Ok
returns-in-Ok c =
    let w = family_text (family_named (texts_of (items_view c.args.heads.now)) (texts_of (items_view c.args.pumps.now))) c.args.k in
    counted-so c.read_answer-answer.result c.args.terms c.args.pattern.now c.args.mode c.in-Ok.text w c.in-Ok.ensures.text c.in-Ok.ensures.within
    c.read_answer-answer.ensures

pub returns-in-Err-TooLong : goal.returns-in-Err-TooLong
returns-in-Err-TooLong c =
    let w = family_text (family_named (texts_of (items_view c.args.heads.now)) (texts_of (items_view c.args.pumps.now))) c.args.k in
    too_long (subst (λ e. IsLong e w) c.in-Err-TooLong.field-0-is c.in-Err-TooLong.ensures.long)
