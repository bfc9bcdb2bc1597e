use Rattle.std.proofs.Common.{◌-◌, ◌∙◌, ◌≢◌, length, ap, sym, eqb-true, arith}
use Rattle.std.proofs.lemmas.Bool.{eqb-false}
use Rattle.rl_pairs.specs.PairTable.{moves_in, pair_in, lead_in, rest_in}
use Rattle.rl_growth.specs.declared.words.FamilyWords.{FamilyWords}
use Rattle.rl_growth.proofs.FamilyLaws.{cycle-pushed, split-pushed}
use Rattle.rl_growth.proofs.words.chain_words.Goals as goal
use Rattle.rl_growth.proofs.words.chain_words.Goals.{then-is_empty+in_ok-lead+in_ok-put_cycle, else-is_empty+in_ok-put_cycle-2}

pub returns : goal.returns
returns c =
    let g = c.args.g.now in
    let splits = c.args.splits.now in
    let cycle = c.args.cycle.now in
    elim c.if-is_empty.branch [
      | then-is_empty+in_ok-lead+in_ok-put_cycle w ↦
          λ a led. cycle-pushed a (moves_in g) (pair_in g) g.graph.states (lead_in g) (rest_in g) splits cycle.state w.in_ok-lead.lead cycle.word _ _ c.if-is_empty.words.heads c.if-is_empty.words.pumps
          (eqb-true (length splits) 0 (sym c.is_empty.ensures ∙ w.if-is_empty.true)) c.in_ok-words.ensures c.requires.state_in c.requires.cycle c.requires.some (w.in_ok-lead.ensures ∙ w.lead.ensures)
          (ap (λ (x : FamilyWords). x.heads) w.words-is ∙ w.in_ok-put_cycle.ensures.heads) (ap (λ (x : FamilyWords). x.pumps) w.words-is ∙ w.in_ok-put_cycle.ensures.pumps) led
      | else-is_empty+in_ok-put_cycle-2 w ↦
          let some : length splits ≢ 0 = eqb-false (length splits) 0 (sym c.is_empty.ensures ∙ w.if-is_empty.false) in
          λ a led. split-pushed a (moves_in g) (pair_in g) g.graph.states (lead_in g) (rest_in g) splits (length splits - 1) cycle.state w.index-splits-splits.result w.new.result _ _ c.if-is_empty.words.heads c.if-is_empty.words.pumps
          c.requires.route (omega arith) c.in_ok-words.ensures w.index-splits-splits.is w.new.ensures
          (ap (λ (x : FamilyWords). x.heads) w.words-is ∙ w.in_ok-put_cycle-2.ensures.heads) (ap (λ (x : FamilyWords). x.pumps) w.words-is ∙ w.in_ok-put_cycle-2.ensures.pumps) led
    ]
