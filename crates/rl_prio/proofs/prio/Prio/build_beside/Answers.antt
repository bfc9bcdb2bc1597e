use Rattle.std.proofs.Common.{sym, subst, ◌∙◌}
use Rattle.std.proofs.lemmas.Result.{IfOk-weaker}
use Rattle.rl_ranges.specs.Letters.{LetterTable, IsLetters}
use Rattle.rl_ranges.specs.Text.{code_count}
use Rattle.rl_prio.proofs.prio.Prio.build_beside.Goals as goal

pub over_letters-requires-clause-finer : goal.over_letters-requires-clause-finer
over_letters-requires-clause-finer c =
    (c.requires.finer.0, subst (λ (l : LetterTable). IsLetters l c.requires.finer.0 (code_count c.args.universe)) (sym c.in_ok-letters.ensures) c.requires.finer.1, c.requires.finer.2)

pub returns-clause-ok : goal.returns-clause-ok
returns-clause-ok c =
    IfOk-weaker c.over_letters.result _ _
    (λ a h sets are finer. h sets (subst (λ (l : LetterTable). IsLetters l sets (code_count c.args.universe)) (sym c.in_ok-letters.ensures) are) finer) c.over_letters.ensures.ok

pub returns-clause-table : goal.returns-clause-table
returns-clause-table c = IfOk-weaker c.over_letters.result _ _ (λ a h. h ∙ c.in_ok-letters.ensures) c.over_letters.ensures.table
