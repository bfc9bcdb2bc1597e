use Rattle.std.proofs.Common.{length, ap, ◌∙◌}
use Rattle.rl_ranges.specs.Letters.{LetterTable}
use Rattle.rl_prio.proofs.AutomatonLemmas.{moves_of_row, targets_of_row}
use Rattle.rl_prio.proofs.prio.Prio.moves.Goals as goal

pub returns-clause-moves : goal.returns-clause-moves
returns-clause-moves c =
    moves_of_row _ c.args.self.now c.count.result c.args.state c.args.letter c.row.result.now c.self.view_is (c.count.ensures ∙ ap (λ (l : LetterTable). length l.samples) c.deref.ensures) c.requires.state_in c.requires.letter_in c.row.ensures

pub returns-clause-targets : goal.returns-clause-targets
returns-clause-targets c =
    targets_of_row _ c.args.self.now c.args.state c.args.letter c.row.result.now c.self.view_is c.self.invariant (returns-clause-moves c)
