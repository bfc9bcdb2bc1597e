use Rattle.std.proofs.Common.{◌∙◌, sym}
use Rattle.rl_trim.proofs.TrimLaws.{trims-known, trims-noted}
use Rattle.rl_trim.proofs.branch.Branch.trim.Goals as goal

pub returns-in-Some-clause-numbered : goal.returns-in-Some-clause-numbered
returns-in-Some-clause-numbered c =
    trims-known c.args.self.now.automaton.now c.args.self.now.keep.now c.args.walk.now c.args.trims.now c.args.set c.in-Some.number c.requires.made (sym c.known.ensures ∙ c.in-Some.is) c.requires.trims

pub returns-clause-trims : goal.returns-clause-trims
returns-clause-trims c =
    trims-noted c.args.self.now.automaton.now c.args.self.now.keep.now c.args.walk.now c.leave_out.new.walk c.args.trims.now c.note.new.self c.args.set c.in_ok-number.number c.requires.set_in c.in_ok-number.ensures c.in_ok-note.ensures
    c.requires.trims
