use Rattle.std.proofs.Common.{None}
use Rattle.rl_walk.specs.Visits.{moment_of}
use Rattle.rl_lint.specs.Files.{first_bytes}
use Rattle.rl_lint.specs.declared.files.FileRead.TheVariants.{Unreadable}
use Rattle.rl_lint.specs.internal.Reads.{GivesKeys}
use Rattle.rl_lint.proofs.FileLemmas.{file-unreadable, named-some}
use Rattle.rl_lint.proofs.baseline.read_baseline.Goals as goal

pub returns-in-None-clause-read : goal.returns-in-None-clause-read
returns-in-None-clause-read g c =
    let old = moment_of g.T.Tree.told g.T.Tree.fault_count c.args.tree.now in
    let new = moment_of g.T.Tree.told g.T.Tree.fault_count c.read_file.new.tree in
    named-some GivesKeys first_bytes None c.args.path old new Unreadable c.in-Some.path c.in-Some.is
    (file-unreadable GivesKeys first_bytes c.in-Some.path.now old new (λ bytes. bytes.items) _ c.in-None.is c.in_ok-bytes.ensures.read)
