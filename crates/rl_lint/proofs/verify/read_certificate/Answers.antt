use Rattle.rl_cert.specs.Form.{IsForm}
use Rattle.rl_walk.specs.Visits.{moment_of}
use Rattle.rl_lint.specs.Files.{first_bytes}
use Rattle.rl_lint.proofs.FileLemmas.{file-given, file-unreadable}
use Rattle.rl_lint.proofs.verify.read_certificate.Goals as goal

pub returns-in-Some-clause-read : goal.returns-in-Some-clause-read
returns-in-Some-clause-read g c =
    file-given IsForm first_bytes c.args.path.now (moment_of g.T.Tree.told g.T.Tree.fault_count c.args.tree.now) (moment_of g.T.Tree.told g.T.Tree.fault_count c.read_file.new.tree)
    c.certificate_in.result (λ bytes. bytes.items) _ c.in-Some.bytes c.in-Some.is c.in_ok-bytes.ensures.read c.certificate_in.ensures

pub returns-in-None-clause-read : goal.returns-in-None-clause-read
returns-in-None-clause-read g c =
    file-unreadable IsForm first_bytes c.args.path.now (moment_of g.T.Tree.told g.T.Tree.fault_count c.args.tree.now) (moment_of g.T.Tree.told g.T.Tree.fault_count c.read_file.new.tree)
    (λ bytes. bytes.items) _ c.in-None.is c.in_ok-bytes.ensures.read
