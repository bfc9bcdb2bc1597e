use Rattle.std.proofs.Common.{◌≡◌, codes, refl}
use Rattle.rl_syntax.specs.Pattern.{pattern_ending, pattern_tree}
use Rattle.rl_cert.specs.Form.{IsForm}
use Rattle.rl_walk.specs.Visits.{moment_of}
use Rattle.rl_lint.specs.Files.{first_bytes}
use Rattle.rl_lint.specs.Patterns.{text_question}
use Rattle.rl_lint.specs.VerifyEnding.{CertificateEnds}
use Rattle.rl_lint.proofs.FileLemmas.{reads-refused, reads-taken, reads-unreadable}
use Rattle.rl_lint.proofs.PatternLemmas.{asked-nothing}
use Rattle.rl_lint.proofs.verify.file_plan.Goals as goal

pub returns-in-Unreadable-clause-verifies : goal.returns-in-Unreadable-clause-verifies
returns-in-Unreadable-clause-verifies g c =
    let q = text_question c.args.max_pairs (pattern_tree c.args.pattern.now c.args.mode) (pattern_ending c.args.pattern.now c.args.mode) in
    reads-unreadable (codes "certificate") first_bytes IsForm (λ x mid last end. (last ≡ mid) × CertificateEnds q x end) c.args.file.now
    (moment_of g.T.Tree.told g.T.Tree.fault_count c.args.tree.now) (moment_of g.T.Tree.told g.T.Tree.fault_count c.read_certificate.new.tree)
    c.in_ok-read_certificate.field-0 c.in_ok-read_certificate.ensures.read c.in-Unreadable.is

pub returns-in-Refused-clause-verifies : goal.returns-in-Refused-clause-verifies
returns-in-Refused-clause-verifies g c =
    let q = text_question c.args.max_pairs (pattern_tree c.args.pattern.now c.args.mode) (pattern_ending c.args.pattern.now c.args.mode) in
    reads-refused (codes "certificate") first_bytes IsForm (λ x mid last end. (last ≡ mid) × CertificateEnds q x end) c.args.file.now
    (moment_of g.T.Tree.told g.T.Tree.fault_count c.args.tree.now) (moment_of g.T.Tree.told g.T.Tree.fault_count c.read_certificate.new.tree)
    c.in_ok-read_certificate.field-0 c.in_ok-read_certificate.ensures.read c.in-Refused.is

pub returns-in-Taken-clause-verifies : goal.returns-in-Taken-clause-verifies
returns-in-Taken-clause-verifies g c =
    let q = text_question c.args.max_pairs (pattern_tree c.args.pattern.now c.args.mode) (pattern_ending c.args.pattern.now c.args.mode) in
    let mid = moment_of g.T.Tree.told g.T.Tree.fault_count c.read_certificate.new.tree in
    reads-taken (codes "certificate") first_bytes IsForm (λ x mid last end. (last ≡ mid) × CertificateEnds q x end) c.args.file.now
    (moment_of g.T.Tree.told g.T.Tree.fault_count c.args.tree.now) c.certificate_plan-plan.result mid mid c.in_ok-read_certificate.field-0 c.in-Taken.certificate
    c.in_ok-read_certificate.ensures.read c.in-Taken.is
    (asked-nothing (CertificateEnds q c.in-Taken.certificate) mid mid c.certificate_plan-plan.result refl c.certificate_plan-plan.ensures)
