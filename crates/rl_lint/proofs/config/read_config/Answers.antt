use Rattle.std.proofs.Common.{◌<◌, length, arith}
use Rattle.rl_walk.specs.Visits.{moment_of}
use Rattle.rl_lint.specs.Files.{whole_bytes}
use Rattle.rl_lint.specs.Options.{GivesSettings, default_settings}
use Rattle.rl_lint.specs.declared.files.FileRead.TheVariants.{Unreadable}
use Rattle.rl_lint.specs.declared.limits.TheConstants.{WHOLE_FILE}
use Rattle.rl_lint.proofs.FileLemmas.{named-result, named-some, whole-given, whole-unreadable}
use Rattle.rl_lint.proofs.config.read_config.Goals as goal

pub returns-in-Some-2-clause-read : goal.returns-in-Some-2-clause-read
returns-in-Some-2-clause-read g c =
    let old = moment_of g.T.Tree.told g.T.Tree.fault_count c.args.tree.now in
    let new = moment_of g.T.Tree.told g.T.Tree.fault_count c.read_file.new.tree in
    let short : length c.in-Some-2.bytes.items < WHOLE_FILE = omega (arith, c.in-Some-2.bytes.ok.0, c.in-Some-2.bytes.ok.1, c.in-Some-2.bytes.small) in
    named-result GivesSettings whole_bytes default_settings c.args.path old new c.settings_in.result c.in-Some.path c.in-Some.is
    (whole-given GivesSettings c.in-Some.path.now old new c.settings_in.result (λ bytes. bytes.items) _ c.in-Some-2.bytes c.in-Some-2.is short
    c.in_ok-bytes.ensures.read c.settings_in.ensures.given)

pub returns-in-None-clause-read : goal.returns-in-None-clause-read
returns-in-None-clause-read g c =
    let old = moment_of g.T.Tree.told g.T.Tree.fault_count c.args.tree.now in
    let new = moment_of g.T.Tree.told g.T.Tree.fault_count c.read_file.new.tree in
    named-some GivesSettings whole_bytes default_settings c.args.path old new Unreadable c.in-Some.path c.in-Some.is
    (whole-unreadable GivesSettings c.in-Some.path.now old new (λ bytes. bytes.items) _ c.in-None.is c.in_ok-bytes.ensures.read)
