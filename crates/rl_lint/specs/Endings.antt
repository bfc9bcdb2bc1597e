-- How a run ends, and the table of statuses. `out` and `err` are the two sinks, which are the standard output and the standard
-- error of the run. The tree is the file system that the run reads. A finding is an exponential verdict, a degree above the
-- highest that the settings allow, a certificate that doesn't hold, or two patterns found not to match the same texts.
use Rattle.std.specs.Prelude.{◌≡◌, ◌⊎◌, ℕ, Bool, [], codes, if◌then◌else◌}
use Rattle.std.specs.Io.KnownBytes.{Appends, Keeps}
use Rattle.rl_source.specs.Faults.{Rose}
use Rattle.rl_source.specs.Written.{GainsLess}
use Rattle.rl_lint.specs.Sinks.{GainsMessage, SinkChange}
use Rattle.rl_report.specs.Names.{Text}

-- What a run is going to do. It depends on the words and on the answers of the tree.
pub data Ending : Type 0 where
  -- The run reports this message on `err`, because what the words ask for is refused.
  refuses : Text → Ending
  -- The run reports this message on `err`, because a call of the tree failed whose answer the run needs.
  unreadable : Text → Ending
  -- The run writes this text to `out`. The flags say whether it has a finding, and whether a call of the tree failed.
  writes : Text → Bool → Bool → Ending

-- The status of a run that wrote everything it had to write. The first flag says whether it has a finding, and the second
-- whether a call of the tree failed: 3 if a call failed, otherwise 1 if there is a finding, otherwise 0.
abbrev pub status_of : Bool → Bool → ℕ
status_of finding failed = if failed then 3 else (if finding then 1 else 0)

-- How the run acts on its ending: its `status`, and the changes of `out` and `err`. To refuse gives status 2, and an
-- unreadable file status 3; `out` then keeps its bytes, and the message is written to `err`. To write a text gives `status_of`
-- if the text was written whole, and `err` then gains nothing. Otherwise a write to `out` failed: the status is 4, `out`
-- gained only a proper prefix of the text, and the message on it is written to `err`.
abbrev pub EndsBy : Ending → SinkChange → SinkChange → ℕ → Type 0
EndsBy (refuses message) out err status = (status ≡ 2) × Keeps out.old out.new × GainsMessage message err
EndsBy (unreadable message) out err status = (status ≡ 3) × Keeps out.old out.new × GainsMessage message err
EndsBy (writes text finding failed) out err status =
    ((status ≡ status_of finding failed) × Appends out.old out.new text × GainsMessage [] err)
    ⊎ ((status ≡ 4) × Rose out.faults_old out.faults_new × GainsLess out.old out.new text
    × GainsMessage (codes "relint: write fault\n") err)
