-- What a run adds to the sinks that it is given. A sink takes written bytes, and it may reveal them or not. Its count of
-- faults is the number of writes that failed, at most 2^64 - 1.
use Rattle.std.specs.Prelude.{ℕ, Option, ◌⊎◌}
use Rattle.std.specs.Io.KnownBytes.{Appends}
use Rattle.rl_source.specs.Faults.{Rose}
use Rattle.rl_source.specs.Written.{GainsSome}
use Rattle.rl_report.specs.Names.{Text}

-- A sink before and after the run: its bytes (`old` and `new`), or `None` if it doesn't reveal them, and its count of faults
-- (`faults_old` and `faults_new`).
pub record SinkChange : Type 0 where
  pub old : Option Text
  pub new : Option Text
  pub faults_old : ℕ
  pub faults_new : ℕ

-- The change of a sink, given the functions that return its bytes and its count of faults.
abbrev pub sink_change : {S : Type 0} → (S → Option Text) → (S → ℕ) → S → S → SinkChange
sink_change bytes faults old new = record {
  old = bytes old;
  new = bytes new;
  faults_old = faults old;
  faults_new = faults new;
}

-- The bytes of the sink gained a prefix of the message, which may be empty or the whole (`some`). If no write failed, they
-- gained the whole message (`whole`). Nothing is said of the bytes if the sink revealed none before.
pub record GainsMessage (message : Text) (sink : SinkChange) : Type 0 where
  pub some : GainsSome sink.old sink.new message
  pub whole : Rose sink.faults_old sink.faults_new ⊎ Appends sink.old sink.new message
