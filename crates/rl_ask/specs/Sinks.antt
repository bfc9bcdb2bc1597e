-- Sinks: what an output gains in a run. A sink is an output that counts the faults of its writes.
use Rattle.std.specs.Prelude.{◌⊎◌, ℕ, Option}
use Rattle.std.specs.Io.KnownBytes.{Appends}
use Rattle.rl_source.specs.Faults.{Rose}
use Rattle.rl_source.specs.Written.{GainsSome}
use Rattle.rl_asked.specs.Words.{Text}

-- A sink before and after a run: its bytes, or `None` if it doesn't tell them, and its count of faults.
pub record SinkChange : Type 0 where
  pub old : Option Text
  pub new : Option Text
  pub faults_old : ℕ
  pub faults_new : ℕ

-- The sink before (`old`) and after (`new`) a run, by the functions that give its bytes and its count of faults.
abbrev pub sink_change : {S : Type 0} → (S → Option Text) → (S → ℕ) → S → S → SinkChange
sink_change bytes faults old new = record {
  old = bytes old;
  new = bytes new;
  faults_old = faults old;
  faults_new = faults new;
}

-- The sink gained a prefix of the message, and the whole of it unless a write failed.
pub record GainsMessage (message : Text) (sink : SinkChange) : Type 0 where
  pub some : GainsSome sink.old sink.new message
  pub whole : Rose sink.faults_old sink.faults_new ⊎ Appends sink.old sink.new message
