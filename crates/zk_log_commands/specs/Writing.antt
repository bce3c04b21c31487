-- The effect on a Sink of writing a text line by line. The bytes of its writer may be known.
use Rattle.std.specs.Prelude.{◌≡◌, ℕ, ◌+◌, List, ◌++◌, Option, Result, Ok, Err}
use Rattle.std.specs.Io.KnownBytes.{Keeps, Appends}
use Rattle.zk_records.specs.Sinks.{writer_of, write_failures_of, AppendsSome}
use Rattle.zk_records.specs.declared.sink.Sink.{Sink}
use Rattle.zk_log_commands.specs.declared.lines.LineFault.{LineFault}
use Rattle.zk_log_commands.specs.declared.lines.LineFault.TheVariants as faults

-- no byte was written, and nothing failed
pub record LeavesSink {W : Type 0} (contents : W → Option (List ℕ)) (old new : Sink W) : Type 0 where
  pub bytes : Keeps (contents (writer_of old)) (contents (writer_of new))
  pub failures : write_failures_of new ≡ write_failures_of old

-- the whole text was written, and nothing failed
pub record Wrote {W : Type 0} (contents : W → Option (List ℕ)) (old new : Sink W) (text : List ℕ) : Type 0 where
  pub bytes : Appends (contents (writer_of old)) (contents (writer_of new)) text
  pub failures : write_failures_of new ≡ write_failures_of old

-- the writer failed, once: a proper prefix of the text was written
pub record BrokeOff {W : Type 0} (contents : W → Option (List ℕ)) (old new : Sink W) (text : List ℕ) : Type 0 where
  pub bytes : AppendsSome (contents (writer_of old)) (contents (writer_of new)) text
  pub failures : write_failures_of new ≡ write_failures_of old + 1

-- a prefix of the text was written, and nothing failed
pub record WrotePart {W : Type 0} (contents : W → Option (List ℕ)) (old new : Sink W) (text : List ℕ) : Type 0 where
  pub front : List ℕ
  pub rest : List ℕ
  pub whole : text ≡ front ++ rest
  pub wrote : Wrote contents old new front

-- how writing a text ended
abbrev pub Writes : {W : Type 0} → (W → Option (List ℕ)) → Sink W → List ℕ → Result (Unit {0}) LineFault → Sink W → Type 0
Writes contents old text (Ok done) new = Wrote contents old new text
Writes contents old text (Err faults.Write) new = BrokeOff contents old new text
Writes contents old text (Err faults.NoMemory) new = WrotePart contents old new text
