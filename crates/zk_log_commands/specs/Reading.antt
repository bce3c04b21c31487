-- The contract of reading a text.
use Rattle.std.specs.Prelude.{◌≡◌, ℕ, ◌+◌, ◌⊎◌, List, Option, Some, None, Result, Ok, Err}
use Rattle.std.specs.Str.{IsUtf8}
use Rattle.zk_log.specs.Devices.{reads_of, read_failures_of, ends_of, last_read_of}
use Rattle.zk_log.specs.declared.source.Source.{Source}
use Rattle.zk_log_commands.specs.declared.text.TextFault.{TextFault}
use Rattle.zk_log_commands.specs.declared.text.TextFault.TheVariants as faults

-- all bytes of the reader, where they are known
abbrev pub ReadsAll : {T : Type 0} → (T → List ℕ) → Option (List ℕ) → Result T TextFault → Type 0
ReadsAll bytes_of None answer = Unit {0}
ReadsAll bytes_of (Some bytes) (Ok whole) = bytes ≡ bytes_of whole
ReadsAll bytes_of (Some bytes) (Err faults.Utf8) = ¬ IsUtf8 bytes
ReadsAll bytes_of (Some bytes) (Err other) = Unit {0}

-- no read failed, and only the last one met the end: it returned no byte for a buffer that is not
-- empty
pub record ReadsToEnd {R : Type 0} (old new : Source R) : Type 0 where
  pub failures : read_failures_of new ≡ read_failures_of old
  pub ends : ends_of new ≡ ends_of old + 1
  pub last : last_read_of new ≡ 0

-- no read failed, and none met the end
pub record ReadsOn {R : Type 0} (old new : Source R) : Type 0 where
  pub failures : read_failures_of new ≡ read_failures_of old
  pub ends : ends_of new ≡ ends_of old

-- a read failed, and none met the end
pub record FailsToRead {R : Type 0} (old new : Source R) : Type 0 where
  pub failures : read_failures_of new ≡ read_failures_of old + 1
  pub ends : ends_of new ≡ ends_of old

-- all turns were used before the end was met
abbrev pub UsesTurns : {R : Type 0} → Source R → ℕ → Source R → Type 0
UsesTurns old turns new = ReadsOn old new × (reads_of new ≡ reads_of old + turns)

-- a text was read to its end, unless a read failed, all turns were used or an allocation failed
-- before
abbrev pub TellsRead : {R T : Type 0} → Source R → ℕ → Result T TextFault → Source R → Type 0
TellsRead old turns (Ok text) new = ReadsToEnd old new
TellsRead old turns (Err faults.Utf8) new = ReadsToEnd old new
TellsRead old turns (Err faults.Read) new = FailsToRead old new ⊎ UsesTurns old turns new
TellsRead old turns (Err faults.NoMemory) new = ReadsOn old new
