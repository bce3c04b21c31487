-- The contents of a Sink, and the effect of a write of a whole text.
use Rattle.std.specs.Prelude.{◌≡◌, ℕ, ◌<◌, if◌then◌else◌, Bool, true, false, List, ◌++◌, length, ◌==◌, Ok, Err, Option, Result}
use Rattle.std.specs.Io.KnownBytes.{Appends}
use Rattle.zk_records.specs.declared.sink.Sink.{Sink}

-- the inner writer
abbrev pub writer_of : {W : Type 0} → Sink W → W
writer_of sink = sink.writer

-- the number of writes that were passed on, or the greatest `u64`
abbrev pub writes_of : {W : Type 0} → Sink W → ℕ
writes_of sink = sink.writes

-- the number of writes that failed, or wrote no byte of a text that is not empty
abbrev pub write_failures_of : {W : Type 0} → Sink W → ℕ
write_failures_of sink = sink.failures

-- the device failed: an error, or no byte written of a text that is not empty
abbrev pub write_fails : {E : Type 0} → Result ℕ E → List ℕ → Bool
write_fails (Ok taken) bytes = if length bytes == 0 then false else taken == 0
write_fails (Err e) bytes = true

-- a proper prefix of the bytes was appended to the known contents
abbrev pub AppendsSome : Option (List ℕ) → Option (List ℕ) → List ℕ → Type 0
AppendsSome old new bytes = (front : List ℕ) × ((rest : List ℕ) × (0 < length rest) × (bytes ≡ front ++ rest) × Appends old new front)
