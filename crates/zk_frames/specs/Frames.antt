-- Frames: a length of four bytes, and that many bytes.
use Rattle.std.specs.Prelude.{ℕ, ℤ, pos, negsuc, List, ◌++◌, length, Option, Some, None, Result, Ok, Err, nat_lt, if◌then◌else◌}
use Rattle.std.specs.Int.{w32}
use Rattle.zk_frames.specs.declared.fault.FrameFault.{FrameFault}
use Rattle.zk_frames.specs.declared.fault.FrameFault.TheVariants as faults
use Rattle.zk_jute.specs.declared.fault.JuteFault.{JuteFault}
use Rattle.zk_jute.specs.Reading.{number_at}
use Rattle.zk_records.specs.Records.{int}

abbrev pub framed : List ℕ → List ℕ
framed bytes = int (pos (length bytes)) ++ bytes

-- the most bytes of a frame from a client: `jute.maxbuffer`
abbrev pub most_bytes : ℕ
most_bytes = 1048575

-- after a length: the length if the frame is whole
abbrev pub length_in : ℤ → List ℕ → Result (Option ℕ) FrameFault
length_in (pos n) rest = if nat_lt most_bytes n then Err faults.Length else (if nat_lt (length rest) n then Ok None else Ok (Some n))
length_in (negsuc n) rest = Err faults.Length

abbrev pub next_by : Result (ℤ × List ℕ) JuteFault → Result (Option ℕ) FrameFault
next_by (Ok read) = length_in read.0 read.1
next_by (Err fault) = Ok None

-- the length of the first frame; `None` if more bytes are needed
abbrev pub next_frame_in : List ℕ → Result (Option ℕ) FrameFault
next_frame_in bytes = next_by (number_at w32 bytes)
