-- Frames on the links between servers: a header of sixteen bytes, and the contents. Own layout; the
-- checksum is RFC 1950's Adler-32.
use Rattle.std.specs.Prelude.{◌≡◌, ℕ, ◌+◌, ◌<◌, ◌≤◌, ◌==◌, nat_lt, nat_le, ◌^◌, List, ◌++◌, length, take, drop, Option, Some, None, Result, Ok, Err, if◌then◌else◌}
use Rattle.std.specs.Int.{w32, w64, from_be_bytes}
use Rattle.zk_records.specs.Checksum.{adler_of}
use Rattle.zab_frames.specs.declared.fault.FrameFault.{FrameFault}
use Rattle.zab_frames.specs.declared.fault.FrameFault.TheVariants as faults
use Rattle.zab_frames.specs.Messages.{word, long_word}

-- bytes, and their checksum
abbrev pub checked : List ℕ → List ℕ
checked bytes = bytes ++ word (adler_of bytes)

-- the length of the contents, their checksum, and the checksum of these two
abbrev pub header : ℕ → ℕ → List ℕ
header count sum = checked (long_word count ++ word sum)

unfoldable pub framed : List ℕ → List ℕ
framed contents = header (length contents) (adler_of contents) ++ contents

-- ---- the first frame of a stream

abbrev pub number_in : List ℕ → ℕ → ℕ
number_in bytes at = from_be_bytes w32 (take 4 (drop at bytes))

abbrev pub stated_length : List ℕ → ℕ
stated_length bytes = from_be_bytes w64 (take 8 bytes)

-- after a header that states a checksum and a length: the contents, if they are whole
abbrev pub contents_by : ℕ → ℕ → List ℕ → Result (Option (List ℕ)) FrameFault
contents_by sum count later =
    if nat_lt (length later) count then Ok None else
    (if sum == adler_of (take count later) then Ok (Some (take count later))
    else Err faults.Checksum)

-- the contents of the first frame; `None` if more bytes are needed
unfoldable pub first_in : List ℕ → Result (Option (List ℕ)) FrameFault
first_in bytes =
    if nat_lt (length bytes) 16 then Ok None else
    (if number_in bytes 12 == adler_of (take 12 bytes) then
    (if nat_le (2 ^ 63) (stated_length bytes) then Err faults.Length else
    contents_by (number_in bytes 8) (stated_length bytes) (drop 16 bytes))
    else Err faults.Header)

-- the result of the reader by its view
abbrev pub seen : {X : Type 0} → (X → List ℕ) → Result (Option X) FrameFault
    → Result (Option (List ℕ)) FrameFault
seen view (Ok None) = Ok None
seen view (Ok (Some contents)) = Ok (Some (view contents))
seen view (Err fault) = Err fault

-- the bytes begin with a frame of these contents
pub record IsFirst (bytes contents : List ℕ) : Type 0 where
  pub whole : bytes ≡ framed contents ++ drop (16 + length contents) bytes
  pub short : length contents < 2 ^ 63
  pub long : 16 + length contents ≤ length bytes
