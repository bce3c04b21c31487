-- One log, read as the only file of a data directory.
use Rattle.std.specs.Prelude.{◌≡◌, ℕ, ℤ, List, slice_get, Option, Some, None, Result, Ok, Err, if◌then◌else◌}
use Rattle.std.specs.Str.{bytes_eq}
use Rattle.std.specs.String.{string_bytes}
use Rattle.zk_commands.specs.declared.log_folder.LogFolder.{LogFolder}
use Rattle.zk_directory.specs.LogFiles.{IsLogFile}
use Rattle.zk_directory.specs.declared.file.FileEntry.{FileEntry}
use Rattle.zk_directory.specs.declared.file.LogFile.{LogFile}
use Rattle.zk_directory.specs.declared.file.LogFileFault.{LogFileFault}
use Rattle.zk_directory.specs.declared.file.LogFileFault.TheVariants as faults
use Rattle.zk_directory_state.specs.Names.{log_name}
use Rattle.zk_log.specs.declared.loaded.Ending.{Ending}

abbrev pub zxid_by : Option FileEntry → Option ℤ
zxid_by None = None
zxid_by (Some entry) = Some entry.newer.txn.zxid

-- the zxid of the first entry, unless a record is not one of a 3.4 to 3.8 server
abbrev pub first_until : Result Ending LogFileFault → Option FileEntry → Option ℤ
first_until (Err (faults.Record at)) first = None
first_until outcome first = zxid_by first

abbrev pub first_by : LogFile → Option ℤ
first_by file = first_until file.outcome (slice_get file.entries.items 0)

abbrev pub FindsFirst : List ℕ → Option ℤ → Type 0
FindsFirst bytes first = (file : LogFile) × IsLogFile bytes file × (first ≡ first_by file)

-- the directory that has only a log of these bytes, by the name that a server gives it
abbrev pub IsLogFolder : List ℕ → Option LogFolder → Type 0
IsLogFolder bytes None = FindsFirst bytes None
IsLogFolder bytes (Some folder) = (zxid : ℤ) × FindsFirst bytes (Some zxid) × (string_bytes folder.name ≡ log_name zxid) × (folder.bytes.items ≡ bytes)

-- the bytes of a file of this name; those of others are not known
abbrev pub bytes_by : List ℕ → List ℕ → List ℕ → Option (List ℕ)
bytes_by held bytes name = if bytes_eq name held then Some bytes else None
