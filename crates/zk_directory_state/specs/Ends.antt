-- Where a history ends: the time of its last entry, and the entry at which reading stopped.
use Rattle.std.specs.Prelude.{ℕ, ◌-◌, ℤ, Bool, true, false, int_lt, nat_lt, List, [], ◌∷◌, length, take, drop, find, option_map, slice_get, Option, Some, None, if◌then◌else◌}
use Rattle.std.specs.Int.{w64, cast_signed, from_be_bytes}
use Rattle.zk_directory.specs.Chains.{Told}
use Rattle.zk_directory.specs.declared.file.FileEntry.{FileEntry}
use Rattle.zk_directory.specs.declared.file.LogFile.{LogFile}

-- ---- the last entry

-- the time in the bytes of a record, after its session, cxid and zxid: `zookeeper.jute`, `TxnHeader`
abbrev pub time_in : List ℕ → Option ℤ
time_in bytes = if nat_lt (length bytes) 28 then None else Some (cast_signed w64 (from_be_bytes w64 (take 8 (drop 20 bytes))))

abbrev pub time_of : Option Told → Option ℤ
time_of None = None
time_of (Some entry) = time_in entry.1

-- of the last entry that was taken
abbrev pub last_time : List Told → Option ℤ
last_time taken = time_of (slice_get taken (length taken - 1))

-- ---- the entry after it

abbrev pub is_above : Option ℤ → ℤ → Bool
is_above None zxid = true
is_above (Some position) zxid = int_lt position zxid

abbrev pub zxid_of : FileEntry → ℤ
zxid_of entry = entry.newer.txn.zxid

-- the first entry above the last one that was taken
abbrev pub above : Option ℤ → List FileEntry → Option ℤ
above position entries = option_map zxid_of (find (λ entry. is_above position entry.newer.txn.zxid) entries)

-- in the log in which reading stopped
abbrev pub next_by : Bool → Option ℤ → List FileEntry → Option ℤ
next_by true position entries = None
next_by false position entries = above position entries

-- the entries of the last file, or else these
unfoldable pub last_entries : List FileEntry → List LogFile → List FileEntry
last_entries entries [] = entries
last_entries entries (file ∷ files) = last_entries file.entries.items files
