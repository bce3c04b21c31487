-- The bytes of a directory's files, as the folder gives them.
use Rattle.std.specs.Prelude.{◌≡◌, ◌⊎◌, ℕ, ℤ, List, [], ◌∷◌, drop, Option, None, Vec}
use Rattle.std.specs.Borrow.{Bor}
use Rattle.std.specs.Global.{Global}
use Rattle.zk_directory.specs.Orders.{first_log}
use Rattle.zk_directory.specs.declared.names.FileName.{FileName}
use Rattle.zk_directory.specs.declared.names.FileName.TheVariants.{Snapshot, Log}
use Rattle.zk_directory_state.specs.Folders.{IsGiven}
use Rattle.zk_directory_state.specs.Names.{log_name, snapshot_name}
use Rattle.zk_directory_state.specs.declared.fault.HistoryFault.{HistoryFault}
use Rattle.zk_directory_state.specs.declared.fault.HistoryFault.TheVariants as faults

-- the bytes of the logs of these zxids
abbrev pub AreGiven : (List ℕ → Option (List ℕ)) → List ℤ → List (List ℕ) → Type 0
AreGiven bytes_in [] [] = Unit {0}
AreGiven bytes_in [] (bytes ∷ all) = ⊥
AreGiven bytes_in (zxid ∷ zxids) [] = ⊥
AreGiven bytes_in (zxid ∷ zxids) (bytes ∷ all) = IsGiven (bytes_in (log_name zxid)) bytes × AreGiven bytes_in zxids all

abbrev pub items_of : Vec ℕ Global → List ℕ
items_of bytes = bytes.items

abbrev pub bytes_of : Bor (List ℕ) → List ℕ
bytes_of bytes = bytes.now

-- the logs from the one on in which the entries after a zxid begin
abbrev pub logs_from : ℤ → List ℤ → List ℤ
logs_from zxid logged = drop (first_log zxid logged) logged

-- the folder, or a file in it, could not be read, or allocation failed
abbrev pub IsUnread : HistoryFault → Type 0
IsUnread (faults.Unreadable file) = Unit {0}
IsUnread faults.Read = Unit {0}
IsUnread faults.NoMemory = Unit {0}
IsUnread fault = ⊥

-- ---- what a folder does not give, unless allocation failed

-- the names of its files
abbrev pub AreUnlisted : Option (List (List ℕ)) → HistoryFault → Type 0
AreUnlisted names faults.Read = names ≡ None
AreUnlisted names faults.NoMemory = Unit {0}
AreUnlisted names fault = ⊥

-- those of the folder of the snapshots, or of the logs
abbrev pub AreUnlistedIn : Option (List (List ℕ)) → Option (List (List ℕ)) → HistoryFault → Type 0
AreUnlistedIn snapshots logs faults.Read = (snapshots ≡ None) ⊎ (logs ≡ None)
AreUnlistedIn snapshots logs faults.NoMemory = Unit {0}
AreUnlistedIn snapshots logs fault = ⊥

-- the bytes of this file
abbrev pub IsUnreadFile : Option (List ℕ) → FileName → HistoryFault → Type 0
IsUnreadFile bytes file (faults.Unreadable unread) = (unread ≡ file) × (bytes ≡ None)
IsUnreadFile bytes file faults.NoMemory = Unit {0}
IsUnreadFile bytes file fault = ⊥

-- those of a log
abbrev pub IsUnreadLog : (List ℕ → Option (List ℕ)) → HistoryFault → Type 0
IsUnreadLog bytes_in (faults.Unreadable (Log zxid)) = bytes_in (log_name zxid) ≡ None
IsUnreadLog bytes_in faults.NoMemory = Unit {0}
IsUnreadLog bytes_in fault = ⊥

-- those of a snapshot
abbrev pub IsUnreadSnapshot : (List ℕ → Option (List ℕ)) → HistoryFault → Type 0
IsUnreadSnapshot bytes_in (faults.Unreadable (Snapshot zxid)) = bytes_in (snapshot_name zxid) ≡ None
IsUnreadSnapshot bytes_in faults.NoMemory = Unit {0}
IsUnreadSnapshot bytes_in fault = ⊥

-- those of either
abbrev pub AreUnreadFiles : (List ℕ → Option (List ℕ)) → (List ℕ → Option (List ℕ)) → HistoryFault → Type 0
AreUnreadFiles snapshot_bytes log_bytes (faults.Unreadable (Snapshot zxid)) = snapshot_bytes (snapshot_name zxid) ≡ None
AreUnreadFiles snapshot_bytes log_bytes (faults.Unreadable (Log zxid)) = log_bytes (log_name zxid) ≡ None
AreUnreadFiles snapshot_bytes log_bytes faults.NoMemory = Unit {0}
AreUnreadFiles snapshot_bytes log_bytes fault = ⊥

-- the names or the bytes of logs
abbrev pub AreUnreadLogs : Option (List (List ℕ)) → (List ℕ → Option (List ℕ)) → HistoryFault → Type 0
AreUnreadLogs logs log_bytes faults.Read = logs ≡ None
AreUnreadLogs logs log_bytes fault = IsUnreadLog log_bytes fault

-- the names or the bytes of snapshots or of logs
abbrev pub IsUnreadIn : Option (List (List ℕ)) → (List ℕ → Option (List ℕ)) → Option (List (List ℕ)) → (List ℕ → Option (List ℕ)) → HistoryFault → Type 0
IsUnreadIn snapshots snapshot_bytes logs log_bytes faults.Read = (snapshots ≡ None) ⊎ (logs ≡ None)
IsUnreadIn snapshots snapshot_bytes logs log_bytes fault = AreUnreadFiles snapshot_bytes log_bytes fault
