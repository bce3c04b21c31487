-- What a folder does not give, as contracts say it.
use Rattle.std.proofs.Common.{◌≡◌, ◌⊎◌, inl, inr, ℕ, ℤ, List, Option, Result, Ok, Err, sym, ap, ◌∙◌, subst}
use Rattle.zk_directory.specs.declared.names.FileName.{FileName}
use Rattle.zk_directory.specs.declared.names.FileName.TheVariants.{Snapshot, Log}
use Rattle.zk_directory_state.specs.Attempts.{Tries, TriesBytes, TriesBytesOf}
use Rattle.zk_directory_state.specs.Folders.{IsGiven}
use Rattle.zk_directory_state.specs.Logs.{AreUnlisted, AreUnlistedIn, AreUnreadFiles, AreUnreadLogs, IsUnreadFile, IsUnreadIn, IsUnreadLog, IsUnreadSnapshot}
use Rattle.zk_directory_state.specs.Names.{log_name, snapshot_name}
use Rattle.zk_directory_state.specs.declared.fault.HistoryFault.{HistoryFault}
use Rattle.zk_directory_state.specs.declared.attempt.Attempt.{Attempt}
use Rattle.zk_directory_state.specs.declared.fault.HistoryFault.TheVariants as faults
use Rattle.zk_snapshot.specs.Reading.{all_of}

-- ---- files

pub unread_log : (bytes_in : List ℕ → Option (List ℕ)) (zxid : ℤ) (name : List ℕ) (fault : HistoryFault) → name ≡ log_name zxid → IsUnreadFile (bytes_in name) (Log zxid) fault → IsUnreadLog bytes_in fault
unread_log bytes_in zxid name (faults.Unreadable file) is u = subst (λ (f : FileName). IsUnreadLog bytes_in (faults.Unreadable f)) (sym u.0) (ap bytes_in (sym is) ∙ u.1)
unread_log bytes_in zxid name faults.NoMemory is u = tt
unread_log bytes_in zxid name fault is u = absurd u

pub unread_snapshot : (bytes_in : List ℕ → Option (List ℕ)) (zxid : ℤ) (name : List ℕ) (fault : HistoryFault) → name ≡ snapshot_name zxid → IsUnreadFile (bytes_in name) (Snapshot zxid) fault → IsUnreadSnapshot bytes_in fault
unread_snapshot bytes_in zxid name (faults.Unreadable file) is u = subst (λ (f : FileName). IsUnreadSnapshot bytes_in (faults.Unreadable f)) (sym u.0) (ap bytes_in (sym is) ∙ u.1)
unread_snapshot bytes_in zxid name faults.NoMemory is u = tt
unread_snapshot bytes_in zxid name fault is u = absurd u

-- ---- one folder

pub log_names : (logs : Option (List (List ℕ))) (log_bytes : List ℕ → Option (List ℕ)) (fault : HistoryFault) → AreUnlisted logs fault → AreUnreadLogs logs log_bytes fault
log_names logs log_bytes faults.Read u = u
log_names logs log_bytes faults.NoMemory u = tt
log_names logs log_bytes fault u = absurd u

pub log_file : (logs : Option (List (List ℕ))) (log_bytes : List ℕ → Option (List ℕ)) (fault : HistoryFault) → IsUnreadLog log_bytes fault → AreUnreadLogs logs log_bytes fault
log_file logs log_bytes faults.Read u = absurd u
log_file logs log_bytes fault u = u

-- ---- both folders

pub snapshot_names : (snapshots logs : Option (List (List ℕ))) (fault : HistoryFault) → AreUnlisted snapshots fault → AreUnlistedIn snapshots logs fault
snapshot_names snapshots logs faults.Read u = inl u
snapshot_names snapshots logs faults.NoMemory u = tt
snapshot_names snapshots logs fault u = absurd u

pub names_of_logs : (snapshots logs : Option (List (List ℕ))) (fault : HistoryFault) → AreUnlisted logs fault → AreUnlistedIn snapshots logs fault
names_of_logs snapshots logs faults.Read u = inr u
names_of_logs snapshots logs faults.NoMemory u = tt
names_of_logs snapshots logs fault u = absurd u

module _ (snapshot_bytes log_bytes : List ℕ → Option (List ℕ)) where
  pub a_snapshot : (fault : HistoryFault) → IsUnreadSnapshot snapshot_bytes fault → AreUnreadFiles snapshot_bytes log_bytes fault
  a_snapshot (faults.Unreadable (Snapshot zxid)) u = u
  a_snapshot (faults.Unreadable (Log zxid)) u = absurd u
  a_snapshot faults.NoMemory u = tt
  a_snapshot fault u = absurd u

  pub a_log : (fault : HistoryFault) → IsUnreadLog log_bytes fault → AreUnreadFiles snapshot_bytes log_bytes fault
  a_log (faults.Unreadable (Snapshot zxid)) u = absurd u
  a_log (faults.Unreadable (Log zxid)) u = u
  a_log faults.NoMemory u = tt
  a_log fault u = absurd u

  module _ (snapshots logs : Option (List (List ℕ))) where
    pub a_file : (fault : HistoryFault) → AreUnreadFiles snapshot_bytes log_bytes fault → IsUnreadIn snapshots snapshot_bytes logs log_bytes fault
    a_file faults.Read u = absurd u
    a_file fault u = u

    pub the_snapshots : (fault : HistoryFault) → AreUnlisted snapshots fault → IsUnreadIn snapshots snapshot_bytes logs log_bytes fault
    the_snapshots faults.Read u = inl u
    the_snapshots faults.NoMemory u = tt
    the_snapshots fault u = absurd u

    pub the_logs : (fault : HistoryFault) → AreUnlisted logs fault → IsUnreadIn snapshots snapshot_bytes logs log_bytes fault
    the_logs faults.Read u = inr u
    the_logs faults.NoMemory u = tt
    the_logs fault u = absurd u

    pub the_log_files : (fault : HistoryFault) → AreUnreadLogs logs log_bytes fault → IsUnreadIn snapshots snapshot_bytes logs log_bytes fault
    the_log_files faults.Read u = inr u
    the_log_files fault u = a_log fault u

-- ---- a snapshot that is tried

pub snapshot_fails : (snapshot_bytes log_bytes : List ℕ → Option (List ℕ)) (zxid : ℤ) (upto : Option ℤ) (logged : List ℤ) (fault : HistoryFault) → IsUnreadSnapshot snapshot_bytes fault → Tries snapshot_bytes log_bytes zxid upto logged (Err fault)
snapshot_fails snapshot_bytes log_bytes zxid upto logged fault unread = inl (a_snapshot snapshot_bytes log_bytes fault unread)

bytes_fail : (snapshot_bytes log_bytes : List ℕ → Option (List ℕ)) (bytes : List ℕ) (zxid : ℤ) (upto : Option ℤ) (logged : List ℤ) (fault : HistoryFault) → IsGiven (snapshot_bytes (snapshot_name zxid)) bytes
    → (tries : IsUnreadLog log_bytes fault ⊎ TriesBytes log_bytes bytes (all_of bytes) zxid upto logged (Err fault)) → Tries snapshot_bytes log_bytes zxid upto logged (Err fault)
bytes_fail snapshot_bytes log_bytes bytes zxid upto logged fault given (inl unread) = inl (a_log snapshot_bytes log_bytes fault unread)
bytes_fail snapshot_bytes log_bytes bytes zxid upto logged fault given (inr tries) = inr (record { bytes = bytes; given = given; tries = tries })

pub tries_bytes : (snapshot_bytes log_bytes : List ℕ → Option (List ℕ)) (bytes bytes' : List ℕ) (zxid : ℤ) (upto : Option ℤ) (logged : List ℤ) (answer : Result Attempt HistoryFault) → IsGiven (snapshot_bytes (snapshot_name zxid)) bytes → bytes' ≡ bytes → TriesBytesOf log_bytes bytes' zxid upto logged answer
    → Tries snapshot_bytes log_bytes zxid upto logged answer
tries_bytes snapshot_bytes log_bytes bytes bytes' zxid upto logged (Ok attempt) given same tries = record { bytes = bytes'; given = subst (IsGiven (snapshot_bytes (snapshot_name zxid))) (sym same) given; tries = tries }
tries_bytes snapshot_bytes log_bytes bytes bytes' zxid upto logged (Err fault) given same tries = bytes_fail snapshot_bytes log_bytes bytes' zxid upto logged fault (subst (IsGiven (snapshot_bytes (snapshot_name zxid))) (sym same) given) tries
