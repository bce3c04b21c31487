-- A directory whose files are not known.
use Rattle.std.proofs.Common.{ℕ, List, Option, Err, inl, inr, refl}
use Rattle.zk_directory_state.proofs.Unreading.{names_of_logs, snapshot_names}
use Rattle.zk_directory_state.specs.Histories.{HoldsNone}
use Rattle.zk_directory_state.specs.Logs.{AreUnlisted}
use Rattle.zk_directory_state.specs.declared.fault.HistoryFault.{HistoryFault}
use Rattle.zk_directory_state.specs.declared.fault.HistoryFault.TheVariants as faults
use Rattle.zk_verification.specs.Verifications.{FindsMarks}

module _ (snapshots : Option (List (List ℕ))) (snapshot_bytes : List ℕ → Option (List ℕ)) (logs : Option (List (List ℕ))) (log_bytes : List ℕ → Option (List ℕ)) where
  pub snapshots_unlisted : (fault : HistoryFault) → AreUnlisted snapshots fault → FindsMarks snapshots snapshot_bytes logs log_bytes (Err fault)
  snapshots_unlisted fault unlisted = inl (snapshot_names snapshots logs fault unlisted)

  pub logs_unlisted : (fault : HistoryFault) → AreUnlisted logs fault → FindsMarks snapshots snapshot_bytes logs log_bytes (Err fault)
  logs_unlisted fault unlisted = inl (names_of_logs snapshots logs fault unlisted)

  pub none_held : HoldsNone snapshots logs → FindsMarks snapshots snapshot_bytes logs log_bytes (Err faults.Empty)
  none_held none = inr (none, refl)
