-- Why nothing is known of the time before the logs.
use Rattle.std.proofs.Common.{◌⊎◌, ℕ, ℤ, List, Option, Err, inl, inr}
use Rattle.zk_directory_state.proofs.Unreading.{names_of_logs, snapshot_names}
use Rattle.zk_directory_state.specs.Logs.{AreUnlisted, AreUnlistedIn, IsUnreadSnapshot}
use Rattle.zk_directory_state.specs.declared.fault.HistoryFault.{HistoryFault}
use Rattle.zk_incidents.specs.HistoryReports.{HasNoHistory}
use Rattle.zk_session_commands.specs.FirstKnown.{FindsBefore, FindsKnown}

module _ (snapshots logs : Option (List (List ℕ))) (snapshot_bytes log_bytes : List ℕ → Option (List ℕ)) where
  no_history : (fault : HistoryFault) → (unread : IsUnreadSnapshot snapshot_bytes fault ⊎ AreUnlistedIn snapshots logs fault) → HasNoHistory snapshots snapshot_bytes logs log_bytes fault
  no_history fault (inl unread) = inl unread
  no_history fault (inr unlisted) = inr (inr (inl unlisted))

  pub before_fails : (fault : HistoryFault) → FindsBefore snapshots snapshot_bytes logs (Err fault) → HasNoHistory snapshots snapshot_bytes logs log_bytes fault
  before_fails fault unread = no_history fault unread

module _ (snapshots logs : Option (List (List ℕ))) (snapshot_bytes : List ℕ → Option (List ℕ)) where
  by_snapshots : (fault : HistoryFault) → (unread : IsUnreadSnapshot snapshot_bytes fault ⊎ AreUnlisted snapshots fault) → FindsBefore snapshots snapshot_bytes logs (Err fault)
  by_snapshots fault (inl unread) = inl unread
  by_snapshots fault (inr unlisted) = inr (snapshot_names snapshots logs fault unlisted)

  pub snapshots_fail : (first : ℤ) (fault : HistoryFault) → FindsKnown snapshots snapshot_bytes first (Err fault) → FindsBefore snapshots snapshot_bytes logs (Err fault)
  snapshots_fail first fault unread = by_snapshots fault unread

  pub logs_fail : (fault : HistoryFault) → AreUnlisted logs fault → FindsBefore snapshots snapshot_bytes logs (Err fault)
  logs_fail fault unlisted = inr (names_of_logs snapshots logs fault unlisted)
