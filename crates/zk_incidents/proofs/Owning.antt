-- The first of some snapshots that is whole, or why there is none.
use Rattle.std.proofs.Common.{◌≡◌, ◌⊎◌, ◌-◌, ◌≤◌, ℕ, ℤ, pos, List, [], ◌∷◌, length, drop, take, get_or, Option, None, Err, inl, inr, arith, subst}
use Rattle.std.proofs.lemmas.List.{take_all}
use Rattle.zk_directory_state.proofs.Unreading.{snapshot_names}
use Rattle.zk_directory_state.specs.Logs.{AreUnlisted, IsUnreadSnapshot}
use Rattle.zk_directory_state.specs.declared.fault.HistoryFault.{HistoryFault}
use Rattle.zk_incidents.specs.FirstOwners.{FindsOwners, Owns, OwnsFirst}
use Rattle.zk_incidents.specs.HistoryReports.{HasNoHistory}
use Rattle.zk_incidents.specs.Owners.{Owned}

-- a broken one is passed over
pub passed_over : (bytes_in : List ℕ → Option (List ℕ)) (held rest : List ℤ) (zxid : ℤ) → 1 ≤ length rest → zxid ≡ get_or rest 0 (pos 0) → Owns bytes_in zxid None → ((owned : Owned) → OwnsFirst bytes_in rest owned → OwnsFirst bytes_in held owned)
    → (owned : Owned) → OwnsFirst bytes_in (take (length rest - 1) (drop 1 rest)) owned → OwnsFirst bytes_in held owned
passed_over bytes_in held [] zxid some is none so_far owned h = absurd (omega (arith, some))
passed_over bytes_in held (first ∷ rest) zxid some is none so_far owned h =
    let all : take (length (first ∷ rest) - 1) rest ≡ rest = take_all (length (first ∷ rest) - 1) rest (omega arith) in
    so_far owned (inr (subst (λ (z : ℤ). Owns bytes_in z None) is none, subst (λ (l : List ℤ). OwnsFirst bytes_in l owned) all h))

-- ---- owners that are not found

module _ (snapshots logs : Option (List (List ℕ))) (snapshot_bytes log_bytes : List ℕ → Option (List ℕ)) where
  owners_fail_by : (fault : HistoryFault) → (unread : IsUnreadSnapshot snapshot_bytes fault ⊎ AreUnlisted snapshots fault) → HasNoHistory snapshots snapshot_bytes logs log_bytes fault
  owners_fail_by fault (inl unread) = inl unread
  owners_fail_by fault (inr unlisted) = inr (inr (inl (snapshot_names snapshots logs fault unlisted)))

  pub owners_fail : (fault : HistoryFault) → FindsOwners snapshots snapshot_bytes (Err fault) → HasNoHistory snapshots snapshot_bytes logs log_bytes fault
  owners_fail fault unread = owners_fail_by fault unread
