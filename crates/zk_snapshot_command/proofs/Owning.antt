-- The owners over a snapshot, or over the empty tree.
use Rattle.std.proofs.Common.{◌≡◌, ℕ, ℤ, pos, List, Option, Some, None, sym, subst}
use Rattle.std.specs.Option.{unwrap_or}
use Rattle.zk_directory_state.specs.Histories.{AreIn}
use Rattle.zk_directory_state.specs.Logs.{logs_from}
use Rattle.zk_directory_state.specs.Names.{log_zxid}
use Rattle.zk_directory_state.specs.declared.history.Shown.{Shown}
use Rattle.zk_mend.specs.Digests.{Owners}
use Rattle.zk_mend.specs.Following.{no_owners}
use Rattle.zk_snapshot_command.specs.DirectoryOwners.{AreOwnersFrom, AreOwnersIn, AreOwnersOver, AreStored, base_of}

module _ (snapshot_bytes log_bytes : List ℕ → Option (List ℕ)) where
  pub over_snapshot : (base : Option ℤ) (zxid zxid' upto upto' : ℤ) (logged after : List ℤ) (stored owners : Owners) → base ≡ Some zxid → zxid' ≡ zxid → upto' ≡ upto → AreStored snapshot_bytes zxid' stored → after ≡ logs_from zxid' logged → AreOwnersFrom log_bytes upto' zxid' stored after owners
      → AreOwnersOver snapshot_bytes log_bytes upto logged base owners
  over_snapshot base zxid zxid' upto upto' logged after stored owners from same last held later followed =
      subst (λ (b : Option ℤ). AreOwnersOver snapshot_bytes log_bytes upto logged b owners) (sym from) (
        stored,
        subst (λ (z : ℤ). AreStored snapshot_bytes z stored) same held,
        subst (λ (u : ℤ). AreOwnersFrom log_bytes u zxid stored (logs_from zxid logged) owners) last
            (subst (λ (z : ℤ). AreOwnersFrom log_bytes upto' z stored (logs_from z logged) owners) same (subst (λ (l : List ℤ). AreOwnersFrom log_bytes upto' zxid' stored l owners) later followed)),
      )

  pub over_nothing : (base : Option ℤ) (upto upto' : ℤ) (logged : List ℤ) (none owners : Owners) → base ≡ None → upto' ≡ upto → ((path : List ℕ) → none path ≡ no_owners path) → AreOwnersFrom log_bytes upto' (pos 0) none logged owners → AreOwnersOver snapshot_bytes log_bytes upto logged base owners
  over_nothing base upto upto' logged none owners from last empty followed =
      subst (λ (b : Option ℤ). AreOwnersOver snapshot_bytes log_bytes upto logged b owners) (sym from) (none, empty, subst (λ (u : ℤ). AreOwnersFrom log_bytes u (pos 0) none logged owners) last followed)

pub owned : (snapshot_bytes : List ℕ → Option (List ℕ)) (logs : Option (List (List ℕ))) (log_bytes : List ℕ → Option (List ℕ)) (shown : Shown) (logged logged' : List ℤ) (upto : ℤ) (base : Option ℤ) (owners : Owners) → AreIn log_zxid logs logged → logged' ≡ logged
    → upto ≡ unwrap_or shown.restored.position (pos 0) → base ≡ base_of shown.origin → AreOwnersOver snapshot_bytes log_bytes upto logged' base owners → AreOwnersIn snapshot_bytes logs log_bytes shown owners
owned snapshot_bytes logs log_bytes shown logged logged' upto base owners named same last from over = record {
  logged = logged;
  are_logs = named;
  are = subst (λ (l : List ℤ). AreOwnersOver snapshot_bytes log_bytes (unwrap_or shown.restored.position (pos 0)) l (base_of shown.origin) owners) same
      (subst (λ (u : ℤ). AreOwnersOver snapshot_bytes log_bytes u logged' (base_of shown.origin) owners) last (subst (λ (b : Option ℤ). AreOwnersOver snapshot_bytes log_bytes upto logged' b owners) from over));
}
