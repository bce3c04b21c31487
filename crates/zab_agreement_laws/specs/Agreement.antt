-- Agreement, over every list of events.
-- Junqueira, Reed, Serafini: Zab: High-performance broadcast for primary-backup systems (DSN 2011), agreement and total order.
use Rattle.std.specs.Prelude.{◌≡◌, ◌≢◌, ℕ, ◌+◌, pos, ◌⊎◌, List, [], ◌∷◌, ◌++◌, take, Some, slice_get}
use Rattle.zab_epoch.specs.declared.history.Entry.{Entry}
use Rattle.zab_laws.specs.Prefixes.{IsPrefix, Rises}
use Rattle.zab_model.specs.declared.event.Event.{Event}
use Rattle.zab_model.specs.declared.event.Event.TheVariants.{Crash}
use Rattle.zab_model.specs.Worlds.{Profile}
use Rattle.zab_model.specs.Runs.{delivered_after, history_after}
use Rattle.zab_agreement_laws.specs.Facts.{IsEntryOf, HasQuorum}

pub record Agrees {C : Type 0} (profile : Profile C) (servers : ℕ) (events : List (Event C)) : Type 0 where
  -- of two lists ever delivered, by any servers after any numbers of events, one is a prefix of the other
  pub one_order : (i j p q : ℕ) → IsPrefix (delivered_after profile servers events i p) (delivered_after profile servers events j q) ⊎ IsPrefix (delivered_after profile servers events j q) (delivered_after profile servers events i p)
  -- what a server has delivered stays the front of its delivered list, through each event but its own crash,
  pub only_grows : (i p : ℕ) (event : Event C) → slice_get events i ≡ Some event → event ≢ Crash p → IsPrefix (delivered_after profile servers events i p) (delivered_after profile servers events (i + 1) p)
  -- and the front of its history, also where it takes another one
  pub stays_in_history : (i p : ℕ) (event : Event C) → slice_get events i ≡ Some event → event ≢ Crash p → IsPrefix (delivered_after profile servers events i p) (history_after profile servers events (i + 1) p)
  -- two entries with one zxid, in any histories ever held, are equal and follow equal entries
  pub one_zxid : (i j p q : ℕ) (before other : List Entry) (x y : Entry) → IsPrefix (before ++ x ∷ []) (history_after profile servers events i p) → IsPrefix (other ++ y ∷ []) (history_after profile servers events j q) → x.txn.zxid ≡ y.txn.zxid → before ++ x ∷ [] ≡ other ++ y ∷ []
  -- zxids rise from above 0 in every history ever held
  pub rises : (i p : ℕ) → Rises (λ (x : Entry). x.txn.zxid) (pos 0) (history_after profile servers events i p)
  -- no entry of an epoch is made before that epoch's NewLeader has a quorum: where some history has the entry, a quorum has acknowledged the start
  pub quorum_first : (i p epoch : ℕ) (before : List Entry) (x : Entry) → IsPrefix (before ++ x ∷ []) (history_after profile servers events i p) → IsEntryOf epoch x → HasQuorum profile servers (take i events) epoch
