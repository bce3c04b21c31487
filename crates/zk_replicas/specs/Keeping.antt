-- Caches of crashed servers: the table's tree and results over a list that some server had
-- delivered.
use Rattle.std.specs.Prelude.{◌≡◌, ◌≤◌, ◌⊎◌, ℕ, false, List, [], length, slice_get, Option, Some}
use Rattle.zab_epoch.specs.declared.history.Entry.{Entry}
use Rattle.zab_epoch.specs.Entries.{txns_of}
use Rattle.zab_laws.specs.Prefixes.{IsPrefix}
use Rattle.zk_replicas.specs.declared.crash_cache.CrashCache.{CrashCache}
use Rattle.zk_model.specs.Ensembles.{ReplicaView, fresh, replica_at}
use Rattle.zk_model.specs.Runs.{answered_of}
use Rattle.zk_table.specs.Histories.{tree_of}

-- ---- one cache

-- it is the table's, over these entries
pub record IsOver (entries : List Entry) (it : CrashCache) : Type 0 where
  pub fine : it.machine.failed ≡ false
  pub tree : it.machine.state ≡ tree_of (txns_of entries)
  pub answers : it.answers.items ≡ answered_of entries

-- it is over a prefix of these entries, or over a list that begins with them
pub record MayServe (entries : List Entry) (it : CrashCache) : Type 0 where
  pub list : List Entry
  pub over : IsOver list it
  pub order : IsPrefix list entries ⊎ IsPrefix entries list

-- it is what a server showed
pub record IsShownBy (shown : ReplicaView) (it : CrashCache) : Type 0 where
  pub fine : it.machine.failed ≡ false
  pub tree : it.machine.state ≡ shown.tree
  pub answers : it.answers.items ≡ shown.answers

-- a server that had delivered nothing continues from it, `n` entries later
pub record GoesOn (old : ReplicaView) (kept : Option CrashCache) (most : ℕ) (new : ReplicaView) (count : ℕ) : Type 0 where
  pub it : CrashCache
  pub was : kept ≡ Some it
  pub unbegun : old ≡ fresh
  pub many : count ≡ length it.answers.items
  pub within : count ≤ most
  pub now : new ≡ record { tree = it.machine.state; answers = it.answers.items; watches = []; events = [] }

-- ---- all caches

abbrev pub EachKept : (CrashCache → Type 0) → List (Option CrashCache) → Type 0
EachKept is all = (place : ℕ) (it : CrashCache) → slice_get all place ≡ Some (Some it) → is it

-- it was cached before, or a server left it
pub record WasKept (before : List (Option CrashCache)) (it : CrashCache) : Type 0 where
  pub place : ℕ
  pub is : slice_get before place ≡ Some (Some it)

pub record WasShown (shown : List ReplicaView) (number : ℕ) (it : CrashCache) : Type 0 where
  pub by : ReplicaView
  pub is : replica_at shown number ≡ Some by
  pub shows : IsShownBy by it
