-- How a leader of an ensemble turns calls into entries, each on the tree of those before it.
-- Junqueira, Reed, Serafini: Zab: High-performance broadcast for primary-backup systems (DSN 2011),
-- the primary.
use Rattle.std.specs.Prelude.{◌≡◌, ℕ, ℤ, Bool, true, false, cond, List, refl}
use Rattle.zab_epoch.specs.declared.history.Entry.{Entry}
use Rattle.zab_epoch.specs.Entries.{txns_of}
use Rattle.zk_requests.specs.declared.call.Call.{Call}
use Rattle.zk_prepare.specs.Preparing.{PrepView, StandsFor}
use Rattle.zk_requests.specs.Requests.{meaning_of}
use Rattle.zk_table.specs.declared.txn.Txn.{Txn}
use Rattle.zk_table.specs.Histories.{tree_of}
use Rattle.zk_table.specs.States.{start_state}

-- the entry that a call becomes at a zxid, after a history: it has the call's tag
abbrev pub entry_of : List Entry → Call → ℤ → Entry
entry_of history call zxid = record { tag = call.tag; txn = meaning_of (tree_of (txns_of history)) call zxid }

-- a leader's primary represents its history
abbrev pub Prepares : PrepView → List Entry → Type 0
Prepares prep history = (prep.failed ≡ false) × StandsFor prep start_state (txns_of history)

-- ---- an entry has the zxid that it is built for

zxid_by : (b : Bool) (one other : Txn) (zxid : ℤ) → one.zxid ≡ zxid → other.zxid ≡ zxid → (cond b one other).zxid ≡ zxid
zxid_by true one other zxid p q = p
zxid_by false one other zxid p q = q

pub entry_zxid : (history : List Entry) (call : Call) (zxid : ℤ) → (entry_of history call zxid).txn.zxid ≡ zxid
entry_zxid history call zxid = zxid_by _ _ _ zxid refl refl
