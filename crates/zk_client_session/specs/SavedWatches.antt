-- The watches that a client had at another connection: `zookeeper.jute`, `SetWatches`; ZooKeeper
-- Programmer's Guide, "What ZooKeeper Guarantees about Watches". A watch fires at once if what it
-- waits for has happened since the transaction that the client names; else it is set.
use Rattle.std.specs.Prelude.{ℕ, ℤ, List, ◌++◌, map, Option, Some, None, if◌then◌else◌, int_lt}
use Rattle.zk_acl.specs.declared.stat.Stat.{Stat}
use Rattle.zk_frames.specs.declared.records.SetWatches.{SetWatches}
use Rattle.zk_client_session.specs.declared.saved_watch.SavedWatch.{SavedWatch}
use Rattle.zk_client_session.specs.declared.saved_watch.SavedWatchKind.{SavedWatchKind}
use Rattle.zk_client_session.specs.declared.saved_watch.SavedWatchKind.TheVariants as kinds
use Rattle.zk_machine.specs.declared.change.ChangeKind.{ChangeKind}
use Rattle.zk_machine.specs.declared.change.ChangeKind.TheVariants as changes
use Rattle.zk_table.specs.declared.read.ReadCall.{ReadCall}
use Rattle.zk_table.specs.declared.read.ReadCall.TheVariants as calls
use Rattle.zk_table.specs.declared.read.ReadReply.{ReadReply}
use Rattle.zk_table.specs.declared.read.ReadReply.TheVariants as replies

abbrev pub saved : SavedWatchKind → List ℕ → SavedWatch
saved kind path = record { kind = kind; path = path }

-- in the order of the record, none dropped
abbrev pub saved_in : SetWatches → List SavedWatch
saved_in r = map (saved kinds.Data) r.data_watches ++ map (saved kinds.Exist) r.exist_watches ++ map (saved kinds.Child) r.child_watches

-- what a read of existence found, if it found a node
abbrev pub found_stat : Option ReadReply → Option Stat
found_stat (Some (replies.Found stat)) = Some stat
found_stat other = None

abbrev pub event_if : {X : Type 0} → ℤ → ℤ → X → Option X
event_if seen zxid event = if int_lt seen zxid then Some event else None

-- the event that has happened since a transaction was seen, by the node's stat now
abbrev pub event_by : SavedWatchKind → ℤ → Option Stat → Option ChangeKind
event_by kinds.Data seen None = Some changes.Deleted
event_by kinds.Data seen (Some stat) = event_if seen stat.mzxid changes.DataChanged
event_by kinds.Exist seen None = None
event_by kinds.Exist seen (Some stat) = Some changes.Created
event_by kinds.Child seen None = Some changes.Deleted
event_by kinds.Child seen (Some stat) = event_if seen stat.pzxid changes.ChildrenChanged

-- the read that sets the watch
abbrev pub setting_call : SavedWatchKind → List ℕ → ReadCall
setting_call kinds.Child path = calls.GetChildren path
setting_call kind path = calls.Exists path
