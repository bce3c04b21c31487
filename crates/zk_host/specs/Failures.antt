-- Why a host releases nothing, and why it does not reply to a read.
use Rattle.std.specs.Prelude.{◌≡◌, ◌<◌, true, int_lt, [], length}
use Rattle.zab_epoch.specs.declared.stable.Stable.{Stable}
use Rattle.zab_host.specs.Hosts.{IsStored}
use Rattle.zk_host.specs.declared.host_fault.ReadFault.{ReadFault}
use Rattle.zk_host.specs.declared.host_fault.ReadFault.TheVariants as read_faults
use Rattle.zk_host.specs.declared.host_fault.ReleaseFault.{ReleaseFault}
use Rattle.zk_host.specs.declared.host_fault.ReleaseFault.TheVariants as release_faults
use Rattle.zk_host.specs.declared.replica_host.ReplicaHost.{ReplicaHost}
use Rattle.zk_host.specs.Delivered.{delivered_in}
use Rattle.zk_host.specs.WatchedTrees.{WatchedTreeView}
use Rattle.zk_model.specs.declared.event.Question.{Question}

-- all that the server has is stored, but its messages are lost, as any messages may be
pub record LosesMessages {S : Type 0} (may_recover : S → Stable → Type 0) (new : ReplicaHost S) : Type 0 where
  pub stored : IsStored may_recover new.host
  pub lost : new.host.outbox ≡ []

-- Without a store no message leaves. A server has delivered less than its tree shows, which no run
-- reaches, or an allocation failed while the tree had entries to deliver.
abbrev pub ReleaseFails : {S : Type 0} → (S → Stable → Type 0) → ReplicaHost S → ReplicaHost S → ReleaseFault → Type 0
ReleaseFails may_recover old new (release_faults.Store fault) = new.host.outbox ≡ old.host.outbox
ReleaseFails may_recover old new release_faults.Shrunk = (length (delivered_in old.host.state) < old.shown) × LosesMessages may_recover new
ReleaseFails may_recover old new release_faults.NoMemory = (old.shown < length (delivered_in old.host.state)) × LosesMessages may_recover new

-- the client has seen a later transaction than the tree's last, or an allocation failed
abbrev pub CannotRead : Question → WatchedTreeView → ReadFault → Type 0
CannotRead question tree (read_faults.Behind seen last) = (int_lt tree.tree.last question.seen ≡ true) × ((seen ≡ question.seen) × (last ≡ tree.tree.last))
CannotRead question tree read_faults.NoMemory = Unit {0}
