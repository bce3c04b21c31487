-- Whether a server runs.
use Rattle.std.specs.Prelude.{◌≡◌, ◌≤◌, Bool, true, false, length, Option, Some}
use Rattle.zab_epoch.specs.declared.stable.Stable.{Stable}
use Rattle.zab_host.specs.Hosts.{IsStored}
use Rattle.zk_host.specs.declared.replica_host.ReplicaHost.{ReplicaHost}
use Rattle.zk_server.specs.declared.member.Member.{Member}
use Rattle.zk_server.specs.declared.site.Site.{Site}
use Rattle.zk_server.specs.declared.site.Site.TheVariants.{Runs, Stopped}

abbrev pub is_running : {S : Type 0} → Site S → Bool
is_running (Runs host) = true
is_running (Stopped storage) = false

-- its store; None if a start on it failed
abbrev pub storage_in : {S : Type 0} → Site S → Option S
storage_in (Runs host) = Some host.host.storage
storage_in (Stopped storage) = storage

-- a host between two turns: all that it has is stored, and it has nothing to send
pub record IsReady {S : Type 0} (may_recover : S → Stable → Type 0) (me : Member) (host : ReplicaHost S) : Type 0 where
  pub silent : length host.host.outbox ≡ 0
  pub stored : IsStored may_recover host.host
  pub mine : host.tags.host ≡ me.number
  pub within : host.tags.used ≤ 4294967296

pub record IsSettled {S : Type 0} (may_recover : S → Stable → Type 0) (me : Member) (site : Site S) : Type 0 where
  pub ready : (host : ReplicaHost S) → site ≡ Runs host → IsReady may_recover me host
