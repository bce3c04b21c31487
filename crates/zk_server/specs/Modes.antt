-- The mode of a server. ZooKeeper, class QuorumPeer: ServerState; Administrator's Guide, "The Four Letter
-- Words": srvr.
use Rattle.std.specs.Prelude.{ℕ, ◌==◌, ◌&&◌, Bool, true, false}
use Rattle.zab_epoch.specs.declared.role.Role.{Role}
use Rattle.zab_epoch.specs.declared.role.Role.TheVariants as roles
use Rattle.zk_server.specs.declared.election.Position.{Position}
use Rattle.zk_server.specs.declared.election.Position.TheVariants as positions
use Rattle.zk_server.specs.declared.mode.Mode.{Mode}
use Rattle.zk_server.specs.declared.mode.Mode.TheVariants.{Looking, Following, Leading}
use Rattle.zk_server.specs.declared.site.Site.{Site}
use Rattle.zk_server.specs.declared.site.Site.TheVariants.{Runs, Stopped}

-- a quorum has taken its history
abbrev pub is_established : Role → Bool
is_established roles.Broadcast = true
is_established role = false

-- it has taken the history of this leader
abbrev pub is_synced_with : ℕ → Role → Bool
is_synced_with leader (roles.Following other synced) = (other == leader) && synced
is_synced_with leader role = false

-- a server leads or follows only as its election has decided last, also if its host's role differs
abbrev pub mode_in : Position → Role → Mode
mode_in positions.Leads role = Leading (is_established role)
mode_in (positions.Follows leader) role = Following leader (is_synced_with leader role)
mode_in position role = Looking

-- a server that has stopped has no leader
abbrev pub mode_at : {S : Type 0} → Position → Site S → Mode
mode_at position (Runs host) = mode_in position host.host.state.peer.role
mode_at position (Stopped storage) = Looking

-- it accepts clients' calls: it leads, and has a quorum, or follows, and has its leader's history
abbrev pub serves : Mode → Bool
serves (Leading established) = established
serves (Following leader synced) = synced
serves Looking = false

-- it leads, and accepts calls
abbrev pub is_leading : Mode → Bool
is_leading (Leading established) = established
is_leading mode = false
