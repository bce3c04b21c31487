-- Elections, crashes, restarts and links that are cut, with the rounds that they lead to. ZooKeeper
-- Internals, "Leader Activation"; ZooKeeper Programmer's Guide, "ZooKeeper Sessions".
use Rattle.std.specs.Prelude.{◌≡◌, ℕ, ℤ, Bool, true, false, List, [], ◌∷◌, ◌++◌, zero, suc, length, Option, None}
use Rattle.zab_epoch.specs.declared.stable.Stable.{Stable}
use Rattle.zk_client_port.specs.declared.admission.Admission.{Admission}
use Rattle.zk_client_service.specs.Ensembles.{Ensemble, server_cut_off, SameBeside}
use Rattle.zk_client_service.specs.Expiries.{RenewsSessions}
use Rattle.zk_client_service.specs.Ports.{Port, all_cut_off}
use Rattle.zk_client_service.specs.Rounds.{TurnsFor}
use Rattle.zk_peers.specs.Links.{with_cut}
use Rattle.zk_peers.specs.Peers.{is_led, Crashes, Elects, Heals, Leads, RestartsAt, Starts}

-- the most rounds of mail of an election, or of another command
abbrev pub most_rounds : ℕ
most_rounds = 1000000

-- ---- a start

abbrev pub copies : {X : Type 0} → ℕ → X → List X
copies zero it = []
copies (suc count) it = copies count it ++ it ∷ []

abbrev pub new_port : Port
new_port = record { connections = []; hub = [] }

-- its servers have no clients yet
pub record IsNew {S : Type 0} (servers : ℕ) (secret : List ℕ) (it : Ensemble S) : Type 0 where
  pub ports : it.ports ≡ copies servers new_port
  pub admission : it.admission ≡ record { sessions = []; secret = secret }
  pub opened : it.opened ≡ 0
  pub stops : it.stops ≡ copies servers None

module _ {S : Type 0} (may_recover : S → Stable → Type 0) (boots : S → ℕ) where
  -- the servers turn until none is needed, or a million times
  pub record Settles (now : ℤ) (old new : Ensemble S) : Type 0 where
    pub waits : Bool
    pub turns : TurnsFor may_recover boots most_rounds now old new waits

  -- ---- a new leader

  -- the servers turn, and then each session has its whole timeout again
  pub record Begins (now : ℤ) (old new : Ensemble S) : Type 0 where
    pub settled : Ensemble S
    pub settles : Settles now old settled
    pub renews : RenewsSessions now settled new

  -- the server that wins the election leads, if one hears a quorum; all connections are cut off
  pub record ElectsLeader (now : ℤ) (old new : Ensemble S) : Type 0 where
    pub leader : Option ℕ
    pub between : Ensemble S
    pub elects : Elects may_recover boots leader old.peers between.peers
    pub ports : between.ports ≡ all_cut_off old.ports
    pub rest : SameBeside old between
    pub begins : Begins now between new

  -- this server leads; all connections are cut off
  pub record LeadsFrom (server : ℕ) (now : ℤ) (old new : Ensemble S) : Type 0 where
    pub between : Ensemble S
    pub leads : Leads may_recover boots server old.peers between.peers
    pub ports : between.ports ≡ all_cut_off old.ports
    pub rest : SameBeside old between
    pub begins : Begins now between new

  -- an election is held only if there is no leader with a quorum
  pub data ElectsIfNeeded (now : ℤ) (old new : Ensemble S) : Type 0 where
    Led : (led : is_led old.peers.cuts.items old.peers.places.items old.peers.leader ≡ true) (settles : Settles now old new) → ElectsIfNeeded now old new
    Lost : (lost : is_led old.peers.cuts.items old.peers.places.items old.peers.leader ≡ false) (elects : ElectsLeader now old new) → ElectsIfNeeded now old new

  -- the servers start on their stores, without clients, and elect a leader
  pub record StartsEnsemble (clean : S → Type 0) (storages : List S) (secret : List ℕ) (now : ℤ) (new : Ensemble S) : Type 0 where
    pub between : Ensemble S
    pub starts : Starts clean may_recover boots storages between.peers
    pub fresh : IsNew (length storages) secret between
    pub elects : ElectsLeader now between new

  -- ---- crashes and restarts

  -- a server's connections are cut off with it; a leader is elected if it led
  pub record CrashesAt (server : ℕ) (now : ℤ) (old new : Ensemble S) : Type 0 where
    pub between : Ensemble S
    pub crashes : Crashes may_recover boots server old.peers between.peers
    pub ports : between.ports ≡ server_cut_off server old.ports
    pub rest : SameBeside old between
    pub elects : ElectsIfNeeded now between new

  -- a server that is down starts on its store, and follows the leader
  pub record RestartsServer (clean : S → Type 0) (server : ℕ) (now : ℤ) (old new : Ensemble S) : Type 0 where
    pub between : Ensemble S
    pub restarts : RestartsAt may_recover boots clean server old.peers between.peers
    pub ports : between.ports ≡ old.ports
    pub rest : SameBeside old between
    pub elects : ElectsIfNeeded now between new

  -- ---- links

  pub record CutsLink (one other : ℕ) (now : ℤ) (old new : Ensemble S) : Type 0 where
    pub between : Ensemble S
    pub cut : between.peers.cuts.items ≡ with_cut one other old.peers.cuts.items
    pub servers : (between.peers.places ≡ old.peers.places) × ((between.peers.leader ≡ old.peers.leader)
        × ((between.peers.posted ≡ old.peers.posted) × (between.peers.arriving ≡ old.peers.arriving)))
    pub ports : between.ports ≡ old.ports
    pub rest : SameBeside old between
    pub elects : ElectsIfNeeded now between new

  pub record HealsLinks (now : ℤ) (old new : Ensemble S) : Type 0 where
    pub between : Ensemble S
    pub heals : Heals may_recover boots old.peers between.peers
    pub ports : between.ports ≡ old.ports
    pub rest : SameBeside old between
    pub elects : ElectsIfNeeded now between new
