-- What a server's host does in a turn, until it stores what it has.
use Rattle.std.specs.Prelude.{◌≡◌, ◌⊎◌, ◌≤◌, ◌==◌, ℕ, Bool, true, false, List, [], ◌∷◌, ◌++◌, map, slice_get, Some}
use Rattle.zab_broadcast.specs.Calls.{Setting}
use Rattle.zab_broadcast.specs.declared.state.State.{State}
use Rattle.zab_epoch.specs.Quorums.{is_majority}
use Rattle.zab_epoch.specs.declared.message.Message.{Message}
use Rattle.zab_epoch.specs.declared.stable.Stable.{Stable}
use Rattle.zab_host.specs.Hosts.{HostView, Input, Receives, Leads, Follows, IsFor, IsOutside}
use Rattle.zab_host.specs.LoneLeaders.{own_messages}
use Rattle.zab_host.specs.Tags.{Request, request_tag}
use Rattle.zab_host.specs.Votes.{vote_of}
use Rattle.zab_host.specs.declared.fault.HostFault.{HostFault}
use Rattle.zab_host_laws.specs.Composition.{step_of, after_inputs, messages_in}
use Rattle.zab_host_laws.specs.Fits.{AllFor}
use Rattle.zab_host_laws.specs.Tags.{tags_in}
use Rattle.zab_model.specs.Worlds.{Profile}
use Rattle.zk_host.specs.declared.replica_host.ReplicaHost.{ReplicaHost}
use Rattle.zk_model.specs.Ensembles.{profile_by}
use Rattle.zk_requests.specs.declared.call.Call.{Call}
use Rattle.zk_server.specs.declared.election.Choice.{Choice}
use Rattle.zk_server.specs.declared.election.Choice.TheVariants.{Wait, Lead, Follow}
use Rattle.zk_server.specs.declared.member.Member.{Member}
use Rattle.zk_server_laws.specs.Stores.{KeepsFirst, KeepsSome}
use Rattle.zk_server_laws.specs.Turns.{AllHeard, AreRising}

-- the majorities of `servers` servers are the quorums
abbrev pub profile_for : ℕ → Profile Call
profile_for servers = profile_by (is_majority servers)

abbrev pub setting_for : ℕ → Setting Call
setting_for servers = (profile_for servers).setting

-- ---- which inputs a host takes

-- an input that has no rule here is dropped: it is for another server, or out of order
abbrev pub Offers : Setting Call → State → Input Call → List (Input Call) → Type 0
Offers setting state input inputs =
    (IsFor state input × (inputs ≡ input ∷ []))
    ⊎ ((fault : HostFault) × (IsOutside state input fault × (inputs ≡ [])))

-- messages, in order, each once
abbrev pub Hears : Setting Call → State → List (Message Call) → List (Input Call) → Type 0
Hears setting state [] inputs = inputs ≡ []
Hears setting state (message ∷ messages) inputs =
    (first : List (Input Call)) × ((rest : List (Input Call)) × ((inputs ≡ first ++ rest)
    × (Offers setting state (Receives message) first × Hears setting (after_inputs setting state first) messages rest)))

-- the input is one of these messages, or no message
abbrev pub IsAmong : List (Message Call) → Input Call → Type 0
IsAmong messages (Receives message) = (place : ℕ) × (slice_get messages place ≡ Some message)
IsAmong messages input = Unit {0}

abbrev pub AllAmong : List (Message Call) → List (Input Call) → Type 0
AllAmong messages [] = Unit {0}
AllAmong messages (input ∷ inputs) = IsAmong messages input × AllAmong messages inputs

-- ---- what they do

module _ {S : Type 0} (may_recover : S → Stable → Type 0) (boots : S → ℕ) (me : Member) where
  -- what the store keeps of a turn, whatever the turn has done before
  abbrev pub Keeps : HostView Call S → List (Input Call) → S → Type 0
  Keeps old inputs storage =
      (state : State) (before : List (Input Call)) → old.state ≡ after_inputs (setting_for me.servers) state before
      → KeepsFirst (setting_for me.servers) may_recover state before old.storage
      → KeepsFirst (setting_for me.servers) may_recover state (before ++ inputs) storage

  abbrev pub KeepsIn : HostView Call S → List (Input Call) → S → Type 0
  KeepsIn old inputs storage =
      (state : State) (before : List (Input Call)) → old.state ≡ after_inputs (setting_for me.servers) state before
      → KeepsFirst (setting_for me.servers) may_recover state before old.storage
      → KeepsSome (setting_for me.servers) may_recover state (before ++ inputs) storage

  -- The host has taken these inputs, with these requests. What it sends waits for the store.
  pub record Deeds (inputs : List (Input Call)) (requests : List Request) (old new : ReplicaHost S) : Type 0 where
    pub accepted : AllFor (setting_for me.servers) old.host.state inputs
    pub state : new.host.state ≡ after_inputs (setting_for me.servers) old.host.state inputs
    pub outbox : new.host.outbox ≡ old.host.outbox ++ messages_in (setting_for me.servers) old.host.state inputs
    pub asked : tags_in (profile_for me.servers) (map (step_of me.number) inputs) ≡ map request_tag requests
    pub rising : AreRising me.number old.tags.boot old.tags.used new.tags.used requests
    pub within : old.tags.used ≤ 4294967296 → new.tags.used ≤ 4294967296
    pub host : new.tags.host ≡ old.tags.host
    pub boot : new.tags.boot ≡ old.tags.boot
    pub keeps : Keeps old.host inputs new.host.storage
    pub starts : boots new.host.storage ≡ boots old.host.storage
    -- what clients read stays
    pub tree : new.tree.tree ≡ old.tree.tree
    pub news : new.tree.news ≡ old.tree.news
    pub shown : new.shown ≡ old.shown

  -- The host has failed after these inputs. Nothing has left it.
  pub record Failure (inputs : List (Input Call)) (requests : List Request) (old new : ReplicaHost S) : Type 0 where
    pub accepted : AllFor (setting_for me.servers) old.host.state inputs
    pub asked : tags_in (profile_for me.servers) (map (step_of me.number) inputs) ≡ map request_tag requests
    pub rising : AreRising me.number old.tags.boot old.tags.used new.tags.used requests
    pub within : old.tags.used ≤ 4294967296 → new.tags.used ≤ 4294967296
    pub keeps : KeepsIn old.host inputs new.host.storage
    pub starts : boots new.host.storage ≡ boots old.host.storage

  -- ---- one input

  -- the host takes the input, or drops it
  pub record TakesBy (input : Input Call) (old new : ReplicaHost S) : Type 0 where
    pub inputs : List (Input Call)
    pub offers : Offers (setting_for me.servers) old.host.state input inputs
    pub deeds : Deeds inputs [] old new

  -- it fails at the input; it may have taken it
  pub record FailsBy (input : Input Call) (old new : ReplicaHost S) : Type 0 where
    pub inputs : List (Input Call)
    pub only : (inputs ≡ []) ⊎ (inputs ≡ input ∷ [])
    pub failure : Failure inputs [] old new

  -- ---- messages

  pub record HearsAll (messages : List (Message Call)) (old new : ReplicaHost S) : Type 0 where
    pub inputs : List (Input Call)
    pub hears : Hears (setting_for me.servers) old.host.state messages inputs
    pub deeds : Deeds inputs [] old new

  -- it fails at one of these messages, after others
  pub record FailsAt (messages : List (Message Call)) (old new : ReplicaHost S) : Type 0 where
    pub inputs : List (Input Call)
    pub among : AllAmong messages inputs
    pub failure : Failure inputs [] old new

  -- ---- what an election decides

  -- the only server of its ensemble acknowledges itself
  abbrev pub Acknowledges : Bool → ReplicaHost S → ReplicaHost S → Type 0
  Acknowledges true old new = HearsAll (own_messages old.host.state.peer.role (vote_of old.host.state)) old new
  Acknowledges false old new = new ≡ old

  pub record LeadsNow (old new : ReplicaHost S) : Type 0 where
    pub between : ReplicaHost S
    pub leads : TakesBy Leads old between
    pub own : Acknowledges (me.servers == 1) between new

  abbrev pub ActsBy : Choice → ReplicaHost S → ReplicaHost S → Type 0
  ActsBy Wait old new = new ≡ old
  ActsBy Lead old new = LeadsNow old new
  ActsBy (Follow leader) old new = TakesBy (Follows leader) old new

  -- it fails at what the election decides; no connection has brought its inputs
  pub record FailsToAct (old new : ReplicaHost S) : Type 0 where
    pub inputs : List (Input Call)
    pub heard : AllHeard me.servers (λ line. []) inputs
    pub failure : Failure inputs [] old new
