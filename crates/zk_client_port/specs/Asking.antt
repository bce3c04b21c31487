-- What its clients ask of a host: calls and syncs, each with the host's next tag, and nothing else.
use Rattle.std.specs.Prelude.{◌≡◌, ℕ, ℤ, List, [], ◌∷◌, Option}
use Rattle.zab_broadcast.specs.Calls.{Setting}
use Rattle.zab_host.specs.Hosts.{Input, Syncs}
use Rattle.zk_acl.specs.declared.acl.Id.{Id}
use Rattle.zk_client_port.specs.Execution.{call_of, FailsToAsk, Requests}
use Rattle.zk_host.specs.declared.replica_host.ReplicaHost.{ReplicaHost}
use Rattle.zk_requests.specs.declared.call.Call.{Call}
use Rattle.zk_requests.specs.declared.call.Request.{Request}

-- a call or a sync that has no tag yet
pub data Wish : Type 0 where
  ToSubmit : (session cxid : ℤ) (auths : List Id) (now : ℤ) (request : Request) → Wish
  ToSync : Wish

abbrev pub input_of : Wish → ℕ → Input Call
input_of (ToSubmit session cxid auths now request) tag = call_of session cxid auths now request tag
input_of ToSync tag = Syncs tag

-- nothing is asked: at most watches are set
pub record Rests {S : Type 0} (old new : ReplicaHost S) : Type 0 where
  pub host : new.host ≡ old.host
  pub tags : new.tags ≡ old.tags
  pub tree : new.tree.tree ≡ old.tree.tree
  pub news : old.tree.news ≡ [] → new.tree.news ≡ []
  pub shown : new.shown ≡ old.shown

-- the host takes it with its next tag, or rejects it
pub record AsksOne {S : Type 0} (setting : Setting Call) (wish : Wish) (old new : ReplicaHost S) : Type 0 where
  pub before : ReplicaHost S
  pub rests : Rests old before
  pub tag : Option ℕ
  pub requests : Requests setting (input_of wish) before new tag

abbrev pub AsksAll : {S : Type 0} → Setting Call → List Wish → ReplicaHost S → ReplicaHost S → Type 0
AsksAll {S} setting [] old new = Rests old new
AsksAll {S} setting (wish ∷ wishes) old new = (between : ReplicaHost S) × (AsksOne setting wish old between × AsksAll setting wishes between new)

pub record HasAsked {S : Type 0} (setting : Setting Call) (old new : ReplicaHost S) : Type 0 where
  pub wishes : List Wish
  pub asks : AsksAll setting wishes old new

-- an allocation of the host fails at one of them
pub record FailsAsking {S : Type 0} (setting : Setting Call) (old new : ReplicaHost S) : Type 0 where
  pub before : ReplicaHost S
  pub asked : HasAsked setting old before
  pub wish : Wish
  pub fails : FailsToAsk setting (input_of wish) before new
