-- A turn of a server that runs: what arrives, what its election decides, and the store.
use Rattle.std.specs.Prelude.{◌≡◌, ℕ, List, [], Some, Result, Ok, Err}
use Rattle.zab_epoch.specs.declared.message.Message.{Message}
use Rattle.zab_epoch.specs.declared.stable.Stable.{Stable}
use Rattle.zab_host.specs.Hosts.{Input}
use Rattle.zab_host.specs.Votes.{vote_of}
use Rattle.zk_host.specs.declared.replica_host.ReplicaHost.{ReplicaHost}
use Rattle.zk_requests.specs.declared.call.Call.{Call}
use Rattle.zk_peer_links.specs.declared.arrival.Arrival.{Arrival}
use Rattle.zk_server.specs.declared.member.Member.{Member}
use Rattle.zk_server.specs.declared.site.Site.{Site}
use Rattle.zk_server.specs.declared.site.Site.TheVariants as sites
use Rattle.zk_server.specs.declared.stopped.Stopped.{Stopped}
use Rattle.zk_server.specs.Deeds.{profile_for, ActsBy, HearsAll}
use Rattle.zk_server.specs.Elections.{ElectionView, after_arrivals, after_choice, choice_of, with_vote}
use Rattle.zk_server.specs.Mail.{brought_on, mail_for}
use Rattle.zk_server.specs.Sites.{IsReady}
use Rattle.zk_server_laws.specs.Turns.{Turn, TurnsTo, StopsWith}

-- a turn, whichever connections its messages go on
abbrev pub turn_with : List Arrival → (ℕ → ℕ) → List (Input Call) → Turn Call
turn_with arrivals line_to inputs = record { brought = brought_on arrivals; line_to = line_to; inputs = inputs; requests = []; taken = [] }

module _ {S : Type 0} (may_recover : S → Stable → Type 0) (boots : S → ℕ) (me : Member) where
  -- the election of a server with its host's vote
  abbrev pub voting : ElectionView → ReplicaHost S → ElectionView
  voting election host = with_vote (vote_of host.host.state) election

  -- the host leads or follows as its election decides
  pub record Decides (election : ElectionView) (old : ReplicaHost S) (next : ElectionView) (new : ReplicaHost S) : Type 0 where
    pub position : next ≡ after_choice (choice_of (voting election old)) (voting election old)
    pub acts : ActsBy may_recover boots me (choice_of (voting election old)) old new

  -- all that connections have brought is taken, and all that is sent is stored
  pub record HasTurned (arrivals : List Arrival) (election : ElectionView) (old : ReplicaHost S) (next : ElectionView) (new : ReplicaHost S) (messages : List (Message Call)) : Type 0 where
    pub inputs : List (Input Call)
    pub does : (line_to : ℕ → ℕ) → TurnsTo (profile_for me.servers) may_recover boots me.servers me.number old.tags.boot old.tags.used new.tags.used
        old.host (turn_with arrivals line_to inputs) messages new.host
    -- exactly the messages, in order, each once, and then what the election decides
    pub heard : ReplicaHost S
    pub decided : ReplicaHost S
    pub hears : HearsAll may_recover boots me (mail_for me arrivals) old heard
    pub decides : Decides (after_arrivals arrivals election) heard next decided
    pub stays : new.host.state ≡ decided.host.state
    pub boot : new.tags.boot ≡ old.tags.boot
    pub ready : IsReady may_recover me new

  -- nothing is sent, and the store recovers what some first inputs have left
  pub record HasFailed (arrivals : List Arrival) (old : ReplicaHost S) (storage : S) : Type 0 where
    pub inputs : List (Input Call)
    pub next_used : ℕ
    pub does : (line_to : ℕ → ℕ) → StopsWith (profile_for me.servers) may_recover boots me.servers me.number old.tags.boot old.tags.used next_used
        old.host (turn_with arrivals line_to inputs) storage

  abbrev pub Ran : List Arrival → ElectionView → ReplicaHost S → ElectionView → Site S → Result (List (Message Call)) Stopped → Type 0
  Ran arrivals election old next (sites.Runs new) (Ok messages) = HasTurned arrivals election old next new messages
  Ran arrivals election old next (sites.Stopped (Some storage)) (Err why) = HasFailed arrivals old storage
  Ran arrivals election old next site result = ⊥
