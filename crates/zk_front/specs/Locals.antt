-- The result of an ask at an ensemble whose server 1 leads. Own; results are those of the
-- ensemble's definitions.
use Rattle.std.specs.Prelude.{◌≡◌, ◌⊎◌, ℕ, ℤ, List, length, Option, Some, unwrap_or, Result, Ok, Err}
use Rattle.std.specs.BTreeMap.{BTreeMap, get, Updates, IsEmpty}
use Rattle.std.specs.Ordering.{int_cmp}
use Rattle.zab_model.specs.Runs.{syncs_of}
use Rattle.zk_line_protocol.specs.declared.ask.Ask.{Ask}
use Rattle.zk_line_protocol.specs.declared.told.Reply.{Reply}
use Rattle.zk_line_protocol.specs.declared.told.ServiceFault.{ServiceFault}
use Rattle.zk_line_protocol.specs.declared.told.ServiceFault.TheVariants as services
use Rattle.zk_line_protocol.specs.declared.told.Told.{Told}
use Rattle.zk_ensemble.specs.Outcomes.{answered_with, caught_with, news_of}
use Rattle.zk_ensemble.specs.Views.{EnsembleView, answers_in, events_in, tree_in}
use Rattle.zk_front.specs.Asks.{session_of, event_of, next_tag, sought_by, wrote_by, looked_by, caught_by, service_fault_of}
use Rattle.zk_front.specs.declared.reply_kind.ReplyKind.{ReplyKind}
use Rattle.zk_front.specs.declared.reply_kind.ReplyKind.TheVariants as seeks
use Rattle.zk_machine.specs.declared.change.Change.{Change}
use Rattle.zk_model.specs.Ensembles as ensembles
use Rattle.zk_model.specs.Ensembles.{ReplicaView, replica_at}
use Rattle.zk_model.specs.declared.answer.Answer.{Answer}
use Rattle.zk_front.specs.Arriving.{servers_at, Delivered, IsUndelivered}
use Rattle.zk_front.specs.Happening.{Happens}
use Rattle.zk_front.specs.ServiceStarting.{IsBegun}
use Rattle.zk_front.specs.declared.local_state.LocalState.{LocalState}
use Rattle.zk_front.specs.declared.local.Local.{Local}
use Rattle.zk_front.specs.declared.ensemble_servers.Servers.{Servers}

-- server 1's replica
abbrev pub home_of : EnsembleView → Option ReplicaView
home_of it = replica_at it.shown 1

-- ---- the reply

-- a write: the result of its tag; a read: its answer, and the server's last transaction; a sync:
-- that its tag is completed
abbrev pub reply_by : ReplyKind → Answer → ℕ → EnsembleView → Result Reply ServiceFault
reply_by seeks.Written answer tag it = wrote_by (answered_with tag (answers_in (home_of it)))
reply_by seeks.Looked answer tag it = looked_by answer (tree_in (home_of it)).last
reply_by seeks.Caught answer tag it = caught_by (caught_with tag (syncs_of it.below.world 1))

-- a reply may be replaced by an allocation failure
abbrev pub MayReply : Result Reply ServiceFault → Result Reply ServiceFault → Type 0
MayReply (Ok reply) result = (result ≡ Ok reply) ⊎ (result ≡ Err services.Memory)
MayReply (Err why) result = result ≡ Err why

-- ---- the events

-- the number of the server's events at the session's last reply
abbrev pub cursor_of : BTreeMap ℤ ℕ → ℤ → ℕ
cursor_of told session = unwrap_or (get int_cmp told session) 0

-- the session's events that it was not sent before
abbrev pub undelivered_events : LocalState → ℤ → List Change
undelivered_events it session = news_of session (cursor_of it.told session) (events_in (home_of it.servers.ensemble))

-- all of the session's events are marked as sent, and the marks of others are unchanged
abbrev pub IsToldAll : LocalState → ℤ → LocalState → Type 0
IsToldAll old session new = Updates int_cmp old.told new.told session (Some (length (events_in (home_of old.servers.ensemble))))

-- a reply comes with the events that the session was not sent before; without a reply there are no
-- events, and every mark is unchanged
abbrev pub Tells : LocalState → ℤ → Result Reply ServiceFault → Result Told ServiceFault → LocalState → Type 0
Tells old session (Ok reply) (Ok told) new = (told ≡ record { events = undelivered_events old session; reply = reply }) × IsToldAll old session new
Tells old session (Ok reply) (Err fault) new = (fault ≡ services.Memory) × (new.told.entries ≡ old.told.entries)
Tells old session (Err why) (Ok told) new = ⊥
Tells old session (Err why) (Err fault) new = (fault ≡ why) × (new.told.entries ≡ old.told.entries)

-- ---- an ask

abbrev pub home_at : EnsembleView → ℕ → BTreeMap ℤ ℕ → LocalState
home_at it arrived told = record { servers = servers_at it arrived; told = told }

-- all messages arrived, and then the reply was returned
pub record Settled (old : LocalState) (session : ℤ) (sought : ReplyKind) (answer : Answer) (tag : ℕ) (result : Result Told ServiceFault) (new : LocalState) : Type 0 where
  pub delivered : Delivered old.servers new.servers
  pub tells : Tells (record { servers = new.servers; told = old.told }) session (reply_by sought answer tag new.servers.ensemble) result new

-- or some did not, and there is no reply
pub record Unsettled (old : LocalState) (result : Result Told ServiceFault) (new : LocalState) : Type 0 where
  pub fault : ServiceFault
  pub is : result ≡ Err fault
  pub undelivered : IsUndelivered old.servers fault new.servers
  pub told : new.told.entries ≡ old.told.entries

abbrev pub Settles : LocalState → ℤ → ReplyKind → Answer → ℕ → Result Told ServiceFault → LocalState → Type 0
Settles old session sought answer tag result new = Settled old session sought answer tag result new ⊎ Unsettled old result new

-- the event failed, and nothing else happened
pub record Refuses (old : LocalState) (fault : ServiceFault) (result : Result Told ServiceFault) (new : LocalState) : Type 0 where
  pub is : result ≡ Err fault
  pub servers : new.servers ≡ old.servers
  pub told : new.told.entries ≡ old.told.entries

-- the end of an ask, after this answer to its event
abbrev pub Ends : LocalState → Ask → ℕ → ensembles.Told → Result Told ServiceFault → LocalState → Type 0
Ends old ask tag (Ok answer) result new = Settles old (session_of ask) (sought_by ask) answer tag result new
Ends old ask tag (Err why) result new = Refuses old (service_fault_of why) result new

-- an ask's event happens at server 1, with this tag and at this time
pub record Asks (old : LocalState) (ask : Ask) (tag : ℕ) (now : ℤ) (result : Result Told ServiceFault) (new : LocalState) : Type 0 where
  pub answer : ensembles.Told
  pub mid : EnsembleView
  pub happens : Happens old.servers.ensemble (event_of ask tag now) answer mid
  pub ends : Ends (home_at mid old.servers.arrived old.told) ask tag answer result new

-- no session was sent any event
pub record IsNewLocalState (servers : Servers) (it : LocalState) : Type 0 where
  pub servers_kept : it.servers ≡ servers
  pub untold_all : IsEmpty it.told

module _ {C : Type 0} where
  -- with a tag of its own, at the clock's time
  pub record Asked (tells : C → ℤ → C → Type 0) (old : Local C) (ask : Ask) (result : Result Told ServiceFault) (new : Local C) : Type 0 where
    pub now : ℤ
    pub told : tells old.clock now new.clock
    pub tag : new.tag ≡ next_tag old.tag
    pub asks : Asks old.home ask new.tag now result new.home

  -- ---- the start

  pub record IsStarted (servers : ℕ) (given : C) (it : Local C) : Type 0 where
    pub begun : IsBegun servers it.home.servers
    pub told : IsEmpty it.home.told
    pub clock : it.clock ≡ given
    pub tag : it.tag ≡ 0
