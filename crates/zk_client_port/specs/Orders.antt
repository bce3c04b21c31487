-- What a server's clients ask, and what they are replied to, over every list of turns. ZooKeeper
-- Programmer's Guide, "Consistency Guarantees", sequential consistency: "updates from a client will be
-- applied in the order that they were sent".
use Rattle.std.specs.Prelude.{◌≡◌, ℕ, zero, suc, ℤ, Bool, true, false, List, [], ◌∷◌, ◌++◌, length, map, Ok}
use Rattle.std.specs.List.{AllByRecursion}
use Rattle.zab_broadcast.specs.Calls.{Setting}
use Rattle.zk_client_port.specs.Execution.{Served, served, ExecutesTo, known, outstanding as awaiting, request}
use Rattle.zk_client_port.specs.Ports.{numbers_over, without_requests}
use Rattle.zk_client_port.specs.Serving.{FlushesIf, ServesFrame, ServesFrames}
use Rattle.zk_client_port.specs.Turns.{Server, ServesFirst, ServesPlace, Executed, CutOff, Turns, synced}
use Rattle.zk_client_port.specs.declared.admission.Admission.{Admission}
use Rattle.zk_client_port.specs.declared.demand.Demand.{Demand}
use Rattle.zk_client_port.specs.declared.demand.Demand.TheVariants as demands
use Rattle.zk_client_port.specs.declared.execution.Moment.{Moment}
use Rattle.zk_client_port.specs.declared.expected.Expected.{Expected}
use Rattle.zk_connections.specs.declared.input.Taken.{Taken}
use Rattle.zk_hub.specs.Outcomes.{hub_news, news_at}
use Rattle.zk_hub.specs.declared.outcome.Outcome.{Outcome}
use Rattle.zk_hub.specs.Laws.{Input, Pushes, Delivers, TakesReplies, TakesRead, Closes, closes, outstanding, sent, taken}
use Rattle.zk_hub.specs.declared.request.Stage.TheVariants.{Reads}
use Rattle.zk_requests.specs.declared.call.Call.{Call}
use Rattle.zk_watch.specs.declared.watch.Fired.{Fired}

-- requests that become outstanding, replies and reads that are taken of them, and the news that they wait for
abbrev pub Inputs : Type 0
Inputs = List (Input Fired Expected Outcome)

-- ---- a connection's turn

-- what a frame asks comes after all that its connection asked before
abbrev pub asked : {S : Type 0} → (setting : Setting Call) (moment : Moment) (demand : Demand) (old new : Served S) (ready : Bool) → ExecutesTo setting moment demand old new (Ok ready) → Inputs
asked setting moment (demands.Submit session cxid auths call expected) old new ready it = Pushes (awaiting old.connection.number it.tag expected) ∷ []
asked setting moment (demands.Sync expected) old new ready it = Pushes (awaiting old.connection.number it.tag expected) ∷ []
asked setting moment (demands.Read expected) old new ready it = Pushes (request old.connection.number Reads expected) ∷ []
asked setting moment (demands.Reply expected) old new ready it = Pushes (known old.connection.number expected) ∷ []
asked setting moment (demands.Print word) old new ready it = []
asked setting moment (demands.Reject read_only) old new ready it = []
asked setting moment demands.CutOff old new ready it = []

-- replies are written, and then a read, again and again
abbrev pub written : ℕ → List Expected → Inputs
written number [] = TakesReplies number ∷ []
written number (expected ∷ reads) = TakesReplies number ∷ TakesRead number ∷ written number reads

abbrev pub written_if : {S : Type 0} → (ready : Bool) (admission : Admission) (server : ℕ) (old new : Served S) → FlushesIf ready admission server old new → Inputs
written_if true admission server old new it = written old.connection.number it.reads
written_if false admission server old new it = []

abbrev pub of_frame : {S : Type 0} → (setting : Setting Call) (moment : Moment) (frame : Taken) (old : Served S) (admission : Admission) (new : Served S) (heard : Admission) → ServesFrame setting moment frame old admission new heard → Inputs
of_frame setting moment frame old admission new heard it =
    asked setting moment _ (served old.host old.hub it.connection) it.serves.between it.serves.ready it.serves.executes
    ++ written_if it.serves.ready heard moment.server it.serves.between new it.serves.flushes

abbrev pub of_frames : {S : Type 0} → (setting : Setting Call) (moment : Moment) (frames : List Taken) (old : Served S) (admission : Admission) (new : Served S) (heard : Admission) → ServesFrames setting moment frames old admission new heard → Inputs
of_frames setting moment [] old admission new heard it = []
of_frames setting moment (frame ∷ frames) old admission new heard it =
    of_frame setting moment frame old admission it.0 it.1 it.2 ++ of_frames setting moment frames it.0 it.1 new heard it.3

-- ---- a server's turn

abbrev pub of_place : {S : Type 0} → (setting : Setting Call) (moment : Moment) (place : ℕ) (old new : Server S) → ServesPlace setting moment place old new → Inputs
of_place setting moment place old new (Executed before after is serves set) =
    written_if _ old.admission moment.server (served old.host old.hub before) serves.first serves.flushes
    ++ of_frames setting moment serves.serves.frames serves.first old.admission (served new.host new.hub after) new.admission serves.serves.serves
of_place setting moment place old new (CutOff before after is kept breaks set) = []

abbrev pub of_first : {S : Type 0} → (setting : Setting Call) (moment : Moment) (places : ℕ) (old new : Server S) → ServesFirst setting moment places old new → Inputs
of_first setting moment zero old new it = []
of_first setting moment (suc places) old new it = of_first setting moment places old it.0 it.1 ++ of_place setting moment places it.0 new it.2

-- what the server has delivered, and the syncs that are complete, and then each connection in its turn
abbrev pub of_turn : {S : Type 0} → (setting : Setting Call) (moment : Moment) (old new : Server S) (displaced : List ℕ) (closed : List ℤ) → Turns setting moment old new displaced closed → Inputs
of_turn setting moment old new displaced closed it =
    Delivers (map hub_news (news_at old.host.tree old.host.shown it.writes.released.host.state))
    ∷ Delivers (map synced it.writes.released.host.state.caught)
    ∷ of_first setting moment (length it.between.connections) it.between new it.serves

-- ---- any number of them

-- a server turns; connections that are over are removed; or no request is concerned
pub data Moves {S : Type 0} (old new : Server S) : Type 0 where
  Turned : (setting : Setting Call) (moment : Moment) (displaced : List ℕ) (closed : List ℤ) (turns : Turns setting moment old new displaced closed) → Moves old new
  Removed : (hub : new.hub ≡ without_requests (numbers_over old.connections) old.hub) → Moves old new
  Other : (hub : new.hub ≡ old.hub) → Moves old new

abbrev pub of_move : {S : Type 0} → (old new : Server S) → Moves old new → Inputs
of_move old new (Turned setting moment displaced closed turns) = of_turn setting moment old new displaced closed turns
of_move old new (Removed hub) = map Closes (numbers_over old.connections)
of_move old new (Other hub) = []

-- a server after each of its moves
abbrev pub Run : {S : Type 0} → Server S → List (Server S) → Type 0
Run old [] = Unit {0}
Run old (new ∷ later) = Moves old new × Run new later

abbrev pub of_run : {S : Type 0} → (old : Server S) (later : List (Server S)) → Run old later → Inputs
of_run old [] run = []
of_run old (new ∷ later) run = of_move old new run.0 ++ of_run new later run.1

abbrev pub last_of : {S : Type 0} → Server S → List (Server S) → Server S
last_of old [] = old
last_of old (new ∷ later) = last_of new later

-- ---- no connection is cut off because an allocation failed

abbrev pub IsExecuted : {S : Type 0} → (setting : Setting Call) (moment : Moment) (place : ℕ) (old new : Server S) → ServesPlace setting moment place old new → Type 0
IsExecuted setting moment place old new (Executed before after is serves set) = Unit {0}
IsExecuted setting moment place old new (CutOff before after is kept breaks set) = ⊥

abbrev pub AreExecuted : {S : Type 0} → (setting : Setting Call) (moment : Moment) (places : ℕ) (old new : Server S) → ServesFirst setting moment places old new → Type 0
AreExecuted setting moment zero old new it = Unit {0}
AreExecuted setting moment (suc places) old new it = AreExecuted setting moment places old it.0 it.1 × IsExecuted setting moment places it.0 new it.2

abbrev pub HasMemory : {S : Type 0} → (old new : Server S) → Moves old new → Type 0
HasMemory old new (Turned setting moment displaced closed turns) = AreExecuted setting moment (length turns.between.connections) turns.between new turns.serves
HasMemory old new (Removed hub) = Unit {0}
HasMemory old new (Other hub) = Unit {0}

abbrev pub HaveMemory : {S : Type 0} → (old : Server S) (later : List (Server S)) → Run old later → Type 0
HaveMemory old [] run = Unit {0}
HaveMemory old (new ∷ later) run = HasMemory old new run.0 × HaveMemory new later run.1

-- ---- the law

-- while a connection is open: the requests that it was replied to, in order, and then those that are
-- outstanding, are those that its frames asked, in order
abbrev pub RepliesInOrder : Type 0 → Type 0
RepliesInOrder S = (number : ℕ) (old : Server S) (later : List (Server S)) (run : Run old later) → old.hub ≡ [] →
    HaveMemory old later run → AllByRecursion (λ input. closes number input ≡ false) (of_run old later run) →
    taken number (of_run old later run) [] ++ outstanding number (last_of old later).hub ≡ sent number (of_run old later run)
