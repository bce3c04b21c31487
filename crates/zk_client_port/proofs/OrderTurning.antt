-- The outstanding requests after each move are those after its inputs.
use Rattle.std.proofs.Common.{◌≡◌, ◌∙◌, ℕ, zero, suc, ℤ, Bool, true, false, List, [], ◌∷◌, ◌++◌, length, map, Ok, refl, sym, ap}
use Rattle.zab_broadcast.specs.Calls.{Setting}
use Rattle.zk_client_port.specs.Orders.{Inputs, asked, written, written_if, of_frame, of_frames, of_place, of_first, of_turn, Moves, Turned, Removed, Other, of_move, Run, of_run, last_of, AreExecuted, IsExecuted, HasMemory, HaveMemory, RepliesInOrder}
use Rattle.zk_client_port.specs.Demands.{demand_of}
use Rattle.zk_client_port.specs.Execution.{Served, served, ExecutesTo}
use Rattle.zk_client_port.specs.Flushing.{MakesReads}
use Rattle.zk_client_port.specs.Ports.{numbers_over, without_requests}
use Rattle.zk_client_port.specs.Serving.{FlushesIf, ServesFrame, ServesFrames}
use Rattle.zk_client_port.specs.Turns.{Server, ServesFirst, ServesPlace, Executed, CutOff, Turns}
use Rattle.zk_client_port.specs.declared.admission.Admission.{Admission}
use Rattle.zk_client_port.specs.declared.demand.Demand.{Demand}
use Rattle.zk_client_port.specs.declared.demand.Demand.TheVariants as demands
use Rattle.zk_client_port.specs.declared.execution.Moment.{Moment}
use Rattle.zk_client_port.specs.declared.expected.Expected.{Expected}
use Rattle.zk_connections.specs.declared.input.Taken.{Taken}
use Rattle.zk_hub.specs.declared.outcome.Outcome.{Outcome}
use Rattle.zk_hub.proofs.Order.{first_in_first_out}
use Rattle.zk_hub.specs.Hubs.{is_blocked, without_ready}
use Rattle.zk_hub.specs.Laws.{Closes, after_inputs}
use Rattle.zk_hub.specs.declared.request.Outstanding.{Outstanding}
use Rattle.zk_requests.specs.declared.call.Call.{Call}
use Rattle.zk_watch.specs.declared.watch.Fired.{Fired}

abbrev Requests : Type 0
Requests = List (Outstanding Expected Outcome)

-- ---- one list of inputs after another

after_append : (xs ys : Inputs) (requests : Requests) → after_inputs (xs ++ ys) requests ≡ after_inputs ys (after_inputs xs requests)
after_append [] ys requests = refl
after_append (x ∷ xs) ys requests = after_append xs ys _

after_both : (xs ys : Inputs) (old between new : Requests) → between ≡ after_inputs xs old → new ≡ after_inputs ys between → new ≡ after_inputs (xs ++ ys) old
after_both xs ys old between new first second = second ∙ ap (after_inputs ys) first ∙ sym (after_append xs ys old)

after_closing : (numbers : List ℕ) (requests : Requests) → without_requests numbers requests ≡ after_inputs {V = Fired} (map Closes numbers) requests
after_closing [] requests = refl
after_closing (number ∷ numbers) requests = after_closing numbers _

module _ {S : Type 0} where
  -- ---- a connection's turn

  after_asking : (setting : Setting Call) (moment : Moment) (demand : Demand) (old new : Served S) (ready : Bool) (it : ExecutesTo setting moment demand old new (Ok ready))
      → new.hub ≡ after_inputs (asked setting moment demand old new ready it) old.hub
  after_asking setting moment (demands.Submit session cxid auths call expected) old new ready it = it.pushes.0
  after_asking setting moment (demands.Sync expected) old new ready it = it.pushes.0
  after_asking setting moment (demands.Read expected) old new ready it = it.pushes.0
  after_asking setting moment (demands.Reply expected) old new ready it = it.pushes.0
  after_asking setting moment (demands.Print word) old new ready it = it.hub
  after_asking setting moment (demands.Reject read_only) old new ready it = it.hub
  after_asking setting moment demands.CutOff old new ready it = it.hub

  after_writing : (admission : Admission) (server number : ℕ) (reads : List Expected) (old new : Served S) → MakesReads admission server number reads old new
      → without_ready number new.hub ≡ after_inputs {V = Fired} (written number reads) old.hub
  after_writing admission server number [] old new it = ap (λ (end : Served S). without_ready number end.hub) it
  after_writing admission server number (expected ∷ reads) old new it =
      after_writing admission server number reads it.0 new it.2 ∙ ap (λ (hub : Requests). after_inputs {V = Fired} (written number reads) hub) it.1.taken

  after_writing_if : (ready : Bool) (admission : Admission) (server : ℕ) (old new : Served S) (it : FlushesIf ready admission server old new)
      → new.hub ≡ after_inputs (written_if ready admission server old new it) old.hub
  after_writing_if true admission server old new it =
      ap (λ (end : Served S). end.hub) it.replies ∙ after_writing admission server old.connection.number it.reads old it.between it.makes
  after_writing_if false admission server old new it = ap (λ (end : Served S). end.hub) it

  after_frame : (setting : Setting Call) (moment : Moment) (frame : Taken) (old : Served S) (admission : Admission) (new : Served S) (heard : Admission) (it : ServesFrame setting moment frame old admission new heard)
      → new.hub ≡ after_inputs (of_frame setting moment frame old admission new heard it) old.hub
  after_frame setting moment frame old admission new heard it =
      after_both
      (asked setting moment (demand_of heard old.host.tree.tree.last moment.now frame) (served old.host old.hub it.connection) it.serves.between it.serves.ready it.serves.executes)
      (written_if it.serves.ready heard moment.server it.serves.between new it.serves.flushes)
      old.hub it.serves.between.hub new.hub
      (after_asking setting moment (demand_of heard old.host.tree.tree.last moment.now frame) (served old.host old.hub it.connection) it.serves.between it.serves.ready it.serves.executes)
      (after_writing_if it.serves.ready heard moment.server it.serves.between new it.serves.flushes)

  after_frames : (setting : Setting Call) (moment : Moment) (frames : List Taken) (old : Served S) (admission : Admission) (new : Served S) (heard : Admission) (it : ServesFrames setting moment frames old admission new heard)
      → new.hub ≡ after_inputs (of_frames setting moment frames old admission new heard it) old.hub
  after_frames setting moment [] old admission new heard it = ap (λ (end : Served S). end.hub) it.0
  after_frames setting moment (frame ∷ frames) old admission new heard it =
      after_both (of_frame setting moment frame old admission it.0 it.1 it.2) (of_frames setting moment frames it.0 it.1 new heard it.3) old.hub it.0.hub new.hub
      (after_frame setting moment frame old admission it.0 it.1 it.2)
      (after_frames setting moment frames it.0 it.1 new heard it.3)

  -- ---- a server's turn

  after_place : (setting : Setting Call) (moment : Moment) (place : ℕ) (old new : Server S) (it : ServesPlace setting moment place old new) → IsExecuted setting moment place old new it
      → new.hub ≡ after_inputs (of_place setting moment place old new it) old.hub
  after_place setting moment place old new (Executed before after is serves set) executed =
      after_both
      (written_if (is_blocked before.number old.hub) old.admission moment.server (served old.host old.hub before) serves.first serves.flushes)
      (of_frames setting moment serves.serves.frames serves.first old.admission (served new.host new.hub after) new.admission serves.serves.serves)
      old.hub serves.first.hub new.hub
      (after_writing_if (is_blocked before.number old.hub) old.admission moment.server (served old.host old.hub before) serves.first serves.flushes)
      (after_frames setting moment serves.serves.frames serves.first old.admission (served new.host new.hub after) new.admission serves.serves.serves)
  after_place setting moment place old new (CutOff before after is kept breaks set) executed = absurd executed

  after_first : (setting : Setting Call) (moment : Moment) (places : ℕ) (old new : Server S) (it : ServesFirst setting moment places old new) → AreExecuted setting moment places old new it
      → new.hub ≡ after_inputs (of_first setting moment places old new it) old.hub
  after_first setting moment zero old new it executed = ap (λ (end : Server S). end.hub) it
  after_first setting moment (suc places) old new it executed =
      after_both (of_first setting moment places old it.0 it.1) (of_place setting moment places it.0 new it.2) old.hub it.0.hub new.hub
      (after_first setting moment places old it.0 it.1 executed.0)
      (after_place setting moment places it.0 new it.2 executed.1)

  after_turn : (setting : Setting Call) (moment : Moment) (old new : Server S) (displaced : List ℕ) (closed : List ℤ) (it : Turns setting moment old new displaced closed)
      → AreExecuted setting moment (length it.between.connections) it.between new it.serves
      → new.hub ≡ after_inputs (of_turn setting moment old new displaced closed it) old.hub
  after_turn setting moment old new displaced closed it executed =
      after_first setting moment (length it.between.connections) it.between new it.serves executed
      ∙ ap (after_inputs (of_first setting moment (length it.between.connections) it.between new it.serves)) it.writes.hub

  -- ---- any number of them

  after_move : (old new : Server S) (move : Moves old new) → HasMemory old new move → new.hub ≡ after_inputs (of_move old new move) old.hub
  after_move old new (Turned setting moment displaced closed turns) memory = after_turn setting moment old new displaced closed turns memory
  after_move old new (Removed hub) memory = hub ∙ after_closing (numbers_over old.connections) old.hub
  after_move old new (Other hub) memory = hub

  after_run : (old : Server S) (later : List (Server S)) (run : Run old later) → HaveMemory old later run → (last_of old later).hub ≡ after_inputs (of_run old later run) old.hub
  after_run old [] run memory = refl
  after_run old (new ∷ later) run memory =
      after_both (of_move old new run.0) (of_run new later run.1) old.hub new.hub (last_of new later).hub
      (after_move old new run.0 memory.0)
      (after_run new later run.1 memory.1)

pub in_order : {S : Type 0} → RepliesInOrder S
in_order number old later run empty memory stays =
    let hub : (last_of old later).hub ≡ after_inputs (of_run old later run) [] = after_run old later run memory ∙ ap (λ (requests : Requests). after_inputs (of_run old later run) requests) empty in
    rw hub (first_in_first_out number (of_run old later run) stays)
