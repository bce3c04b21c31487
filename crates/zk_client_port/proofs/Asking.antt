-- Serving asks of the host what the frames ask, and no more.
use Rattle.std.proofs.Common.{◌≡◌, ◌∙◌, ℕ, zero, suc, Bool, true, false, List, [], ◌∷◌, ◌++◌, Option, Ok, Err, refl, sym, ap, subst}
use Rattle.zab_broadcast.specs.Calls.{Setting}
use Rattle.zk_client_port.specs.Asking.{AsksAll, FailsAsking, HasAsked, Rests, ToSubmit, ToSync, Wish, input_of}
use Rattle.zk_client_port.specs.Demands.{demand_of}
use Rattle.zk_client_port.specs.Execution.{Served, served, ExecutesTo, Requests}
use Rattle.zk_client_port.specs.Flushing.{KeepsServer, LosesReplies, MakesReads}
use Rattle.zk_client_port.specs.Serving.{Breaks, BreaksNext, BreaksTaken, Broken, FlushesIf, Serves, ServesFrames, ServesTaken, Unexecuted, Unflushed, Unserved, Untaken, Unwritten}
use Rattle.zk_client_port.specs.Turns.{Server, CutOff, Executed, FailsToServe, ServesFirst, ServesPlace}
use Rattle.zk_client_port.specs.declared.admission.Admission.{Admission}
use Rattle.zk_client_port.specs.declared.demand.Demand.{Demand}
use Rattle.zk_client_port.specs.declared.demand.Demand.TheVariants as demands
use Rattle.zk_client_port.specs.declared.execution.Moment.{Moment}
use Rattle.zk_client_port.specs.declared.expected.Expected.{Expected}
use Rattle.zk_client_port.specs.declared.fault.ServeFault.TheVariants as faults
use Rattle.zk_connections.specs.declared.input.Taken.{Taken}
use Rattle.zk_host.specs.declared.replica_host.ReplicaHost.{ReplicaHost}
use Rattle.zk_hub.specs.Hubs.{is_blocked}
use Rattle.zk_requests.specs.declared.call.Call.{Call}

-- ---- lists of wishes

pub rests_same : {S : Type 0} (old new : ReplicaHost S) → new ≡ old → Rests old new
rests_same {S} old new same = record {
  host = ap (λ (it : ReplicaHost S). it.host) same;
  tags = ap (λ (it : ReplicaHost S). it.tags) same;
  tree = ap (λ (it : ReplicaHost S). it.tree.tree) same;
  news = λ none. ap (λ (it : ReplicaHost S). it.tree.news) same ∙ none;
  shown = ap (λ (it : ReplicaHost S). it.shown) same;
}

rests_then : {S : Type 0} (old between new : ReplicaHost S) → Rests old between → Rests between new → Rests old new
rests_then old between new first later = record {
  host = later.host ∙ first.host;
  tags = later.tags ∙ first.tags;
  tree = later.tree ∙ first.tree;
  news = λ none. later.news (first.news none);
  shown = later.shown ∙ first.shown;
}

pub server_rests : {S : Type 0} (old new : ReplicaHost S) → KeepsServer old new → Rests old new
server_rests old new keeps = record { host = keeps.host; tags = keeps.tags; tree = keeps.tree; news = λ none. keeps.news; shown = keeps.shown }

module _ {S : Type 0} (setting : Setting Call) where
  rests_first : (wishes : List Wish) (old between new : ReplicaHost S) → Rests old between → AsksAll setting wishes between new → AsksAll setting wishes old new
  rests_first [] old between new rests asks = rests_then old between new rests asks
  rests_first (wish ∷ wishes) old between new rests asks =
      (asks.0, (record { before = asks.1.0.before; rests = rests_then old between asks.1.0.before rests asks.1.0.rests; tag = asks.1.0.tag; requests = asks.1.0.requests }, asks.1.1))

  asks_both : (first later : List Wish) (old between new : ReplicaHost S) → AsksAll setting first old between → AsksAll setting later between new → AsksAll setting (first ++ later) old new
  asks_both [] later old between new rests asks = rests_first later old between new rests asks
  asks_both (wish ∷ first) later old between new it asks = (it.0, (it.1.0, asks_both first later it.0 between new it.1.1 asks))

  pub asked_then : (old between new : ReplicaHost S) → HasAsked setting old between → HasAsked setting between new → HasAsked setting old new
  asked_then old between new first later = record {
    wishes = first.wishes ++ later.wishes;
    asks = asks_both first.wishes later.wishes old between new first.asks later.asks;
  }

  pub none_asked : (old new : ReplicaHost S) → Rests old new → HasAsked setting old new
  none_asked old new rests = record { wishes = []; asks = rests }

  pub asked_nothing : (it : ReplicaHost S) → HasAsked setting it it
  asked_nothing it = none_asked it it (rests_same it it refl)

  one_asked : (wish : Wish) (old new : ReplicaHost S) (tag : Option ℕ) → Requests setting (input_of wish) old new tag → HasAsked setting old new
  one_asked wish old new tag requests = record {
    wishes = wish ∷ [];
    asks = (new, (record { before = old; rests = rests_same old old refl; tag = tag; requests = requests }, rests_same new new refl));
  }

  pub fails_then : (old between new : ReplicaHost S) → HasAsked setting old between → FailsAsking setting between new → FailsAsking setting old new
  fails_then old between new first fails = record {
    before = fails.before;
    asked = asked_then old between fails.before first fails.asked;
    wish = fails.wish;
    fails = fails.fails;
  }

other : faults.Host ≡ faults.Connection → ⊥
other is = cc

-- ---- one frame

module _ {S : Type 0} (setting : Setting Call) (moment : Moment) where
  executed_asks : (demand : Demand) (ready : Bool) (old new : Served S) → ExecutesTo setting moment demand old new (Ok ready) → HasAsked setting old.host new.host
  executed_asks (demands.Submit session cxid auths request expected) ready old new it = one_asked setting (ToSubmit session cxid auths moment.now request) old.host new.host it.tag it.requests
  executed_asks (demands.Sync expected) ready old new it = one_asked setting ToSync old.host new.host it.tag it.requests
  executed_asks (demands.Read expected) ready old new it = none_asked setting old.host new.host (rests_same old.host new.host it.host)
  executed_asks (demands.Reply expected) ready old new it = none_asked setting old.host new.host (rests_same old.host new.host it.host)
  executed_asks (demands.Print word) ready old new it = none_asked setting old.host new.host (rests_same old.host new.host it.host)
  executed_asks (demands.Reject read_only) ready old new it = none_asked setting old.host new.host (rests_same old.host new.host it.host)
  executed_asks demands.CutOff ready old new it = none_asked setting old.host new.host (rests_same old.host new.host it.host)

  broken_asks : (demand : Demand) (old new : Served S) → ExecutesTo setting moment demand old new (Err faults.Connection) → HasAsked setting old.host new.host
  broken_asks (demands.Submit session cxid auths request expected) old new it = one_asked setting (ToSubmit session cxid auths moment.now request) old.host new.host it.tag it.requests
  broken_asks (demands.Sync expected) old new it = one_asked setting ToSync old.host new.host it.tag it.requests
  broken_asks (demands.Read expected) old new it = none_asked setting old.host new.host (rests_same old.host new.host it.host)
  broken_asks (demands.Reply expected) old new it = none_asked setting old.host new.host (rests_same old.host new.host it.host)
  broken_asks (demands.Print word) old new it = none_asked setting old.host new.host (rests_same old.host new.host it.host)
  broken_asks (demands.Reject read_only) old new it = none_asked setting old.host new.host (rests_same old.host new.host it.host)
  broken_asks demands.CutOff old new it = none_asked setting old.host new.host (rests_same old.host new.host it.host)

  failed_asks : (demand : Demand) (old new : Served S) → ExecutesTo setting moment demand old new (Err faults.Host) → FailsAsking setting old.host new.host
  failed_asks (demands.Submit session cxid auths request expected) old new it = record {
    before = old.host;
    asked = asked_nothing setting old.host;
    wish = ToSubmit session cxid auths moment.now request;
    fails = it.fails;
  }
  failed_asks (demands.Sync expected) old new it = record { before = old.host; asked = asked_nothing setting old.host; wish = ToSync; fails = it.fails }
  failed_asks (demands.Read expected) old new it = absurd it.pushes
  failed_asks (demands.Reply expected) old new it = absurd it.pushes
  failed_asks (demands.Print word) old new it = absurd it.writes
  failed_asks (demands.Reject read_only) old new it = absurd it.writes
  failed_asks demands.CutOff old new it = absurd it.writes

  reads_rest : (admission : Admission) (server number : ℕ) (reads : List Expected) (old new : Served S) → MakesReads admission server number reads old new → Rests old.host new.host
  reads_rest admission server number [] old new same = rests_same old.host new.host (ap (λ (it : Served S). it.host) same)
  reads_rest admission server number (expected ∷ reads) old new it =
      rests_then old.host it.0.host new.host (server_rests old.host it.0.host it.1.server_kept) (reads_rest admission server number reads it.0 new it.2)

  flush_rests : (ready : Bool) (admission : Admission) (server : ℕ) (old new : Served S) → FlushesIf ready admission server old new → Rests old.host new.host
  flush_rests true admission server old new it =
      rests_then old.host it.between.host new.host (reads_rest admission server old.connection.number it.reads old it.between it.makes)
      (rests_same it.between.host new.host (ap (λ (end : Served S). end.host) it.replies))
  flush_rests false admission server old new same = rests_same old.host new.host (ap (λ (it : Served S). it.host) same)

  taken_asks : (taken : Taken) (old new : Served S) (admission heard : Admission) → ServesTaken setting moment taken old admission new heard → HasAsked setting old.host new.host
  taken_asks taken old new admission heard it =
      asked_then setting old.host it.between.host new.host
      (executed_asks (demand_of heard old.host.tree.tree.last moment.now taken) it.ready old it.between it.executes)
      (none_asked setting it.between.host new.host (flush_rests it.ready heard moment.server it.between new it.flushes))

  -- ---- frames

  pub frames_ask : (frames : List Taken) (old new : Served S) (admission heard : Admission) → ServesFrames setting moment frames old admission new heard → HasAsked setting old.host new.host
  frames_ask [] old new admission heard it = none_asked setting old.host new.host (rests_same old.host new.host (ap (λ (end : Served S). end.host) it.0))
  frames_ask (taken ∷ frames) old new admission heard it =
      asked_then setting old.host it.0.host new.host (taken_asks taken (served old.host old.hub it.2.connection) it.0 admission it.1 it.2.serves)
      (frames_ask frames it.0 new it.1 heard it.3)

  serves_ask : (old new : Served S) (admission heard : Admission) → Serves setting moment old admission new heard → HasAsked setting old.host new.host
  serves_ask old new admission heard it =
      asked_then setting old.host it.first.host new.host
      (none_asked setting old.host it.first.host (flush_rests (is_blocked old.connection.number old.hub) admission moment.server old it.first it.flushes))
      (frames_ask it.serves.frames it.first new admission heard it.serves.serves)

  -- ---- memory runs out for the connection

  lost_asks : (old new : Served S) → LosesReplies old new → HasAsked setting old.host new.host
  lost_asks old new it = none_asked setting old.host new.host (server_rests old.host new.host it.server_kept)

  break_taken : (taken : Taken) (old new : Served S) (admission heard : Admission) → BreaksTaken setting moment taken old admission new heard faults.Connection → HasAsked setting old.host new.host
  break_taken taken old new admission heard (Unexecuted hears executes) = broken_asks (demand_of heard old.host.tree.tree.last moment.now taken) old new executes
  break_taken taken old new admission heard (Unwritten hears ready between executes loses is) =
      asked_then setting old.host between.host new.host (executed_asks (demand_of heard old.host.tree.tree.last moment.now taken) ready old between executes)
      (lost_asks between new loses)

  break_next : (old new : Served S) (admission heard : Admission) → BreaksNext setting moment old admission new heard faults.Connection → HasAsked setting old.host new.host
  break_next old new admission heard (Untaken host hub same is) = none_asked setting old.host new.host (rests_same old.host new.host host)
  break_next old new admission heard (Unserved taken may connection takes breaks) = break_taken taken (served old.host old.hub connection) new admission heard breaks

  break_asks : (old new : Served S) (admission heard : Admission) → Breaks setting moment old admission new heard faults.Connection → HasAsked setting old.host new.host
  break_asks old new admission heard (Unflushed loses same is) = lost_asks old new loses
  break_asks old new admission heard (Broken first flushes breaks) =
      asked_then setting old.host first.host new.host (none_asked setting old.host first.host (flush_rests (is_blocked old.connection.number old.hub) admission moment.server old first flushes))
      (asked_then setting first.host breaks.between.host new.host (frames_ask breaks.frames first breaks.between admission breaks.middle breaks.serves)
      (break_next breaks.between new breaks.middle heard breaks.breaks))

  -- ---- memory runs out for the host

  fail_taken : (taken : Taken) (old new : Served S) (admission heard : Admission) → BreaksTaken setting moment taken old admission new heard faults.Host → FailsAsking setting old.host new.host
  fail_taken taken old new admission heard (Unexecuted hears executes) = failed_asks (demand_of heard old.host.tree.tree.last moment.now taken) old new executes
  fail_taken taken old new admission heard (Unwritten hears ready between executes loses is) = absurd (other is)

  fail_next : (old new : Served S) (admission heard : Admission) → BreaksNext setting moment old admission new heard faults.Host → FailsAsking setting old.host new.host
  fail_next old new admission heard (Untaken host hub same is) = absurd (other is)
  fail_next old new admission heard (Unserved taken may connection takes breaks) = fail_taken taken (served old.host old.hub connection) new admission heard breaks

  fail_asks : (old new : Served S) (admission heard : Admission) → Breaks setting moment old admission new heard faults.Host → FailsAsking setting old.host new.host
  fail_asks old new admission heard (Unflushed loses same is) = absurd (other is)
  fail_asks old new admission heard (Broken first flushes breaks) =
      fails_then setting old.host first.host new.host (none_asked setting old.host first.host (flush_rests (is_blocked old.connection.number old.hub) admission moment.server old first flushes))
      (fails_then setting first.host breaks.between.host new.host (frames_ask breaks.frames first breaks.between admission breaks.middle breaks.serves)
      (fail_next breaks.between new breaks.middle heard breaks.breaks))

  -- ---- connections

  place_asks : (place : ℕ) (old new : Server S) → ServesPlace setting moment place old new → HasAsked setting old.host new.host
  place_asks place old new (Executed before after is serves written) =
      serves_ask (served old.host old.hub before) (served new.host new.hub after) old.admission new.admission serves
  place_asks place old new (CutOff before after is kept breaks written) =
      break_asks (served old.host old.hub before) (served new.host new.hub after) old.admission new.admission breaks

  pub first_ask : (places : ℕ) (old new : Server S) → ServesFirst setting moment places old new → HasAsked setting old.host new.host
  first_ask zero old new same = none_asked setting old.host new.host (rests_same old.host new.host (ap (λ (it : Server S). it.host) same))
  first_ask (suc places) old new it =
      asked_then setting old.host it.0.host new.host (first_ask places old it.0 it.1) (place_asks places it.0 new it.2)

  pub fail_asking : (old : Server S) (host : ReplicaHost S) → FailsToServe setting moment old host → FailsAsking setting old.host host
  fail_asking old host it =
      fails_then setting old.host it.between.host host (first_ask it.places old it.between it.first)
      (subst (λ (end : ReplicaHost S). FailsAsking setting it.between.host end) (sym it.fails.host_is)
      (fail_asks (served it.between.host it.between.hub it.fails.before) it.fails.after it.between.admission it.fails.heard it.fails.breaks))
