-- Frames, replies and reads as a connection's inputs of the hub.
use Rattle.std.proofs.Common.{◌≡◌, ◌∙◌, ℕ, ℤ, ◌+◌, ◌≤◌, suc, Bool, true, false, List, [], ◌∷◌, ◌++◌, length, drop, Option, Some, None, Ok, if◌then◌else◌, refl, sym, ap, subst, arith}
use Rattle.std.proofs.lemmas.List.{drop-drop, length-append}
use Rattle.std.specs.List.{AllByRecursion}
use Rattle.zab_broadcast.specs.Calls.{Setting}
use Rattle.zab_host.specs.Hosts.{Input as HostInput, Syncs}
use Rattle.zk_client_port.proofs.Taking.{stays, takes_on}
use Rattle.zk_client_port.specs.Demands.{demand_of}
use Rattle.zk_client_port.specs.Execution.{Served, served, call_of, status_of, Executes, ExecutesTo, Pushes, Tells, known, outstanding, printed, printed_by, request}
use Rattle.zk_client_port.specs.Flushing.{after_replies, reader_of, with_replies, HasFlushed, MakesReads, Reads as ReadsBy, ReadsNext, ReadsTo, Replied, Behind}
use Rattle.zk_client_port.specs.FrameLaws.{Advances, ChangesBy, EachFrameOnce, IsBy}
use Rattle.zk_client_port.specs.Serving.{FlushesIf, ServesFrame, ServesTaken}
use Rattle.zk_client_port.specs.declared.execution.Moment.{Moment}
use Rattle.zk_hub.proofs.Kept.{ask_keeps}
use Rattle.zk_hub.specs.Reads.{Reader}
use Rattle.zk_client_port.proofs.Kept.{own, outcome_keeps, reply_keeps}
use Rattle.zk_client_port.specs.declared.admission.Admission.{Admission}
use Rattle.zk_client_port.specs.declared.demand.Demand.{Demand}
use Rattle.zk_client_port.specs.declared.demand.Demand.TheVariants as demands
use Rattle.zk_client_port.specs.declared.expected.Expected.{Expected}
use Rattle.zk_client_port.specs.declared.expected.Expected.TheVariants as expected
use Rattle.zk_connections.specs.Connections.{lost, with_no_session}
use Rattle.zk_connections.specs.Statuses.{text_of}
use Rattle.zk_connections.specs.declared.connection.Connection.{Connection}
use Rattle.zk_connections.specs.declared.input.Taken.{Taken}
use Rattle.zk_connections.specs.declared.word.Word.{Word}
use Rattle.zk_hub.specs.declared.outcome.Outcome.{Outcome}
use Rattle.zk_hub.specs.Hubs.{is_of, replies_for, without_read, without_ready}
use Rattle.zk_hub.specs.Laws.{Input, Pushes as PushesIn, TakesReplies, TakesRead, after_inputs, sent, sent_by}
use Rattle.zk_hub.specs.declared.request.Outstanding.{Outstanding}
use Rattle.zk_hub.specs.declared.request.Reply.{Reply}
use Rattle.zk_hub.specs.declared.request.Stage.TheVariants as stages
use Rattle.zk_client_session.specs.declared.ask.Ask.{Ask}
use Rattle.zk_client_session.specs.declared.expected_reply.ExpectedReply.{ExpectedReply}
use Rattle.zk_requests.specs.declared.call.Call.{Call}
use Rattle.zk_watch.specs.declared.watch.Fired.{Fired}

abbrev Requests : Type 0
Requests = List (Outstanding Expected Outcome)

abbrev Inputs : Type 0
Inputs = List (Input Fired Expected Outcome)

-- ---- inputs of the hub, one list after another

own_append : (number : ℕ) (xs ys : Inputs) → AllByRecursion (IsBy number) xs → AllByRecursion (IsBy number) ys → AllByRecursion (IsBy number) (xs ++ ys)
own_append number [] ys a b = b
own_append number (x ∷ xs) ys a b = (a.0, own_append number xs ys a.1 b)

after_append : (xs ys : Inputs) (requests : Requests) → after_inputs (xs ++ ys) requests ≡ after_inputs ys (after_inputs xs requests)
after_append [] ys requests = refl
after_append (x ∷ xs) ys requests = after_append xs ys _

sent_append : (number : ℕ) (xs ys : Inputs) → length (sent number (xs ++ ys)) ≡ length (sent number xs) + length (sent number ys)
sent_append number [] ys = omega arith
sent_append number (x ∷ xs) ys =
    let rest : length (sent number (xs ++ ys)) ≡ length (sent number xs) + length (sent number ys) = sent_append number xs ys in
    let first : length (sent_by number x ++ sent number (xs ++ ys)) ≡ length (sent_by number x) + length (sent number (xs ++ ys)) = length-append (sent_by number x) _ in
    let second : length (sent_by number x ++ sent number xs) ≡ length (sent_by number x) + length (sent number xs) = length-append (sent_by number x) _ in
    omega (arith, rest, first, second)

changes_none : (number : ℕ) (old : Requests) → ChangesBy number 0 old old
changes_none number old = record { inputs = []; own = tt; hub = refl; sends = omega arith }

changes_then : (number m n : ℕ) (old between new : Requests) → ChangesBy number m old between → ChangesBy number n between new → ChangesBy number (m + n) old new
changes_then number m n old between new first second = record {
  inputs = first.inputs ++ second.inputs;
  own = own_append number first.inputs second.inputs first.own second.own;
  hub = second.hub ∙ ap (after_inputs second.inputs) first.hub ∙ sym (after_append first.inputs second.inputs old);
  sends =
      let a : length (sent number first.inputs) ≤ m = first.sends in
      let b : length (sent number second.inputs) ≤ n = second.sends in
      omega (arith, a, b, sent_append number first.inputs second.inputs);
}

at_most_one : (mine : Bool) (it : Expected) → length ((if mine then it ∷ [] else []) ++ []) ≤ 1
at_most_one true it = omega arith
at_most_one false it = omega arith

changes_pushed : (number : ℕ) (request : Outstanding Expected Outcome) (old new : Requests) → request.connection ≡ number → new ≡ old ++ request ∷ [] → ChangesBy number 1 old new
changes_pushed number request old new mine is = record {
  inputs = PushesIn request ∷ [];
  own = (mine, tt);
  hub = is;
  sends = at_most_one (is_of number request) request.expected;
}

changes_replied : (number : ℕ) (old : Requests) → ChangesBy number 0 old (without_ready number old)
changes_replied number old = record { inputs = TakesReplies number ∷ []; own = (refl, tt); hub = refl; sends = omega arith }

changes_read : (number : ℕ) (old new : Requests) → new ≡ without_read number old → ChangesBy number 0 old new
changes_read number old new is = record { inputs = TakesRead number ∷ []; own = (refl, tt); hub = is; sends = omega arith }

-- ---- connections

advances_then : (old between new : Connection) → Advances old between → own new ≡ own between → Advances old new
advances_then old between new first kept = record {
  number = ap (λ (it : ℕ × List ℕ). it.0) kept ∙ first.number;
  bytes = first.bytes;
  input = ap (λ (it : ℕ × List ℕ). it.1) kept ∙ first.input;
}

own_of : (old new : Connection) → new.number ≡ old.number → new.input ≡ old.input → own new ≡ own old
own_of old new number input = ap (λ (n : ℕ). (n, new.input)) number ∙ ap (λ (bytes : List ℕ). (old.number, bytes)) input

replies_keep : (admission : Admission) (last : ℤ) (replies : List (Reply Expected Outcome)) (it : Connection) → own (with_replies admission last replies it) ≡ own it
replies_keep admission last [] it = refl
replies_keep admission last (reply ∷ replies) it = replies_keep admission last replies _ ∙ outcome_keeps admission last reply.expected reply.result it

-- ---- replies and reads

read_keeps : (server : ℕ) (ask : Ask) (reply : ExpectedReply) (old new : Reader) → ReadsTo server ask reply old new → own new.connection ≡ own old.connection
read_keeps server ask reply old new (Replied near read) =
    ap (λ (it : Reader). own it.connection) read ∙ reply_keeps _ reply _ _ ∙ ask_keeps server ask old
read_keeps server ask reply old new (Behind seen cut kept) = own_of old.connection new.connection kept.number kept.input

reads_keep : (server : ℕ) (it : Expected) (old new : Reader) → ReadsBy server it old new (Ok tt) → own new.connection ≡ own old.connection
reads_keep server (expected.Read ask reply) old new reads = read_keeps server ask reply old new reads
reads_keep server (expected.Opened opening) old new reads = ap (λ (it : Reader). own it.connection) reads
reads_keep server (expected.Attached session opening) old new reads = ap (λ (it : Reader). own it.connection) reads
reads_keep server (expected.Replied reply time) old new reads = ap (λ (it : Reader). own it.connection) reads
reads_keep server (expected.Known immediate) old new reads = ap (λ (it : Reader). own it.connection) reads
reads_keep server expected.Closed old new reads = ap (λ (it : Reader). own it.connection) reads

-- ---- a demand

of_connection : (number : ℕ) (tag : Option ℕ) (it : Expected) → (outstanding number tag it).connection ≡ number
of_connection number (Some tag) it = refl
of_connection number None it = refl

printed_keeps : (text : Option (List ℕ)) (word : Word) (it : Connection) → own (printed_by text word it) ≡ own it
printed_keeps (Some text) word it = refl
printed_keeps None word it = refl

-- ---- steps

module _ {S : Type 0} where
  -- what one step does: the hub changes by the connection's inputs, which keeps its number and input
  record Moves (number frames : ℕ) (old new : Served S) : Type 0 where
    pub changes : ChangesBy number frames old.hub new.hub
    pub keeps : own new.connection ≡ own old.connection

  moves_none : (number : ℕ) (old new : Served S) → new ≡ old → Moves number 0 old new
  moves_none number old new same = record {
    changes = subst (λ (it : Requests). ChangesBy number 0 old.hub it) (sym (ap (λ (it : Served S). it.hub) same)) (changes_none number old.hub);
    keeps = ap (λ (it : Served S). own it.connection) same;
  }

  moves_then : (number m n : ℕ) (old between new : Served S) → Moves number m old between → Moves number n between new → Moves number (m + n) old new
  moves_then number m n old between new first second = record {
    changes = changes_then number m n old.hub between.hub new.hub first.changes second.changes;
    keeps = second.keeps ∙ first.keeps;
  }

  moves_replied : (admission : Admission) (number : ℕ) (old : Served S) → Moves number 0 old (after_replies admission number old)
  moves_replied admission number old = record { changes = changes_replied number old.hub; keeps = replies_keep admission old.host.tree.tree.last (replies_for number old.hub) old.connection }

  moves_next : (admission : Admission) (server number : ℕ) (it : Expected) (old new : Served S) → ReadsNext server number it (after_replies admission number old) new → Moves number 0 old new
  moves_next admission server number it old new next =
      let between : Served S = after_replies admission number old in
      moves_then number 0 0 old between new (moves_replied admission number old)
      (record { changes = changes_read number between.hub new.hub next.taken; keeps = reads_keep server it (reader_of between) (reader_of new) next.reads })

  moves_reads : (admission : Admission) (server number : ℕ) (reads : List Expected) (old new : Served S) → MakesReads admission server number reads old new → Moves number 0 old new
  moves_reads admission server number [] old new makes = moves_none number old new makes
  moves_reads admission server number (read ∷ reads) old new makes =
      moves_then number 0 0 old makes.0 new (moves_next admission server number read old makes.0 makes.1) (moves_reads admission server number reads makes.0 new makes.2)

  moves_flushed : (admission : Admission) (server number : ℕ) (old new : Served S) → old.connection.number ≡ number → HasFlushed admission server old new → Moves number 0 old new
  moves_flushed admission server number old new is flushed =
      let n : ℕ = old.connection.number in
      let last : Moves n 0 flushed.between new = subst (λ (it : Served S). Moves n 0 flushed.between it) (sym flushed.replies) (moves_replied admission n flushed.between) in
      subst (λ (it : ℕ). Moves it 0 old new) is (moves_then n 0 0 old flushed.between new (moves_reads admission server n flushed.reads old flushed.between flushed.makes) last)

  moves_if : (ready : Bool) (admission : Admission) (server number : ℕ) (old new : Served S) → old.connection.number ≡ number → FlushesIf ready admission server old new → Moves number 0 old new
  moves_if true admission server number old new is flushes = moves_flushed admission server number old new is flushes
  moves_if false admission server number old new is flushes = moves_none number old new flushes

  -- ---- a demand

  moves_pushed : (request : Outstanding Expected Outcome) (ready : Bool) (old new : Served S) → request.connection ≡ old.connection.number → Pushes request old.hub new.hub (Ok ready) → new.connection ≡ old.connection → Moves old.connection.number 1 old new
  moves_pushed request ready old new mine pushes same = record {
    changes = changes_pushed old.connection.number request old.hub new.hub mine pushes.0;
    keeps = ap own same;
  }

  moves_told : (written : Connection) (ready : Bool) (old new : Served S) → own written ≡ own old.connection → Tells written old new (Ok ready) → Moves old.connection.number 1 old new
  moves_told written ready old new kept tells = record {
    changes =
        let none : ChangesBy old.connection.number 0 old.hub new.hub = subst (λ (it : Requests). ChangesBy old.connection.number 0 old.hub it) (sym tells.hub) (changes_none old.connection.number old.hub) in
        record { inputs = none.inputs; own = none.own; hub = none.hub; sends = let few : length (sent old.connection.number none.inputs) ≤ 0 = none.sends in omega (arith, few) };
    keeps = ap own tells.writes.0 ∙ kept;
  }

  moves_asked : (setting : Setting Call) (input : ℕ → HostInput Call) (it : Expected) (ready : Bool) (old new : Served S) → Executes setting input it old new (Ok ready) → Moves old.connection.number 1 old new
  moves_asked setting input it ready old new asks = moves_pushed (outstanding old.connection.number asks.tag it) ready old new (of_connection old.connection.number asks.tag it) asks.pushes asks.connection

  moves_executed : (setting : Setting Call) (moment : Moment) (demand : Demand) (ready : Bool) (old new : Served S) → ExecutesTo setting moment demand old new (Ok ready) → Moves old.connection.number 1 old new
  moves_executed setting moment (demands.Submit session cxid auths asked it) ready old new executes = moves_asked setting (call_of session cxid auths moment.now asked) it ready old new executes
  moves_executed setting moment (demands.Sync it) ready old new executes = moves_asked setting Syncs it ready old new executes
  moves_executed setting moment (demands.Read it) ready old new executes = moves_pushed (request old.connection.number stages.Reads it) ready old new refl executes.pushes executes.connection
  moves_executed setting moment (demands.Reply it) ready old new executes = moves_pushed (known old.connection.number it) ready old new refl executes.pushes executes.connection
  moves_executed setting moment (demands.Print word) ready old new executes = moves_told (printed moment word old) ready old new (printed_keeps (text_of word (status_of old.host.tree.tree (length old.hub) moment)) word old.connection) executes
  moves_executed setting moment (demands.Reject read_only) ready old new executes = moves_told (with_no_session read_only old.connection) ready old new refl executes
  moves_executed setting moment demands.CutOff ready old new executes = moves_told (lost old.connection) ready old new refl executes

  -- ---- frames

  moves_taken : (setting : Setting Call) (moment : Moment) (taken : Taken) (old new : Served S) (admission heard : Admission) → ServesTaken setting moment taken old admission new heard → Moves old.connection.number 1 old new
  moves_taken setting moment taken old new admission heard serves =
      let first : Moves old.connection.number 1 old serves.between = moves_executed setting moment (demand_of heard old.host.tree.tree.last moment.now taken) serves.ready old serves.between serves.executes in
      moves_then old.connection.number 1 0 old serves.between new first
      (moves_if serves.ready heard moment.server old.connection.number serves.between new (ap (λ (it : ℕ × List ℕ). it.0) first.keeps) serves.flushes)

  frame_on : (setting : Setting Call) (moment : Moment) (taken : Taken) (old new : Served S) (admission heard : Admission) → ServesFrame setting moment taken old admission new heard
      → Advances old.connection new.connection × ChangesBy old.connection.number 1 old.hub new.hub
  frame_on setting moment taken old new admission heard frame =
      let on : Advances old.connection frame.connection = subst (λ (it : Connection × Option Taken). Advances old.connection it.0) frame.takes (takes_on old.connection) in
      let moved : Moves frame.connection.number 1 (served old.host old.hub frame.connection) new = moves_taken setting moment taken (served old.host old.hub frame.connection) new admission heard frame.serves in
      (advances_then old.connection frame.connection new.connection on moved.keeps, subst (λ (it : ℕ). ChangesBy it 1 old.hub new.hub) on.number moved.changes)

further : (old between new : Connection) → Advances old between → Advances between new → Advances old new
further old between new first second = record {
  number = second.number ∙ first.number;
  bytes = first.bytes + second.bytes;
  input = second.input ∙ ap (drop second.bytes) first.input ∙ drop-drop second.bytes first.bytes old.input;
}

one_and : (n : ℕ) → 1 + n ≡ suc n
one_and n = omega arith

pub each_frame_once : {S : Type 0} → EachFrameOnce S
each_frame_once {S} setting moment [] old new admission heard serves = (
  subst (λ (it : Served S). Advances old.connection it.connection) (sym serves.0) (stays old.connection),
  subst (λ (it : Served S). ChangesBy old.connection.number 0 old.hub it.hub) (sym serves.0) (changes_none old.connection.number old.hub),
)
each_frame_once {S} setting moment (taken ∷ frames) old new admission heard serves =
    let first : Advances old.connection serves.0.connection × ChangesBy old.connection.number 1 old.hub serves.0.hub = frame_on setting moment taken old serves.0 admission serves.1 serves.2 in
    let rest : Advances serves.0.connection new.connection × ChangesBy serves.0.connection.number (length frames) serves.0.hub new.hub = each_frame_once setting moment frames serves.0 new serves.1 heard serves.3 in (
      further old.connection serves.0.connection new.connection first.0 rest.0,
      subst (λ (frames : ℕ). ChangesBy old.connection.number frames old.hub new.hub) (one_and (length frames))
          (changes_then old.connection.number 1 (length frames) old.hub serves.0.hub new.hub first.1 (subst (λ (it : ℕ). ChangesBy it (length frames) serves.0.hub new.hub) first.0.number rest.1)),
    )
