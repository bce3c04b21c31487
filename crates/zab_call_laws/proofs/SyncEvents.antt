-- Each event keeps what is known of syncs, and a sync that is accepted is written down.
use Rattle.std.proofs.Common.{◌≡◌, ℕ, ◌-◌, ◌<◌, ◌≤◌, ◌==◌, ◌&&◌, not, ◌⊎◌, inl, inr, true, false, List, [], ◌∷◌, ◌++◌, length, Option, Some, None, Result, Ok, Err, refl, sym, ap, subst, ◌∙◌, arith, slice_get}
use Rattle.std.specs.List.{AllByRecursion}
use Rattle.zab_epoch.specs.declared.rule_fault.RuleFault.{RuleFault}
use Rattle.zab_epoch.specs.declared.history.Entry.{Entry}
use Rattle.zab_epoch.specs.declared.message.Body.{Body}
use Rattle.zab_epoch.specs.declared.message.Body.TheVariants.{CEpoch, NewEpoch, AckEpoch, NewLeader, AckLeader, Propose, Ack, Commit, Request, SyncAsk, SyncTell}
use Rattle.zab_epoch.specs.declared.message.Message.{Message}
use Rattle.zab_epoch.specs.declared.role.Role.{Role}
use Rattle.zab_epoch.specs.declared.role.Role.TheVariants as roles
use Rattle.zab_broadcast.specs.declared.state.State.{State}
use Rattle.zab_broadcast.specs.Calls.{Setting, is_taken}
use Rattle.zab_broadcast.specs.Rules as rules
use Rattle.zab_laws.specs.Cores as laws
use Rattle.zab_laws.proofs.Adopting.{begun_above}
use Rattle.zab_rule_laws.specs.Told as told_laws
use Rattle.zab_rule_laws.specs.Told.{laws_of, core_of, told_of, RoleFact, Broadcasts, Stands}
use Rattle.zab_rule_laws.proofs.Staying.{IsLeading, Stays, StaysBy, lead_stays, follow_stays, c_epoch_stays, new_epoch_stays, ack_epoch_stays, new_leader_stays, ack_leader_stays, propose_stays, ack_stays, commit_stays, request_stays, submit_stays, sync_stays, sync_ask_stays, sync_tell_stays}
use Rattle.zab_rule_laws.proofs.TagFacts.{at_key, by_test, cases_eq, at_same, at_other, all_get, same_some, taken_more, taken_last}
use Rattle.zab_model.specs.declared.event.Event.{Event}
use Rattle.zab_model.specs.declared.event.Event.TheVariants.{Lead, Follow, Arrive, Submit, Expire, Sync, Crash, Restart}
use Rattle.zab_model.specs.declared.event.Moved.{Moved}
use Rattle.zab_model.specs.declared.fault.WorldFault.{WorldFault}
use Rattle.zab_model.specs.ProcessStates.{ProcessState, standing}
use Rattle.zab_model.specs.Worlds.{World, Profile, Answer, moved, is_server, server_at, running, resting, told, said, with_server, acts, receives, message_at, arrives, spends, submits, spends_sync, syncs, crashed, crashes, restarts, happens}
use Rattle.zab_model.specs.Runs.{delivered_list, delivered_of}
use Rattle.zab_model.proofs.ServerLists.{found, same_place, up_is, down_is}
use Rattle.zab_agreement_laws.proofs.AgreeEvents.{IsNumbered, WorldStands, KeepsAll, Spares}
use Rattle.zab_agreement_laws.proofs.AgreeEvents as agree
use Rattle.zab_call_laws.proofs.SyncFacts.{Book, Taken, Grows, IsOf, IsWithin, BodyFact, MessageFact, SentFact, ServerFact, IsSynced, ActsFact, Keeps, server_grows, messages_grow}
use Rattle.zab_call_laws.proofs.SyncRules.{lead_keeps, follow_keeps, c_epoch_keeps, new_epoch_keeps, ack_epoch_keeps, new_leader_keeps, ack_leader_keeps, propose_keeps, ack_keeps, commit_keeps, request_keeps, submit_keeps, sync_ask_keeps, sync_tell_keeps, leader_takes, follower_takes}
use Rattle.zab_call_laws.proofs.SyncWorlds.{TakenFact, Knows, AreSpent, same_known, turns_by, turn_known, delivered_length, no_less, acts_known}

-- ---- what an event keeps and adds

-- an event took the sync: at its server, with its current epoch, whose leader had delivered this
-- many
pub record IsTaking {C : Type 0} (g : laws.Ghost Entry) (w : World C) (event : Event C) (answer : Answer) (tag : ℕ) (it : Taken) : Type 0 where
  pub happened : event ≡ Sync it.server tag
  pub sent : Moved
  pub answered : answer ≡ Ok sent
  pub stands : ProcessState
  pub is : server_at w.servers it.server ≡ Some stands
  pub current : stands.state.peer.stable.current ≡ it.epoch
  pub began : laws.Began Entry
  pub began_is : g.began it.epoch ≡ Some began
  pub leader_is : began.leader ≡ it.leader
  pub delivered : it.delivered ≡ length (delivered_of w it.leader)

pub record KeepsBook {C : Type 0} (g : laws.Ghost Entry) (book : Book) (w : World C) (event : Event C) (p : World C × Answer) : Type 0 where
  pub later : Book
  pub grows : Grows book later
  pub known : Knows g later p.0
  pub spent : AreSpent later p.0.tags.syncs
  pub adds : (tag : ℕ) (it : Taken) → later tag ≡ Some it → (book tag ≡ Some it) ⊎ IsTaking g w event p.1 tag it

-- no sync is taken
adds_none : {C : Type 0} (g : laws.Ghost Entry) (book : Book) (w : World C) (event : Event C) (p : World C × Answer) → Knows g book p.0 → AreSpent book p.0.tags.syncs → KeepsBook g book w event p
adds_none g book w event p known spent = record {
  later = book;
  grows = λ tag it is. is;
  known = known;
  spent = spent;
  adds = λ tag it is. inl is;
}

-- ---- tags of syncs that stay

abbrev SameSyncs : {C : Type 0} → World C → World C × Answer → Type 0
SameSyncs w p = p.0.tags.syncs ≡ w.tags.syncs

told_syncs : {C : Type 0} (w : World C) (n : ℕ) (stands : ProcessState) (r : Result (List (Message C)) RuleFault) → SameSyncs w (told (with_server w n stands) (said r))
told_syncs w n stands (Ok messages) = refl
told_syncs w n stands (Err fault) = refl

acts_syncs : {C : Type 0} (w : World C) (n : ℕ) (rule : State → rules.Acts C) (r : Result ProcessState WorldFault) → SameSyncs w (acts w n rule r)
acts_syncs w n rule (Ok it) = told_syncs w n (standing it.up (rule it.state).0) (rule it.state).1
acts_syncs w n rule (Err fault) = refl

-- ---- a server acts by a rule, and takes no sync

abbrev pub Gives : {C : Type 0} → laws.Setting Entry → laws.Ghost Entry → Book → World C → Event C → World C × Answer → Type 0
Gives k g book w event p = (s : KeepsAll k g (Spares event) w p.0) → KeepsBook s.after book w event p

stays_known : {C : Type 0} (k : laws.Setting Entry) (g : laws.Ghost Entry) (book : Book) (w : World C) (event : Event C) (answer : Answer) → Knows g book w → AreSpent book w.tags.syncs → Gives k g book w event (w, answer)
stays_known k g book w event answer b spent s = adds_none s.after book w event (w, answer) (same_known g s.after book w s.grows b) spent

acts_gives : {C : Type 0} (k : laws.Setting Entry) (g : laws.Ghost Entry) (book : Book) (w : World C) (event : Event C) (n : ℕ) (rule : State → rules.Acts C) (r : Result ProcessState WorldFault) → WorldStands k g w → Knows g book w → AreSpent book w.tags.syncs → ((it : ProcessState) → r ≡ Ok it → server_at w.servers n ≡ Some it) → Spares event n → ((it : ProcessState) → server_at w.servers n ≡ Some it → StaysBy it.state (rule it.state)) → ((it : ProcessState) → server_at w.servers n ≡ Some it → Keeps book n it.state (rule it.state)) → Gives k g book w event (acts w n rule r)
acts_gives k g book w event n rule r f b spent is spared stays keeps s =
    adds_none s.after book w event (acts w n rule r)
    (acts_known k g book (Spares event) w n rule r f b is spared stays keeps s)
    (subst (AreSpent book) (sym (acts_syncs w n rule r)) spent)

-- ---- messages

-- an epoch that began is above 0
began_above : {C : Type 0} (k : laws.Setting Entry) (g : laws.Ghost Entry) (w : World C) (n epoch : ℕ) (it : ProcessState) (began : laws.Began Entry) → WorldStands k g w → server_at w.servers n ≡ Some it → g.began epoch ≡ Some began → 0 < epoch
began_above k g w n epoch it began f is at = begun_above k g (core_of it.state) it.state.peer.me (f.servers n it is).stands.kept epoch began at

-- a leader in broadcast is the one that began its epoch
leads_itself : (k : laws.Setting Entry) (g : laws.Ghost Entry) (n : ℕ) (state : State) (began : laws.Began Entry) → IsNumbered k g n state → state.peer.role ≡ roles.Broadcast → g.began state.peer.stable.current ≡ Some began → began.leader ≡ n
leads_itself k g n state began f role is =
    let leads : Broadcasts k g state = subst (RoleFact k g state) role f.stands.role in
    let one : leads.leads.began ≡ began = same_some leads.leads.began began (sym leads.leads.is ∙ is) in
    sym (ap (λ (d : laws.Began Entry). d.leader) one) ∙ (leads.leads.leader ∙ f.me)

-- one that is asked in its epoch has delivered enough
enough : {C : Type 0} (k : laws.Setting Entry) (g : laws.Ghost Entry) (book : Book) (w : World C) (n from epoch tag : ℕ) (it : ProcessState) → WorldStands k g w → Knows g book w → server_at w.servers n ≡ Some it → IsOf book from epoch tag → it.state.peer.role ≡ roles.Broadcast → epoch ≡ it.state.peer.stable.promised → IsWithin book tag it.state.delivered
enough k g book w n from epoch tag it f b is of role same =
    let numbered = f.servers n it is in
    let leads : Broadcasts k g it.state = subst (RoleFact k g it.state) role numbered.stands.role in
    let t = b.taken tag of.it of.is in
    let now : it.state.peer.stable.current ≡ of.it.epoch = sym leads.leads.same ∙ (sym same ∙ sym of.epoch_is) in
    let me : of.it.leader ≡ n = sym t.leader_is ∙ leads_itself k g n it.state t.began numbered role (ap g.began now ∙ t.is) in
    record {
      it = of.it;
      is = of.is;
      low = t.more it (ap (λ u. server_at w.servers u) me ∙ is) (subst IsLeading (sym role) tt) now;
    }

receives_stays : {C : Type 0} (setting : Setting C) (g : laws.Ghost Entry) (from : ℕ) (body : Body C) (state : State) → Stands (laws_of setting.passes) g state → StaysBy state (receives setting from body state)
receives_stays {C} setting g from (CEpoch promised) state f = c_epoch_stays C setting.passes state from promised
receives_stays {C} setting g from (NewEpoch epoch) state f = new_epoch_stays C state from epoch
receives_stays {C} setting g from (AckEpoch epoch vote current last) state f =
    ack_epoch_stays C setting.passes (laws_of setting.passes) g state from epoch vote (record { current = current; last = last }) f
receives_stays {C} setting g from (NewLeader epoch keep rest) state f = new_leader_stays C state from epoch keep rest
receives_stays {C} setting g from (AckLeader epoch count) state f = ack_leader_stays C setting.passes state from epoch count
receives_stays {C} setting g from (Propose epoch index entry) state f = propose_stays C state from epoch index entry
receives_stays {C} setting g from (Ack epoch count) state f = ack_stays C setting.passes state from epoch count
receives_stays {C} setting g from (Commit epoch count) state f = commit_stays C state from epoch count
receives_stays setting g from (Request epoch call) state f = request_stays setting state epoch call
receives_stays {C} setting g from (SyncAsk epoch tag) state f = sync_ask_stays C state from epoch tag
receives_stays {C} setting g from (SyncTell epoch tag count) state f = sync_tell_stays C state from epoch tag count

receives_keeps : {C : Type 0} (setting : Setting C) (g : laws.Ghost Entry) (book : Book) (w : World C) (n from : ℕ) (body : Body C) (it : ProcessState) → WorldStands (laws_of setting.passes) g w → Knows g book w → server_at w.servers n ≡ Some it → told_laws.BodyFact (laws_of setting.passes) g from n body → BodyFact book from body → Keeps book n it.state (receives setting from body it.state)
receives_keeps {C} setting g book w n from (CEpoch promised) it f b is m said = c_epoch_keeps C book setting.passes n it.state from promised (b.servers n it is)
receives_keeps {C} setting g book w n from (NewEpoch epoch) it f b is m said = new_epoch_keeps C book n it.state from epoch (b.servers n it is)
receives_keeps {C} setting g book w n from (AckEpoch epoch vote current last) it f b is m said =
    ack_epoch_keeps C book setting.passes n it.state from epoch vote (record { current = current; last = last }) (b.servers n it is)
receives_keeps {C} setting g book w n from (NewLeader epoch keep rest) it f b is m said =
    new_leader_keeps C book n it.state from epoch keep rest (b.servers n it is)
    (began_above (laws_of setting.passes) g w n epoch it m.of.began f is m.of.is)
receives_keeps {C} setting g book w n from (AckLeader epoch count) it f b is m said = ack_leader_keeps C book setting.passes n it.state from epoch count (b.servers n it is)
receives_keeps {C} setting g book w n from (Propose epoch index entry) it f b is m said = propose_keeps C book n it.state from epoch index entry (b.servers n it is)
receives_keeps {C} setting g book w n from (Ack epoch count) it f b is m said = ack_keeps C book setting.passes n it.state from epoch count (b.servers n it is)
receives_keeps {C} setting g book w n from (Commit epoch count) it f b is m said = commit_keeps C book n it.state from epoch count (b.servers n it is)
receives_keeps setting g book w n from (Request epoch call) it f b is m said = request_keeps setting book n it.state epoch call (b.servers n it is)
receives_keeps {C} setting g book w n from (SyncAsk epoch tag) it f b is m said =
    sync_ask_keeps C book n it.state from epoch tag (b.servers n it is)
    (λ role same. enough (laws_of setting.passes) g book w n from epoch tag it f b is said role same)
receives_keeps {C} setting g book w n from (SyncTell epoch tag count) it f b is m said = sync_tell_keeps C book n it.state from epoch tag count (b.servers n it is) said

abbrev MaybeFact : {C : Type 0} → Book → Option (Message C) → Type 0
MaybeFact book None = Unit {0}
MaybeFact book (Some m) = MessageFact book m

maybe_get : {C : Type 0} (book : Book) (messages : List (Message C)) (i : ℕ) (o : Option (Message C)) → AllByRecursion (MessageFact book) messages → slice_get messages i ≡ o → MaybeFact book o
maybe_get book messages i None f is = tt
maybe_get book messages i (Some m) f is = all_get (MessageFact book) messages i m f is

message_fact : {C : Type 0} (book : Book) (messages : List (Message C)) (number : ℕ) → AllByRecursion (MessageFact book) messages → MaybeFact book (message_at messages number)
message_fact book messages number f =
    by_test (MaybeFact book) (number == 0) None (slice_get messages (number - 1)) (λ e. tt) (λ e. maybe_get book messages (number - 1) (slice_get messages (number - 1)) f refl)

arrives_gives : {C : Type 0} (setting : Setting C) (g : laws.Ghost Entry) (book : Book) (w : World C) (event : Event C) (m : Option (Message C)) → WorldStands (laws_of setting.passes) g w → Knows g book w → AreSpent book w.tags.syncs → ((n : ℕ) → Spares event n) → agree.MaybeFact (laws_of setting.passes) g m → MaybeFact book m → Gives (laws_of setting.passes) g book w event (arrives setting w m)
arrives_gives setting g book w event None f b spent spared old said = stays_known (laws_of setting.passes) g book w event _ b spent
arrives_gives setting g book w event (Some m) f b spent spared old said =
    acts_gives (laws_of setting.passes) g book w event m.addressee (receives setting m.sender m.body) (running w.servers m.addressee) f b spent
    (λ it is. up_is (server_at w.servers m.addressee) it is)
    (spared m.addressee)
    (λ it is. receives_stays setting g m.sender m.body it.state (f.servers m.addressee it is).stands)
    (λ it is. receives_keeps setting g book w m.addressee m.sender m.body it f b is old said)

-- ---- calls

-- a call's tag is no sync's
spends_gives : {C : Type 0} (g : laws.Ghost Entry) (book : Book) (w : World C) (event : Event C) (t : ℕ) (p : World C × Answer) → Knows g book p.0 → AreSpent book p.0.tags.syncs → KeepsBook g book w event (spends t p)
spends_gives g book w event t (v, Ok numbers) known spent =
    adds_none g book w event (spends t (v, Ok numbers)) (record { servers = known.servers; messages = known.messages; taken = known.taken }) spent
spends_gives g book w event t (v, Err fault) known spent = adds_none g book w event (v, Err fault) known spent

-- what is kept of a world whose tags are spent is kept of the world
unspent : {C : Type 0} (k : laws.Setting Entry) (g : laws.Ghost Entry) (spares : ℕ → Type 0) (w : World C) (t : ℕ) (p : World C × Answer) → (s : KeepsAll k g spares w (spends t p).0) → (o : KeepsAll k g spares w p.0) × (o.after ≡ s.after)
unspent k g spares w t (v, Ok numbers) s = (
  record {
    after = s.after;
    grows = s.grows;
    stands = record { facts = s.stands.facts; servers = s.stands.servers; messages = s.stands.messages };
    more = s.more;
    writes = s.writes;
  },
  refl,
)
unspent k g spares w t (v, Err fault) s = (s, refl)

submits_gives : {C : Type 0} (setting : Setting C) (g : laws.Ghost Entry) (book : Book) (w : World C) (event : Event C) (n : ℕ) (call : C) (r : Result ProcessState WorldFault) → WorldStands (laws_of setting.passes) g w → Knows g book w → AreSpent book w.tags.syncs → ((it : ProcessState) → r ≡ Ok it → server_at w.servers n ≡ Some it) → Spares event n → Gives (laws_of setting.passes) g book w event (submits setting w n call r)
submits_gives setting g book w event n call (Err fault) f b spent is spared = stays_known (laws_of setting.passes) g book w event _ b spent
submits_gives {C} setting g book w event n call (Ok it) f b spent is spared =
    let k : laws.Setting Entry = laws_of setting.passes in
    let rule : State → rules.Acts C = λ state. rules.submit setting state call in
    by_test (Gives k g book w event) (rules.is_serving it.state.peer.role) _ _
    (λ serving. by_test (Gives k g book w event) (is_taken (setting.tag call) w.tags.calls) _ _
    (λ again. stays_known k g book w event _ b spent)
    (λ free s.
    (let o = unspent k g (Spares event) w (setting.tag call) (acts w n rule (Ok it)) s in
    spends_gives s.after book w event (setting.tag call) (acts w n rule (Ok it))
    (subst (λ (y : laws.Ghost Entry). Knows y book (acts w n rule (Ok it)).0) o.1
    (acts_known k g book (Spares event) w n rule (Ok it) f b is spared
    (λ one at. submit_stays setting one.state call)
    (λ one at. submit_keeps setting book n one.state call (b.servers n one at)) o.0))
    (subst (AreSpent book) (sym (acts_syncs w n rule (Ok it))) spent))))
    (λ no. stays_known k g book w event _ b spent)

-- ---- crashes

crashes_gives : {C : Type 0} (k : laws.Setting Entry) (g : laws.Ghost Entry) (book : Book) (w : World C) (event : Event C) (n : ℕ) (r : Result ProcessState WorldFault) → WorldStands k g w → Knows g book w → AreSpent book w.tags.syncs → ((it : ProcessState) → r ≡ Ok it → server_at w.servers n ≡ Some it) → Gives k g book w event (crashes w n r)
crashes_gives k g book w event n (Err fault) f b spent is s = stays_known k g book w event _ b spent s
crashes_gives k g book w event n (Ok it) f b spent is s =
    adds_none s.after book w event (crashes w n (Ok it))
    (turn_known k g s.after book w n it (standing false (crashed it.state)) (Ok []) s.grows f b (is it refl)
    (record { asked = tt; caught = tt; synced = λ synced. absurd synced })
    (λ epoch leads now within. absurd leads) tt)
    spent

restarts_gives : {C : Type 0} (k : laws.Setting Entry) (g : laws.Ghost Entry) (book : Book) (w : World C) (event : Event C) (n : ℕ) (r : Result ProcessState WorldFault) → WorldStands k g w → Knows g book w → AreSpent book w.tags.syncs → ((it : ProcessState) → r ≡ Ok it → server_at w.servers n ≡ Some it) → Gives k g book w event (restarts w n r)
restarts_gives k g book w event n (Err fault) f b spent is s = stays_known k g book w event _ b spent s
restarts_gives k g book w event n (Ok it) f b spent is s =
    adds_none s.after book w event (restarts w n (Ok it))
    (turn_known k g s.after book w n it (standing true it.state) (Ok []) s.grows f b (is it refl)
    (b.servers n it (is it refl))
    (λ epoch leads now within. (leads, now, omega arith)) tt)
    spent

-- ---- a sync is written down

abbrev writing : Book → ℕ → Taken → Book
writing book tag it = at_key book tag (Some it)

writing_grows : (book : Book) (tag : ℕ) (it : Taken) → book tag ≡ None → Grows book (writing book tag it)
writing_grows book tag it fresh t other is = elim (cases_eq t tag) [
  | inl same ↦ absurd (let e : None ≡ Some other = sym fresh ∙ (ap book (sym same) ∙ is) in cc)
  | inr differs ↦ at_other book tag (Some it) t differs ∙ is
]

-- only this one is new
written : (book : Book) (tag : ℕ) (it : Taken) (t : ℕ) (other : Taken) → writing book tag it t ≡ Some other → (book t ≡ Some other) ⊎ ((t ≡ tag) × (it ≡ other))
written book tag it t other is = elim (cases_eq t tag) [
  | inl same ↦ inr (same, same_some it other (sym (at_same book tag (Some it)) ∙ (ap (writing book tag it) (sym same) ∙ is)))
  | inr differs ↦ inl (sym (at_other book tag (Some it) t differs) ∙ is)
]

-- a tag that is not spent was not taken
fresh_by : (book : Book) (tags : List ℕ) (tag : ℕ) (o : Option Taken) → AreSpent book tags → is_taken tag tags ≡ false → book tag ≡ o → book tag ≡ None
fresh_by book tags tag None spent free is = is
fresh_by book tags tag (Some it) spent free is = absurd (let no : true ≡ false = sym (spent tag it is) ∙ free in cc)

writing_known : {C : Type 0} (g : laws.Ghost Entry) (book : Book) (w : World C) (tag : ℕ) (it : Taken) → book tag ≡ None → Knows g book w → TakenFact g w.servers it → Knows g (writing book tag it) w
writing_known g book w tag it fresh b t =
    let grows = writing_grows book tag it fresh in
    record {
      servers = λ n stands is. server_grows book (writing book tag it) n stands.state grows (b.servers n stands is);
      messages = messages_grow book (writing book tag it) w.messages grows b.messages;
      taken = λ other y is. elim (written book tag it other y is) [
        | inl old ↦ b.taken other y old
        | inr now ↦ subst (TakenFact g w.servers) now.1 t
      ];
    }

writing_spent : (book : Book) (tags : List ℕ) (tag : ℕ) (it : Taken) → AreSpent book tags → AreSpent (writing book tag it) (tags ++ tag ∷ [])
writing_spent book tags tag it spent other y is = elim (written book tag it other y is) [
  | inl old ↦ taken_more other tags (tag ∷ []) (spent other y old)
  | inr now ↦ subst (λ u. is_taken u (tags ++ tag ∷ []) ≡ true) (sym now.0) (taken_last tag tags)
]

-- ---- a sync that is accepted

-- what is written: the server, its epoch, that epoch's leader, and how many the leader has
-- delivered
abbrev taking : {C : Type 0} → World C → ℕ → State → laws.Began Entry → Taken
taking w n state began = record {
  server = n;
  epoch = state.peer.stable.current;
  leader = began.leader;
  delivered = length (delivered_of w began.leader);
}

-- a leader has delivered what it has
taking_fact : {C : Type 0} (k : laws.Setting Entry) (g : laws.Ghost Entry) (w : World C) (n : ℕ) (state : State) (began : laws.Began Entry) → WorldStands k g w → g.began state.peer.stable.current ≡ Some began → TakenFact g w.servers (taking w n state began)
taking_fact k g w n state began f is = record {
  began = began;
  is = is;
  leader_is = refl;
  more = λ stands at leads now.
      (let long : length (told_of stands.state) ≡ stands.state.delivered = delivered_length k g began.leader stands.state (f.servers began.leader stands at) in
      let has : length (delivered_of w began.leader) ≡ length (told_of stands.state) = ap (λ (o : Option ProcessState). length (delivered_list o)) at in
      omega arith);
}

-- the epoch of a server that serves has begun
serving_began : (k : laws.Setting Entry) (g : laws.Ghost Entry) (book : Book) (n : ℕ) (state : State) (role : Role) → state.peer.role ≡ role → rules.is_serving role ≡ true → IsNumbered k g n state → ServerFact book n state → (began : laws.Began Entry) × (g.began state.peer.stable.current ≡ Some began)
serving_began k g book n state roles.Broadcast at serving f b =
    let leads : Broadcasts k g state = subst (RoleFact k g state) at f.stands.role in
    (leads.leads.began, leads.leads.is)
serving_began k g book n state (roles.Following leader synced) at serving f b =
    let above : 0 < state.peer.stable.current = b.synced (subst IsSynced (sym at) serving) in
    let of = f.stands.kept.facts.of_leader state.peer.me state.peer.stable.current state.peer.stable.history f.stands.kept.sound.held_now above in
    (of.began, of.is)
serving_began k g book n state roles.Looking at serving f b = absurd cc
serving_began k g book n state (roles.Discover heard) at serving f b = absurd cc
serving_began k g book n state (roles.Choose votes joiners) at serving f b = absurd cc
serving_began k g book n state roles.Sync at serving f b = absurd cc

-- the rule does not fail, and keeps what is known
record IsAccepted {C : Type 0} (book : Book) (n : ℕ) (acts : rules.Acts C) : Type 0 where
  pub sent : List (Message C)
  pub is : acts.1 ≡ Ok sent
  pub fact : ActsFact book n acts

sync_taken : (C : Type 0) (k : laws.Setting Entry) (g : laws.Ghost Entry) (book : Book) (n tag : ℕ) (state : State) (role : Role) (it : Taken) → state.peer.role ≡ role → rules.is_serving role ≡ true → IsNumbered k g n state → ServerFact book n state → book tag ≡ Some it → it.server ≡ n → it.epoch ≡ state.peer.stable.current → (role ≡ roles.Broadcast → it.delivered ≤ state.delivered) → IsAccepted {C = C} book n (rules.sync_as state tag role)
sync_taken C k g book n tag state roles.Broadcast it at serving f b is server epoch low =
    record { sent = []; is = refl; fact = leader_takes C book n state tag it b is server (low refl) }
sync_taken C k g book n tag state (roles.Following leader true) it at serving f b is server epoch low = record {
  sent = _;
  is = refl;
  fact = follower_takes C book n state tag leader it b is server epoch f.me;
}
sync_taken C k g book n tag state (roles.Following leader false) it at serving f b is server epoch low = absurd cc
sync_taken C k g book n tag state roles.Looking it at serving f b is server epoch low = absurd cc
sync_taken C k g book n tag state (roles.Discover heard) it at serving f b is server epoch low = absurd cc
sync_taken C k g book n tag state (roles.Choose votes joiners) it at serving f b is server epoch low = absurd cc
sync_taken C k g book n tag state roles.Sync it at serving f b is server epoch low = absurd cc

-- the server's rule, and what it says
sync_step : {C : Type 0} (k : laws.Setting Entry) (g : laws.Ghost Entry) (book : Book) (w : World C) (n tag : ℕ) (it stands : ProcessState) (began : laws.Began Entry) (r : Result (List (Message C)) RuleFault) (messages : List (Message C)) → r ≡ Ok messages → WorldStands k g w → Knows g book w → AreSpent book w.tags.syncs → book tag ≡ None → server_at w.servers n ≡ Some it → g.began it.state.peer.stable.current ≡ Some began → Stays it.state.peer stands.state.peer → ServerFact (writing book tag (taking w n it.state began)) n stands.state → SentFact (writing book tag (taking w n it.state began)) r → Gives k g book w (Sync n tag) (spends_sync tag (told (with_server w n stands) (said r)))
sync_step k g book w n tag it stands began (Err fault) messages ok f b spent fresh is at stays fact sent s = absurd cc
sync_step {C} k g book w n tag it stands began (Ok sends) messages ok f b spent fresh is at stays fact sent s =
    let y : Taken = taking w n it.state began in
    let p : World C × Answer = spends_sync tag (told (with_server w n stands) (Ok sends)) in
    let low : it.state.delivered ≤ stands.state.delivered =
    no_less k g s.after w p.0 n it stands f s.stands is (same_place w.servers n it stands (found w.servers n it is)) (s.more n (λ e. absurd cc)) in
    let known = turn_known k g s.after (writing book tag y) w n it stands (Ok sends) s.grows f
    (writing_known g book w tag y fresh b (taking_fact k g w n it.state began f at)) is fact (turns_by it.state stands.state stays low) sent in
    record {
      later = writing book tag y;
      grows = writing_grows book tag y fresh;
      known = record { servers = known.servers; messages = known.messages; taken = known.taken };
      spent = writing_spent book w.tags.syncs tag y spent;
      adds = λ t other now. elim (written book tag y t other now) [
        | inl old ↦ inl old
        | inr this ↦ inr (subst (λ u. IsTaking s.after w (Sync n tag) p.1 u other) (sym this.0)
            (subst (IsTaking s.after w (Sync n tag) p.1 tag) this.1 (record {
              happened = refl;
              sent = moved (length w.messages) (length sends);
              answered = refl;
              stands = it;
              is = is;
              current = refl;
              began = began;
              began_is = s.grows.began it.state.peer.stable.current began at;
              leader_is = refl;
              delivered = refl;
            })))
      ];
    }

syncs_gives : {C : Type 0} (k : laws.Setting Entry) (g : laws.Ghost Entry) (book : Book) (w : World C) (n tag : ℕ) (r : Result ProcessState WorldFault) → WorldStands k g w → Knows g book w → AreSpent book w.tags.syncs → ((it : ProcessState) → r ≡ Ok it → server_at w.servers n ≡ Some it) → Gives k g book w (Sync n tag) (syncs w n tag r)
syncs_gives k g book w n tag (Err fault) f b spent is = stays_known k g book w (Sync n tag) _ b spent
syncs_gives {C} k g book w n tag (Ok it) f b spent is =
    let here = is it refl in
    let numbered = f.servers n it here in
    by_test (Gives k g book w (Sync n tag)) (rules.is_serving it.state.peer.role) _ _
    (λ serving. by_test (Gives k g book w (Sync n tag)) (is_taken tag w.tags.syncs) _ _
    (λ again. stays_known k g book w (Sync n tag) _ b spent)
    (λ free.
    (let b0 = serving_began k g book n it.state it.state.peer.role refl serving numbered (b.servers n it here) in
    let y : Taken = taking w n it.state b0.0 in
    let fresh : book tag ≡ None = fresh_by book w.tags.syncs tag (book tag) spent free refl in
    let later : Book = writing book tag y in
    let t = taking_fact k g w n it.state b0.0 f b0.1 in
    let a = sync_taken C k g later n tag it.state it.state.peer.role y refl serving numbered
    (server_grows book later n it.state (writing_grows book tag y fresh) (b.servers n it here))
    (at_same book tag (Some y)) refl refl
    (λ role. t.more it (ap (λ u. server_at w.servers u) (leads_itself k g n it.state b0.0 numbered role b0.1) ∙ here) (subst IsLeading (sym role) tt) refl) in
    sync_step k g book w n tag it (standing it.up (rules.sync {C = C} it.state tag).0) b0.0 (rules.sync it.state tag).1 a.sent a.is f b spent fresh here b0.1
    (sync_stays C it.state tag) a.fact.server a.fact.sent)))
    (λ no. stays_known k g book w (Sync n tag) _ b spent)

-- ---- events

pub happens_gives : {C : Type 0} (profile : Profile C) (g : laws.Ghost Entry) (book : Book) (w : World C) (event : Event C) → WorldStands (laws_of profile.setting.passes) g w → Knows g book w → AreSpent book w.tags.syncs → Gives (laws_of profile.setting.passes) g book w event (happens profile w event)
happens_gives {C} profile g book w (Lead n) f b spent =
    acts_gives (laws_of profile.setting.passes) g book w (Lead n) n rules.lead (running w.servers n) f b spent (λ it is. up_is (server_at w.servers n) it is)
    (λ e. absurd cc) (λ it is. lead_stays C it.state) (λ it is. lead_keeps C book n it.state (b.servers n it is))
happens_gives {C} profile g book w (Follow n leader) f b spent =
    by_test (Gives (laws_of profile.setting.passes) g book w (Follow n leader)) (is_server (length w.servers) leader && not (n == leader)) _ _
    (λ e. acts_gives (laws_of profile.setting.passes) g book w (Follow n leader) n (λ state. rules.follow state leader) (running w.servers n) f b spent (λ it is. up_is (server_at w.servers n) it is)
    (λ crash. absurd cc) (λ it is. follow_stays C it.state leader) (λ it is. follow_keeps C book n it.state leader (b.servers n it is)))
    (λ e. stays_known (laws_of profile.setting.passes) g book w (Follow n leader) _ b spent)
happens_gives profile g book w (Arrive number) f b spent =
    arrives_gives profile.setting g book w (Arrive number) (message_at w.messages number) f b spent (λ n crash. absurd cc)
    (agree.message_fact (laws_of profile.setting.passes) g w.messages number f.messages) (message_fact book w.messages number b.messages)
happens_gives profile g book w (Submit n call) f b spent =
    submits_gives profile.setting g book w (Submit n call) n call (running w.servers n) f b spent (λ it is. up_is (server_at w.servers n) it is) (λ crash. absurd cc)
happens_gives profile g book w (Expire n tag session now) f b spent =
    submits_gives profile.setting g book w (Expire n tag session now) n (profile.closing tag session now) (running w.servers n) f b spent (λ it is. up_is (server_at w.servers n) it is) (λ crash. absurd cc)
happens_gives profile g book w (Sync n tag) f b spent =
    syncs_gives (laws_of profile.setting.passes) g book w n tag (running w.servers n) f b spent (λ it is. up_is (server_at w.servers n) it is)
happens_gives profile g book w (Crash n) f b spent =
    crashes_gives (laws_of profile.setting.passes) g book w (Crash n) n (running w.servers n) f b spent (λ it is. up_is (server_at w.servers n) it is)
happens_gives profile g book w (Restart n) f b spent =
    restarts_gives (laws_of profile.setting.passes) g book w (Restart n) n (resting w.servers n) f b spent (λ it is. down_is (server_at w.servers n) it is)
