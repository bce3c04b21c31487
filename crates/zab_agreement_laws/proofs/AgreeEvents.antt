-- Each event keeps what is known of promises, epochs and histories.
use Rattle.std.proofs.Common.{◌≡◌, ◌≢◌, ℕ, ◌-◌, ◌==◌, ◌&&◌, not, ◌⊎◌, inl, inr, true, false, List, [], length, set, Option, Some, None, Result, Ok, Err, refl, sym, ap, subst, ◌∙◌, arith, slice_get}
use Rattle.std.specs.List.{AllByRecursion}
use Rattle.zab_epoch.specs.declared.rule_fault.RuleFault.{RuleFault}
use Rattle.zab_epoch.specs.declared.history.Entry.{Entry}
use Rattle.zab_epoch.specs.declared.message.Body.{Body}
use Rattle.zab_epoch.specs.declared.message.Body.TheVariants.{CEpoch, NewEpoch, AckEpoch, NewLeader, AckLeader, Propose, Ack, Commit, Request, SyncAsk, SyncTell}
use Rattle.zab_epoch.specs.declared.message.Message.{Message}
use Rattle.zab_broadcast.specs.declared.state.State.{State}
use Rattle.zab_broadcast.specs.Calls.{Setting, is_taken}
use Rattle.zab_broadcast.specs.Rules as rules
use Rattle.zab_laws.specs.Prefixes.{IsPrefix}
use Rattle.zab_laws.specs.Cores as laws
use Rattle.zab_laws.proofs.PrefixLaws.{prefix_refl}
use Rattle.zab_laws.proofs.Keeping.{grows_refl, keeps_crash}
use Rattle.zab_rule_laws.specs.Told.{laws_of, core_of, told_of, BodyFact, MessageFact, SentFact, Owes, OwesOf, Stands}
use Rattle.zab_rule_laws.proofs.Common.{by_test, stays}
use Rattle.zab_rule_laws.proofs.Telling.{all_append}
use Rattle.zab_rule_laws.proofs.Growing.{messages_grow, stands_after, stands_still}
use Rattle.zab_rule_laws.proofs.Hearing.{CarriesZxid, lead_owes, follow_owes, hears_c_epoch, hears_new_epoch, hears_ack_epoch, hears_new_leader, hears_ack_leader, hears_propose, hears_ack, hears_commit, hears_request, hears_sync_ask, hears_sync_tell, submit_owes, sync_owes}
use Rattle.zab_rule_laws.proofs.TagFacts.{cases_eq, all_get, same_some}
use Rattle.zab_model.specs.declared.event.Event.{Event}
use Rattle.zab_model.specs.declared.event.Event.TheVariants.{Lead, Follow, Arrive, Submit, Expire, Sync, Crash, Restart}
use Rattle.zab_model.specs.declared.fault.WorldFault.{WorldFault}
use Rattle.zab_model.specs.ProcessStates.{ProcessState, standing}
use Rattle.zab_model.specs.Worlds.{World, Profile, Answer, is_server, server_at, running, resting, told, said, with_server, acts, receives, message_at, arrives, spends, submits, spends_sync, syncs, crashed, crashes, restarts, happens}
use Rattle.zab_model.specs.Runs.{delivered_list, delivered_of}
use Rattle.zab_agreement_laws.specs.Moments.{Holds, Synchronizes}
use Rattle.zab_model.proofs.ServerLists.{found, same_place, other_place, other_same, up_is, down_is}

-- ---- what is known of a world

-- a server with its number
pub record IsNumbered (k : laws.Setting Entry) (g : laws.Ghost Entry) (n : ℕ) (state : State) : Type 0 where
  pub me : state.peer.me ≡ n
  pub stands : Stands k g state

pub record WorldStands {C : Type 0} (k : laws.Setting Entry) (g : laws.Ghost Entry) (w : World C) : Type 0 where
  pub facts : laws.AreFacts k g
  pub servers : (n : ℕ) (it : ProcessState) → server_at w.servers n ≡ Some it → IsNumbered k g n it.state
  pub messages : AllByRecursion (MessageFact k g) w.messages

-- what is newly written is what a server now has
pub record Writes (g after : laws.Ghost Entry) (servers : List ProcessState) : Type 0 where
  pub held : (n epoch : ℕ) (h : List Entry) → after.held n epoch ≡ Some h → (g.held n epoch ≡ Some h) ⊎ Holds servers n epoch h
  pub began : (epoch : ℕ) (b : laws.Began Entry) → after.began epoch ≡ Some b → (g.began epoch ≡ Some b) ⊎ Synchronizes servers b.leader epoch b.start

nothing_written : (g : laws.Ghost Entry) (servers : List ProcessState) → Writes g g servers
nothing_written g servers = record { held = λ n epoch h is. inl is; began = λ epoch b is. inl is }

-- an event keeps it, and nobody that it spares delivers less
pub record KeepsAll {C : Type 0} (k : laws.Setting Entry) (g : laws.Ghost Entry) (spares : ℕ → Type 0) (w next : World C) : Type 0 where
  pub after : laws.Ghost Entry
  pub grows : laws.Grows g after
  pub stands : WorldStands k after next
  pub more : (n : ℕ) → spares n → IsPrefix (delivered_of w n) (delivered_of next n)
  pub writes : Writes g after next.servers

same_world : {C : Type 0} (k : laws.Setting Entry) (g : laws.Ghost Entry) (spares : ℕ → Type 0) (w : World C) → WorldStands k g w → KeepsAll k g spares w w
same_world k g spares w f = record {
  after = g;
  grows = grows_refl g;
  stands = f;
  more = λ n spared. prefix_refl (delivered_of w n);
  writes = nothing_written g w.servers;
}

-- ---- a server stands otherwise

numbered_at : (k : laws.Setting Entry) (g y : laws.Ghost Entry) (servers : List ProcessState) (n s : ℕ) (c : laws.Core Entry) (it stands : ProcessState) → server_at servers n ≡ Some it → s ≡ n → laws.Keeps k g y s c → ((j : ℕ) (other : ProcessState) → server_at servers j ≡ Some other → IsNumbered k g j other.state) → IsNumbered k y n stands.state → (j : ℕ) (other : ProcessState) → server_at (set servers (n - 1) stands) j ≡ Some other → IsNumbered k y j other.state
numbered_at k g y servers n s c it stands is here keeps facts fact j other at =
    let place = found servers n it is in
    elim (cases_eq j n) [
      | inl same ↦
          (let there : Some stands ≡ Some other =
          sym (same_place servers n it stands place) ∙ (ap (λ u. server_at (set servers (n - 1) stands) u) (sym same) ∙ at) in
          let one : stands ≡ other = same_some stands other there in
          subst (λ u. IsNumbered k y u other.state) (sym same) (subst (λ (o : ProcessState). IsNumbered k y n o.state) one fact))
      | inr differs ↦
          (let f = facts j other (other_place servers n j stands other place.above differs at) in
          record {
            me = f.me;
            stands = stands_still k g y s c other.state keeps (λ e. differs (sym f.me ∙ (e ∙ here))) f.stands;
          })
    ]

more_at : (servers : List ProcessState) (n : ℕ) (it stands : ProcessState) → server_at servers n ≡ Some it → IsPrefix (told_of it.state) (told_of stands.state) → (j : ℕ) → IsPrefix (delivered_list (server_at servers j)) (delivered_list (server_at (set servers (n - 1) stands) j))
more_at servers n it stands is more j =
    let place = found servers n it is in
    elim (cases_eq j n) [
      | inl same ↦
          subst (λ u. IsPrefix (delivered_list (server_at servers u)) (delivered_list (server_at (set servers (n - 1) stands) u))) (sym same)
          (subst (λ (o : Option ProcessState). IsPrefix (delivered_list o) (delivered_list (server_at (set servers (n - 1) stands) n))) (sym is)
          (subst (λ (o : Option ProcessState). IsPrefix (told_of it.state) (delivered_list o)) (sym (same_place servers n it stands place)) more))
      | inr differs ↦
          subst (λ (o : Option ProcessState). IsPrefix (delivered_list (server_at servers j)) (delivered_list o))
          (sym (other_same servers n j stands place.above differs)) (prefix_refl (delivered_list (server_at servers j)))
    ]

-- ---- a server acts

told_keeps : {C : Type 0} (k : laws.Setting Entry) (g y : laws.Ghost Entry) (spares : ℕ → Type 0) (w : World C) (n : ℕ) (stands : ProcessState) (r : Result (List (Message C)) RuleFault) → laws.Grows g y → Writes g y (set w.servers (n - 1) stands) → laws.AreFacts k y → ((j : ℕ) (other : ProcessState) → server_at (set w.servers (n - 1) stands) j ≡ Some other → IsNumbered k y j other.state) → AllByRecursion (MessageFact k g) w.messages → SentFact k y r → ((j : ℕ) → spares j → IsPrefix (delivered_of w j) (delivered_list (server_at (set w.servers (n - 1) stands) j))) → KeepsAll k g spares w (told (with_server w n stands) (said r)).0
told_keeps k g y spares w n stands (Ok messages) grows writes facts servers before sent more = record {
  after = y;
  grows = grows;
  stands = record {
    facts = facts;
    servers = servers;
    messages = all_append (MessageFact k y) w.messages messages (messages_grow k g y grows w.messages before) sent;
  };
  more = more;
  writes = writes;
}
told_keeps k g y spares w n stands (Err fault) grows writes facts servers before sent more = record {
  after = y;
  grows = grows;
  stands = record { facts = facts; servers = servers; messages = messages_grow k g y grows w.messages before };
  more = more;
  writes = writes;
}

-- what a rule writes is what its server now has
act_writes : {C : Type 0} (k : laws.Setting Entry) (g : laws.Ghost Entry) (servers : List ProcessState) (n s : ℕ) (it next : ProcessState) (before : List Entry) (acts : rules.Acts C) → server_at servers n ≡ Some it → s ≡ n → next.state ≡ acts.0 → (o : Owes k g s before acts) → Writes g o.ghost (set servers (n - 1) next)
act_writes {C} k g servers n s it next before acts is here same o = record {
  held = λ m epoch h at. elim (o.keeps.held_new m epoch h at) [
    | inl old ↦ inl old
    | inr now ↦ inr (record {
      stands = next;
      is = there m (now.server ∙ here);
      current = ap (λ (x : State). x.peer.stable.current) same ∙ sym now.epoch;
      history_is = ap (λ (x : State). x.peer.stable.history) same ∙ sym now.history;
    })
  ];
  began = λ epoch b at. elim (o.keeps.began_new epoch b at) [
    | inl old ↦ inl old
    | inr now ↦ elim o.begins [
      | inl none ↦ inl (none epoch b at)
      | inr sync ↦ inr (record {
        holds = record {
          stands = next;
          is = there b.leader (now.server ∙ here);
          current = ap (λ (x : State). x.peer.stable.current) same ∙ sym now.epoch;
          history_is = ap (λ (x : State). x.peer.stable.history) same ∙ sym now.history;
        };
        role = ap (λ (x : State). x.peer.role) same ∙ sync;
      })
    ]
  ];
}
  where
    there : (m : ℕ) → m ≡ n → server_at (set servers (n - 1) next) m ≡ Some next
    there m e = subst (λ u. server_at (set servers (n - 1) next) u ≡ Some next) (sym e) (same_place servers n it next (found servers n it is))

acts_keep : {C : Type 0} (k : laws.Setting Entry) (g : laws.Ghost Entry) (spares : ℕ → Type 0) (w : World C) (n : ℕ) (rule : State → rules.Acts C) (r : Result ProcessState WorldFault) → WorldStands k g w → ((it : ProcessState) → r ≡ Ok it → server_at w.servers n ≡ Some it) → ((state : State) → n ≡ state.peer.me → Stands k g state → OwesOf k g state (rule state)) → KeepsAll k g spares w (acts w n rule r).0
acts_keep k g spares w n rule (Err fault) f is owes = same_world k g spares w f
acts_keep k g spares w n rule (Ok it) f is owes =
    let here = is it refl in
    let at = f.servers n it here in
    let o = owes it.state (sym at.me) at.stands in
    let next : ProcessState = standing it.up (rule it.state).0 in
    let writes : Writes g o.ghost (set w.servers (n - 1) next) = act_writes k g w.servers n it.state.peer.me it next (told_of it.state) (rule it.state) here at.me refl o in
    told_keeps k g o.ghost spares w n next (rule it.state).1 o.keeps.grows writes o.keeps.kept.facts
    (numbered_at k g o.ghost w.servers n it.state.peer.me (core_of (rule it.state).0) it next here at.me o.keeps f.servers
    (record { me = o.me ∙ at.me; stands = stands_after k g it.state (rule it.state) at.stands.above o }))
    f.messages o.sent
    (λ j spared. more_at w.servers n it next here o.more j)

-- ---- messages

receives_owe : {C : Type 0} (setting : Setting C) → CarriesZxid setting → laws.Shares (laws_of setting.passes) → (g : laws.Ghost Entry) (from to : ℕ) (body : Body C) (state : State) → to ≡ state.peer.me → BodyFact (laws_of setting.passes) g from to body → Stands (laws_of setting.passes) g state → OwesOf (laws_of setting.passes) g state (receives setting from body state)
receives_owe setting law share g from to (CEpoch promised) state here b f = hears_c_epoch setting.passes g state from promised f
receives_owe setting law share g from to (NewEpoch epoch) state here b f = hears_new_epoch (laws_of setting.passes) g state from epoch f
receives_owe setting law share g from to (AckEpoch epoch vote current last) state here b f =
    hears_ack_epoch setting.passes g state from to epoch vote (record { current = current; last = last }) share f here b
receives_owe setting law share g from to (NewLeader epoch keep rest) state here b f = hears_new_leader setting.passes g state from epoch keep rest share f b
receives_owe setting law share g from to (AckLeader epoch count) state here b f = hears_ack_leader setting.passes g state from epoch count f b
receives_owe setting law share g from to (Propose epoch index entry) state here b f = hears_propose (laws_of setting.passes) g state from epoch index entry share f b
receives_owe setting law share g from to (Ack epoch count) state here b f = hears_ack setting.passes g state from epoch count f b
receives_owe setting law share g from to (Commit epoch count) state here b f = hears_commit (laws_of setting.passes) g state from epoch count f b
receives_owe setting law share g from to (Request epoch call) state here b f = hears_request setting law g state epoch call f
receives_owe setting law share g from to (SyncAsk epoch tag) state here b f = hears_sync_ask (laws_of setting.passes) g state from epoch tag share f
receives_owe setting law share g from to (SyncTell epoch tag count) state here b f = hears_sync_tell (laws_of setting.passes) g state from epoch tag count f b

abbrev pub MaybeFact : {C : Type 0} → laws.Setting Entry → laws.Ghost Entry → Option (Message C) → Type 0
MaybeFact k g None = Unit {0}
MaybeFact k g (Some m) = MessageFact k g m

maybe_get : {C : Type 0} (k : laws.Setting Entry) (g : laws.Ghost Entry) (messages : List (Message C)) (i : ℕ) (o : Option (Message C)) → AllByRecursion (MessageFact k g) messages → slice_get messages i ≡ o → MaybeFact k g o
maybe_get k g messages i None f is = tt
maybe_get k g messages i (Some m) f is = all_get (MessageFact k g) messages i m f is

pub message_fact : {C : Type 0} (k : laws.Setting Entry) (g : laws.Ghost Entry) (messages : List (Message C)) (number : ℕ) → AllByRecursion (MessageFact k g) messages → MaybeFact k g (message_at messages number)
message_fact k g messages number f =
    by_test (MaybeFact k g) (number == 0) None (slice_get messages (number - 1)) (λ e. tt) (λ e. maybe_get k g messages (number - 1) (slice_get messages (number - 1)) f refl)

arrives_keep : {C : Type 0} (setting : Setting C) → CarriesZxid setting → laws.Shares (laws_of setting.passes) → (g : laws.Ghost Entry) (spares : ℕ → Type 0) (w : World C) (m : Option (Message C)) → WorldStands (laws_of setting.passes) g w → MaybeFact (laws_of setting.passes) g m → KeepsAll (laws_of setting.passes) g spares w (arrives setting w m).0
arrives_keep setting law share g spares w None f b = same_world (laws_of setting.passes) g spares w f
arrives_keep setting law share g spares w (Some m) f b =
    acts_keep (laws_of setting.passes) g spares w m.addressee (receives setting m.sender m.body) (running w.servers m.addressee) f
    (λ it is. up_is (server_at w.servers m.addressee) it is)
    (λ state here s. receives_owe setting law share g m.sender m.addressee m.body state here b s)

-- ---- calls

spends_keep : {C : Type 0} (k : laws.Setting Entry) (g : laws.Ghost Entry) (spares : ℕ → Type 0) (w : World C) (t : ℕ) (p : World C × Answer) → KeepsAll k g spares w p.0 → KeepsAll k g spares w (spends t p).0
spends_keep k g spares w t (v, Ok numbers) f = record {
  after = f.after;
  grows = f.grows;
  stands = record { facts = f.stands.facts; servers = f.stands.servers; messages = f.stands.messages };
  more = f.more;
  writes = f.writes;
}
spends_keep k g spares w t (v, Err fault) f = f

submits_keep : {C : Type 0} (setting : Setting C) → CarriesZxid setting → (g : laws.Ghost Entry) (spares : ℕ → Type 0) (w : World C) (n : ℕ) (call : C) (r : Result ProcessState WorldFault) → WorldStands (laws_of setting.passes) g w → ((it : ProcessState) → r ≡ Ok it → server_at w.servers n ≡ Some it) → KeepsAll (laws_of setting.passes) g spares w (submits setting w n call r).0
submits_keep setting law g spares w n call (Err fault) f is = same_world (laws_of setting.passes) g spares w f
submits_keep setting law g spares w n call (Ok it) f is =
    by_test (λ (p : World _ × Answer). KeepsAll (laws_of setting.passes) g spares w p.0) (rules.is_serving it.state.peer.role) _ _
    (λ serving. by_test (λ (p : World _ × Answer). KeepsAll (laws_of setting.passes) g spares w p.0) (is_taken (setting.tag call) w.tags.calls) _ _
    (λ again. same_world (laws_of setting.passes) g spares w f)
    (λ free. spends_keep (laws_of setting.passes) g spares w (setting.tag call) (acts w n (λ state. rules.submit setting state call) (Ok it))
    (acts_keep (laws_of setting.passes) g spares w n (λ state. rules.submit setting state call) (Ok it) f is
    (λ state here s. submit_owes setting law g state call s))))
    (λ no. same_world (laws_of setting.passes) g spares w f)

-- ---- syncs

spends_sync_keep : {C : Type 0} (k : laws.Setting Entry) (g : laws.Ghost Entry) (spares : ℕ → Type 0) (w : World C) (t : ℕ) (p : World C × Answer) → KeepsAll k g spares w p.0 → KeepsAll k g spares w (spends_sync t p).0
spends_sync_keep k g spares w t (v, Ok numbers) f = record {
  after = f.after;
  grows = f.grows;
  stands = record { facts = f.stands.facts; servers = f.stands.servers; messages = f.stands.messages };
  more = f.more;
  writes = f.writes;
}
spends_sync_keep k g spares w t (v, Err fault) f = f

syncs_keep : {C : Type 0} (k : laws.Setting Entry) (g : laws.Ghost Entry) (spares : ℕ → Type 0) (w : World C) (n tag : ℕ) (r : Result ProcessState WorldFault) → WorldStands k g w → ((it : ProcessState) → r ≡ Ok it → server_at w.servers n ≡ Some it) → KeepsAll k g spares w (syncs w n tag r).0
syncs_keep k g spares w n tag (Err fault) f is = same_world k g spares w f
syncs_keep k g spares w n tag (Ok it) f is =
    by_test (λ (p : World _ × Answer). KeepsAll k g spares w p.0) (rules.is_serving it.state.peer.role) _ _
    (λ serving. by_test (λ (p : World _ × Answer). KeepsAll k g spares w p.0) (is_taken tag w.tags.syncs) _ _
    (λ again. same_world k g spares w f)
    (λ free. spends_sync_keep k g spares w tag (acts w n (λ state. rules.sync state tag) (Ok it))
    (acts_keep k g spares w n (λ state. rules.sync state tag) (Ok it) f is
    (λ state here s. sync_owes k g state tag s))))
    (λ no. same_world k g spares w f)

-- ---- crashes

crashes_keep : {C : Type 0} (k : laws.Setting Entry) (g : laws.Ghost Entry) (w : World C) (n : ℕ) (r : Result ProcessState WorldFault) → WorldStands k g w → ((it : ProcessState) → r ≡ Ok it → server_at w.servers n ≡ Some it) → KeepsAll k g (λ j. j ≢ n) w (crashes w n r).0
crashes_keep k g w n (Err fault) f is = same_world k g (λ j. j ≢ n) w f
crashes_keep k g w n (Ok it) f is =
    let here = is it refl in
    let at = f.servers n it here in
    let place = found w.servers n it here in
    let next : ProcessState = standing false (crashed it.state) in
    let keeps = keeps_crash k g (core_of it.state) it.state.peer.me at.stands.kept in
    told_keeps k g g (λ j. j ≢ n) w n next (Ok []) (grows_refl g) (nothing_written g (set w.servers (n - 1) next)) f.facts
    (numbered_at k g g w.servers n it.state.peer.me (core_of (crashed it.state)) it next here at.me keeps f.servers
    (record { me = at.me; stands = record { kept = keeps.kept; role = tt; within = omega arith; above = at.stands.above } }))
    f.messages tt
    (λ j other. subst (λ (o : Option ProcessState). IsPrefix (delivered_list (server_at w.servers j)) (delivered_list o))
    (sym (other_same w.servers n j next place.above other)) (prefix_refl (delivered_list (server_at w.servers j))))

restarts_keep : {C : Type 0} (k : laws.Setting Entry) (g : laws.Ghost Entry) (spares : ℕ → Type 0) (w : World C) (n : ℕ) (r : Result ProcessState WorldFault) → WorldStands k g w → ((it : ProcessState) → r ≡ Ok it → server_at w.servers n ≡ Some it) → KeepsAll k g spares w (restarts w n r).0
restarts_keep k g spares w n (Err fault) f is = same_world k g spares w f
restarts_keep k g spares w n (Ok it) f is =
    let here = is it refl in
    let at = f.servers n it here in
    let next : ProcessState = standing true it.state in
    told_keeps k g g spares w n next (Ok []) (grows_refl g) (nothing_written g (set w.servers (n - 1) next)) f.facts
    (numbered_at k g g w.servers n it.state.peer.me (core_of it.state) it next here at.me
    (stays k g it.state.peer.me (core_of it.state) at.stands.kept) f.servers at)
    f.messages tt
    (λ j spared. more_at w.servers n it next here (prefix_refl (told_of it.state)) j)

-- ---- events

abbrev pub Spares : {C : Type 0} → Event C → ℕ → Type 0
Spares event n = event ≢ Crash n

pub happens_keeps : {C : Type 0} (profile : Profile C) → CarriesZxid profile.setting → laws.Shares (laws_of profile.setting.passes) → (g : laws.Ghost Entry) (w : World C) (event : Event C) → WorldStands (laws_of profile.setting.passes) g w → KeepsAll (laws_of profile.setting.passes) g (Spares event) w (happens profile w event).0
happens_keeps {C} profile law share g w (Lead n) f =
    acts_keep (laws_of profile.setting.passes) g (Spares {C = C} (Lead n)) w n rules.lead (running w.servers n) f (λ it is. up_is (server_at w.servers n) it is)
    (λ state here s. lead_owes (laws_of profile.setting.passes) g state s)
happens_keeps {C} profile law share g w (Follow n leader) f =
    by_test (λ (p : World C × Answer). KeepsAll (laws_of profile.setting.passes) g (Spares {C = C} (Follow n leader)) w p.0) (is_server (length w.servers) leader && not (n == leader)) _ _
    (λ e. acts_keep (laws_of profile.setting.passes) g (Spares {C = C} (Follow n leader)) w n (λ state. rules.follow state leader) (running w.servers n) f (λ it is. up_is (server_at w.servers n) it is)
    (λ state here s. follow_owes (laws_of profile.setting.passes) g state leader s))
    (λ e. same_world (laws_of profile.setting.passes) g (Spares {C = C} (Follow n leader)) w f)
happens_keeps {C} profile law share g w (Arrive number) f =
    arrives_keep profile.setting law share g (Spares {C = C} (Arrive number)) w (message_at w.messages number) f (message_fact (laws_of profile.setting.passes) g w.messages number f.messages)
happens_keeps {C} profile law share g w (Submit n call) f =
    submits_keep profile.setting law g (Spares {C = C} (Submit n call)) w n call (running w.servers n) f (λ it is. up_is (server_at w.servers n) it is)
happens_keeps {C} profile law share g w (Expire n tag session now) f =
    submits_keep profile.setting law g (Spares {C = C} (Expire n tag session now)) w n (profile.closing tag session now) (running w.servers n) f (λ it is. up_is (server_at w.servers n) it is)
happens_keeps {C} profile law share g w (Sync n tag) f =
    syncs_keep (laws_of profile.setting.passes) g (Spares {C = C} (Sync n tag)) w n tag (running w.servers n) f (λ it is. up_is (server_at w.servers n) it is)
happens_keeps {C} profile law share g w (Crash n) f =
    let c = crashes_keep (laws_of profile.setting.passes) g w n (running w.servers n) f (λ it is. up_is (server_at w.servers n) it is) in
    record {
      after = c.after;
      grows = c.grows;
      stands = c.stands;
      more = λ j spared. c.more j (λ same. spared (ap (λ m. Crash m) (sym same)));
      writes = c.writes;
    }
happens_keeps {C} profile law share g w (Restart n) f =
    restarts_keep (laws_of profile.setting.passes) g (Spares {C = C} (Restart n)) w n (resting w.servers n) f (λ it is. down_is (server_at w.servers n) it is)
