-- Events keep what is known of tags, and add to it only what is made of calls.
use Rattle.std.proofs.Common.{◌≡◌, ◌≢◌, ℕ, ℤ, suc, zero, ◌-◌, ◌==◌, ◌&&◌, not, ◌⊎◌, inl, inr, Bool, true, false, List, [], ◌∷◌, ◌++◌, length, set, Option, Some, None, Result, Ok, Err, refl, sym, ap, subst, ◌∙◌, slice_get}
use Rattle.std.specs.List.{AllByRecursion}
use Rattle.zab_epoch.specs.declared.rule_fault.RuleFault.{RuleFault}
use Rattle.zab_epoch.specs.declared.history.Entry.{Entry}
use Rattle.zab_epoch.specs.declared.message.Body.{Body}
use Rattle.zab_epoch.specs.declared.message.Body.TheVariants.{CEpoch, NewEpoch, AckEpoch, NewLeader, AckLeader, Propose, Ack, Commit, Request, SyncAsk, SyncTell}
use Rattle.zab_epoch.specs.declared.message.Message.{Message}
use Rattle.zab_epoch.specs.declared.role.Role.TheVariants.{Looking}
use Rattle.zab_broadcast.specs.declared.state.State.{State}
use Rattle.zab_broadcast.specs.Calls.{Setting, is_taken}
use Rattle.zab_broadcast.specs.Rules as rules
use Rattle.zab_rule_laws.proofs.TagFacts.{Owners, nobody, BodyFact, MessageFact, SentFact, ServerFact, ActsFact, Grows, grows_refl, messages_grow, idles, by_test, cases_eq, all_append, all_get, same_some, taken_last}
use Rattle.zab_rule_laws.proofs.TagRules.{lead_fact, follow_fact, hears_c_epoch, hears_new_epoch, hears_ack_epoch, hears_new_leader, hears_ack_leader, hears_propose, hears_ack, hears_commit, sync_fact, hears_sync_ask, hears_sync_tell}
use Rattle.zab_rule_laws.proofs.TagCalls.{CarriesTag, Spent, SpentBy, IsSpentIn, spent_more, Adds, AddsBy, Owes, owes_nothing, submit_owes, request_owes}
use Rattle.zab_model.specs.declared.event.Event.{Event}
use Rattle.zab_model.specs.declared.event.Event.TheVariants.{Lead, Follow, Arrive, Submit, Expire, Sync, Crash, Restart}
use Rattle.zab_model.specs.declared.event.Moved.{Moved}
use Rattle.zab_model.specs.declared.fault.WorldFault.{WorldFault}
use Rattle.zab_model.specs.ProcessStates.{ProcessState, standing, new_server, new_servers}
use Rattle.zab_model.specs.Worlds.{World, Profile, Answer, new_world, moved, is_server, server_at, running, resting, told, said, with_server, acts, receives, message_at, arrives, spends, submits, spends_sync, syncs, crashed, crashes, restarts, happens}
use Rattle.zab_model.specs.Runs.{history_list, history_of}
use Rattle.zab_agreement_laws.specs.Origins.{call_of}
use Rattle.zab_model.proofs.ServerLists.{found, same_place, other_place, up_is, down_is}

-- ---- what is known of a world

pub record WorldFact {C : Type 0} (tag : C → ℕ) (g : Owners C) (w : World C) : Type 0 where
  pub servers : (n : ℕ) (it : ProcessState) → server_at w.servers n ≡ Some it → ServerFact g n it.state
  pub messages : AllByRecursion (MessageFact tag g) w.messages
  pub spent : Spent g w.tags.calls

-- ---- what an event adds

-- a call was sent to a leader before
pub record IsAsked {C : Type 0} (tag : C → ℕ) (g : Owners C) (call : C) : Type 0 where
  pub leader : ℕ
  pub epoch : ℕ
  pub is : g.asked (tag call) ≡ Some (leader, epoch, call)

-- an entry was made of one of these calls, as the last of a server's history
pub record IsMadeIn {C : Type 0} (setting : Setting C) (Calls : C → Type 0) (w : World C) (x : Entry) : Type 0 where
  pub server : ℕ
  pub before : List Entry
  pub call : C
  pub zxid : ℤ
  pub known : Calls call
  pub made : x ≡ setting.made before call zxid
  pub held : history_of w server ≡ before ++ x ∷ []

pub record AddsTo {C : Type 0} (setting : Setting C) (g after : Owners C) (Calls : C → Type 0) (w : World C) : Type 0 where
  pub owner : (tag : ℕ) (x : Entry) → after.owner tag ≡ Some x → (g.owner tag ≡ Some x) ⊎ IsMadeIn setting Calls w x
  pub asked : (tag : ℕ) (whom : ℕ × ℕ × C) → after.asked tag ≡ Some whom → (g.asked tag ≡ Some whom) ⊎ Calls whom.2

adds_none : {C : Type 0} (setting : Setting C) (g : Owners C) (Calls : C → Type 0) (w : World C) → AddsTo setting g g Calls w
adds_none setting g Calls w = record { owner = λ tag x is. inl is; asked = λ tag whom is. inl is }

adds_more : {C : Type 0} (setting : Setting C) (g after : Owners C) (Calls More : C → Type 0) (w : World C) → ((call : C) → Calls call → More call) → AddsTo setting g after Calls w → AddsTo setting g after More w
adds_more setting g after Calls More w more adds = record {
  owner = λ tag x is. elim (adds.owner tag x is) [
    | inl old ↦ inl old
    | inr m ↦ inr (record { server = m.server; before = m.before; call = m.call; zxid = m.zxid; known = more m.call m.known; made = m.made; held = m.held })
  ];
  asked = λ tag whom is. elim (adds.asked tag whom is) [
    | inl old ↦ inl old
    | inr known ↦ inr (more whom.2 known)
  ];
}

abbrev pub IsOk : Answer → Type 0
IsOk answer = (sent : Moved) × (answer ≡ Ok sent)

-- a call that an event submits and that is accepted, or one that was sent before
abbrev pub IsKnown : {C : Type 0} → Setting C → Owners C → Option C → Answer → C → Type 0
IsKnown setting g called answer call = IsAsked setting.tag g call ⊎ ((called ≡ Some call) × IsOk answer)

-- an event keeps what is known
pub record Keeps {C : Type 0} (setting : Setting C) (g : Owners C) (called : Option C) (p : World C × Answer) : Type 0 where
  pub after : Owners C
  pub grows : Grows g after
  pub fact : WorldFact setting.tag after p.0
  pub adds : AddsTo setting g after (IsKnown setting g called p.1) p.0

same_world : {C : Type 0} (setting : Setting C) (g : Owners C) (called : Option C) (w : World C) (answer : Answer) → WorldFact setting.tag g w → Keeps setting g called (w, answer)
same_world setting g called w answer f = record {
  after = g;
  grows = grows_refl g;
  fact = f;
  adds = adds_none setting g (IsKnown setting g called answer) w;
}

-- ---- servers

-- a server stands otherwise
stands_fact : {C : Type 0} (g after : Owners C) (servers : List ProcessState) (n : ℕ) (it stands : ProcessState) → server_at servers n ≡ Some it → ((k : ℕ) (other : ProcessState) → server_at servers k ≡ Some other → ServerFact g k other.state) → ServerFact after n stands.state → ((k : ℕ) (state : State) → k ≢ n → ServerFact g k state → ServerFact after k state) → (k : ℕ) (other : ProcessState) → server_at (set servers (n - 1) stands) k ≡ Some other → ServerFact after k other.state
stands_fact g after servers n it stands is facts fact others k other at =
    let place = found servers n it is in
    elim (cases_eq k n) [
      | inl same ↦
          (let here : Some stands ≡ Some other =
          sym (same_place servers n it stands place) ∙ (ap (λ u. server_at (set servers (n - 1) stands) u) (sym same) ∙ at) in
          let one : stands ≡ other = same_some stands other here in
          subst (λ u. ServerFact after u other.state) (sym same) (subst (λ (s : ProcessState). ServerFact after n s.state) one fact))
      | inr differs ↦ others k other.state differs (facts k other (other_place servers n k stands other place.above differs at))
    ]

-- ---- a server acts

-- what it says is sent
told_fact : {C : Type 0} (tag : C → ℕ) (g after : Owners C) (w : World C) (n : ℕ) (stands : ProcessState) (r : Result (List (Message C)) RuleFault) → Grows g after → ((k : ℕ) (other : ProcessState) → server_at (set w.servers (n - 1) stands) k ≡ Some other → ServerFact after k other.state) → AllByRecursion (MessageFact tag g) w.messages → SentFact tag after r → Spent after w.tags.calls → WorldFact tag after (told (with_server w n stands) (said r)).0
told_fact tag g after w n stands (Ok messages) grows servers before sent spent = record {
  servers = servers;
  messages = all_append (MessageFact tag after) w.messages messages (messages_grow tag g after w.messages grows before) sent;
  spent = spent;
}
told_fact tag g after w n stands (Err fault) grows servers before sent spent = record {
  servers = servers;
  messages = messages_grow tag g after w.messages grows before;
  spent = spent;
}

-- and its tag is spent
spends_fact : {C : Type 0} (setting : Setting C) (g after : Owners C) (call : C) (w : World C) (n : ℕ) (stands : ProcessState) (r : Result (List (Message C)) RuleFault) → Grows g after → ((k : ℕ) (other : ProcessState) → server_at (set w.servers (n - 1) stands) k ≡ Some other → ServerFact after k other.state) → AllByRecursion (MessageFact setting.tag g) w.messages → SentFact setting.tag after r → SpentBy setting g after (Some call) r → Spent g w.tags.calls → WorldFact setting.tag after (spends (setting.tag call) (told (with_server w n stands) (said r))).0
spends_fact setting g after call w n stands (Ok messages) grows servers before sent by spent = record {
  servers = servers;
  messages = all_append (MessageFact setting.tag after) w.messages messages (messages_grow setting.tag g after w.messages grows before) sent;
  spent = by (w.tags.calls ++ setting.tag call ∷ []) (spent_more g w.tags.calls (setting.tag call ∷ []) spent) (taken_last (setting.tag call) w.tags.calls);
}
spends_fact setting g after call w n stands (Err fault) grows servers before sent by spent = record {
  servers = servers;
  messages = messages_grow setting.tag g after w.messages grows before;
  spent = by w.tags.calls spent;
}

owed_servers : {C : Type 0} (setting : Setting C) (g : Owners C) (w : World C) (n : ℕ) (called : Option C) (old : List Entry) (it : ProcessState) (up : Bool) (act : rules.Acts C) → WorldFact setting.tag g w → server_at w.servers n ≡ Some it → (o : Owes setting g n called old act) → (k : ℕ) (other : ProcessState) → server_at (set w.servers (n - 1) (standing up act.0)) k ≡ Some other → ServerFact o.after k other.state
owed_servers setting g w n called old it up act f is o =
    stands_fact g o.after w.servers n it (standing up act.0) is f.servers o.fact.server
    (λ k state differs s. o.others k state.peer.stable.history state.peer.role state.peer.stable.promised state.taken differs s)

-- what the server adds to its history
owed_adds : {C : Type 0} (setting : Setting C) (g after : Owners C) (w v : World C) (n : ℕ) (called : Option C) (old : List Entry) (it stands : ProcessState) → server_at w.servers n ≡ Some it → v.servers ≡ set w.servers (n - 1) stands → Adds setting g after called old stands.state.peer.stable.history → AddsTo setting g after (λ call. called ≡ Some call) v
owed_adds setting g after w v n called old it stands is turns adds = record {
  owner = λ tag x at. elim (adds.owner tag x at) [
    | inl was ↦ inl was
    | inr m ↦ inr (record {
      server = n;
      before = old;
      call = m.call;
      zxid = m.zxid;
      known = m.of_call;
      made = m.made;
      held = ap (λ (servers : List ProcessState). history_list (server_at servers n)) turns
          ∙ (ap history_list (same_place w.servers n it stands (found w.servers n it is)) ∙ m.taken);
    })
  ];
  asked = adds.asked;
}

no_call : {C : Type 0} {A : Type 0} (call : C) → (let o : Option C = None in o ≡ Some call) → A
no_call call is = absurd (let e : None ≡ Some call = is in cc)

told_adds : {C : Type 0} (setting : Setting C) (g after : Owners C) (w : World C) (n : ℕ) (called : Option C) (old : List Entry) (it stands : ProcessState) (r : Result (List (Message C)) RuleFault) → server_at w.servers n ≡ Some it → ((call : C) → called ≡ Some call → IsAsked setting.tag g call) → AddsBy setting g after called old stands.state.peer.stable.history r → AddsTo setting g after (IsKnown setting g None (told (with_server w n stands) (said r)).1) (told (with_server w n stands) (said r)).0
told_adds {C} setting g after w n called old it stands (Ok messages) is asked adds =
    let p : World C × Answer = told (with_server w n stands) (Ok messages) in
    adds_more setting g after (λ call. called ≡ Some call) (IsKnown setting g None p.1) p.0 (λ call of_call. inl (asked call of_call))
    (owed_adds setting g after w p.0 n called old it stands is refl adds)
told_adds {C} setting g after w n called old it stands (Err fault) is asked adds =
    let p : World C × Answer = told (with_server w n stands) (said (Err fault)) in
    let none : Option C = None in
    adds_more setting g after (λ call. none ≡ Some call) (IsKnown setting g None p.1) p.0 (λ call of_call. no_call call of_call)
    (owed_adds setting g after w p.0 n None old it stands is refl adds)

spends_adds : {C : Type 0} (setting : Setting C) (g after : Owners C) (t : ℕ) (w : World C) (n : ℕ) (called : Option C) (old : List Entry) (it stands : ProcessState) (r : Result (List (Message C)) RuleFault) → server_at w.servers n ≡ Some it → AddsBy setting g after called old stands.state.peer.stable.history r → AddsTo setting g after (IsKnown setting g called (spends t (told (with_server w n stands) (said r))).1) (spends t (told (with_server w n stands) (said r))).0
spends_adds {C} setting g after t w n called old it stands (Ok messages) is adds =
    let p : World C × Answer = spends t (told (with_server w n stands) (Ok messages)) in
    adds_more setting g after (λ call. called ≡ Some call) (IsKnown setting g called p.1) p.0
    (λ call of_call. inr (of_call, (moved (length w.messages) (length messages), refl)))
    (owed_adds setting g after w p.0 n called old it stands is refl adds)
spends_adds {C} setting g after t w n called old it stands (Err fault) is adds =
    let p : World C × Answer = spends t (told (with_server w n stands) (said (Err fault))) in
    let none : Option C = None in
    adds_more setting g after (λ call. none ≡ Some call) (IsKnown setting g called p.1) p.0 (λ call of_call. no_call call of_call)
    (owed_adds setting g after w p.0 n None old it stands is refl adds)

acts_keep : {C : Type 0} (setting : Setting C) (g : Owners C) (w : World C) (n : ℕ) (called : Option C) (rule : State → rules.Acts C) (r : Result ProcessState WorldFault) → WorldFact setting.tag g w → ((it : ProcessState) → r ≡ Ok it → server_at w.servers n ≡ Some it) → ((call : C) → called ≡ Some call → IsAsked setting.tag g call) → ((state : State) → ServerFact g n state → (o : Owes setting g n called state.peer.stable.history (rule state)) × Spent o.after w.tags.calls) → Keeps setting g None (acts w n rule r)
acts_keep setting g w n called rule (Ok it) f is asked owes =
    let here = is it refl in
    let o = owes it.state (f.servers n it here) in
    let stands = standing it.up (rule it.state).0 in
    record {
      after = o.0.after;
      grows = o.0.grows;
      fact = told_fact setting.tag g o.0.after w n stands (rule it.state).1 o.0.grows
          (owed_servers setting g w n called it.state.peer.stable.history it it.up (rule it.state) f here o.0) f.messages o.0.fact.sent o.1;
      adds = told_adds setting g o.0.after w n called it.state.peer.stable.history it stands (rule it.state).1 here asked o.0.adds;
    }
acts_keep setting g w n called rule (Err fault) f is asked owes = same_world setting g None w (Err fault) f

-- ---- messages

quietly : {C : Type 0} (setting : Setting C) (g : Owners C) (n : ℕ) (tags : List ℕ) (old : List Entry) (act : rules.Acts C) → Spent g tags → ActsFact setting.tag g n act → (o : Owes setting g n None old act) × Spent o.after tags
quietly setting g n tags old act spent fact = (owes_nothing setting g n None old act fact, spent)

not_called : {C : Type 0} (setting : Setting C) (g : Owners C) (call : C) → (let o : Option C = None in o ≡ Some call) → IsAsked setting.tag g call
not_called setting g call is = no_call call is

spent_by : {C : Type 0} (setting : Setting C) (g after : Owners C) (called : Option C) (r : Result (List (Message C)) RuleFault) (tags : List ℕ) → SpentBy setting g after called r → Spent g tags → IsSpentIn setting called tags → Spent after tags
spent_by setting g after called (Ok messages) tags by spent is = by tags spent is
spent_by setting g after called (Err fault) tags by spent is = by tags spent

-- the call of a message
abbrev call_in : {C : Type 0} → Body C → Option C
call_in (Request epoch call) = Some call
call_in _ = None

asked_in : {C : Type 0} (setting : Setting C) (g : Owners C) (to : ℕ) (body : Body C) (call : C) → BodyFact setting.tag g to body → call_in body ≡ Some call → IsAsked setting.tag g call
asked_in setting g to (CEpoch promised) call b is = no_call call is
asked_in setting g to (NewEpoch epoch) call b is = no_call call is
asked_in setting g to (AckEpoch epoch vote current last) call b is = no_call call is
asked_in setting g to (NewLeader epoch keep rest) call b is = no_call call is
asked_in setting g to (AckLeader epoch count) call b is = no_call call is
asked_in setting g to (Propose epoch index entry) call b is = no_call call is
asked_in setting g to (Ack epoch count) call b is = no_call call is
asked_in setting g to (Commit epoch count) call b is = no_call call is
asked_in setting g to (SyncAsk epoch tag) call b is = no_call call is
asked_in setting g to (SyncTell epoch tag count) call b is = no_call call is
asked_in setting g to (Request epoch sent) call b is =
    subst (IsAsked setting.tag g) (same_some sent call is) (record { leader = to; epoch = epoch; is = b })

receives_owe : {C : Type 0} (setting : Setting C) → CarriesTag setting → (g : Owners C) (n from : ℕ) (body : Body C) (tags : List ℕ) (state : State) → Spent g tags → BodyFact setting.tag g n body → ServerFact g n state → (o : Owes setting g n (call_in body) state.peer.stable.history (receives setting from body state)) × Spent o.after tags
receives_owe setting law g n from (CEpoch promised) tags state spent b f = quietly setting g n tags state.peer.stable.history _ spent (hears_c_epoch setting.tag setting.passes g n state from promised f)
receives_owe setting law g n from (NewEpoch epoch) tags state spent b f = quietly setting g n tags state.peer.stable.history _ spent (hears_new_epoch setting.tag g n state from epoch f)
receives_owe setting law g n from (AckEpoch epoch vote current last) tags state spent b f = quietly setting g n tags state.peer.stable.history _ spent (hears_ack_epoch setting.tag setting.passes g n state from epoch vote (record { current = current; last = last }) f)
receives_owe setting law g n from (NewLeader epoch keep rest) tags state spent b f = quietly setting g n tags state.peer.stable.history _ spent (hears_new_leader setting.tag g n state from epoch keep rest f b)
receives_owe setting law g n from (AckLeader epoch count) tags state spent b f = quietly setting g n tags state.peer.stable.history _ spent (hears_ack_leader setting.tag setting.passes g n state from epoch count f)
receives_owe setting law g n from (Propose epoch index entry) tags state spent b f = quietly setting g n tags state.peer.stable.history _ spent (hears_propose setting.tag g n state from epoch index entry f b)
receives_owe setting law g n from (Ack epoch count) tags state spent b f = quietly setting g n tags state.peer.stable.history _ spent (hears_ack setting.tag setting.passes g n state from epoch count f)
receives_owe setting law g n from (Commit epoch count) tags state spent b f = quietly setting g n tags state.peer.stable.history _ spent (hears_commit setting.tag g n state from epoch count f)
receives_owe setting law g n from (SyncAsk epoch tag) tags state spent b f = quietly setting g n tags state.peer.stable.history _ spent (hears_sync_ask setting.tag g n state from epoch tag f)
receives_owe setting law g n from (SyncTell epoch tag count) tags state spent b f = quietly setting g n tags state.peer.stable.history _ spent (hears_sync_tell setting.tag g n state from epoch tag count f)
receives_owe setting law g n from (Request epoch call) tags state spent b f =
    let o = request_owes setting law g n state epoch call state.peer.role refl f b in (
      o,
      spent_by setting g o.after (Some call) (rules.request setting state epoch call).1 tags o.spent spent (spent.asked (setting.tag call) (n, epoch, call) b),
    )

abbrev MaybeFact : {C : Type 0} → (C → ℕ) → Owners C → Option (Message C) → Type 0
MaybeFact tag g None = Unit {0}
MaybeFact tag g (Some m) = MessageFact tag g m

maybe_get : {C : Type 0} (tag : C → ℕ) (g : Owners C) (messages : List (Message C)) (i : ℕ) (o : Option (Message C)) → AllByRecursion (MessageFact tag g) messages → slice_get messages i ≡ o → MaybeFact tag g o
maybe_get tag g messages i None f is = tt
maybe_get tag g messages i (Some m) f is = all_get (MessageFact tag g) messages i m f is

message_fact : {C : Type 0} (tag : C → ℕ) (g : Owners C) (messages : List (Message C)) (number : ℕ) → AllByRecursion (MessageFact tag g) messages → MaybeFact tag g (message_at messages number)
message_fact tag g messages number f =
    by_test (MaybeFact tag g) (number == 0) None (slice_get messages (number - 1)) (λ e. tt) (λ e. maybe_get tag g messages (number - 1) (slice_get messages (number - 1)) f refl)

arrives_keep : {C : Type 0} (setting : Setting C) → CarriesTag setting → (g : Owners C) (w : World C) (m : Option (Message C)) → WorldFact setting.tag g w → MaybeFact setting.tag g m → Keeps setting g None (arrives setting w m)
arrives_keep setting law g w None f b = same_world setting g None w _ f
arrives_keep setting law g w (Some m) f b =
    acts_keep setting g w m.addressee (call_in m.body) (receives setting m.sender m.body) (running w.servers m.addressee) f
    (λ it is. up_is (server_at w.servers m.addressee) it is)
    (λ call is. asked_in setting g m.addressee m.body call b is)
    (λ state s. receives_owe setting law g m.addressee m.sender m.body w.tags.calls state f.spent b s)

-- ---- calls

-- nothing is known of a tag that was not accepted
unmade : {C : Type 0} (g : Owners C) (tags : List ℕ) (t : ℕ) (o : Option Entry) → Spent g tags → is_taken t tags ≡ false → g.owner t ≡ o → g.owner t ≡ None
unmade g tags t None spent free is = is
unmade g tags t (Some entry) spent free is = absurd (let no : true ≡ false = sym (spent.owner t entry is) ∙ free in cc)

unasked : {C : Type 0} (g : Owners C) (tags : List ℕ) (t : ℕ) (o : Option (ℕ × ℕ × C)) → Spent g tags → is_taken t tags ≡ false → g.asked t ≡ o → g.asked t ≡ None
unasked g tags t None spent free is = is
unasked g tags t (Some whom) spent free is = absurd (let no : true ≡ false = sym (spent.asked t whom is) ∙ free in cc)

submits_keep : {C : Type 0} (setting : Setting C) → CarriesTag setting → (g : Owners C) (w : World C) (n : ℕ) (call : C) (r : Result ProcessState WorldFault) → WorldFact setting.tag g w → ((it : ProcessState) → r ≡ Ok it → server_at w.servers n ≡ Some it) → Keeps setting g (Some call) (submits setting w n call r)
submits_keep setting law g w n call (Err fault) f is = same_world setting g (Some call) w (Err fault) f
submits_keep setting law g w n call (Ok it) f is =
    let here = is it refl in
    let t = setting.tag call in
    by_test (Keeps setting g (Some call)) (rules.is_serving it.state.peer.role) _ _
    (λ serving. by_test (Keeps setting g (Some call)) (is_taken (setting.tag call) w.tags.calls) _ _
    (λ again. same_world setting g (Some call) w _ f)
    (λ free.
    (let o = submit_owes setting law g n it.state call it.state.peer.role refl (f.servers n it here)
    (unmade g w.tags.calls (setting.tag call) (g.owner (setting.tag call)) f.spent free refl)
    (unasked g w.tags.calls (setting.tag call) (g.asked (setting.tag call)) f.spent free refl) in
    let stands = standing it.up (rules.submit setting it.state call).0 in
    record {
      after = o.after;
      grows = o.grows;
      fact = spends_fact setting g o.after call w n stands (rules.submit setting it.state call).1 o.grows
          (owed_servers setting g w n (Some call) it.state.peer.stable.history it it.up (rules.submit setting it.state call) f here o) f.messages o.fact.sent o.spent f.spent;
      adds = spends_adds setting g o.after (setting.tag call) w n (Some call) it.state.peer.stable.history it stands (rules.submit setting it.state call).1 here o.adds;
    })))
    (λ no. same_world setting g (Some call) w _ f)

-- ---- syncs

spends_sync_keep : {C : Type 0} (setting : Setting C) (g : Owners C) (t : ℕ) (p : World C × Answer) → Keeps setting g None p → Keeps setting g None (spends_sync t p)
spends_sync_keep setting g t (w, Ok numbers) k = record {
  after = k.after;
  grows = k.grows;
  fact = record { servers = k.fact.servers; messages = k.fact.messages; spent = k.fact.spent };
  adds = record {
    owner = λ tag x is. elim (k.adds.owner tag x is) [
      | inl old ↦ inl old
      | inr m ↦ inr (record { server = m.server; before = m.before; call = m.call; zxid = m.zxid; known = m.known; made = m.made; held = m.held })
    ];
    asked = k.adds.asked;
  };
}
spends_sync_keep setting g t (w, Err fault) k = k

syncs_keep : {C : Type 0} (setting : Setting C) (g : Owners C) (w : World C) (n t : ℕ) (r : Result ProcessState WorldFault) → WorldFact setting.tag g w → ((it : ProcessState) → r ≡ Ok it → server_at w.servers n ≡ Some it) → Keeps setting g None (syncs w n t r)
syncs_keep setting g w n t (Err fault) f is = same_world setting g None w (Err fault) f
syncs_keep setting g w n t (Ok it) f is =
    by_test (Keeps setting g None) (rules.is_serving it.state.peer.role) _ _
    (λ serving. by_test (Keeps setting g None) (is_taken t w.tags.syncs) _ _
    (λ again. same_world setting g None w _ f)
    (λ free. spends_sync_keep setting g t (acts w n (λ state. rules.sync state t) (Ok it))
    (acts_keep setting g w n None (λ state. rules.sync state t) (Ok it) f is (not_called setting g)
    (λ state s. quietly setting g n w.tags.calls state.peer.stable.history (rules.sync state t) f.spent (sync_fact setting.tag g n state t s)))))
    (λ no. same_world setting g None w _ f)

-- ---- crashes

crashes_keep : {C : Type 0} (setting : Setting C) (g : Owners C) (w : World C) (n : ℕ) (r : Result ProcessState WorldFault) → WorldFact setting.tag g w → ((it : ProcessState) → r ≡ Ok it → server_at w.servers n ≡ Some it) → Keeps setting g None (crashes w n r)
crashes_keep setting g w n (Err fault) f is = same_world setting g None w (Err fault) f
crashes_keep setting g w n (Ok it) f is =
    let here = is it refl in
    let s = f.servers n it here in
    record {
      after = g;
      grows = grows_refl g;
      fact = told_fact setting.tag g g w n (standing false (crashed it.state)) (Ok []) (grows_refl g)
          (stands_fact g g w.servers n it (standing false (crashed it.state)) here f.servers
          (idles g n it.state.peer.stable.history it.state.peer.stable.history it.state.peer.role Looking it.state.peer.stable.promised it.state.taken [] s s.owned tt (λ b. tt))
          (λ k state differs old. old))
          f.messages tt f.spent;
      adds = adds_none setting g (IsKnown setting g None (crashes w n (Ok it)).1) (crashes w n (Ok it)).0;
    }

restarts_keep : {C : Type 0} (setting : Setting C) (g : Owners C) (w : World C) (n : ℕ) (r : Result ProcessState WorldFault) → WorldFact setting.tag g w → ((it : ProcessState) → r ≡ Ok it → server_at w.servers n ≡ Some it) → Keeps setting g None (restarts w n r)
restarts_keep setting g w n (Err fault) f is = same_world setting g None w (Err fault) f
restarts_keep setting g w n (Ok it) f is =
    let here = is it refl in
    record {
      after = g;
      grows = grows_refl g;
      fact = told_fact setting.tag g g w n (standing true it.state) (Ok []) (grows_refl g)
          (stands_fact g g w.servers n it (standing true it.state) here f.servers (f.servers n it here) (λ k state differs old. old))
          f.messages tt f.spent;
      adds = adds_none setting g (IsKnown setting g None (restarts w n (Ok it)).1) (restarts w n (Ok it)).0;
    }

-- ---- events

pub happens_keeps : {C : Type 0} (profile : Profile C) → CarriesTag profile.setting → (g : Owners C) (w : World C) (event : Event C) → WorldFact profile.setting.tag g w → Keeps profile.setting g (call_of profile event) (happens profile w event)
happens_keeps profile law g w (Lead n) f =
    acts_keep profile.setting g w n None rules.lead (running w.servers n) f (λ it is. up_is (server_at w.servers n) it is) (not_called profile.setting g)
    (λ state s. quietly profile.setting g n w.tags.calls state.peer.stable.history (rules.lead state) f.spent (lead_fact profile.setting.tag g n state s))
happens_keeps profile law g w (Follow n leader) f =
    by_test (Keeps profile.setting g None) (is_server (length w.servers) leader && not (n == leader)) _ _
    (λ e. acts_keep profile.setting g w n None (λ state. rules.follow state leader) (running w.servers n) f
    (λ it is. up_is (server_at w.servers n) it is) (not_called profile.setting g)
    (λ state s. quietly profile.setting g n w.tags.calls state.peer.stable.history (rules.follow state leader) f.spent (follow_fact profile.setting.tag g n state leader s)))
    (λ e. same_world profile.setting g None w _ f)
happens_keeps profile law g w (Arrive number) f =
    arrives_keep profile.setting law g w (message_at w.messages number) f (message_fact profile.setting.tag g w.messages number f.messages)
happens_keeps profile law g w (Submit n call) f =
    submits_keep profile.setting law g w n call (running w.servers n) f (λ it is. up_is (server_at w.servers n) it is)
happens_keeps profile law g w (Expire n tag session now) f =
    submits_keep profile.setting law g w n (profile.closing tag session now) (running w.servers n) f (λ it is. up_is (server_at w.servers n) it is)
happens_keeps profile law g w (Sync n tag) f =
    syncs_keep profile.setting g w n tag (running w.servers n) f (λ it is. up_is (server_at w.servers n) it is)
happens_keeps profile law g w (Crash n) f =
    crashes_keep profile.setting g w n (running w.servers n) f (λ it is. up_is (server_at w.servers n) it is)
happens_keeps profile law g w (Restart n) f =
    restarts_keep profile.setting g w n (resting w.servers n) f (λ it is. down_is (server_at w.servers n) it is)

-- ---- a new world

abbrev IsNew : Type 0 → ProcessState → Type 0
IsNew C it = (n : ℕ) → ServerFact (nobody C) n it.state

pub no_one : {A : Type 0} (x : A) → (let o : Option A = None in o ≡ Some x) → ⊥
no_one x e = cc

new_servers_fact : (C : Type 0) (servers more : ℕ) → AllByRecursion (IsNew C) (new_servers servers more)
new_servers_fact C servers zero = tt
new_servers_fact C servers (suc more) = all_append (IsNew C) (new_servers servers more) (new_server servers (suc more) ∷ []) (new_servers_fact C servers more)
    (λ n. record { owned = tt; votes = tt; past = λ tag epoch call entry asked made. absurd (no_one (n, epoch, call) asked) }, tt)

pub new_world_fact : {C : Type 0} (tag : C → ℕ) (servers : ℕ) → WorldFact tag (nobody C) (new_world servers)
new_world_fact {C} tag servers = record {
  servers = λ n it is. all_get (IsNew C) (new_servers servers servers) (n - 1) it (new_servers_fact C servers servers) (found (new_servers servers servers) n it is).get n;
  messages = tt;
  spent = record {
    owner = λ t entry is. absurd (no_one entry is);
    asked = λ t whom is. absurd (no_one whom is);
  };
}
