-- After each event but a NewLeader that cuts, a server's history begins with what it had.
use Rattle.std.proofs.Common.{◌≡◌, ◌≢◌, ℕ, zero, suc, pred, ℤ, ◌-◌, ◌&&◌, ◌==◌, nat_lt, int_lt, max, not, ◌⊎◌, inl, inr, Bool, true, false, cond, List, [], ◌∷◌, ◌++◌, length, take, set, Option, Some, None, Result, Ok, Err, refl, sym, ap, subst, arith}
use Rattle.std.proofs.lemmas.Bool.Decides.{nat_tests}
use Rattle.zab_epoch.specs.declared.rule_fault.RuleFault.{RuleFault}
use Rattle.zab_epoch.specs.declared.history.Entry.{Entry}
use Rattle.zab_epoch.specs.declared.message.Body.{Body}
use Rattle.zab_epoch.specs.declared.message.Body.TheVariants.{CEpoch, NewEpoch, AckEpoch, NewLeader, AckLeader, Propose, Ack, Commit, Request, SyncAsk, SyncTell}
use Rattle.zab_epoch.specs.declared.message.Message.{Message}
use Rattle.zab_epoch.specs.declared.peer.Peer.{Peer}
use Rattle.zab_epoch.specs.declared.role.Role.{Role}
use Rattle.zab_epoch.specs.declared.role.Role.TheVariants.{Looking, Discover, Choose, Sync, Broadcast, Following}
use Rattle.zab_epoch.specs.declared.votes.Vote.{Vote}
use Rattle.zab_epoch.specs.Entries.{up_to}
use Rattle.zab_epoch.specs.Roles.{follows, is_choosing}
use Rattle.zab_epoch.specs.Rules as epoch_rules
use Rattle.zab_epoch.specs.Tables.{put, marks_of}
use Rattle.zab_broadcast.specs.declared.state.State.{State}
use Rattle.zab_broadcast.specs.Calls.{Setting, is_taken}
use Rattle.zab_broadcast.specs.Rules as rules
use Rattle.zab_broadcast.specs.Syncs.{is_asked}
use Rattle.zab_model.specs.declared.event.Event.{Event}
use Rattle.zab_model.specs.declared.event.Event.TheVariants as events
use Rattle.zab_model.specs.declared.fault.WorldFault.{WorldFault}
use Rattle.zab_model.specs.Replacing.{is_cut_by, cuts, replaces}
use Rattle.zab_model.specs.Runs.{history_list, history_of}
use Rattle.zab_model.specs.ProcessStates.{ProcessState, standing}
use Rattle.zab_model.specs.Worlds.{World, Profile, Answer, is_server, server_at, running, resting, told, said, with_server, acts, receives, message_at, arrives, spends, submits, spends_sync, syncs, crashed, crashes, restarts, happens}
use Rattle.zab_model.proofs.ServerLists.{found, same_place, other_same, up_is, down_is}

by_test : {A : Type 0} (P : A → Type 0) (b : Bool) (x y : A) → P x → P y → P (cond b x y)
by_test P true x y p q = p
by_test P false x y p q = q

abbrev pub IsFront : List Entry → List Entry → Type 0
IsFront before now = take (length before) now ≡ before

same : (h : List Entry) → IsFront h h
same [] = refl
same (x ∷ h) = ap (λ l. x ∷ l) (same h)

longer : (h more : List Entry) → IsFront h (h ++ more)
longer [] more = refl
longer (x ∷ h) more = ap (λ l. x ∷ l) (longer h more)

-- ---- discovery and synchronization

abbrev Keeps : {C : Type 0} → Peer → epoch_rules.Acts C → Type 0
Keeps peer acts = IsFront peer.stable.history acts.0.stable.history

chooses_front : (C : Type 0) (peer : Peer) (heard : List Bool) (next : Option ℕ) → Keeps {C = C} peer (epoch_rules.chooses peer heard next)
chooses_front C peer heard None = same peer.stable.history
chooses_front C peer heard (Some epoch) = same peer.stable.history

c_epoch_front : (C : Type 0) (passes : List Bool → Bool) (peer : Peer) (from promised : ℕ) (role : Role) → Keeps {C = C} peer (epoch_rules.c_epoch_as passes peer from promised role)
c_epoch_front C passes peer from promised (Discover heard) =
    by_test (Keeps {C = C} peer) (passes (marks_of (put heard from promised))) _ _
    (chooses_front C peer (marks_of (put heard from promised)) (epoch_rules.next_epoch (max (epoch_rules.greatest (put heard from promised)) peer.stable.promised)))
    (same peer.stable.history)
c_epoch_front C passes peer from promised (Choose votes joiners) = same peer.stable.history
c_epoch_front C passes peer from promised Sync = same peer.stable.history
c_epoch_front C passes peer from promised Broadcast = same peer.stable.history
c_epoch_front C passes peer from promised Looking = same peer.stable.history
c_epoch_front C passes peer from promised (Following leader synced) = same peer.stable.history

new_epoch_front : (C : Type 0) (peer : Peer) (from epoch : ℕ) → Keeps {C = C} peer (epoch_rules.new_epoch peer from epoch)
new_epoch_front C peer from epoch =
    by_test (Keeps {C = C} peer) (follows peer.role from) _ _
    (by_test (Keeps {C = C} peer) (epoch_rules.is_new peer.stable epoch) _ _ (same peer.stable.history)
    (by_test (Keeps {C = C} peer) (epoch == peer.stable.promised) _ _ (same peer.stable.history) (same peer.stable.history)))
    (same peer.stable.history)

gathers_front : (C : Type 0) (passes : List Bool → Bool) (peer : Peer) (votes : List (Option Vote)) (joiners : List (Option ℤ)) → Keeps {C = C} peer (epoch_rules.gathers passes peer votes joiners)
gathers_front C passes peer votes joiners =
    by_test (Keeps {C = C} peer) (passes (marks_of votes)) _ _
    (by_test (Keeps {C = C} peer) (epoch_rules.exceeds (epoch_rules.vote_of peer.stable) votes) _ _ (same peer.stable.history) (same peer.stable.history))
    (same peer.stable.history)

ack_epoch_as_front : (C : Type 0) (passes : List Bool → Bool) (peer : Peer) (from : ℕ) (vote : Bool) (told : Vote) (role : Role) → Keeps {C = C} peer (epoch_rules.ack_epoch_as passes peer from vote told role)
ack_epoch_as_front C passes peer from vote told (Choose votes joiners) =
    gathers_front C passes peer (cond vote (put votes from told) votes) (put joiners from told.last)
ack_epoch_as_front C passes peer from vote told Sync = same peer.stable.history
ack_epoch_as_front C passes peer from vote told Broadcast = same peer.stable.history
ack_epoch_as_front C passes peer from vote told Looking = same peer.stable.history
ack_epoch_as_front C passes peer from vote told (Discover heard) = same peer.stable.history
ack_epoch_as_front C passes peer from vote told (Following leader synced) = same peer.stable.history

ack_epoch_front : (C : Type 0) (passes : List Bool → Bool) (peer : Peer) (from epoch : ℕ) (vote : Bool) (told : Vote) → Keeps {C = C} peer (epoch_rules.ack_epoch passes peer from epoch vote told)
ack_epoch_front C passes peer from epoch vote told =
    by_test (Keeps {C = C} peer) (epoch == peer.stable.promised) _ _
    (ack_epoch_as_front C passes peer from vote told peer.role) (same peer.stable.history)

not_shorter : (a b : ℕ) → nat_lt (suc a) (suc b) ≡ false → nat_lt a b ≡ false
not_shorter a b e = grind (arith, nat_tests)

some_more : (n : ℕ) → nat_lt zero (suc n) ≡ false → ⊥
some_more n e = grind (arith, nat_tests)

-- a history up to a zxid that leaves none out
all_up_to : (keep : ℤ) (own : List Entry) → nat_lt (length (up_to keep own)) (length own) ≡ false → up_to keep own ≡ own
all_up_to keep [] e = refl
all_up_to keep (x ∷ own) e = by_case (int_lt keep x.txn.zxid) (all_up_to keep own) e
  where
    by_case : (b : Bool) → (nat_lt (length (up_to keep own)) (length own) ≡ false → up_to keep own ≡ own) → nat_lt (length (cond b [] (x ∷ up_to keep own))) (suc (length own)) ≡ false → cond b [] (x ∷ up_to keep own) ≡ x ∷ own
    by_case true on e = absurd (some_more (length own) e)
    by_case false on e = ap (λ l. x ∷ l) (on (not_shorter (length (up_to keep own)) (length own) e))

takes_front : (C : Type 0) (peer : Peer) (from epoch : ℕ) (history : List Entry) → IsFront peer.stable.history history → Keeps {C = C} peer (epoch_rules.takes_history peer from epoch history)
takes_front C peer from epoch history front =
    by_test (Keeps {C = C} peer) (epoch_rules.is_behind peer.stable epoch (length history)) _ _ front (same peer.stable.history)

meant_front : (own : List Entry) (keep : ℤ) (rest : List Entry) → up_to keep own ≡ own → IsFront own (epoch_rules.meant own keep rest)
meant_front own keep rest all = subst (λ l. IsFront own (l ++ rest)) (sym all) (longer own rest)

new_leader_front : (C : Type 0) (peer : Peer) (from epoch : ℕ) (keep : ℤ) (rest : List Entry) → up_to keep peer.stable.history ≡ peer.stable.history → Keeps {C = C} peer (epoch_rules.new_leader peer from epoch keep rest)
new_leader_front C peer from epoch keep rest all =
    by_test (Keeps {C = C} peer) (follows peer.role from && (epoch == peer.stable.promised)) _ _
    (by_test (Keeps {C = C} peer) (epoch_rules.goes_on peer.stable.history keep rest) _ _
    (takes_front C peer from epoch (epoch_rules.meant peer.stable.history keep rest) (meant_front peer.stable.history keep rest all))
    (same peer.stable.history))
    (same peer.stable.history)

-- ---- the same at a server, and broadcast

abbrev KeepsBy : {C : Type 0} → State → rules.Acts C → Type 0
KeepsBy state acts = IsFront state.peer.stable.history acts.0.peer.stable.history

stays : (state : State) → IsFront state.peer.stable.history state.peer.stable.history
stays state = same state.peer.stable.history

-- settling leaves the history unchanged
settled_front : (passes : List Bool → Bool) (h : List Entry) (state : State) → IsFront h state.peer.stable.history → IsFront h (rules.settles passes state).0.peer.stable.history
settled_front passes h state front =
    by_test (λ (s : rules.Settled). IsFront h s.0.peer.stable.history) (nat_lt state.top (rules.counted passes state)) _ _ front front

ack_leader_front : (C : Type 0) (passes : List Bool → Bool) (state : State) (from count : ℕ) (role : Role) → KeepsBy {C = C} state (rules.ack_leader_as passes state from count role)
ack_leader_front C passes state from count Sync =
    by_test (KeepsBy {C = C} state) (passes (marks_of (rules.raised state from count).has)) _ _ (stays state) (stays state)
ack_leader_front C passes state from count Broadcast =
    settled_front passes state.peer.stable.history (rules.raised state from count) (stays state)
ack_leader_front C passes state from count Looking = stays state
ack_leader_front C passes state from count (Discover heard) = stays state
ack_leader_front C passes state from count (Choose votes joiners) = stays state
ack_leader_front C passes state from count (Following leader synced) = stays state

propose_front : (C : Type 0) (state : State) (from epoch index : ℕ) (entry : Entry) → KeepsBy {C = C} state (rules.propose state from epoch index entry)
propose_front C state from epoch index entry =
    by_test (KeepsBy {C = C} state) (follows state.peer.role from && rules.is_next state.peer.stable epoch index) _ _
    (by_test (KeepsBy {C = C} state) (rules.is_above state.peer.stable entry) _ _ (longer state.peer.stable.history (entry ∷ [])) (stays state))
    (stays state)

ack_front : (C : Type 0) (passes : List Bool → Bool) (state : State) (from epoch count : ℕ) (role : Role) → KeepsBy {C = C} state (rules.ack_as passes state from epoch count role)
ack_front C passes state from epoch count Broadcast =
    by_test (KeepsBy {C = C} state) (epoch == state.peer.stable.promised) _ _
    (settled_front passes state.peer.stable.history (rules.raised state from count) (stays state)) (stays state)
ack_front C passes state from epoch count Looking = stays state
ack_front C passes state from epoch count (Discover heard) = stays state
ack_front C passes state from epoch count (Choose votes joiners) = stays state
ack_front C passes state from epoch count Sync = stays state
ack_front C passes state from epoch count (Following leader synced) = stays state

-- a leader that takes a call has one entry more
appends_front : {C : Type 0} (setting : Setting C) (state : State) (call : C) (zxid : Option ℤ) → KeepsBy state (rules.appends_at setting state call zxid)
appends_front setting state call None = stays state
appends_front setting state call (Some zxid) =
    let entry : Entry = setting.made state.peer.stable.history call zxid in
    settled_front setting.passes state.peer.stable.history (rules.took state entry) (longer state.peer.stable.history (entry ∷ []))

submit_as_front : {C : Type 0} (setting : Setting C) (state : State) (call : C) (role : Role) → KeepsBy state (rules.submit_as setting state call role)
submit_as_front setting state call Broadcast = appends_front setting state call (rules.next_zxid state.peer.stable.promised state.made)
submit_as_front setting state call (Following leader synced) = by_test (KeepsBy state) synced _ _ (stays state) (stays state)
submit_as_front setting state call Looking = stays state
submit_as_front setting state call (Discover heard) = stays state
submit_as_front setting state call (Choose votes joiners) = stays state
submit_as_front setting state call Sync = stays state

submit_front : {C : Type 0} (setting : Setting C) (state : State) (call : C) → KeepsBy state (rules.submit setting state call)
submit_front setting state call = submit_as_front setting state call state.peer.role

request_front : {C : Type 0} (setting : Setting C) (state : State) (epoch : ℕ) (call : C) (role : Role) → KeepsBy state (rules.request_as setting state epoch call role)
request_front setting state epoch call Broadcast =
    by_test (KeepsBy state) ((epoch == state.peer.stable.promised) && not (is_taken (setting.tag call) state.taken)) _ _
    (appends_front setting state call (rules.next_zxid state.peer.stable.promised state.made)) (stays state)
request_front setting state epoch call (Following leader synced) = stays state
request_front setting state epoch call Looking = stays state
request_front setting state epoch call (Discover heard) = stays state
request_front setting state epoch call (Choose votes joiners) = stays state
request_front setting state epoch call Sync = stays state

sync_as_front : (C : Type 0) (state : State) (tag : ℕ) (role : Role) → KeepsBy {C = C} state (rules.sync_as state tag role)
sync_as_front C state tag Broadcast = stays state
sync_as_front C state tag (Following leader synced) = by_test (KeepsBy {C = C} state) synced _ _ (stays state) (stays state)
sync_as_front C state tag Looking = stays state
sync_as_front C state tag (Discover heard) = stays state
sync_as_front C state tag (Choose votes joiners) = stays state
sync_as_front C state tag Sync = stays state

sync_ask_front : (C : Type 0) (state : State) (from epoch tag : ℕ) (role : Role) → KeepsBy {C = C} state (rules.sync_ask_as state from epoch tag role)
sync_ask_front C state from epoch tag Broadcast =
    by_test (KeepsBy {C = C} state) (epoch == state.peer.stable.promised) _ _ (stays state) (stays state)
sync_ask_front C state from epoch tag Looking = stays state
sync_ask_front C state from epoch tag (Discover heard) = stays state
sync_ask_front C state from epoch tag (Choose votes joiners) = stays state
sync_ask_front C state from epoch tag Sync = stays state
sync_ask_front C state from epoch tag (Following leader synced) = stays state

-- a message that cuts nothing
pub receives_front : {C : Type 0} (setting : Setting C) (from : ℕ) (body : Body C) (state : State) → is_cut_by body state.peer.stable.history ≡ false → KeepsBy state (receives setting from body state)
receives_front {C} setting from (CEpoch promised) state e = c_epoch_front C setting.passes state.peer from promised state.peer.role
receives_front {C} setting from (NewEpoch epoch) state e = new_epoch_front C state.peer from epoch
receives_front {C} setting from (AckEpoch epoch vote current last) state e =
    let told : Vote = record { current = current; last = last } in
    let peer : Keeps {C = C} state.peer (epoch_rules.ack_epoch setting.passes state.peer from epoch vote told) = ack_epoch_front C setting.passes state.peer from epoch vote told in
    by_test (KeepsBy {C = C} state) (is_choosing state.peer.role) _ _ peer peer
receives_front {C} setting from (NewLeader epoch keep rest) state e =
    by_test (KeepsBy {C = C} state) (follows state.peer.role from) _ _
    (new_leader_front C state.peer from epoch keep rest (all_up_to keep state.peer.stable.history e)) (stays state)
receives_front {C} setting from (AckLeader epoch count) state e =
    by_test (KeepsBy {C = C} state) (epoch == state.peer.stable.promised) _ _
    (ack_leader_front C setting.passes state from count state.peer.role) (stays state)
receives_front {C} setting from (Propose epoch index entry) state e = propose_front C state from epoch index entry
receives_front {C} setting from (Ack epoch count) state e = ack_front C setting.passes state from epoch count state.peer.role
receives_front {C} setting from (Commit epoch count) state e =
    by_test (KeepsBy {C = C} state) (follows state.peer.role from && (epoch == state.peer.stable.current)) _ _ (stays state) (stays state)
receives_front {C} setting from (Request epoch call) state e = request_front setting state epoch call state.peer.role
receives_front {C} setting from (SyncAsk epoch tag) state e = sync_ask_front C state from epoch tag state.peer.role
receives_front {C} setting from (SyncTell epoch tag count) state e =
    by_test (KeepsBy {C = C} state) ((follows state.peer.role from && (epoch == state.peer.stable.current)) && is_asked tag state.asked) _ _ (stays state) (stays state)

-- ---- events

is_same : (n k : ℕ) → (n ≡ k) ⊎ (n ≢ k)
is_same zero zero = inl refl
is_same zero (suc k) = inr (λ e. absurd cc)
is_same (suc n) zero = inr (λ e. absurd cc)
is_same (suc n) (suc k) = elim (is_same n k) [
  | inl e ↦ inl (ap suc e)
  | inr e ↦ inr (λ f. e (ap pred f))
]

-- the servers' histories in one world are prefixes of those in another
abbrev Fronts : {C : Type 0} → World C → World C × Answer → ℕ → Type 0
Fronts w next p = IsFront (history_of w p) (history_of next.0 p)

stands_front : (servers : List ProcessState) (n p : ℕ) (it stands : ProcessState) → server_at servers n ≡ Some it → IsFront it.state.peer.stable.history stands.state.peer.stable.history → IsFront (history_list (server_at servers p)) (history_list (server_at (set servers (n - 1) stands) p))
stands_front servers n p it stands is front =
    let place = found servers n it is in
    elim (is_same p n) [
      | inl here ↦
          subst (λ u. IsFront (history_list (server_at servers u)) (history_list (server_at (set servers (n - 1) stands) u))) (sym here)
          (subst (λ (o : Option ProcessState). IsFront (history_list o) (history_list (server_at (set servers (n - 1) stands) n))) (sym is)
          (subst (λ (o : Option ProcessState). IsFront it.state.peer.stable.history (history_list o)) (sym (same_place servers n it stands place)) front))
      | inr other ↦
          subst (λ (o : Option ProcessState). IsFront (history_list (server_at servers p)) (history_list o))
          (sym (other_same servers n p stands place.above other)) (same (history_list (server_at servers p)))
    ]

told_front : {C : Type 0} (w : World C) (n p : ℕ) (it stands : ProcessState) (r : Result (List (Message C)) RuleFault) → server_at w.servers n ≡ Some it → IsFront it.state.peer.stable.history stands.state.peer.stable.history → Fronts w (told (with_server w n stands) (said r)) p
told_front w n p it stands (Ok messages) is front = stands_front w.servers n p it stands is front
told_front w n p it stands (Err fault) is front = stands_front w.servers n p it stands is front

spends_front : {C : Type 0} (t : ℕ) (w : World C) (n p : ℕ) (it stands : ProcessState) (r : Result (List (Message C)) RuleFault) → server_at w.servers n ≡ Some it → IsFront it.state.peer.stable.history stands.state.peer.stable.history → Fronts w (spends t (told (with_server w n stands) (said r))) p
spends_front t w n p it stands (Ok messages) is front = stands_front w.servers n p it stands is front
spends_front t w n p it stands (Err fault) is front = stands_front w.servers n p it stands is front

spends_sync_front : {C : Type 0} (t : ℕ) (w : World C) (n p : ℕ) (it stands : ProcessState) (r : Result (List (Message C)) RuleFault) → server_at w.servers n ≡ Some it → IsFront it.state.peer.stable.history stands.state.peer.stable.history → Fronts w (spends_sync t (told (with_server w n stands) (said r))) p
spends_sync_front t w n p it stands (Ok messages) is front = stands_front w.servers n p it stands is front
spends_sync_front t w n p it stands (Err fault) is front = stands_front w.servers n p it stands is front

nothing : {C : Type 0} (w : World C) (p : ℕ) → IsFront (history_of w p) (history_of w p)
nothing w p = same (history_of w p)

acts_front : {C : Type 0} (w : World C) (n p : ℕ) (rule : State → rules.Acts C) (r : Result ProcessState WorldFault) → ((it : ProcessState) → r ≡ Ok it → server_at w.servers n ≡ Some it) → ((it : ProcessState) → r ≡ Ok it → KeepsBy it.state (rule it.state)) → Fronts w (acts w n rule r) p
acts_front w n p rule (Ok it) is keeps =
    told_front w n p it (standing it.up (rule it.state).0) (rule it.state).1 (is it refl) (keeps it refl)
acts_front w n p rule (Err fault) is keeps = nothing w p

arrives_front : {C : Type 0} (setting : Setting C) (w : World C) (p : ℕ) (m : Option (Message C)) → cuts w m ≡ false → Fronts w (arrives setting w m) p
arrives_front setting w p None e = nothing w p
arrives_front setting w p (Some m) e =
    acts_front w m.addressee p (receives setting m.sender m.body) (running w.servers m.addressee)
    (λ it is. up_is (server_at w.servers m.addressee) it is)
    (λ it is. receives_front setting m.sender m.body it.state
    (subst (λ o. is_cut_by m.body (history_list o) ≡ false) (up_is (server_at w.servers m.addressee) it is) e))

submits_front : {C : Type 0} (setting : Setting C) (w : World C) (n p : ℕ) (call : C) (r : Result ProcessState WorldFault) → ((it : ProcessState) → r ≡ Ok it → server_at w.servers n ≡ Some it) → Fronts w (submits setting w n call r) p
submits_front setting w n p call (Err fault) is = nothing w p
submits_front {C} setting w n p call (Ok it) is =
    let act : rules.Acts C = rules.submit setting it.state call in
    by_test (λ (q : World C × Answer). Fronts w q p) (rules.is_serving it.state.peer.role) _ _
    (by_test (λ (q : World C × Answer). Fronts w q p) (is_taken (setting.tag call) w.tags.calls) _ _ (nothing w p)
    (spends_front (setting.tag call) w n p it (standing it.up act.0) act.1 (is it refl) (submit_front setting it.state call)))
    (nothing w p)

syncs_front : {C : Type 0} (w : World C) (n p tag : ℕ) (r : Result ProcessState WorldFault) → ((it : ProcessState) → r ≡ Ok it → server_at w.servers n ≡ Some it) → Fronts w (syncs w n tag r) p
syncs_front w n p tag (Err fault) is = nothing w p
syncs_front {C} w n p tag (Ok it) is =
    let act : rules.Acts C = rules.sync it.state tag in
    by_test (λ (q : World C × Answer). Fronts w q p) (rules.is_serving it.state.peer.role) _ _
    (by_test (λ (q : World C × Answer). Fronts w q p) (is_taken tag w.tags.syncs) _ _ (nothing w p)
    (spends_sync_front tag w n p it (standing it.up act.0) act.1 (is it refl) (sync_as_front C it.state tag it.state.peer.role)))
    (nothing w p)

crashes_front : {C : Type 0} (w : World C) (n p : ℕ) (r : Result ProcessState WorldFault) → ((it : ProcessState) → r ≡ Ok it → server_at w.servers n ≡ Some it) → Fronts w (crashes w n r) p
crashes_front w n p (Ok it) is = stands_front w.servers n p it (standing false (crashed it.state)) (is it refl) (stays it.state)
crashes_front w n p (Err fault) is = nothing w p

restarts_front : {C : Type 0} (w : World C) (n p : ℕ) (r : Result ProcessState WorldFault) → ((it : ProcessState) → r ≡ Ok it → server_at w.servers n ≡ Some it) → Fronts w (restarts w n r) p
restarts_front w n p (Ok it) is = stands_front w.servers n p it (standing true it.state) (is it refl) (stays it.state)
restarts_front w n p (Err fault) is = nothing w p

runs : {C : Type 0} (w : World C) (n : ℕ) (it : ProcessState) → running w.servers n ≡ Ok it → server_at w.servers n ≡ Some it
runs w n it is = up_is (server_at w.servers n) it is

-- each event but a NewLeader leaves what each server had as a prefix of its history
pub happens_front : {C : Type 0} (profile : Profile C) (w : World C) (event : Event C) (p : ℕ) → replaces w event ≡ false → take (length (history_of w p)) (history_of (happens profile w event).0 p) ≡ history_of w p
happens_front profile w (events.Lead n) p e = acts_front w n p rules.lead (running w.servers n) (runs w n) (λ it is. stays it.state)
happens_front {C} profile w (events.Follow n leader) p e =
    by_test (λ (q : World C × Answer). Fronts w q p) (is_server (length w.servers) leader && not (n == leader)) _ _
    (acts_front w n p (λ state. rules.follow state leader) (running w.servers n) (runs w n) (λ it is. stays it.state)) (nothing w p)
happens_front profile w (events.Arrive number) p e = arrives_front profile.setting w p (message_at w.messages number) e
happens_front profile w (events.Submit n call) p e = submits_front profile.setting w n p call (running w.servers n) (runs w n)
happens_front profile w (events.Expire n tag session now) p e =
    submits_front profile.setting w n p (profile.closing tag session now) (running w.servers n) (runs w n)
happens_front profile w (events.Sync n tag) p e = syncs_front w n p tag (running w.servers n) (runs w n)
happens_front profile w (events.Crash n) p e = crashes_front w n p (running w.servers n) (runs w n)
happens_front profile w (events.Restart n) p e = restarts_front w n p (resting w.servers n) (λ it is. down_is (server_at w.servers n) it is)
