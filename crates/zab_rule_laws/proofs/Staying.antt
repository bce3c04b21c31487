-- What no rule undoes: a server's current epoch does not fall, and one that leads after a rule led
-- before it, or its current epoch has risen.
use Rattle.std.proofs.Common.{◌≡◌, ℕ, ℤ, ◌<◌, ◌≤◌, ◌==◌, ◌&&◌, ◌||◌, nat_lt, max, not, ◌⊎◌, inl, inr, Bool, true, List, length, Option, Some, None, refl, sym, subst, arith}
use Rattle.std.proofs.lemmas.Bool.Decides.{nat_tests}
use Rattle.zab_epoch.specs.declared.history.Entry.{Entry}
use Rattle.zab_epoch.specs.declared.peer.Peer.{Peer}
use Rattle.zab_epoch.specs.declared.role.Role.{Role}
use Rattle.zab_epoch.specs.declared.role.Role.TheVariants.{Looking, Discover, Choose, Sync, Broadcast, Following}
use Rattle.zab_epoch.specs.declared.votes.Vote.{Vote}
use Rattle.zab_epoch.specs.Roles.{follows, is_choosing}
use Rattle.zab_epoch.specs.Rules as epoch_rules
use Rattle.zab_epoch.specs.Tables.{put, marks_of}
use Rattle.zab_broadcast.specs.declared.state.State.{State}
use Rattle.zab_broadcast.specs.Calls.{Setting, is_taken}
use Rattle.zab_broadcast.specs.Rules as rules
use Rattle.zab_broadcast.specs.Syncs.{is_asked}
use Rattle.zab_laws.specs.Cores as laws
use Rattle.zab_rule_laws.specs.Told.{RoleFact, Stands}
use Rattle.zab_rule_laws.proofs.Common.{by_test}

abbrev pub IsLeading : Role → Type 0
IsLeading Sync = Unit {0}
IsLeading Broadcast = Unit {0}
IsLeading _ = ⊥

pub record Stays (peer next : Peer) : Type 0 where
  pub current : peer.stable.current ≤ next.stable.current
  pub leads : IsLeading next.role → (peer.stable.current < next.stable.current) ⊎ IsLeading peer.role

same : (peer : Peer) → Stays peer peer
same peer = record { current = omega arith; leads = λ l. inr l }

same_as : (peer next : Peer) → next ≡ peer → Stays peer next
same_as peer next e = subst (Stays peer) (sym e) (same peer)

-- nobody leads in the new role
idles : (peer next : Peer) → peer.stable.current ≤ next.stable.current → (IsLeading next.role → ⊥) → Stays peer next
idles peer next low none = record { current = low; leads = λ l. absurd (none l) }

-- ---- discovery and synchronization

chooses_stays : (C : Type 0) (peer : Peer) (heard : List Bool) (next : Option ℕ) → Stays peer (epoch_rules.chooses {C = C} peer heard next).0
chooses_stays C peer heard None = idles peer (record peer { role = Looking }) (omega arith) (λ l. l)
chooses_stays C peer heard (Some epoch) = idles peer (epoch_rules.chooses {C = C} peer heard (Some epoch)).0 (omega arith) (λ l. l)

c_epoch_as_stays : (C : Type 0) (passes : List Bool → Bool) (peer : Peer) (from promised : ℕ) (role : Role) → Stays peer (epoch_rules.c_epoch_as {C = C} passes peer from promised role).0
c_epoch_as_stays C passes peer from promised (Discover heard) =
    by_test (λ (acts : epoch_rules.Acts C). Stays peer acts.0) (passes (marks_of (put heard from promised))) _ _
    (λ e. chooses_stays C peer (marks_of (put heard from promised)) (epoch_rules.next_epoch (max (epoch_rules.greatest (put heard from promised)) peer.stable.promised)))
    (λ e. idles peer (record peer { role = Discover (put heard from promised) }) (omega arith) (λ l. l))
c_epoch_as_stays C passes peer from promised (Choose votes joiners) = same peer
c_epoch_as_stays C passes peer from promised Sync = same peer
c_epoch_as_stays C passes peer from promised Broadcast = same peer
c_epoch_as_stays C passes peer from promised Looking = same peer
c_epoch_as_stays C passes peer from promised (Following leader synced) = same peer

peer_new_epoch_stays : (C : Type 0) (peer : Peer) (from epoch : ℕ) → Stays peer (epoch_rules.new_epoch {C = C} peer from epoch).0
peer_new_epoch_stays C peer from epoch =
    by_test (λ (acts : epoch_rules.Acts C). Stays peer acts.0) (follows peer.role from) _ _
    (λ follower. by_test (λ (acts : epoch_rules.Acts C). Stays peer acts.0) (epoch_rules.is_new peer.stable epoch) _ _
    (λ above. record { current = omega arith; leads = λ l. inr l })
    (λ no. by_test (λ (acts : epoch_rules.Acts C). Stays peer acts.0) (epoch == peer.stable.promised) _ _ (λ e. same peer) (λ e. same peer)))
    (λ other. same peer)

gathers_stays : (C : Type 0) (passes : List Bool → Bool) (peer : Peer) (votes : List (Option Vote)) (joiners : List (Option ℤ)) → peer.stable.current < peer.stable.promised → Stays peer (epoch_rules.gathers {C = C} passes peer votes joiners).0
gathers_stays C passes peer votes joiners below =
    by_test (λ (acts : epoch_rules.Acts C). Stays peer acts.0) (passes (marks_of votes)) _ _
    (λ quorum. by_test (λ (acts : epoch_rules.Acts C). Stays peer acts.0) (epoch_rules.exceeds (epoch_rules.vote_of peer.stable) votes) _ _
    (λ greater. idles peer (record peer { role = Looking }) (omega arith) (λ l. l))
    (λ none. record { current = omega arith; leads = λ l. inl below }))
    (λ few. idles peer (record peer { role = Choose votes joiners }) (omega arith) (λ l. l))

ack_epoch_as_stays : (C : Type 0) (passes : List Bool → Bool) (k : laws.Setting Entry) (g : laws.Ghost Entry) (state : State) (from : ℕ) (vote : Bool) (said : Vote) (role : Role) → RoleFact k g state role → Stays state.peer (epoch_rules.ack_epoch_as {C = C} passes state.peer from vote said role).0
ack_epoch_as_stays C passes k g state from vote said (Choose votes joiners) f =
    by_test (λ (given : List (Option Vote)). Stays state.peer (epoch_rules.gathers {C = C} passes state.peer given (put joiners from said.last)).0) vote (put votes from said) votes
    (λ e. gathers_stays C passes state.peer (put votes from said) (put joiners from said.last) f.below)
    (λ e. gathers_stays C passes state.peer votes (put joiners from said.last) f.below)
ack_epoch_as_stays C passes k g state from vote said Sync f = same state.peer
ack_epoch_as_stays C passes k g state from vote said Broadcast f = same state.peer
ack_epoch_as_stays C passes k g state from vote said Looking f = same state.peer
ack_epoch_as_stays C passes k g state from vote said (Discover heard) f = same state.peer
ack_epoch_as_stays C passes k g state from vote said (Following leader synced) f = same state.peer

behind_is : (c e m n : ℕ) → (nat_lt c e || ((c == e) && nat_lt m n)) ≡ true → c ≤ e
behind_is c e m n is = grind (arith, nat_tests)

peer_new_leader_stays : (C : Type 0) (peer : Peer) (from epoch : ℕ) (keep : ℤ) (rest : List Entry) → Stays peer (epoch_rules.new_leader {C = C} peer from epoch keep rest).0
peer_new_leader_stays C peer from epoch keep rest =
    let history : List Entry = epoch_rules.meant peer.stable.history keep rest in
    by_test (λ (acts : epoch_rules.Acts C). Stays peer acts.0) (follows peer.role from && (epoch == peer.stable.promised)) _ _
    (λ here. by_test (λ (acts : epoch_rules.Acts C). Stays peer acts.0) (epoch_rules.goes_on peer.stable.history keep rest) _ _
    (λ on. by_test (λ (acts : epoch_rules.Acts C). Stays peer acts.0) (epoch_rules.is_behind peer.stable epoch (length history)) _ _
    (λ behind. idles peer (epoch_rules.joins {C = C} peer from epoch epoch history).0 (behind_is peer.stable.current epoch (length peer.stable.history) (length history) behind) (λ l. l))
    (λ no. idles peer (epoch_rules.joins {C = C} peer from epoch peer.stable.current peer.stable.history).0 (omega arith) (λ l. l)))
    (λ off. same peer))
    (λ other. same peer)

-- ---- the same at a server

abbrev pub StaysBy : {C : Type 0} → State → rules.Acts C → Type 0
StaysBy state acts = Stays state.peer acts.0.peer

pub lead_stays : (C : Type 0) (state : State) → StaysBy {C = C} state (rules.lead state)
lead_stays C state = idles state.peer (rules.lead {C = C} state).0.peer (omega arith) (λ l. l)

pub follow_stays : (C : Type 0) (state : State) (leader : ℕ) → StaysBy {C = C} state (rules.follow state leader)
follow_stays C state leader = idles state.peer (rules.follow {C = C} state leader).0.peer (omega arith) (λ l. l)

pub c_epoch_stays : (C : Type 0) (passes : List Bool → Bool) (state : State) (from promised : ℕ) → StaysBy {C = C} state (rules.c_epoch passes state from promised)
c_epoch_stays C passes state from promised = c_epoch_as_stays C passes state.peer from promised state.peer.role

pub new_epoch_stays : (C : Type 0) (state : State) (from epoch : ℕ) → StaysBy {C = C} state (rules.new_epoch state from epoch)
new_epoch_stays C state from epoch = peer_new_epoch_stays C state.peer from epoch

pub ack_epoch_stays : (C : Type 0) (passes : List Bool → Bool) (k : laws.Setting Entry) (g : laws.Ghost Entry) (state : State) (from epoch : ℕ) (vote : Bool) (said : Vote) → Stands k g state → StaysBy {C = C} state (rules.ack_epoch passes state from epoch vote said)
ack_epoch_stays C passes k g state from epoch vote said f =
    let peer : Stays state.peer (epoch_rules.ack_epoch {C = C} passes state.peer from epoch vote said).0 =
    by_test (λ (acts : epoch_rules.Acts C). Stays state.peer acts.0) (epoch == state.peer.stable.promised) _ _
    (λ e. ack_epoch_as_stays C passes k g state from vote said state.peer.role f.role)
    (λ e. same state.peer) in
    by_test (StaysBy {C = C} state) (is_choosing state.peer.role) _ _ (λ e. peer) (λ e. peer)

pub new_leader_stays : (C : Type 0) (state : State) (from epoch : ℕ) (keep : ℤ) (rest : List Entry) → StaysBy {C = C} state (rules.new_leader state from epoch keep rest)
new_leader_stays C state from epoch keep rest =
    by_test (StaysBy {C = C} state) (follows state.peer.role from) _ _
    (λ e. peer_new_leader_stays C state.peer from epoch keep rest)
    (λ e. same state.peer)

-- ---- broadcast

-- settling leaves the peer unchanged
settles_same : (passes : List Bool → Bool) (state : State) → (rules.settles passes state).0.peer ≡ state.peer
settles_same passes state =
    by_test (λ (s : rules.Settled). s.0.peer ≡ state.peer) (nat_lt state.top (rules.counted passes state)) _ _ (λ e. refl) (λ e. refl)

ack_leader_as_stays : (C : Type 0) (passes : List Bool → Bool) (state : State) (from count : ℕ) (role : Role) → state.peer.role ≡ role → StaysBy {C = C} state (rules.ack_leader_as passes state from count role)
ack_leader_as_stays C passes state from count Sync at =
    by_test (StaysBy {C = C} state) (passes (marks_of (rules.raised state from count).has)) _ _
    (λ e. record { current = omega arith; leads = λ l. inr (subst IsLeading (sym at) tt) })
    (λ e. same state.peer)
ack_leader_as_stays C passes state from count Broadcast at =
    same_as state.peer (rules.settles passes (rules.raised state from count)).0.peer (settles_same passes (rules.raised state from count))
ack_leader_as_stays C passes state from count Looking at = same state.peer
ack_leader_as_stays C passes state from count (Discover heard) at = same state.peer
ack_leader_as_stays C passes state from count (Choose votes joiners) at = same state.peer
ack_leader_as_stays C passes state from count (Following leader synced) at = same state.peer

pub ack_leader_stays : (C : Type 0) (passes : List Bool → Bool) (state : State) (from epoch count : ℕ) → StaysBy {C = C} state (rules.ack_leader passes state from epoch count)
ack_leader_stays C passes state from epoch count =
    by_test (StaysBy {C = C} state) (epoch == state.peer.stable.promised) _ _
    (λ e. ack_leader_as_stays C passes state from count state.peer.role refl)
    (λ e. same state.peer)

pub propose_stays : (C : Type 0) (state : State) (from epoch index : ℕ) (entry : Entry) → StaysBy {C = C} state (rules.propose state from epoch index entry)
propose_stays C state from epoch index entry =
    by_test (StaysBy {C = C} state) (follows state.peer.role from && rules.is_next state.peer.stable epoch index) _ _
    (λ e. by_test (StaysBy {C = C} state) (rules.is_above state.peer.stable entry) _ _
    (λ above. record { current = omega arith; leads = λ l. inr l })
    (λ below. same state.peer))
    (λ e. same state.peer)

ack_as_stays : (C : Type 0) (passes : List Bool → Bool) (state : State) (from epoch count : ℕ) (role : Role) → StaysBy {C = C} state (rules.ack_as passes state from epoch count role)
ack_as_stays C passes state from epoch count Broadcast =
    by_test (StaysBy {C = C} state) (epoch == state.peer.stable.promised) _ _
    (λ e. same_as state.peer (rules.settles passes (rules.raised state from count)).0.peer (settles_same passes (rules.raised state from count)))
    (λ e. same state.peer)
ack_as_stays C passes state from epoch count Looking = same state.peer
ack_as_stays C passes state from epoch count (Discover heard) = same state.peer
ack_as_stays C passes state from epoch count (Choose votes joiners) = same state.peer
ack_as_stays C passes state from epoch count Sync = same state.peer
ack_as_stays C passes state from epoch count (Following leader synced) = same state.peer

pub ack_stays : (C : Type 0) (passes : List Bool → Bool) (state : State) (from epoch count : ℕ) → StaysBy {C = C} state (rules.ack passes state from epoch count)
ack_stays C passes state from epoch count = ack_as_stays C passes state from epoch count state.peer.role

pub commit_stays : (C : Type 0) (state : State) (from epoch count : ℕ) → StaysBy {C = C} state (rules.commit state from epoch count)
commit_stays C state from epoch count =
    by_test (StaysBy {C = C} state) (follows state.peer.role from && (epoch == state.peer.stable.current)) _ _ (λ e. same state.peer) (λ e. same state.peer)

-- ---- calls

-- a leader that takes a call has one entry more
took_stays : (passes : List Bool → Bool) (state : State) (entry : Entry) → Stays state.peer (rules.settles passes (rules.took state entry)).0.peer
took_stays passes state entry =
    subst (Stays state.peer) (sym (settles_same passes (rules.took state entry))) (record { current = omega arith; leads = λ l. inr l })

appends_stays : {C : Type 0} (setting : Setting C) (state : State) (call : C) (zxid : Option ℤ) → StaysBy state (rules.appends_at setting state call zxid)
appends_stays setting state call None = idles state.peer (record state.peer { role = Looking }) (omega arith) (λ l. l)
appends_stays setting state call (Some zxid) = took_stays setting.passes state (setting.made state.peer.stable.history call zxid)

submit_as_stays : {C : Type 0} (setting : Setting C) (state : State) (call : C) (role : Role) → StaysBy state (rules.submit_as setting state call role)
submit_as_stays setting state call Broadcast = appends_stays setting state call (rules.next_zxid state.peer.stable.promised state.made)
submit_as_stays setting state call (Following leader synced) =
    by_test (StaysBy state) synced _ _ (λ e. same state.peer) (λ e. same state.peer)
submit_as_stays setting state call Looking = same state.peer
submit_as_stays setting state call (Discover heard) = same state.peer
submit_as_stays setting state call (Choose votes joiners) = same state.peer
submit_as_stays setting state call Sync = same state.peer

pub submit_stays : {C : Type 0} (setting : Setting C) (state : State) (call : C) → StaysBy state (rules.submit setting state call)
submit_stays setting state call = submit_as_stays setting state call state.peer.role

request_as_stays : {C : Type 0} (setting : Setting C) (state : State) (epoch : ℕ) (call : C) (role : Role) → StaysBy state (rules.request_as setting state epoch call role)
request_as_stays setting state epoch call Broadcast =
    by_test (StaysBy state) ((epoch == state.peer.stable.promised) && not (is_taken (setting.tag call) state.taken)) _ _
    (λ e. appends_stays setting state call (rules.next_zxid state.peer.stable.promised state.made))
    (λ e. same state.peer)
request_as_stays setting state epoch call (Following leader synced) = same state.peer
request_as_stays setting state epoch call Looking = same state.peer
request_as_stays setting state epoch call (Discover heard) = same state.peer
request_as_stays setting state epoch call (Choose votes joiners) = same state.peer
request_as_stays setting state epoch call Sync = same state.peer

pub request_stays : {C : Type 0} (setting : Setting C) (state : State) (epoch : ℕ) (call : C) → StaysBy state (rules.request setting state epoch call)
request_stays setting state epoch call = request_as_stays setting state epoch call state.peer.role

-- ---- syncs

sync_as_stays : (C : Type 0) (state : State) (tag : ℕ) (role : Role) → StaysBy {C = C} state (rules.sync_as state tag role)
sync_as_stays C state tag Broadcast = same state.peer
sync_as_stays C state tag (Following leader synced) =
    by_test (StaysBy {C = C} state) synced _ _ (λ e. same state.peer) (λ e. same state.peer)
sync_as_stays C state tag Looking = same state.peer
sync_as_stays C state tag (Discover heard) = same state.peer
sync_as_stays C state tag (Choose votes joiners) = same state.peer
sync_as_stays C state tag Sync = same state.peer

pub sync_stays : (C : Type 0) (state : State) (tag : ℕ) → StaysBy {C = C} state (rules.sync state tag)
sync_stays C state tag = sync_as_stays C state tag state.peer.role

sync_ask_as_stays : (C : Type 0) (state : State) (from epoch tag : ℕ) (role : Role) → StaysBy {C = C} state (rules.sync_ask_as state from epoch tag role)
sync_ask_as_stays C state from epoch tag Broadcast =
    by_test (StaysBy {C = C} state) (epoch == state.peer.stable.promised) _ _ (λ e. same state.peer) (λ e. same state.peer)
sync_ask_as_stays C state from epoch tag Looking = same state.peer
sync_ask_as_stays C state from epoch tag (Discover heard) = same state.peer
sync_ask_as_stays C state from epoch tag (Choose votes joiners) = same state.peer
sync_ask_as_stays C state from epoch tag Sync = same state.peer
sync_ask_as_stays C state from epoch tag (Following leader synced) = same state.peer

pub sync_ask_stays : (C : Type 0) (state : State) (from epoch tag : ℕ) → StaysBy {C = C} state (rules.sync_ask state from epoch tag)
sync_ask_stays C state from epoch tag = sync_ask_as_stays C state from epoch tag state.peer.role

pub sync_tell_stays : (C : Type 0) (state : State) (from epoch tag count : ℕ) → StaysBy {C = C} state (rules.sync_tell state from epoch tag count)
sync_tell_stays C state from epoch tag count =
    by_test (StaysBy {C = C} state) ((follows state.peer.role from && (epoch == state.peer.stable.current)) && is_asked tag state.asked) _ _
    (λ e. same state.peer) (λ e. same state.peer)
