-- Which events deliver nothing: those of a server that does not run, and those that are rejected.
use Rattle.std.proofs.Common.{◌≡◌, ℕ, ℤ, ◌==◌, ◌&&◌, not, max, Bool, true, false, cond, List, length, take, Option, Some, None, Result, Ok, Err, refl, sym, ap, ◌∙◌}
use Rattle.zab_epoch.specs.declared.rule_fault.RuleFault.{RuleFault}
use Rattle.zab_epoch.specs.declared.history.Entry.{Entry}
use Rattle.zab_epoch.specs.declared.message.Body.{Body}
use Rattle.zab_epoch.specs.declared.message.Body.TheVariants.{CEpoch, NewEpoch, AckEpoch, NewLeader, AckLeader, Propose, Ack, Commit, Request, SyncAsk, SyncTell}
use Rattle.zab_epoch.specs.declared.message.Message.{Message}
use Rattle.zab_epoch.specs.declared.peer.Peer.{Peer}
use Rattle.zab_epoch.specs.declared.role.Role.{Role}
use Rattle.zab_epoch.specs.declared.role.Role.TheVariants as roles
use Rattle.zab_epoch.specs.declared.votes.Vote.{Vote}
use Rattle.zab_epoch.specs.Roles.{follows, is_choosing}
use Rattle.zab_epoch.specs.Rules as epoch_rules
use Rattle.zab_epoch.specs.Tables.{put, marks_of}
use Rattle.zab_broadcast.specs.declared.state.State.{State}
use Rattle.zab_broadcast.specs.Calls.{Setting, is_taken}
use Rattle.zab_broadcast.specs.Rules as rules
use Rattle.zab_broadcast.specs.Syncs.{is_asked}
use Rattle.zab_model.specs.declared.event.Event.{Event}
use Rattle.zab_model.specs.declared.event.Event.TheVariants.{Lead, Follow, Arrive, Submit, Expire, Sync, Crash, Restart}
use Rattle.zab_model.specs.declared.fault.WorldFault.{WorldFault}
use Rattle.zab_model.specs.declared.fault.WorldFault.TheVariants as faults
use Rattle.zab_model.specs.Movers.{mover, addressee_of}
use Rattle.zab_model.specs.Running.{is_up, is_running}
use Rattle.zab_model.specs.Runs.{delivered_list, delivered_of}
use Rattle.zab_model.specs.ProcessStates.{ProcessState, standing}
use Rattle.zab_model.specs.Worlds.{World, Profile, Answer, is_server, server_at, if_up, running, resting, told, said, with_server, acts, receives, message_at, arrives, spends, submits, spends_sync, syncs, crashes, restarts, happens}
use Rattle.zab_model.proofs.ServerLists.{found, same_place, up_is, down_is}

by_test : {A : Type 0} (P : A → Type 0) (b : Bool) (x y : A) → P x → P y → P (cond b x y)
by_test P true x y p q = p
by_test P false x y p q = q

no_fault : {A F : Type 0} (x : A) (fault : F) → (let r : Result A F = Ok x in r ≡ Err fault) → ⊥
no_fault x fault e = absurd cc

-- ---- the rules of the first two phases

-- one that fails leaves the history unchanged
abbrev LeavesPeer : {C : Type 0} → Peer → epoch_rules.Acts C → Type 0
LeavesPeer peer made = (fault : RuleFault) → made.1 ≡ Err fault → made.0.stable.history ≡ peer.stable.history

-- one that never fails
abbrev Speaks : {C : Type 0} → epoch_rules.Acts C → Type 0
Speaks made = (fault : RuleFault) → made.1 ≡ Err fault → ⊥

speaks : {C : Type 0} (messages : List (Message C)) (fault : RuleFault) → (let r : Result (List (Message C)) RuleFault = Ok messages in r ≡ Err fault) → ⊥
speaks messages fault e = no_fault messages fault e

chooses_leaves : {C : Type 0} (peer : Peer) (heard : List Bool) (next : Option ℕ) → LeavesPeer {C = C} peer (epoch_rules.chooses peer heard next)
chooses_leaves peer heard None fault e = refl
chooses_leaves peer heard (Some epoch) fault e = absurd (no_fault _ fault e)

hears_leaves : {C : Type 0} (passes : List Bool → Bool) (peer : Peer) (heard : List (Option ℕ)) → LeavesPeer {C = C} peer (epoch_rules.hears passes peer heard)
hears_leaves {C} passes peer heard =
    by_test (λ (made : epoch_rules.Acts C). LeavesPeer peer made) (passes (marks_of heard)) _ _
    (chooses_leaves peer (marks_of heard) (epoch_rules.next_epoch (max (epoch_rules.greatest heard) peer.stable.promised)))
    (λ fault e. refl)

c_epoch_leaves : {C : Type 0} (passes : List Bool → Bool) (peer : Peer) (from promised : ℕ) (role : Role) → LeavesPeer {C = C} peer (epoch_rules.c_epoch_as passes peer from promised role)
c_epoch_leaves passes peer from promised (roles.Discover heard) = hears_leaves passes peer (put heard from promised)
c_epoch_leaves passes peer from promised (roles.Choose votes joiners) = λ fault e. refl
c_epoch_leaves passes peer from promised roles.Sync = λ fault e. refl
c_epoch_leaves passes peer from promised roles.Broadcast = λ fault e. refl
c_epoch_leaves passes peer from promised roles.Looking = λ fault e. refl
c_epoch_leaves passes peer from promised (roles.Following leader synced) = λ fault e. refl

new_epoch_speaks : {C : Type 0} (peer : Peer) (from epoch : ℕ) → Speaks {C = C} (epoch_rules.new_epoch peer from epoch)
new_epoch_speaks {C} peer from epoch =
    by_test (λ (made : epoch_rules.Acts C). Speaks made) (follows peer.role from) _ _
    (by_test (λ (made : epoch_rules.Acts C). Speaks made) (epoch_rules.is_new peer.stable epoch) _ _
    (speaks _)
    (by_test (λ (made : epoch_rules.Acts C). Speaks made) (epoch == peer.stable.promised) _ _ (speaks _) (speaks _)))
    (speaks _)

gathers_speaks : {C : Type 0} (passes : List Bool → Bool) (peer : Peer) (votes : List (Option Vote)) (joiners : List (Option ℤ)) → Speaks {C = C} (epoch_rules.gathers passes peer votes joiners)
gathers_speaks {C} passes peer votes joiners =
    by_test (λ (made : epoch_rules.Acts C). Speaks made) (passes (marks_of votes)) _ _
    (by_test (λ (made : epoch_rules.Acts C). Speaks made) (epoch_rules.exceeds (epoch_rules.vote_of peer.stable) votes) _ _ (speaks _) (speaks _))
    (speaks _)

ack_epoch_as_speaks : {C : Type 0} (passes : List Bool → Bool) (peer : Peer) (from : ℕ) (vote : Bool) (has : Vote) (role : Role) → Speaks {C = C} (epoch_rules.ack_epoch_as passes peer from vote has role)
ack_epoch_as_speaks passes peer from vote has (roles.Choose votes joiners) = gathers_speaks passes peer (cond vote (put votes from has) votes) (put joiners from has.last)
ack_epoch_as_speaks passes peer from vote has roles.Sync = speaks _
ack_epoch_as_speaks passes peer from vote has roles.Broadcast = speaks _
ack_epoch_as_speaks passes peer from vote has roles.Looking = speaks _
ack_epoch_as_speaks passes peer from vote has (roles.Discover heard) = speaks _
ack_epoch_as_speaks passes peer from vote has (roles.Following leader synced) = speaks _

ack_epoch_speaks : {C : Type 0} (passes : List Bool → Bool) (peer : Peer) (from epoch : ℕ) (vote : Bool) (has : Vote) → Speaks {C = C} (epoch_rules.ack_epoch passes peer from epoch vote has)
ack_epoch_speaks {C} passes peer from epoch vote has =
    by_test (λ (made : epoch_rules.Acts C). Speaks made) (epoch == peer.stable.promised) _ _
    (ack_epoch_as_speaks passes peer from vote has peer.role) (speaks _)

new_leader_speaks : {C : Type 0} (peer : Peer) (from epoch : ℕ) (keep : ℤ) (rest : List Entry) → Speaks {C = C} (epoch_rules.new_leader peer from epoch keep rest)
new_leader_speaks {C} peer from epoch keep rest =
    by_test (λ (made : epoch_rules.Acts C). Speaks made) (follows peer.role from && (epoch == peer.stable.promised)) _ _
    (by_test (λ (made : epoch_rules.Acts C). Speaks made) (epoch_rules.goes_on peer.stable.history keep rest) _ _
    (by_test (λ (made : epoch_rules.Acts C). Speaks made) (epoch_rules.is_behind peer.stable epoch (length (epoch_rules.meant peer.stable.history keep rest))) _ _ (speaks _) (speaks _))
    (speaks _))
    (speaks _)

-- ---- the rules of a server

-- what is left of what is delivered
pub record IsLeft (old new : State) : Type 0 where
  pub delivered : new.delivered ≡ old.delivered
  pub history : new.peer.stable.history ≡ old.peer.stable.history

abbrev Leaves : {C : Type 0} → State → rules.Acts C → Type 0
Leaves old made = (fault : RuleFault) → made.1 ≡ Err fault → IsLeft old made.0

says : {C : Type 0} (old next : State) (messages : List (Message C)) → Leaves {C = C} old (next, Ok messages)
says old next messages fault e = absurd (no_fault messages fault e)

refuses : {C : Type 0} (old next : State) (r : Result (List (Message C)) RuleFault) → IsLeft old next → Leaves {C = C} old (next, r)
refuses old next r is fault e = is

by_peer_leaves : {C : Type 0} (old : State) (made : epoch_rules.Acts C) → LeavesPeer old.peer made → Leaves {C = C} old (rules.by_peer old made)
by_peer_leaves old made leaves fault e = record { delivered = refl; history = leaves fault e }

never : {C : Type 0} (old next : State) (made : epoch_rules.Acts C) → Speaks made → Leaves {C = C} old (next, made.1)
never old next made talks fault e = absurd (talks fault e)

appends_leaves : {C : Type 0} (setting : Setting C) (old : State) (call : C) (zxid : Option ℤ) → Leaves {C = C} old (rules.appends_at setting old call zxid)
appends_leaves setting old call None = refuses old _ _ (record { delivered = refl; history = refl })
appends_leaves setting old call (Some zxid) = says old _ _

submit_leaves : {C : Type 0} (setting : Setting C) (old : State) (call : C) (role : Role) → Leaves {C = C} old (rules.submit_as setting old call role)
submit_leaves setting old call roles.Broadcast = appends_leaves setting old call (rules.next_zxid old.peer.stable.promised old.made)
submit_leaves {C} setting old call (roles.Following leader synced) =
    by_test (λ (made : rules.Acts C). Leaves old made) synced _ _ (says old _ _) (refuses old _ _ (record { delivered = refl; history = refl }))
submit_leaves setting old call roles.Looking = refuses old _ _ (record { delivered = refl; history = refl })
submit_leaves setting old call (roles.Discover heard) = refuses old _ _ (record { delivered = refl; history = refl })
submit_leaves setting old call (roles.Choose votes joiners) = refuses old _ _ (record { delivered = refl; history = refl })
submit_leaves setting old call roles.Sync = refuses old _ _ (record { delivered = refl; history = refl })

request_leaves : {C : Type 0} (setting : Setting C) (old : State) (epoch : ℕ) (call : C) (role : Role) → Leaves {C = C} old (rules.request_as setting old epoch call role)
request_leaves {C} setting old epoch call roles.Broadcast =
    by_test (λ (made : rules.Acts C). Leaves old made) ((epoch == old.peer.stable.promised) && not (is_taken (setting.tag call) old.taken)) _ _
    (appends_leaves setting old call (rules.next_zxid old.peer.stable.promised old.made)) (says old _ _)
request_leaves setting old epoch call (roles.Following leader synced) = says old _ _
request_leaves setting old epoch call roles.Looking = says old _ _
request_leaves setting old epoch call (roles.Discover heard) = says old _ _
request_leaves setting old epoch call (roles.Choose votes joiners) = says old _ _
request_leaves setting old epoch call roles.Sync = says old _ _

ack_leader_as_leaves : {C : Type 0} (passes : List Bool → Bool) (old : State) (from count : ℕ) (role : Role) → Leaves {C = C} old (rules.ack_leader_as passes old from count role)
ack_leader_as_leaves {C} passes old from count roles.Sync =
    by_test (λ (made : rules.Acts C). Leaves old made) (passes (marks_of (rules.raised old from count).has)) _ _ (says old _ _) (says old _ _)
ack_leader_as_leaves passes old from count roles.Broadcast = says old _ _
ack_leader_as_leaves passes old from count (roles.Following leader synced) = says old _ _
ack_leader_as_leaves passes old from count roles.Looking = says old _ _
ack_leader_as_leaves passes old from count (roles.Discover heard) = says old _ _
ack_leader_as_leaves passes old from count (roles.Choose votes joiners) = says old _ _

ack_leader_leaves : {C : Type 0} (passes : List Bool → Bool) (old : State) (from epoch count : ℕ) → Leaves {C = C} old (rules.ack_leader passes old from epoch count)
ack_leader_leaves {C} passes old from epoch count =
    by_test (λ (made : rules.Acts C). Leaves old made) (epoch == old.peer.stable.promised) _ _
    (ack_leader_as_leaves passes old from count old.peer.role) (says old _ _)

propose_leaves : {C : Type 0} (old : State) (from epoch index : ℕ) (entry : Entry) → Leaves {C = C} old (rules.propose old from epoch index entry)
propose_leaves {C} old from epoch index entry =
    by_test (λ (made : rules.Acts C). Leaves old made) (follows old.peer.role from && rules.is_next old.peer.stable epoch index) _ _
    (by_test (λ (made : rules.Acts C). Leaves old made) (rules.is_above old.peer.stable entry) _ _ (says old _ _) (says old _ _))
    (says old _ _)

ack_leaves : {C : Type 0} (passes : List Bool → Bool) (old : State) (from epoch count : ℕ) (role : Role) → Leaves {C = C} old (rules.ack_as passes old from epoch count role)
ack_leaves {C} passes old from epoch count roles.Broadcast =
    by_test (λ (made : rules.Acts C). Leaves old made) (epoch == old.peer.stable.promised) _ _ (says old _ _) (says old _ _)
ack_leaves passes old from epoch count roles.Sync = says old _ _
ack_leaves passes old from epoch count (roles.Following leader synced) = says old _ _
ack_leaves passes old from epoch count roles.Looking = says old _ _
ack_leaves passes old from epoch count (roles.Discover heard) = says old _ _
ack_leaves passes old from epoch count (roles.Choose votes joiners) = says old _ _

commit_leaves : {C : Type 0} (old : State) (from epoch count : ℕ) → Leaves {C = C} old (rules.commit old from epoch count)
commit_leaves {C} old from epoch count =
    by_test (λ (made : rules.Acts C). Leaves old made) (follows old.peer.role from && (epoch == old.peer.stable.current)) _ _ (says old _ _) (says old _ _)

sync_leaves : {C : Type 0} (old : State) (tag : ℕ) (role : Role) → Leaves {C = C} old (rules.sync_as old tag role)
sync_leaves old tag roles.Broadcast = says old _ _
sync_leaves {C} old tag (roles.Following leader synced) =
    by_test (λ (made : rules.Acts C). Leaves old made) synced _ _ (says old _ _) (refuses old _ _ (record { delivered = refl; history = refl }))
sync_leaves old tag roles.Looking = refuses old _ _ (record { delivered = refl; history = refl })
sync_leaves old tag (roles.Discover heard) = refuses old _ _ (record { delivered = refl; history = refl })
sync_leaves old tag (roles.Choose votes joiners) = refuses old _ _ (record { delivered = refl; history = refl })
sync_leaves old tag roles.Sync = refuses old _ _ (record { delivered = refl; history = refl })

sync_ask_leaves : {C : Type 0} (old : State) (from epoch tag : ℕ) (role : Role) → Leaves {C = C} old (rules.sync_ask_as old from epoch tag role)
sync_ask_leaves {C} old from epoch tag roles.Broadcast =
    by_test (λ (made : rules.Acts C). Leaves old made) (epoch == old.peer.stable.promised) _ _ (says old _ _) (says old _ _)
sync_ask_leaves old from epoch tag roles.Sync = says old _ _
sync_ask_leaves old from epoch tag (roles.Following leader synced) = says old _ _
sync_ask_leaves old from epoch tag roles.Looking = says old _ _
sync_ask_leaves old from epoch tag (roles.Discover heard) = says old _ _
sync_ask_leaves old from epoch tag (roles.Choose votes joiners) = says old _ _

sync_tell_leaves : {C : Type 0} (old : State) (from epoch tag count : ℕ) → Leaves {C = C} old (rules.sync_tell old from epoch tag count)
sync_tell_leaves {C} old from epoch tag count =
    by_test (λ (made : rules.Acts C). Leaves old made) ((follows old.peer.role from && (epoch == old.peer.stable.current)) && is_asked tag old.asked) _ _ (says old _ _) (says old _ _)

ack_epoch_leaves : {C : Type 0} (passes : List Bool → Bool) (old : State) (from epoch : ℕ) (vote : Bool) (has : Vote) → Leaves {C = C} old (rules.ack_epoch passes old from epoch vote has)
ack_epoch_leaves {C} passes old from epoch vote has =
    let made : epoch_rules.Acts C = epoch_rules.ack_epoch passes old.peer from epoch vote has in
    by_test (λ (made : rules.Acts C). Leaves old made) (is_choosing old.peer.role) _ _
    (never old _ made (ack_epoch_speaks passes old.peer from epoch vote has))
    (never old _ made (ack_epoch_speaks passes old.peer from epoch vote has))

new_leader_leaves : {C : Type 0} (old : State) (from epoch : ℕ) (keep : ℤ) (rest : List Entry) → Leaves {C = C} old (rules.new_leader old from epoch keep rest)
new_leader_leaves {C} old from epoch keep rest =
    by_test (λ (made : rules.Acts C). Leaves old made) (follows old.peer.role from) _ _
    (never old _ (epoch_rules.new_leader old.peer from epoch keep rest) (new_leader_speaks old.peer from epoch keep rest)) (says old _ _)

receives_leaves : {C : Type 0} (setting : Setting C) (from : ℕ) (body : Body C) (old : State) → Leaves {C = C} old (receives setting from body old)
receives_leaves setting from (CEpoch promised) old = by_peer_leaves old _ (c_epoch_leaves setting.passes old.peer from promised old.peer.role)
receives_leaves {C} setting from (NewEpoch epoch) old = never old _ (epoch_rules.new_epoch {C = C} old.peer from epoch) (new_epoch_speaks old.peer from epoch)
receives_leaves setting from (AckEpoch epoch vote current last) old = ack_epoch_leaves setting.passes old from epoch vote _
receives_leaves setting from (NewLeader epoch keep rest) old = new_leader_leaves old from epoch keep rest
receives_leaves setting from (AckLeader epoch count) old = ack_leader_leaves setting.passes old from epoch count
receives_leaves setting from (Propose epoch index entry) old = propose_leaves old from epoch index entry
receives_leaves setting from (Ack epoch count) old = ack_leaves setting.passes old from epoch count old.peer.role
receives_leaves setting from (Commit epoch count) old = commit_leaves old from epoch count
receives_leaves setting from (Request epoch call) old = request_leaves setting old epoch call old.peer.role
receives_leaves setting from (SyncAsk epoch tag) old = sync_ask_leaves old from epoch tag old.peer.role
receives_leaves setting from (SyncTell epoch tag count) old = sync_tell_leaves old from epoch tag count

-- ---- an event that is rejected

abbrev IsQuiet : {C : Type 0} → World C → ℕ → World C × Answer → Type 0
IsQuiet w n next = (fault : WorldFault) → next.1 ≡ Err fault → delivered_of next.0 n ≡ delivered_of w n

-- a server stands so that nothing is delivered
same_list : {C : Type 0} (w : World C) (n : ℕ) (it stands : ProcessState) → server_at w.servers n ≡ Some it → IsLeft it.state stands.state → delivered_of (with_server w n stands) n ≡ delivered_of w n
same_list w n it stands is left =
    ap delivered_list (same_place w.servers n it stands (found w.servers n it is))
    ∙ ap (λ k. take k stands.state.peer.stable.history) left.delivered
    ∙ ap (take it.state.delivered) left.history
    ∙ sym (ap delivered_list is)

told_quiet : {C : Type 0} (w : World C) (n : ℕ) (it stands : ProcessState) (r : Result (List (Message C)) RuleFault) → server_at w.servers n ≡ Some it → Leaves it.state (stands.state, r) → IsQuiet w n (told (with_server w n stands) (said r))
told_quiet w n it stands (Ok messages) is leaves fault e = absurd (no_fault _ fault e)
told_quiet w n it stands (Err given) is leaves fault e = same_list w n it stands is (leaves given refl)

spends_quiet : {C : Type 0} (t : ℕ) (w : World C) (n : ℕ) (it stands : ProcessState) (r : Result (List (Message C)) RuleFault) → server_at w.servers n ≡ Some it → Leaves it.state (stands.state, r) → IsQuiet w n (spends t (told (with_server w n stands) (said r)))
spends_quiet t w n it stands (Ok messages) is leaves fault e = absurd (no_fault _ fault e)
spends_quiet t w n it stands (Err given) is leaves fault e = same_list w n it stands is (leaves given refl)

spends_sync_quiet : {C : Type 0} (t : ℕ) (w : World C) (n : ℕ) (it stands : ProcessState) (r : Result (List (Message C)) RuleFault) → server_at w.servers n ≡ Some it → Leaves it.state (stands.state, r) → IsQuiet w n (spends_sync t (told (with_server w n stands) (said r)))
spends_sync_quiet t w n it stands (Ok messages) is leaves fault e = absurd (no_fault _ fault e)
spends_sync_quiet t w n it stands (Err given) is leaves fault e = same_list w n it stands is (leaves given refl)

acts_quiet : {C : Type 0} (w : World C) (n : ℕ) (rule : State → rules.Acts C) (r : Result ProcessState WorldFault) → ((it : ProcessState) → r ≡ Ok it → server_at w.servers n ≡ Some it) → ((old : State) → Leaves old (rule old)) → IsQuiet w n (acts w n rule r)
acts_quiet w n rule (Err given) is leaves = λ fault e. refl
acts_quiet w n rule (Ok it) is leaves = told_quiet w n it (standing it.up (rule it.state).0) (rule it.state).1 (is it refl) (leaves it.state)

arrives_quiet : {C : Type 0} (setting : Setting C) (w : World C) (m : Option (Message C)) → IsQuiet w (addressee_of m) (arrives setting w m)
arrives_quiet setting w None = λ fault e. refl
arrives_quiet setting w (Some m) =
    acts_quiet w m.addressee (receives setting m.sender m.body) (running w.servers m.addressee)
    (λ it is. up_is (server_at w.servers m.addressee) it is) (receives_leaves setting m.sender m.body)

submits_quiet : {C : Type 0} (setting : Setting C) (w : World C) (n : ℕ) (call : C) (r : Result ProcessState WorldFault) → ((it : ProcessState) → r ≡ Ok it → server_at w.servers n ≡ Some it) → IsQuiet w n (submits setting w n call r)
submits_quiet setting w n call (Err given) is = λ fault e. refl
submits_quiet {C} setting w n call (Ok it) is =
    let made : rules.Acts C = rules.submit setting it.state call in
    by_test (λ (q : World C × Answer). IsQuiet w n q) (rules.is_serving it.state.peer.role) _ _
    (by_test (λ (q : World C × Answer). IsQuiet w n q) (is_taken (setting.tag call) w.tags.calls) _ _
    (λ fault e. refl)
    (spends_quiet (setting.tag call) w n it (standing it.up made.0) made.1 (is it refl) (submit_leaves setting it.state call it.state.peer.role)))
    (λ fault e. refl)

syncs_quiet : {C : Type 0} (w : World C) (n tag : ℕ) (r : Result ProcessState WorldFault) → ((it : ProcessState) → r ≡ Ok it → server_at w.servers n ≡ Some it) → IsQuiet w n (syncs w n tag r)
syncs_quiet w n tag (Err given) is = λ fault e. refl
syncs_quiet {C} w n tag (Ok it) is =
    let made : rules.Acts C = rules.sync it.state tag in
    by_test (λ (q : World C × Answer). IsQuiet w n q) (rules.is_serving it.state.peer.role) _ _
    (by_test (λ (q : World C × Answer). IsQuiet w n q) (is_taken tag w.tags.syncs) _ _
    (λ fault e. refl)
    (spends_sync_quiet tag w n it (standing it.up made.0) made.1 (is it refl) (sync_leaves it.state tag it.state.peer.role)))
    (λ fault e. refl)

crashes_quiet : {C : Type 0} (w : World C) (n : ℕ) (r : Result ProcessState WorldFault) → IsQuiet w n (crashes w n r)
crashes_quiet w n (Ok it) fault e = absurd (no_fault _ fault e)
crashes_quiet w n (Err given) fault e = refl

restarts_quiet : {C : Type 0} (w : World C) (n : ℕ) (r : Result ProcessState WorldFault) → IsQuiet w n (restarts w n r)
restarts_quiet w n (Ok it) fault e = absurd (no_fault _ fault e)
restarts_quiet w n (Err given) fault e = refl

pub refused_is_quiet : {C : Type 0} (profile : Profile C) (w : World C) (event : Event C) → IsQuiet w (mover w event) (happens profile w event)
refused_is_quiet profile w (Lead n) = acts_quiet w n rules.lead (running w.servers n) (λ it is. up_is (server_at w.servers n) it is) (λ old. says old _ _)
refused_is_quiet {C} profile w (Follow n leader) =
    by_test (λ (q : World C × Answer). IsQuiet w n q) (is_server (length w.servers) leader && not (n == leader)) _ _
    (acts_quiet w n (λ state. rules.follow state leader) (running w.servers n) (λ it is. up_is (server_at w.servers n) it is) (λ old. says old _ _))
    (λ fault e. refl)
refused_is_quiet profile w (Arrive number) = arrives_quiet profile.setting w (message_at w.messages number)
refused_is_quiet profile w (Submit n call) = submits_quiet profile.setting w n call (running w.servers n) (λ it is. up_is (server_at w.servers n) it is)
refused_is_quiet profile w (Expire n tag session now) = submits_quiet profile.setting w n (profile.closing tag session now) (running w.servers n) (λ it is. up_is (server_at w.servers n) it is)
refused_is_quiet profile w (Sync n tag) = syncs_quiet w n tag (running w.servers n) (λ it is. up_is (server_at w.servers n) it is)
refused_is_quiet profile w (Crash n) = crashes_quiet w n (running w.servers n)
refused_is_quiet profile w (Restart n) = restarts_quiet w n (resting w.servers n)

-- ---- a server that does not run

never_runs : (o : Option ProcessState) (it : ProcessState) → is_up o ≡ false → if_up o ≡ Ok it → ⊥
never_runs None it down is = absurd cc
never_runs (Some other) it down is = by_up other.up down is
  where
    by_up : (b : Bool) → b ≡ false → (let r : Result ProcessState WorldFault = cond b (Ok other) (Err faults.Down) in r ≡ Ok it) → ⊥
    by_up true rests runs = absurd cc
    by_up false rests runs = absurd cc

acts_rest : {C : Type 0} (w : World C) (n : ℕ) (rule : State → rules.Acts C) (r : Result ProcessState WorldFault) → ((it : ProcessState) → r ≡ Ok it → ⊥) → delivered_of (acts w n rule r).0 n ≡ delivered_of w n
acts_rest w n rule (Ok it) rests = absurd (rests it refl)
acts_rest w n rule (Err given) rests = refl

arrives_rest : {C : Type 0} (setting : Setting C) (w : World C) (m : Option (Message C)) → is_running w (addressee_of m) ≡ false → delivered_of (arrives setting w m).0 (addressee_of m) ≡ delivered_of w (addressee_of m)
arrives_rest setting w None down = refl
arrives_rest setting w (Some m) down =
    acts_rest w m.addressee (receives setting m.sender m.body) (running w.servers m.addressee) (λ it is. never_runs (server_at w.servers m.addressee) it down is)

submits_rest : {C : Type 0} (setting : Setting C) (w : World C) (n : ℕ) (call : C) (r : Result ProcessState WorldFault) → ((it : ProcessState) → r ≡ Ok it → ⊥) → delivered_of (submits setting w n call r).0 n ≡ delivered_of w n
submits_rest setting w n call (Ok it) rests = absurd (rests it refl)
submits_rest setting w n call (Err given) rests = refl

syncs_rest : {C : Type 0} (w : World C) (n tag : ℕ) (r : Result ProcessState WorldFault) → ((it : ProcessState) → r ≡ Ok it → ⊥) → delivered_of (syncs w n tag r).0 n ≡ delivered_of w n
syncs_rest w n tag (Ok it) rests = absurd (rests it refl)
syncs_rest w n tag (Err given) rests = refl

crashes_rest : {C : Type 0} (w : World C) (n : ℕ) (r : Result ProcessState WorldFault) → ((it : ProcessState) → r ≡ Ok it → ⊥) → delivered_of (crashes w n r).0 n ≡ delivered_of w n
crashes_rest w n (Ok it) rests = absurd (rests it refl)
crashes_rest w n (Err given) rests = refl

restarts_rest : {C : Type 0} (w : World C) (n : ℕ) (r : Result ProcessState WorldFault) → ((it : ProcessState) → r ≡ Ok it → server_at w.servers n ≡ Some it) → delivered_of (restarts w n r).0 n ≡ delivered_of w n
restarts_rest w n (Ok it) is = same_list w n it (standing true it.state) (is it refl) (record { delivered = refl; history = refl })
restarts_rest w n (Err given) is = refl

pub resting_is_quiet : {C : Type 0} (profile : Profile C) (w : World C) (event : Event C) → is_running w (mover w event) ≡ false → delivered_of (happens profile w event).0 (mover w event) ≡ delivered_of w (mover w event)
resting_is_quiet profile w (Lead n) down = acts_rest w n rules.lead (running w.servers n) (λ it is. never_runs (server_at w.servers n) it down is)
resting_is_quiet {C} profile w (Follow n leader) down =
    by_test (λ (q : World C × Answer). delivered_of q.0 n ≡ delivered_of w n) (is_server (length w.servers) leader && not (n == leader)) _ _
    (acts_rest w n (λ state. rules.follow state leader) (running w.servers n) (λ it is. never_runs (server_at w.servers n) it down is))
    refl
resting_is_quiet profile w (Arrive number) down = arrives_rest profile.setting w (message_at w.messages number) down
resting_is_quiet profile w (Submit n call) down = submits_rest profile.setting w n call (running w.servers n) (λ it is. never_runs (server_at w.servers n) it down is)
resting_is_quiet profile w (Expire n tag session now) down = submits_rest profile.setting w n (profile.closing tag session now) (running w.servers n) (λ it is. never_runs (server_at w.servers n) it down is)
resting_is_quiet profile w (Sync n tag) down = syncs_rest w n tag (running w.servers n) (λ it is. never_runs (server_at w.servers n) it down is)
resting_is_quiet profile w (Crash n) down = crashes_rest w n (running w.servers n) (λ it is. never_runs (server_at w.servers n) it down is)
resting_is_quiet profile w (Restart n) down = restarts_rest w n (resting w.servers n) (λ it is. down_is (server_at w.servers n) it is)
