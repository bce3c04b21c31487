-- What each rule owes at a server where all stands.
use Rattle.std.proofs.Common.{◌≡◌, ℕ, ℤ, ◌+◌, ◌<◌, ◌≤◌, ◌==◌, ◌&&◌, nat_lt, max, min, not, inl, Bool, true, false, cond, List, [], ◌∷◌, ◌++◌, length, take, Option, Some, None, Result, Ok, refl, sym, subst, ◌∙◌, arith}
use Rattle.zab_epoch.specs.declared.rule_fault.RuleFault.{RuleFault}
use Rattle.zab_epoch.specs.declared.history.Entry.{Entry}
use Rattle.zab_epoch.specs.declared.message.Body.TheVariants as say
use Rattle.zab_epoch.specs.declared.message.Message.{Message}
use Rattle.zab_epoch.specs.declared.role.Role.{Role}
use Rattle.zab_epoch.specs.declared.role.Role.TheVariants.{Looking, Discover, Choose, Sync, Broadcast, Following}
use Rattle.zab_epoch.specs.declared.votes.Vote.{Vote}
use Rattle.zab_epoch.specs.Roles.{follows, is_choosing}
use Rattle.zab_epoch.specs.Rules as epoch_rules
use Rattle.zab_epoch.specs.Rules.{next_epoch, greatest}
use Rattle.zab_epoch.specs.Tables.{silent_servers, put, marks_of}
use Rattle.zab_epoch.proofs.Guards.{votes_once}
use Rattle.zab_broadcast.specs.declared.state.State.{State}
use Rattle.zab_broadcast.specs.declared.syncs.Asked.{Asked}
use Rattle.zab_broadcast.specs.declared.syncs.Caught.{Caught}
use Rattle.zab_broadcast.specs.Calls.{Setting, is_taken}
use Rattle.zab_broadcast.specs.Rules as rules
use Rattle.zab_broadcast.specs.Rules.{Acts, by_peer, begun, with_peer, next_zxid}
use Rattle.zab_broadcast.specs.Syncs.{caught_at, with_asked}
use Rattle.zab_laws.specs.Prefixes.{IsPrefix}
use Rattle.zab_laws.specs.Cores as laws
use Rattle.zab_laws.specs.Cores.Move.{Promise}
use Rattle.zab_laws.proofs.PrefixLaws.{prefix_refl}
use Rattle.zab_laws.proofs.Keeping.{keeps_promise, two_now}
use Rattle.zab_laws.proofs.Adopting.{begun_above}
use Rattle.zab_rule_laws.specs.Told.{laws_of, core_of, core_with, told_of, HasVote, GoesOn, Chooses, HasLength, IsReached, IsProposed, Leads, Broadcasts, VotesFact, RoleFact, SentFact, OwesOf, Stands}
use Rattle.zab_rule_laws.proofs.Common.{by_test, eq_is, stays}
use Rattle.zab_rule_laws.proofs.Following.{owes_nothing, follower, commit_owes, sync_tell_owes, propose_owes}
use Rattle.zab_rule_laws.proofs.Joining.{new_leader_owes}
use Rattle.zab_rule_laws.proofs.Beginning.{begins_owes}
use Rattle.zab_rule_laws.proofs.Choosing.{chooses_owes, put_voted}
use Rattle.zab_rule_laws.proofs.Electing.{elects, last_same}
use Rattle.zab_rule_laws.proofs.Splicing.{tells_it}
use Rattle.zab_rule_laws.proofs.Leading.{ack_owes, ack_leader_owes, appends_owes}
use Rattle.zab_rule_laws.proofs.Reaching.{leader_reached}

-- nothing moves
pub quiet : {C : Type 0} (k : laws.Setting Entry) (g : laws.Ghost Entry) (state : State) (out : Result (List (Message C)) RuleFault) → Stands k g state → SentFact k g out → OwesOf k g state (state, out)
quiet k g state out f sent = owes_nothing k g state out f.kept f.within f.role sent

-- another role, in which nothing is asked
begins_anew : {C : Type 0} (k : laws.Setting Entry) (g : laws.Ghost Entry) (state : State) (role : Role) (out : Result (List (Message C)) RuleFault) → Stands k g state → RoleFact k g (record state { peer = record state.peer { role = role }; asked = [] }) role → SentFact k g out → OwesOf k g state (record state { peer = record state.peer { role = role }; asked = [] }, out)
begins_anew k g state role out f said sent = record {
  ghost = g;
  keeps = stays k g state.peer.me (core_of state) f.kept;
  role = said;
  sent = sent;
  me = refl;
  within = f.within;
  more = prefix_refl (told_of state);
  begins = inl (λ e b is. is);
}

-- another role, of which nothing is said
turns : {C : Type 0} (k : laws.Setting Entry) (g : laws.Ghost Entry) (state : State) (role : Role) (out : Result (List (Message C)) RuleFault) → Stands k g state → RoleFact k g (record state { peer = record state.peer { role = role } }) role → SentFact k g out → OwesOf k g state (record state { peer = record state.peer { role = role } }, out)
turns k g state role out f said sent = record {
  ghost = g;
  keeps = stays k g state.peer.me (core_of state) f.kept;
  role = said;
  sent = sent;
  me = refl;
  within = f.within;
  more = prefix_refl (told_of state);
  begins = inl (λ e b is. is);
}

-- ---- 1

pub lead_owes : {C : Type 0} (k : laws.Setting Entry) (g : laws.Ghost Entry) (state : State) → Stands k g state → OwesOf {C = C} k g state (rules.lead state)
lead_owes k g state f = begins_anew k g state (Discover (put (silent_servers state.peer.servers) state.peer.me state.peer.stable.promised)) (Ok []) f tt tt

pub follow_owes : {C : Type 0} (k : laws.Setting Entry) (g : laws.Ghost Entry) (state : State) (leader : ℕ) → Stands k g state → OwesOf {C = C} k g state (rules.follow state leader)
follow_owes k g state leader f = begins_anew k g state (Following leader false) (Ok (record { sender = state.peer.me; addressee = leader; body = say.CEpoch state.peer.stable.promised } ∷ [])) f tt (tt, tt)

-- ---- 2

next_is : (b : Bool) (m e : ℕ) → cond b (Some (m + 1)) None ≡ Some e → m + 1 ≡ e
next_is true m e is = cc
next_is false m e is = absurd cc

next_above : (heard promised epoch : ℕ) → next_epoch (max heard promised) ≡ Some epoch → promised < epoch
next_above heard promised epoch is =
    let next : max heard promised + 1 ≡ epoch = next_is (nat_lt (max heard promised) 2147483647) (max heard promised) epoch is in
    omega arith

c_epoch_by : {C : Type 0} (passes : List Bool → Bool) (g : laws.Ghost Entry) (state : State) (from promised : ℕ) (role : Role) → Stands (laws_of passes) g state → OwesOf {C = C} (laws_of passes) g state (by_peer state (epoch_rules.c_epoch_as passes state.peer from promised role))
c_epoch_by {C} passes g state from promised (Discover heard) f =
    by_test (λ (acts : epoch_rules.Acts C). OwesOf {C = C} (laws_of passes) g state (by_peer state acts)) (passes (marks_of (put heard from promised))) _ _
    (λ e. chooses_owes (laws_of passes) g state (marks_of (put heard from promised)) (next_epoch (max (greatest (put heard from promised)) state.peer.stable.promised)) f.kept f.within f.above
    (λ epoch is. next_above (greatest (put heard from promised)) state.peer.stable.promised epoch is))
    (λ e. turns (laws_of passes) g state (Discover (put heard from promised)) (Ok []) f tt tt)
c_epoch_by passes g state from promised (Choose votes joiners) f = quiet (laws_of passes) g state _ f (tt, tt)
c_epoch_by passes g state from promised Sync f = quiet (laws_of passes) g state _ f (tt, tt)
c_epoch_by passes g state from promised Broadcast f = quiet (laws_of passes) g state _ f (tt, tt)
c_epoch_by passes g state from promised Looking f = quiet (laws_of passes) g state _ f tt
c_epoch_by passes g state from promised (Following leader synced) f = quiet (laws_of passes) g state _ f tt

pub hears_c_epoch : {C : Type 0} (passes : List Bool → Bool) (g : laws.Ghost Entry) (state : State) (from promised : ℕ) → Stands (laws_of passes) g state → OwesOf {C = C} (laws_of passes) g state (rules.c_epoch passes state from promised)
hears_c_epoch passes g state from promised f = c_epoch_by passes g state from promised state.peer.role f

-- ---- 3

promises : {C : Type 0} (k : laws.Setting Entry) (g : laws.Ghost Entry) (state : State) (from epoch : ℕ) → Stands k g state → follows state.peer.role from ≡ true → state.peer.stable.promised < epoch → OwesOf {C = C} k g state (by_peer state (epoch_rules.acknowledges (record state.peer { stable = epoch_rules.with_promise state.peer.stable epoch }) from epoch true))
promises k g state from epoch f following above = record {
  ghost = laws.new_ghost (Promise state.peer.me epoch from) (core_of state) g;
  keeps = keeps_promise k g (core_of state) state.peer.me epoch from f.kept above;
  role = follower k _ _ state.peer.role from following;
  sent = ((f.above, λ e. record { history = state.peer.stable.history; is = two_now g state.peer.me epoch (record { leader = from; current = state.peer.stable.current; history = state.peer.stable.history }); last_is = sym (last_same state.peer.stable.history) }), tt);
  me = refl;
  within = f.within;
  more = prefix_refl (told_of state);
  begins = inl (λ e b is. is);
}

pub hears_new_epoch : {C : Type 0} (k : laws.Setting Entry) (g : laws.Ghost Entry) (state : State) (from epoch : ℕ) → Stands k g state → OwesOf {C = C} k g state (rules.new_epoch state from epoch)
hears_new_epoch {C} k g state from epoch f =
    by_test (λ (acts : epoch_rules.Acts C). OwesOf {C = C} k g state (by_peer state acts)) (follows state.peer.role from) _ _
    (λ following. by_test (λ (acts : epoch_rules.Acts C). OwesOf {C = C} k g state (by_peer state acts)) (epoch_rules.is_new state.peer.stable epoch) _ _
    (λ less. promises k g state from epoch f following (votes_once state.peer.stable epoch less))
    (λ no. by_test (λ (acts : epoch_rules.Acts C). OwesOf {C = C} k g state (by_peer state acts)) (epoch == state.peer.stable.promised) _ _
    (λ same. quiet k g state _ f ((f.above, λ e. absurd cc), tt))
    (λ other. quiet k g state _ f tt)))
    (λ other. quiet k g state _ f tt)

-- ---- 4

-- a leader that gathers votes has its own length alone
gathering : {C : Type 0} (k : laws.Setting Entry) (g : laws.Ghost Entry) (state : State) (role : Role) → Stands k g state → RoleFact k g (with_peer state (record state.peer { role = role }) (put (silent_servers state.peer.servers) state.peer.me (length state.peer.stable.history))) role → OwesOf {C = C} k g state (begun state (epoch_rules.silent (record state.peer { role = role })))
gathering k g state role f said =
    let within : state.delivered ≤ length state.peer.stable.history = f.within in
    let m : state.delivered ≡ min state.delivered (length state.peer.stable.history) = omega arith in
    record {
      ghost = g;
      keeps = subst (λ n. laws.Keeps k g g state.peer.me (core_with state n)) m (stays k g state.peer.me (core_of state) f.kept);
      role = said;
      sent = tt;
      me = refl;
      within = omega arith;
      more = subst (λ n. IsPrefix (told_of state) (take n state.peer.stable.history)) m (prefix_refl (told_of state));
      begins = inl (λ e b is. is);
    }

gathers : {C : Type 0} (passes : List Bool → Bool) (g : laws.Ghost Entry) (state : State) (votes : List (Option Vote)) (joiners : List (Option ℤ)) → laws.Shares (laws_of passes) → Stands (laws_of passes) g state → Chooses g state votes → OwesOf {C = C} (laws_of passes) g state (begun state (epoch_rules.gathers passes state.peer votes joiners))
gathers {C} passes g state votes joiners share f b =
    by_test (λ (acts : epoch_rules.Acts C). OwesOf {C = C} (laws_of passes) g state (begun state acts)) (passes (marks_of votes)) _ _
    (λ quorum. by_test (λ (acts : epoch_rules.Acts C). OwesOf {C = C} (laws_of passes) g state (begun state acts)) (epoch_rules.exceeds (epoch_rules.vote_of state.peer.stable) votes) _ _
    (λ greater. gathering (laws_of passes) g state Looking f tt)
    (λ none. begins_owes (laws_of passes) g state joiners share f.kept f.within f.above b.below
    (elects passes g state.peer.me state.peer.stable.promised state.peer.stable votes b.votes_are b.own quorum none)))
    (λ few. gathering (laws_of passes) g state (Choose votes joiners) f (record { below = b.below; own = b.own; votes_are = b.votes_are }))

-- a leader sends its history
leader_history : (k : laws.Setting Entry) (g : laws.Ghost Entry) (state : State) → Stands k g state → Leads g state → laws.IsOfLeader g state.peer.stable.promised state.peer.stable.history
leader_history k g state f b =
    let above = begun_above k g (core_of state) state.peer.me f.kept state.peer.stable.current b.began b.is in
    subst (λ e. laws.IsOfLeader g e state.peer.stable.history) (sym b.same)
    (f.kept.facts.of_leader state.peer.me state.peer.stable.current state.peer.stable.history f.kept.sound.held_now above)

-- the rule, by the role
abbrev ack_epoch_by : {C : Type 0} → (List Bool → Bool) → State → ℕ → ℕ → Bool → Vote → Role → Acts C
ack_epoch_by passes state from epoch vote said role =
    cond (is_choosing role)
    (begun state (cond (epoch == state.peer.stable.promised) (epoch_rules.ack_epoch_as passes state.peer from vote said role) (epoch_rules.silent state.peer)))
    (by_peer state (cond (epoch == state.peer.stable.promised) (epoch_rules.ack_epoch_as passes state.peer from vote said role) (epoch_rules.silent state.peer)))

still : {C : Type 0} (k : laws.Setting Entry) (g : laws.Ghost Entry) (state : State) (b : Bool) → Stands k g state → OwesOf {C = C} k g state (by_peer state (cond b (epoch_rules.silent state.peer) (epoch_rules.silent state.peer)))
still {C} k g state b f = by_test (λ (acts : epoch_rules.Acts C). OwesOf {C = C} k g state (by_peer state acts)) b _ _ (λ e. quiet k g state _ f tt) (λ e. quiet k g state _ f tt)

answers_history : {C : Type 0} (k : laws.Setting Entry) (g : laws.Ghost Entry) (state : State) (from : ℕ) (last : ℤ) (b : Bool) → Stands k g state → Leads g state → OwesOf {C = C} k g state (by_peer state (cond b (epoch_rules.tells state.peer from (epoch_rules.new_leader_to state.peer.stable.promised state.peer.stable.history last)) (epoch_rules.silent state.peer)))
answers_history {C} k g state from last b f leads =
    by_test (λ (acts : epoch_rules.Acts C). OwesOf {C = C} k g state (by_peer state acts)) b _ _
    (λ e. quiet k g state _ f (tells_it g state.peer.stable.promised state.peer.stable.history last (leader_history k g state f leads), tt)) (λ e. quiet k g state _ f tt)

ack_epoch_owes : {C : Type 0} (passes : List Bool → Bool) (g : laws.Ghost Entry) (state : State) (from epoch : ℕ) (vote : Bool) (said : Vote) (role : Role) → laws.Shares (laws_of passes) → Stands (laws_of passes) g state → state.peer.role ≡ role → RoleFact (laws_of passes) g state role → 0 < from → (vote ≡ true → HasVote g from epoch state.peer.me said.current said.last) → OwesOf {C = C} (laws_of passes) g state (ack_epoch_by passes state from epoch vote said role)
ack_epoch_owes {C} passes g state from epoch vote said (Choose votes joiners) share f at b pos0 voted =
    by_test (λ (acts : epoch_rules.Acts C). OwesOf {C = C} (laws_of passes) g state (begun state acts)) (epoch == state.peer.stable.promised) _ _
    (λ is. (let same : epoch ≡ state.peer.stable.promised = eq_is epoch state.peer.stable.promised is in
    gathers passes g state (cond vote (put votes from said) votes) (put joiners from said.last) share f
    (record {
      below = b.below;
      own = b.own;
      votes_are = by_test (VotesFact g state.peer.me state.peer.stable.promised) vote (put votes from said) votes
          (λ e. put_voted g state.peer.me state.peer.stable.promised from votes said b.votes_are pos0
          (subst (λ n. HasVote g from n state.peer.me said.current said.last) same (voted e)))
          (λ e. b.votes_are);
    })))
    (λ other. (let within : state.delivered ≤ length state.peer.stable.history = f.within in
    let m : state.delivered ≡ min state.delivered (length state.peer.stable.history) = omega arith in
    record {
      ghost = g;
      keeps = subst (λ n. laws.Keeps (laws_of passes) g g state.peer.me (core_with state n)) m (stays (laws_of passes) g state.peer.me (core_of state) f.kept);
      role = subst (RoleFact (laws_of passes) g (with_peer state state.peer (put (silent_servers state.peer.servers) state.peer.me (length state.peer.stable.history)))) (sym at) (record { below = b.below; own = b.own; votes_are = b.votes_are });
      sent = tt;
      me = refl;
      within = omega arith;
      more = subst (λ n. IsPrefix (told_of state) (take n state.peer.stable.history)) m (prefix_refl (told_of state));
      begins = inl (λ e b is. is);
    }))
ack_epoch_owes passes g state from epoch vote said Sync share f at b pos0 voted = answers_history (laws_of passes) g state from said.last (epoch == state.peer.stable.promised) f b.leads
ack_epoch_owes passes g state from epoch vote said Broadcast share f at b pos0 voted = answers_history (laws_of passes) g state from said.last (epoch == state.peer.stable.promised) f b.leads
ack_epoch_owes passes g state from epoch vote said Looking share f at b pos0 voted = still (laws_of passes) g state (epoch == state.peer.stable.promised) f
ack_epoch_owes passes g state from epoch vote said (Discover heard) share f at b pos0 voted = still (laws_of passes) g state (epoch == state.peer.stable.promised) f
ack_epoch_owes passes g state from epoch vote said (Following leader synced) share f at b pos0 voted = still (laws_of passes) g state (epoch == state.peer.stable.promised) f

pub hears_ack_epoch : {C : Type 0} (passes : List Bool → Bool) (g : laws.Ghost Entry) (state : State) (from to epoch : ℕ) (vote : Bool) (said : Vote) → laws.Shares (laws_of passes) → Stands (laws_of passes) g state → to ≡ state.peer.me → (0 < from) × (vote ≡ true → HasVote g from epoch to said.current said.last) → OwesOf {C = C} (laws_of passes) g state (rules.ack_epoch passes state from epoch vote said)
hears_ack_epoch passes g state from to epoch vote said share f here b =
    ack_epoch_owes passes g state from epoch vote said state.peer.role share f refl f.role b.0
    (λ e. subst (λ q. HasVote g from epoch q said.current said.last) here (b.1 e))

-- ---- 5, 6, 8, 10

pub hears_new_leader : {C : Type 0} (passes : List Bool → Bool) (g : laws.Ghost Entry) (state : State) (from epoch : ℕ) (keep : ℤ) (rest : List Entry) → laws.Shares (laws_of passes) → Stands (laws_of passes) g state → GoesOn g epoch keep rest → OwesOf {C = C} (laws_of passes) g state (rules.new_leader state from epoch keep rest)
hears_new_leader passes g state from epoch keep rest share f told = new_leader_owes passes g state from epoch keep rest f.above share f.kept f.within f.role told

pub hears_ack_leader : {C : Type 0} (passes : List Bool → Bool) (g : laws.Ghost Entry) (state : State) (from epoch count : ℕ) → Stands (laws_of passes) g state → (0 < from) × HasLength g from epoch count → OwesOf {C = C} (laws_of passes) g state (rules.ack_leader passes state from epoch count)
hears_ack_leader {C} passes g state from epoch count f b =
    by_test (OwesOf {C = C} (laws_of passes) g state) (epoch == state.peer.stable.promised) _ _
    (λ is. ack_leader_owes (laws_of passes) g state from epoch count state.peer.role f.kept f.within refl f.role b.0 b.1 (eq_is epoch state.peer.stable.promised is))
    (λ other. quiet (laws_of passes) g state (Ok []) f tt)

pub hears_propose : {C : Type 0} (k : laws.Setting Entry) (g : laws.Ghost Entry) (state : State) (from epoch index : ℕ) (entry : Entry) → laws.Shares k → Stands k g state → IsProposed g from epoch index entry → OwesOf {C = C} k g state (rules.propose state from epoch index entry)
hears_propose k g state from epoch index entry share f said = propose_owes k g state from epoch index entry f.above share f.kept f.within f.role said

pub hears_ack : {C : Type 0} (passes : List Bool → Bool) (g : laws.Ghost Entry) (state : State) (from epoch count : ℕ) → Stands (laws_of passes) g state → (0 < from) × HasLength g from epoch count → OwesOf {C = C} (laws_of passes) g state (rules.ack passes state from epoch count)
hears_ack passes g state from epoch count f b = ack_owes (laws_of passes) g state from epoch count state.peer.role f.kept f.within refl f.role b.0 b.1

pub hears_commit : {C : Type 0} (k : laws.Setting Entry) (g : laws.Ghost Entry) (state : State) (from epoch count : ℕ) → Stands k g state → IsReached k g epoch count → OwesOf {C = C} k g state (rules.commit state from epoch count)
hears_commit k g state from epoch count f reached = commit_owes k g state from epoch count f.kept f.within f.role reached

-- ---- 7

-- what is made of a call carries its zxid
abbrev pub CarriesZxid : {C : Type 0} → Setting C → Type 0
CarriesZxid {C} setting = (history : List Entry) (call : C) (zxid : ℤ) → (setting.made history call zxid).txn.zxid ≡ zxid

appends_by : {C : Type 0} (setting : Setting C) → CarriesZxid setting → (g : laws.Ghost Entry) (state : State) (call : C) (zxid : Option ℤ) → Stands (laws_of setting.passes) g state → state.peer.role ≡ Broadcast → Broadcasts (laws_of setting.passes) g state → next_zxid state.peer.stable.promised state.made ≡ zxid → OwesOf (laws_of setting.passes) g state (rules.appends_at setting state call zxid)
appends_by setting law g state call None f at b next = turns (laws_of setting.passes) g state Looking _ f tt tt
appends_by setting law g state call (Some zxid) f at b next =
    appends_owes (laws_of setting.passes) g state (setting.made state.peer.stable.history call zxid) zxid f.kept f.within f.above at b
    (law state.peer.stable.history call zxid) next

submit_by : {C : Type 0} (setting : Setting C) → CarriesZxid setting → (g : laws.Ghost Entry) (state : State) (call : C) (role : Role) → Stands (laws_of setting.passes) g state → state.peer.role ≡ role → RoleFact (laws_of setting.passes) g state role → OwesOf (laws_of setting.passes) g state (rules.submit_as setting state call role)
submit_by setting law g state call Broadcast f at b = appends_by setting law g state call (next_zxid state.peer.stable.promised state.made) f at b refl
submit_by setting law g state call (Following leader synced) f at b =
    by_test (OwesOf (laws_of setting.passes) g state) synced _ _ (λ e. quiet (laws_of setting.passes) g state _ f (tt, tt)) (λ e. quiet (laws_of setting.passes) g state _ f tt)
submit_by setting law g state call Looking f at b = quiet (laws_of setting.passes) g state _ f tt
submit_by setting law g state call (Discover heard) f at b = quiet (laws_of setting.passes) g state _ f tt
submit_by setting law g state call (Choose votes joiners) f at b = quiet (laws_of setting.passes) g state _ f tt
submit_by setting law g state call Sync f at b = quiet (laws_of setting.passes) g state _ f tt

pub submit_owes : {C : Type 0} (setting : Setting C) → CarriesZxid setting → (g : laws.Ghost Entry) (state : State) (call : C) → Stands (laws_of setting.passes) g state → OwesOf (laws_of setting.passes) g state (rules.submit setting state call)
submit_owes setting law g state call f = submit_by setting law g state call state.peer.role f refl f.role

request_by : {C : Type 0} (setting : Setting C) → CarriesZxid setting → (g : laws.Ghost Entry) (state : State) (epoch : ℕ) (call : C) (role : Role) → Stands (laws_of setting.passes) g state → state.peer.role ≡ role → RoleFact (laws_of setting.passes) g state role → OwesOf (laws_of setting.passes) g state (rules.request_as setting state epoch call role)
request_by setting law g state epoch call Broadcast f at b =
    by_test (OwesOf (laws_of setting.passes) g state) ((epoch == state.peer.stable.promised) && not (is_taken (setting.tag call) state.taken)) _ _
    (λ e. appends_by setting law g state call (next_zxid state.peer.stable.promised state.made) f at b refl)
    (λ e. quiet (laws_of setting.passes) g state _ f tt)
request_by setting law g state epoch call (Following leader synced) f at b = quiet (laws_of setting.passes) g state _ f tt
request_by setting law g state epoch call Looking f at b = quiet (laws_of setting.passes) g state _ f tt
request_by setting law g state epoch call (Discover heard) f at b = quiet (laws_of setting.passes) g state _ f tt
request_by setting law g state epoch call (Choose votes joiners) f at b = quiet (laws_of setting.passes) g state _ f tt
request_by setting law g state epoch call Sync f at b = quiet (laws_of setting.passes) g state _ f tt

pub hears_request : {C : Type 0} (setting : Setting C) → CarriesZxid setting → (g : laws.Ghost Entry) (state : State) (epoch : ℕ) (call : C) → Stands (laws_of setting.passes) g state → OwesOf (laws_of setting.passes) g state (rules.request setting state epoch call)
hears_request setting law g state epoch call f = request_by setting law g state epoch call state.peer.role f refl f.role

-- ---- 12 to 14

-- other syncs are pending or completed
syncs_move : {C : Type 0} (k : laws.Setting Entry) (g : laws.Ghost Entry) (state : State) (asked : List Asked) (caught : List Caught) (out : Result (List (Message C)) RuleFault) → Stands k g state → RoleFact k g (record state { asked = asked; caught = caught }) state.peer.role → SentFact k g out → OwesOf k g state (record state { asked = asked; caught = caught }, out)
syncs_move k g state asked caught out f said sent = record {
  ghost = g;
  keeps = stays k g state.peer.me (core_of state) f.kept;
  role = said;
  sent = sent;
  me = refl;
  within = f.within;
  more = prefix_refl (told_of state);
  begins = inl (λ e b is. is);
}

-- a leader of the third phase stays one
still_broadcasts : (k : laws.Setting Entry) (g : laws.Ghost Entry) (state : State) (caught : List Caught) → Broadcasts k g state → Broadcasts k g (record state { caught = caught })
still_broadcasts k g state caught b = record {
  leads = record { same = b.leads.same; began = b.leads.began; is = b.leads.is; leader = b.leads.leader; has = b.leads.has };
  own = b.own;
  history = b.history;
  made = b.made;
  chosen = b.chosen;
}

sync_by : {C : Type 0} (k : laws.Setting Entry) (g : laws.Ghost Entry) (state : State) (tag : ℕ) (role : Role) → Stands k g state → state.peer.role ≡ role → RoleFact k g state role → OwesOf {C = C} k g state (rules.sync_as state tag role)
sync_by k g state tag Broadcast f at b =
    let caught : List Caught = state.caught ++ caught_at tag state.delivered ∷ [] in
    syncs_move k g state state.asked caught (Ok []) f
    (subst (RoleFact k g (record state { caught = caught })) (sym at) (still_broadcasts k g state caught b)) tt
sync_by {C} k g state tag (Following leader synced) f at b =
    by_test (OwesOf {C = C} k g state) synced _ _
    (λ e. syncs_move k g state (with_asked tag state.asked) state.caught _ f
    (subst (RoleFact k g (record state { asked = with_asked tag state.asked })) (sym at) tt) (tt, tt))
    (λ e. quiet k g state _ f tt)
sync_by k g state tag Looking f at b = quiet k g state _ f tt
sync_by k g state tag (Discover heard) f at b = quiet k g state _ f tt
sync_by k g state tag (Choose votes joiners) f at b = quiet k g state _ f tt
sync_by k g state tag Sync f at b = quiet k g state _ f tt

pub sync_owes : {C : Type 0} (k : laws.Setting Entry) (g : laws.Ghost Entry) (state : State) (tag : ℕ) → Stands k g state → OwesOf {C = C} k g state (rules.sync state tag)
sync_owes k g state tag f = sync_by k g state tag state.peer.role f refl f.role

sync_ask_by : {C : Type 0} (k : laws.Setting Entry) (g : laws.Ghost Entry) (state : State) (from epoch tag : ℕ) (role : Role) → laws.Shares k → Stands k g state → RoleFact k g state role → OwesOf {C = C} k g state (rules.sync_ask_as state from epoch tag role)
sync_ask_by {C} k g state from epoch tag Broadcast share f b =
    by_test (OwesOf {C = C} k g state) (epoch == state.peer.stable.promised) _ _
    (λ is. (let here : state.peer.stable.current ≡ epoch = sym (eq_is epoch state.peer.stable.promised is ∙ b.leads.same) in
    quiet k g state _ f (subst (λ e. IsReached k g e state.delivered) here (leader_reached k g state share f.kept f.within b), tt)))
    (λ other. quiet k g state _ f tt)
sync_ask_by k g state from epoch tag Looking share f b = quiet k g state _ f tt
sync_ask_by k g state from epoch tag (Discover heard) share f b = quiet k g state _ f tt
sync_ask_by k g state from epoch tag (Choose votes joiners) share f b = quiet k g state _ f tt
sync_ask_by k g state from epoch tag Sync share f b = quiet k g state _ f tt
sync_ask_by k g state from epoch tag (Following leader synced) share f b = quiet k g state _ f tt

pub hears_sync_ask : {C : Type 0} (k : laws.Setting Entry) (g : laws.Ghost Entry) (state : State) (from epoch tag : ℕ) → laws.Shares k → Stands k g state → OwesOf {C = C} k g state (rules.sync_ask state from epoch tag)
hears_sync_ask k g state from epoch tag share f = sync_ask_by k g state from epoch tag state.peer.role share f f.role

pub hears_sync_tell : {C : Type 0} (k : laws.Setting Entry) (g : laws.Ghost Entry) (state : State) (from epoch tag count : ℕ) → Stands k g state → IsReached k g epoch count → OwesOf {C = C} k g state (rules.sync_tell state from epoch tag count)
hears_sync_tell k g state from epoch tag count f reached = sync_tell_owes k g state from epoch tag count f.kept f.within f.role reached
