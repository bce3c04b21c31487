-- Each rule keeps what is known of syncs.
use Rattle.std.proofs.Common.{◌≡◌, ℕ, ℤ, ◌+◌, ◌<◌, ◌≤◌, ◌==◌, ◌&&◌, ◌||◌, nat_lt, max, not, Bool, true, false, cond, List, [], ◌∷◌, length, drop, Option, Some, None, refl, sym, subst, ◌∙◌, arith}
use Rattle.std.proofs.lemmas.Bool.Decides.{nat_tests}
use Rattle.std.specs.List.{AllByRecursion}
use Rattle.zab_epoch.specs.declared.history.Entry.{Entry}
use Rattle.zab_epoch.specs.declared.message.Body.{Body}
use Rattle.zab_epoch.specs.declared.message.Body.TheVariants as say
use Rattle.zab_epoch.specs.declared.peer.Peer.{Peer}
use Rattle.zab_epoch.specs.declared.role.Role.{Role}
use Rattle.zab_epoch.specs.declared.role.Role.TheVariants.{Looking, Discover, Choose, Sync, Broadcast, Following}
use Rattle.zab_epoch.specs.declared.votes.Vote.{Vote}
use Rattle.zab_epoch.specs.Roles.{follows, is_choosing}
use Rattle.zab_epoch.specs.Rules as epoch_rules
use Rattle.zab_epoch.specs.Rules.{next_epoch, greatest, vote_of, is_behind, exceeds, new_leader_to, to_joiner, to_joiners, goes_on, meant}
use Rattle.zab_epoch.specs.Sending.{message, to_others}
use Rattle.zab_epoch.specs.Tables.{put, marks_of}
use Rattle.zab_broadcast.specs.declared.state.State.{State}
use Rattle.zab_broadcast.specs.Calls.{Setting, is_taken}
use Rattle.zab_broadcast.specs.News.{proposals, commits, tells_all, entries_for, news}
use Rattle.zab_broadcast.specs.Rules as rules
use Rattle.zab_broadcast.specs.Rules.{Settled, settles, counted, raised, entered, took, is_next, is_above, delivers_to}
use Rattle.zab_broadcast.specs.Syncs.{caught_at, is_asked, told}
use Rattle.zab_rule_laws.proofs.TagFacts.{by_test, eq_is, all_append}
use Rattle.zab_call_laws.proofs.SyncFacts.{Book, Taken, IsWithin, BodyFact, MessageFact, SentFact, IsSynced, IsAsked, IsAnswered, ServerFact, ActsFact, Keeps, all_answered_grow, asks, tells, left, catches}

-- ---- messages that do not concern syncs

to_others_fact : {C : Type 0} (book : Book) (me at : ℕ) (body : Body C) (marks : List Bool) → BodyFact book me body → AllByRecursion (MessageFact book) (to_others me at body marks)
to_others_fact book me at body [] f = tt
to_others_fact book me at body (mark ∷ marks) f =
    all_append (MessageFact book) (cond (mark && not (at == me)) (message me at body ∷ []) []) (to_others me (at + 1) body marks)
    (by_test (AllByRecursion (MessageFact book)) (mark && not (at == me)) (message me at body ∷ []) [] (λ e. (f, tt)) (λ e. tt))
    (to_others_fact book me (at + 1) body marks f)

proposals_fact : (C : Type 0) (book : Book) (me to epoch index : ℕ) (entries : List Entry) → AllByRecursion (MessageFact {C = C} book) (proposals me to epoch index entries)
proposals_fact C book me to epoch index [] = tt
proposals_fact C book me to epoch index (entry ∷ entries) = (tt, proposals_fact C book me to epoch (index + 1) entries)

commits_fact : (C : Type 0) (book : Book) (me to epoch : ℕ) (commit : Option ℕ) → AllByRecursion (MessageFact {C = C} book) (commits me to epoch commit)
commits_fact C book me to epoch None = tt
commits_fact C book me to epoch (Some count) = (tt, tt)

tells_all_fact : (C : Type 0) (book : Book) (me to epoch index : ℕ) (entries : List Entry) (commit : Option ℕ) → AllByRecursion (MessageFact {C = C} book) (tells_all me to epoch index entries commit)
tells_all_fact C book me to epoch index entries commit =
    all_append (MessageFact book) (proposals me to epoch index entries) (commits me to epoch commit)
    (proposals_fact C book me to epoch index entries) (commits_fact C book me to epoch commit)

news_fact : (C : Type 0) (book : Book) (me at epoch : ℕ) (whom : Option ℕ) (index : ℕ) (entries : List Entry) (commit : Option ℕ) (marks : List Bool) → AllByRecursion (MessageFact {C = C} book) (news me at epoch whom index entries commit marks)
news_fact C book me at epoch whom index entries commit [] = tt
news_fact C book me at epoch whom index entries commit (mark ∷ marks) =
    all_append (MessageFact book)
    (cond (mark && not (at == me)) (tells_all me at epoch index (entries_for whom at entries) commit) [])
    (news me (at + 1) epoch whom index entries commit marks)
    (by_test (AllByRecursion (MessageFact {C = C} book)) (mark && not (at == me)) (tells_all me at epoch index (entries_for whom at entries) commit) []
    (λ e. tells_all_fact C book me at epoch index (entries_for whom at entries) commit)
    (λ e. tt))
    (news_fact C book me (at + 1) epoch whom index entries commit marks)

news_of_fact : (C : Type 0) (book : Book) (state : State) (whom : Option ℕ) (above : ℕ) (commit : Option ℕ) → AllByRecursion (MessageFact {C = C} book) (rules.news_of state whom above commit)
news_of_fact C book state whom above commit =
    news_fact C book state.peer.me 1 state.peer.stable.promised whom (above + 1) (drop above state.peer.stable.history) commit (marks_of state.has)

joiners_fact : (C : Type 0) (book : Book) (me at epoch : ℕ) (history : List Entry) (joiners : List (Option ℤ)) → AllByRecursion (MessageFact {C = C} book) (to_joiners me at epoch history joiners)
joiners_fact C book me at epoch history [] = tt
joiners_fact C book me at epoch history (None ∷ joiners) = joiners_fact C book me (at + 1) epoch history joiners
joiners_fact C book me at epoch history ((Some last) ∷ joiners) =
    all_append (MessageFact book) (to_joiner me at epoch history (Some last)) (to_joiners me (at + 1) epoch history joiners)
    (by_test (AllByRecursion (MessageFact {C = C} book)) (at == me) [] (message me at (new_leader_to epoch history last) ∷ []) (λ e. tt) (λ e. (tt, tt)))
    (joiners_fact C book me (at + 1) epoch history joiners)

-- ---- discovery and synchronization

abbrev HasJoined : Peer → Type 0
HasJoined peer = IsSynced peer.role → 0 < peer.stable.current

-- what a peer did
record PeerFact {C : Type 0} (book : Book) (acts : epoch_rules.Acts C) : Type 0 where
  pub synced : HasJoined acts.0
  pub sent : SentFact book acts.1

quiet : {C : Type 0} (book : Book) (peer : Peer) → HasJoined peer → PeerFact book (epoch_rules.silent {C = C} peer)
quiet book peer f = record { synced = f; sent = tt }

answers : {C : Type 0} (book : Book) (peer : Peer) (to : ℕ) (body : Body C) → HasJoined peer → BodyFact book peer.me body → PeerFact book (epoch_rules.tells peer to body)
answers book peer to body f b = record { synced = f; sent = (b, tt) }

chooses_fact : (C : Type 0) (book : Book) (peer : Peer) (heard : List Bool) (next : Option ℕ) → PeerFact {C = C} book (epoch_rules.chooses peer heard next)
chooses_fact C book peer heard None = record { synced = λ s. absurd s; sent = tt }
chooses_fact C book peer heard (Some epoch) = record { synced = λ s. absurd s; sent = to_others_fact book peer.me 1 (say.NewEpoch epoch) heard tt }

c_epoch_as_fact : (C : Type 0) (book : Book) (passes : List Bool → Bool) (peer : Peer) (from promised : ℕ) (role : Role) → HasJoined peer → PeerFact {C = C} book (epoch_rules.c_epoch_as passes peer from promised role)
c_epoch_as_fact C book passes peer from promised (Discover heard) f =
    by_test (PeerFact {C = C} book) (passes (marks_of (put heard from promised)))
    (epoch_rules.chooses peer (marks_of (put heard from promised)) (next_epoch (max (greatest (put heard from promised)) peer.stable.promised)))
    (epoch_rules.silent (record peer { role = Discover (put heard from promised) }))
    (λ e. chooses_fact C book peer (marks_of (put heard from promised)) (next_epoch (max (greatest (put heard from promised)) peer.stable.promised)))
    (λ e. record { synced = λ s. absurd s; sent = tt })
c_epoch_as_fact C book passes peer from promised (Choose votes joiners) f = answers book peer from (say.NewEpoch peer.stable.promised) f tt
c_epoch_as_fact C book passes peer from promised Sync f = answers book peer from (say.NewEpoch peer.stable.promised) f tt
c_epoch_as_fact C book passes peer from promised Broadcast f = answers book peer from (say.NewEpoch peer.stable.promised) f tt
c_epoch_as_fact C book passes peer from promised Looking f = quiet book peer f
c_epoch_as_fact C book passes peer from promised (Following leader synced) f = quiet book peer f

new_epoch_fact : (C : Type 0) (book : Book) (peer : Peer) (from epoch : ℕ) → HasJoined peer → PeerFact {C = C} book (epoch_rules.new_epoch peer from epoch)
new_epoch_fact C book peer from epoch f =
    by_test (PeerFact {C = C} book) (follows peer.role from) (epoch_rules.promises peer from epoch) (epoch_rules.silent peer)
    (λ follower. by_test (PeerFact {C = C} book) (nat_lt peer.stable.promised epoch) _ _
    (λ above. record { synced = f; sent = (tt, tt) })
    (λ no. by_test (PeerFact {C = C} book) (epoch == peer.stable.promised) _ _
    (λ same. record { synced = f; sent = (tt, tt) })
    (λ other. quiet book peer f)))
    (λ other. quiet book peer f)

gathers_fact : (C : Type 0) (book : Book) (passes : List Bool → Bool) (peer : Peer) (votes : List (Option Vote)) (joiners : List (Option ℤ)) → PeerFact {C = C} book (epoch_rules.gathers passes peer votes joiners)
gathers_fact C book passes peer votes joiners =
    by_test (PeerFact {C = C} book) (passes (marks_of votes)) _ _
    (λ quorum. by_test (PeerFact {C = C} book) (exceeds (vote_of peer.stable) votes) _ _
    (λ greater. record { synced = λ s. absurd s; sent = tt })
    (λ none. record {
      synced = λ s. absurd s;
      sent = joiners_fact C book peer.me 1 peer.stable.promised peer.stable.history joiners;
    }))
    (λ few. record { synced = λ s. absurd s; sent = tt })

ack_epoch_as_fact : (C : Type 0) (book : Book) (passes : List Bool → Bool) (peer : Peer) (from : ℕ) (vote : Bool) (said : Vote) (role : Role) → HasJoined peer → PeerFact {C = C} book (epoch_rules.ack_epoch_as passes peer from vote said role)
ack_epoch_as_fact C book passes peer from vote said (Choose votes joiners) f =
    gathers_fact C book passes peer (cond vote (put votes from said) votes) (put joiners from said.last)
ack_epoch_as_fact C book passes peer from vote said Sync f = answers book peer from (new_leader_to peer.stable.promised peer.stable.history said.last) f tt
ack_epoch_as_fact C book passes peer from vote said Broadcast f = answers book peer from (new_leader_to peer.stable.promised peer.stable.history said.last) f tt
ack_epoch_as_fact C book passes peer from vote said Looking f = quiet book peer f
ack_epoch_as_fact C book passes peer from vote said (Discover heard) f = quiet book peer f
ack_epoch_as_fact C book passes peer from vote said (Following leader synced) f = quiet book peer f

peer_ack_epoch_fact : (C : Type 0) (book : Book) (passes : List Bool → Bool) (peer : Peer) (from epoch : ℕ) (vote : Bool) (said : Vote) → HasJoined peer → PeerFact {C = C} book (epoch_rules.ack_epoch passes peer from epoch vote said)
peer_ack_epoch_fact C book passes peer from epoch vote said f =
    by_test (PeerFact {C = C} book) (epoch == peer.stable.promised) _ _
    (λ e. ack_epoch_as_fact C book passes peer from vote said peer.role f)
    (λ e. quiet book peer f)

-- where its history is not newer, its epoch is not
not_behind : (current epoch one other : ℕ) → (nat_lt current epoch || ((current == epoch) && nat_lt one other)) ≡ false → epoch ≤ current
not_behind current epoch one other e = grind (arith, nat_tests)

takes_history_fact : (C : Type 0) (book : Book) (peer : Peer) (from epoch : ℕ) (history : List Entry) → 0 < epoch → PeerFact {C = C} book (epoch_rules.takes_history peer from epoch history)
takes_history_fact C book peer from epoch history above =
    by_test (PeerFact {C = C} book) (is_behind peer.stable epoch (length history)) _ _
    (λ behind. record { synced = λ s. above; sent = (tt, tt) })
    (λ no.
    (let low : epoch ≤ peer.stable.current = not_behind peer.stable.current epoch (length peer.stable.history) (length history) no in
    record { synced = λ s. omega arith; sent = (tt, tt) }))

peer_new_leader_fact : (C : Type 0) (book : Book) (peer : Peer) (from epoch : ℕ) (keep : ℤ) (rest : List Entry) → HasJoined peer → 0 < epoch → PeerFact {C = C} book (epoch_rules.new_leader peer from epoch keep rest)
peer_new_leader_fact C book peer from epoch keep rest f above =
    by_test (PeerFact {C = C} book) (follows peer.role from && (epoch == peer.stable.promised)) _ _
    (λ here. by_test (PeerFact {C = C} book) (goes_on peer.stable.history keep rest) _ _
    (λ on. takes_history_fact C book peer from epoch (meant peer.stable.history keep rest) above)
    (λ off. quiet book peer f))
    (λ other. quiet book peer f)

-- ---- the same at a server

-- a rule that leaves pending and completed syncs unchanged
leaves : {C : Type 0} (book : Book) (n : ℕ) (state : State) (acts : rules.Acts C) → ServerFact book n state → acts.0.asked ≡ state.asked → acts.0.caught ≡ state.caught → HasJoined acts.0.peer → SentFact book acts.1 → Keeps book n state acts
leaves book n state acts f asked caught synced sent low = record {
  server = record {
    asked = subst (AllByRecursion (IsAsked book n)) (sym asked) f.asked;
    caught = subst (AllByRecursion (IsAnswered book n acts.0.delivered)) (sym caught)
        (all_answered_grow book book n state.delivered acts.0.delivered state.caught (λ tag it is. is) low f.caught);
    synced = synced;
  };
  sent = sent;
}

still : {C : Type 0} (book : Book) (n : ℕ) (state : State) → ServerFact book n state → Keeps book n state (rules.silent {C = C} state)
still {C} book n state f = leaves book n state (rules.silent {C = C} state) f refl refl f.synced tt

forgets : {C : Type 0} (book : Book) (n : ℕ) (state : State) (acts : rules.Acts C) → ServerFact book n state → acts.0.asked ≡ [] → acts.0.caught ≡ state.caught → HasJoined acts.0.peer → SentFact book acts.1 → Keeps book n state acts
forgets book n state acts f asked caught synced sent low = record {
  server = record {
    asked = subst (AllByRecursion (IsAsked book n)) (sym asked) tt;
    caught = subst (AllByRecursion (IsAnswered book n acts.0.delivered)) (sym caught)
        (all_answered_grow book book n state.delivered acts.0.delivered state.caught (λ tag it is. is) low f.caught);
    synced = synced;
  };
  sent = sent;
}

pub lead_keeps : (C : Type 0) (book : Book) (n : ℕ) (state : State) → ServerFact book n state → Keeps {C = C} book n state (rules.lead state)
lead_keeps C book n state f = forgets book n state (rules.lead {C = C} state) f refl refl (λ s. absurd s) tt

not_synced : {A : Type 0} → (let b : Bool = false in b ≡ true) → A
not_synced e = absurd cc

pub follow_keeps : (C : Type 0) (book : Book) (n : ℕ) (state : State) (leader : ℕ) → ServerFact book n state → Keeps {C = C} book n state (rules.follow state leader)
follow_keeps C book n state leader f = forgets book n state (rules.follow {C = C} state leader) f refl refl (λ s. not_synced s) (tt, tt)

pub c_epoch_keeps : (C : Type 0) (book : Book) (passes : List Bool → Bool) (n : ℕ) (state : State) (from promised : ℕ) → ServerFact book n state → Keeps {C = C} book n state (rules.c_epoch passes state from promised)
c_epoch_keeps C book passes n state from promised f =
    let p = c_epoch_as_fact C book passes state.peer from promised state.peer.role f.synced in
    leaves book n state (rules.c_epoch {C = C} passes state from promised) f refl refl p.synced p.sent

pub new_epoch_keeps : (C : Type 0) (book : Book) (n : ℕ) (state : State) (from epoch : ℕ) → ServerFact book n state → Keeps {C = C} book n state (rules.new_epoch state from epoch)
new_epoch_keeps C book n state from epoch f =
    let p = new_epoch_fact C book state.peer from epoch f.synced in
    leaves book n state (rules.new_epoch {C = C} state from epoch) f refl refl p.synced p.sent

pub ack_epoch_keeps : (C : Type 0) (book : Book) (passes : List Bool → Bool) (n : ℕ) (state : State) (from epoch : ℕ) (vote : Bool) (said : Vote) → ServerFact book n state → Keeps {C = C} book n state (rules.ack_epoch passes state from epoch vote said)
ack_epoch_keeps C book passes n state from epoch vote said f =
    let p = peer_ack_epoch_fact C book passes state.peer from epoch vote said f.synced in
    by_test (Keeps {C = C} book n state) (is_choosing state.peer.role)
    (rules.begun state (epoch_rules.ack_epoch passes state.peer from epoch vote said))
    (rules.by_peer state (epoch_rules.ack_epoch passes state.peer from epoch vote said))
    (λ e. leaves book n state (rules.begun {C = C} state (epoch_rules.ack_epoch passes state.peer from epoch vote said)) f refl refl p.synced p.sent)
    (λ e. leaves book n state (rules.by_peer {C = C} state (epoch_rules.ack_epoch passes state.peer from epoch vote said)) f refl refl p.synced p.sent)

pub new_leader_keeps : (C : Type 0) (book : Book) (n : ℕ) (state : State) (from epoch : ℕ) (keep : ℤ) (rest : List Entry) → ServerFact book n state → 0 < epoch → Keeps {C = C} book n state (rules.new_leader state from epoch keep rest)
new_leader_keeps C book n state from epoch keep rest f above =
    let p = peer_new_leader_fact C book state.peer from epoch keep rest f.synced above in
    by_test (Keeps {C = C} book n state) (follows state.peer.role from)
    (rules.joined state (epoch_rules.new_leader state.peer from epoch keep rest)) (rules.silent state)
    (λ e. leaves book n state (rules.joined {C = C} state (epoch_rules.new_leader state.peer from epoch keep rest)) f refl refl p.synced p.sent)
    (λ e. still book n state f)

-- ---- broadcast

-- what is settled leaves all but what is delivered
settles_keeps : (C : Type 0) (book : Book) (passes : List Bool → Bool) (n : ℕ) (state next : State) (tells : Settled → rules.Acts C) → ((delivered top : ℕ) (commit : Option ℕ) → Keeps book n state (tells (record next { top = top; delivered = delivered }, commit))) → Keeps book n state (tells (settles passes next))
settles_keeps C book passes n state next tells told =
    by_test (λ (s : Settled). Keeps book n state (tells s)) (nat_lt next.top (counted passes next)) _ _
    (λ e. told (max next.delivered (counted passes next)) (counted passes next) (Some (counted passes next)))
    (λ e. told next.delivered next.top None)

-- a leader that is not synced as a follower
raised_tells : (C : Type 0) (book : Book) (n : ℕ) (state next : State) (above : ℕ) → ServerFact book n state → next.asked ≡ state.asked → next.caught ≡ state.caught → HasJoined next.peer → (delivered top : ℕ) (commit : Option ℕ) → Keeps {C = C} book n state (rules.tells_news None above (record next { top = top; delivered = delivered }, commit))
raised_tells C book n state next above f asked caught joined delivered top commit =
    leaves book n state (rules.tells_news {C = C} None above (record next { top = top; delivered = delivered }, commit)) f asked caught joined
    (news_of_fact C book (record next { top = top; delivered = delivered }) None above commit)

catching_up_keeps : (C : Type 0) (book : Book) (passes : List Bool → Bool) (n to above : ℕ) (state next : State) → ServerFact book n state → next.asked ≡ state.asked → next.caught ≡ state.caught → HasJoined next.peer → (delivered top : ℕ) (commit : Option ℕ) → Keeps {C = C} book n state (rules.catching_up passes to above (record next { top = top; delivered = delivered }, commit))
catching_up_keeps C book passes n to above state next f asked caught joined delivered top None =
    let now : State = record next { top = top; delivered = delivered } in
    leaves book n state (rules.catching_up {C = C} passes to above (now, None)) f asked caught joined
    (tells_all_fact C book now.peer.me to now.peer.stable.promised (above + 1) (drop above now.peer.stable.history) (Some (counted passes now)))
catching_up_keeps C book passes n to above state next f asked caught joined delivered top (Some commit) =
    let now : State = record next { top = top; delivered = delivered } in
    leaves book n state (rules.catching_up {C = C} passes to above (now, Some commit)) f asked caught joined
    (news_of_fact C book now (Some to) above (Some commit))

ack_leader_as_keeps : (C : Type 0) (book : Book) (passes : List Bool → Bool) (n : ℕ) (state : State) (from count : ℕ) (role : Role) → ServerFact book n state → Keeps {C = C} book n state (rules.ack_leader_as passes state from count role)
ack_leader_as_keeps C book passes n state from count Sync f =
    by_test (Keeps {C = C} book n state) (passes (marks_of (raised state from count).has))
    (rules.enters passes (raised state from count)) (rules.silent (raised state from count))
    (λ e. leaves book n state (rules.enters {C = C} passes (raised state from count)) f refl refl (λ s. absurd s)
    (news_of_fact C book (entered (raised state from count) (counted passes (raised state from count))) None (length state.peer.stable.history) (Some (counted passes (raised state from count)))))
    (λ e. leaves book n state (rules.silent {C = C} (raised state from count)) f refl refl f.synced tt)
ack_leader_as_keeps C book passes n state from count Broadcast f =
    settles_keeps C book passes n state (raised state from count) (rules.catching_up passes from count)
    (catching_up_keeps C book passes n from count state (raised state from count) f refl refl f.synced)
ack_leader_as_keeps C book passes n state from count Looking f = still book n state f
ack_leader_as_keeps C book passes n state from count (Discover heard) f = still book n state f
ack_leader_as_keeps C book passes n state from count (Choose votes joiners) f = still book n state f
ack_leader_as_keeps C book passes n state from count (Following leader synced) f = still book n state f

pub ack_leader_keeps : (C : Type 0) (book : Book) (passes : List Bool → Bool) (n : ℕ) (state : State) (from epoch count : ℕ) → ServerFact book n state → Keeps {C = C} book n state (rules.ack_leader passes state from epoch count)
ack_leader_keeps C book passes n state from epoch count f =
    by_test (Keeps {C = C} book n state) (epoch == state.peer.stable.promised) _ _
    (λ e. ack_leader_as_keeps C book passes n state from count state.peer.role f)
    (λ e. still book n state f)

pub propose_keeps : (C : Type 0) (book : Book) (n : ℕ) (state : State) (from epoch index : ℕ) (entry : Entry) → ServerFact book n state → Keeps {C = C} book n state (rules.propose state from epoch index entry)
propose_keeps C book n state from epoch index entry f =
    by_test (Keeps {C = C} book n state) (follows state.peer.role from && is_next state.peer.stable epoch index) _ _
    (λ e. by_test (Keeps {C = C} book n state) (is_above state.peer.stable entry) _ _
    (λ above. leaves book n state _ f refl refl f.synced (tt, tt))
    (λ below. still book n state f))
    (λ e. still book n state f)

ack_as_keeps : (C : Type 0) (book : Book) (passes : List Bool → Bool) (n : ℕ) (state : State) (from epoch count : ℕ) (role : Role) → ServerFact book n state → Keeps {C = C} book n state (rules.ack_as passes state from epoch count role)
ack_as_keeps C book passes n state from epoch count Broadcast f =
    by_test (Keeps {C = C} book n state) (epoch == state.peer.stable.promised) _ _
    (λ e. settles_keeps C book passes n state (raised state from count) (rules.tells_news None (length state.peer.stable.history))
    (raised_tells C book n state (raised state from count) (length state.peer.stable.history) f refl refl f.synced))
    (λ e. still book n state f)
ack_as_keeps C book passes n state from epoch count Looking f = still book n state f
ack_as_keeps C book passes n state from epoch count (Discover heard) f = still book n state f
ack_as_keeps C book passes n state from epoch count (Choose votes joiners) f = still book n state f
ack_as_keeps C book passes n state from epoch count Sync f = still book n state f
ack_as_keeps C book passes n state from epoch count (Following leader synced) f = still book n state f

pub ack_keeps : (C : Type 0) (book : Book) (passes : List Bool → Bool) (n : ℕ) (state : State) (from epoch count : ℕ) → ServerFact book n state → Keeps {C = C} book n state (rules.ack passes state from epoch count)
ack_keeps C book passes n state from epoch count f = ack_as_keeps C book passes n state from epoch count state.peer.role f

-- ---- calls

appends_keeps : {C : Type 0} (setting : Setting C) (book : Book) (n : ℕ) (state : State) (call : C) (zxid : Option ℤ) → ServerFact book n state → Keeps book n state (rules.appends_at setting state call zxid)
appends_keeps setting book n state call None f = leaves book n state (rules.appends_at setting state call None) f refl refl (λ s. absurd s) tt
appends_keeps {C} setting book n state call (Some zxid) f =
    let entry = setting.made state.peer.stable.history call zxid in
    settles_keeps C book setting.passes n state (took state entry) (rules.tells_news None (length state.peer.stable.history))
    (raised_tells C book n state (took state entry) (length state.peer.stable.history) f refl refl f.synced)

submit_as_keeps : {C : Type 0} (setting : Setting C) (book : Book) (n : ℕ) (state : State) (call : C) (role : Role) → ServerFact book n state → Keeps book n state (rules.submit_as setting state call role)
submit_as_keeps setting book n state call Broadcast f = appends_keeps setting book n state call (rules.next_zxid state.peer.stable.promised state.made) f
submit_as_keeps setting book n state call (Following leader synced) f =
    by_test (Keeps book n state) synced _ _
    (λ e. leaves book n state _ f refl refl f.synced (tt, tt))
    (λ e. leaves book n state _ f refl refl f.synced tt)
submit_as_keeps setting book n state call Looking f = leaves book n state _ f refl refl f.synced tt
submit_as_keeps setting book n state call (Discover heard) f = leaves book n state _ f refl refl f.synced tt
submit_as_keeps setting book n state call (Choose votes joiners) f = leaves book n state _ f refl refl f.synced tt
submit_as_keeps setting book n state call Sync f = leaves book n state _ f refl refl f.synced tt

pub submit_keeps : {C : Type 0} (setting : Setting C) (book : Book) (n : ℕ) (state : State) (call : C) → ServerFact book n state → Keeps book n state (rules.submit setting state call)
submit_keeps setting book n state call f = submit_as_keeps setting book n state call state.peer.role f

request_as_keeps : {C : Type 0} (setting : Setting C) (book : Book) (n : ℕ) (state : State) (epoch : ℕ) (call : C) (role : Role) → ServerFact book n state → Keeps book n state (rules.request_as setting state epoch call role)
request_as_keeps setting book n state epoch call Broadcast f =
    by_test (Keeps book n state) ((epoch == state.peer.stable.promised) && not (is_taken (setting.tag call) state.taken)) _ _
    (λ e. appends_keeps setting book n state call (rules.next_zxid state.peer.stable.promised state.made) f)
    (λ e. still book n state f)
request_as_keeps setting book n state epoch call (Following leader synced) f = still book n state f
request_as_keeps setting book n state epoch call Looking f = still book n state f
request_as_keeps setting book n state epoch call (Discover heard) f = still book n state f
request_as_keeps setting book n state epoch call (Choose votes joiners) f = still book n state f
request_as_keeps setting book n state epoch call Sync f = still book n state f

pub request_keeps : {C : Type 0} (setting : Setting C) (book : Book) (n : ℕ) (state : State) (epoch : ℕ) (call : C) → ServerFact book n state → Keeps book n state (rules.request setting state epoch call)
request_keeps setting book n state epoch call f = request_as_keeps setting book n state epoch call state.peer.role f

-- ---- syncs

-- pending syncs whose length is delivered complete
answers_fact : (C : Type 0) (book : Book) (n : ℕ) (state next : State) → next.caught ≡ state.caught → HasJoined next.peer → AllByRecursion (IsAsked book n) next.asked → ServerFact book n state → Keeps {C = C} book n state (rules.silent (rules.answers_asked next))
answers_fact C book n state next caught joined asked f low = record {
  server = record {
    asked = left book n next.delivered next.asked asked;
    caught = all_append (IsAnswered book n next.delivered) next.caught _
        (subst (AllByRecursion (IsAnswered book n next.delivered)) (sym caught)
        (all_answered_grow book book n state.delivered next.delivered state.caught (λ tag it is. is) low f.caught))
        (catches book n next.delivered next.asked asked);
    synced = joined;
  };
  sent = tt;
}

pub commit_keeps : (C : Type 0) (book : Book) (n : ℕ) (state : State) (from epoch count : ℕ) → ServerFact book n state → Keeps {C = C} book n state (rules.commit state from epoch count)
commit_keeps C book n state from epoch count f =
    by_test (Keeps {C = C} book n state) (follows state.peer.role from && (epoch == state.peer.stable.current)) _ _
    (λ e. answers_fact C book n state (delivers_to state count) refl f.synced f.asked f)
    (λ e. still book n state f)

pub sync_tell_keeps : (C : Type 0) (book : Book) (n : ℕ) (state : State) (from epoch tag count : ℕ) → ServerFact book n state → IsWithin book tag count → Keeps {C = C} book n state (rules.sync_tell state from epoch tag count)
sync_tell_keeps C book n state from epoch tag count f within =
    by_test (Keeps {C = C} book n state) ((follows state.peer.role from && (epoch == state.peer.stable.current)) && is_asked tag state.asked) _ _
    (λ e. answers_fact C book n state (delivers_to (record state { asked = told tag count state.asked }) count) refl f.synced (tells book n tag count state.asked within f.asked) f)
    (λ e. still book n state f)

-- a leader asked in its epoch sends what it has delivered, which is enough
sync_ask_as_keeps : (C : Type 0) (book : Book) (n : ℕ) (state : State) (from epoch tag : ℕ) (role : Role) → ServerFact book n state → (role ≡ Broadcast → epoch ≡ state.peer.stable.promised → IsWithin book tag state.delivered) → Keeps {C = C} book n state (rules.sync_ask_as state from epoch tag role)
sync_ask_as_keeps C book n state from epoch tag Broadcast f enough =
    by_test (Keeps {C = C} book n state) (epoch == state.peer.stable.promised) _ _
    (λ e. leaves book n state _ f refl refl f.synced (enough refl (eq_is epoch state.peer.stable.promised e), tt))
    (λ e. still book n state f)
sync_ask_as_keeps C book n state from epoch tag Looking f enough = still book n state f
sync_ask_as_keeps C book n state from epoch tag (Discover heard) f enough = still book n state f
sync_ask_as_keeps C book n state from epoch tag (Choose votes joiners) f enough = still book n state f
sync_ask_as_keeps C book n state from epoch tag Sync f enough = still book n state f
sync_ask_as_keeps C book n state from epoch tag (Following leader synced) f enough = still book n state f

pub sync_ask_keeps : (C : Type 0) (book : Book) (n : ℕ) (state : State) (from epoch tag : ℕ) → ServerFact book n state → (state.peer.role ≡ Broadcast → epoch ≡ state.peer.stable.promised → IsWithin book tag state.delivered) → Keeps {C = C} book n state (rules.sync_ask state from epoch tag)
sync_ask_keeps C book n state from epoch tag f enough = sync_ask_as_keeps C book n state from epoch tag state.peer.role f enough

-- ---- a sync that is taken

-- at a leader it completes at once
pub leader_takes : (C : Type 0) (book : Book) (n : ℕ) (state : State) (tag : ℕ) (it : Taken) → ServerFact book n state → book tag ≡ Some it → it.server ≡ n → it.delivered ≤ state.delivered → ActsFact {C = C} book n (rules.sync_as state tag Broadcast)
leader_takes C book n state tag it f is server low = record {
  server = record {
    asked = f.asked;
    caught = all_append (IsAnswered book n state.delivered) state.caught (caught_at tag state.delivered ∷ []) f.caught
        (record { it = it; is = is; server_is = server; low = low; reached = omega arith }, tt);
    synced = f.synced;
  };
  sent = tt;
}

-- and a synced follower asks its leader
pub follower_takes : (C : Type 0) (book : Book) (n : ℕ) (state : State) (tag leader : ℕ) (it : Taken) → ServerFact book n state → book tag ≡ Some it → it.server ≡ n → it.epoch ≡ state.peer.stable.current → state.peer.me ≡ n → ActsFact {C = C} book n (rules.sync_as state tag (Following leader true))
follower_takes C book n state tag leader it f is server epoch me = record {
  server = record {
    asked = asks book n tag state.asked it is server f.asked;
    caught = f.caught;
    synced = f.synced;
  };
  sent = (record { it = it; is = is; server_is = server ∙ sym me; epoch_is = epoch }, tt);
}
