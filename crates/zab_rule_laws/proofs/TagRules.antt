-- Each rule but those of calls keeps what is known of tags.
use Rattle.std.proofs.Common.{◌≡◌, ℕ, ℤ, int_lt, ◌+◌, ◌<◌, ◌==◌, ◌&&◌, nat_lt, max, min, not, inl, inr, Bool, true, false, cond, List, [], ◌∷◌, ◌++◌, length, drop, Option, Some, None, refl, arith}
use Rattle.std.proofs.lemmas.Bool.Decides.{nat_tests}
use Rattle.std.specs.List.{AllByRecursion}
use Rattle.zab_epoch.specs.declared.history.Entry.{Entry}
use Rattle.zab_epoch.specs.declared.message.Body.{Body}
use Rattle.zab_epoch.specs.declared.message.Body.TheVariants as say
use Rattle.zab_epoch.specs.declared.peer.Peer.{Peer}
use Rattle.zab_epoch.specs.declared.role.Role.{Role}
use Rattle.zab_epoch.specs.declared.role.Role.TheVariants.{Looking, Discover, Choose, Sync, Broadcast, Following}
use Rattle.zab_epoch.specs.declared.votes.Vote.{Vote}
use Rattle.zab_epoch.specs.Entries.{last_zxid, up_to}
use Rattle.zab_epoch.specs.Roles.{follows, is_choosing}
use Rattle.zab_epoch.specs.Rules as epoch_rules
use Rattle.zab_epoch.specs.Rules.{next_epoch, greatest, vote_of, is_behind, exceeds, new_leader_to, to_joiner, to_joiners, goes_on, meant}
use Rattle.zab_epoch.specs.Sending.{message, to_others}
use Rattle.zab_epoch.specs.Tables.{silent_servers, put, marks_of}
use Rattle.zab_broadcast.specs.declared.state.State.{State}
use Rattle.zab_broadcast.specs.declared.syncs.Asked.{Asked}
use Rattle.zab_broadcast.specs.declared.syncs.Caught.{Caught}
use Rattle.zab_broadcast.specs.News.{proposals, commits, tells_all, entries_for, news}
use Rattle.zab_broadcast.specs.Rules as rules
use Rattle.zab_broadcast.specs.Rules.{Settled, settles, counted, raised, entered, is_next, is_above}
use Rattle.zab_broadcast.specs.Syncs.{is_asked, told, left_asked, newly_caught}
use Rattle.zab_rule_laws.proofs.TagFacts.{Owners, AreOwned, IsOwned, BodyFact, MessageFact, SentFact, IsPast, Holds, ServerFact, ActsFact, idles, rises, by_test, all_append, all_drop}

-- ---- messages

to_others_fact : {C : Type 0} (tag : C → ℕ) (g : Owners C) (me at : ℕ) (body : Body C) (marks : List Bool) → ((to : ℕ) → BodyFact tag g to body) → AllByRecursion (MessageFact tag g) (to_others me at body marks)
to_others_fact tag g me at body [] f = tt
to_others_fact tag g me at body (mark ∷ marks) f =
    all_append (MessageFact tag g) (cond (mark && not (at == me)) (message me at body ∷ []) []) (to_others me (at + 1) body marks)
    (by_test (AllByRecursion (MessageFact tag g)) (mark && not (at == me)) (message me at body ∷ []) [] (λ e. (f at, tt)) (λ e. tt))
    (to_others_fact tag g me (at + 1) body marks f)

proposals_fact : {C : Type 0} (tag : C → ℕ) (g : Owners C) (me to epoch index : ℕ) (entries : List Entry) → AreOwned g entries → AllByRecursion (MessageFact tag g) (proposals me to epoch index entries)
proposals_fact tag g me to epoch index [] f = tt
proposals_fact tag g me to epoch index (entry ∷ entries) f = (f.0, proposals_fact tag g me to epoch (index + 1) entries f.1)

commits_fact : {C : Type 0} (tag : C → ℕ) (g : Owners C) (me to epoch : ℕ) (commit : Option ℕ) → AllByRecursion (MessageFact tag g) (commits me to epoch commit)
commits_fact tag g me to epoch None = tt
commits_fact tag g me to epoch (Some count) = (tt, tt)

tells_all_fact : {C : Type 0} (tag : C → ℕ) (g : Owners C) (me to epoch index : ℕ) (entries : List Entry) (commit : Option ℕ) → AreOwned g entries → AllByRecursion (MessageFact tag g) (tells_all me to epoch index entries commit)
tells_all_fact tag g me to epoch index entries commit f =
    all_append (MessageFact tag g) (proposals me to epoch index entries) (commits me to epoch commit)
    (proposals_fact tag g me to epoch index entries f) (commits_fact tag g me to epoch commit)

entries_fact : {C : Type 0} (g : Owners C) (whom : Option ℕ) (to : ℕ) (entries : List Entry) → AreOwned g entries → AreOwned g (entries_for whom to entries)
entries_fact g None to entries f = f
entries_fact g (Some one) to entries f = by_test (AreOwned g) (to == one) entries [] (λ e. f) (λ e. tt)

news_fact : {C : Type 0} (tag : C → ℕ) (g : Owners C) (me at epoch : ℕ) (whom : Option ℕ) (index : ℕ) (entries : List Entry) (commit : Option ℕ) (marks : List Bool) → AreOwned g entries → AllByRecursion (MessageFact tag g) (news me at epoch whom index entries commit marks)
news_fact tag g me at epoch whom index entries commit [] f = tt
news_fact tag g me at epoch whom index entries commit (mark ∷ marks) f =
    all_append (MessageFact tag g)
    (cond (mark && not (at == me)) (tells_all me at epoch index (entries_for whom at entries) commit) [])
    (news me (at + 1) epoch whom index entries commit marks)
    (by_test (AllByRecursion (MessageFact tag g)) (mark && not (at == me)) (tells_all me at epoch index (entries_for whom at entries) commit) []
    (λ e. tells_all_fact tag g me at epoch index (entries_for whom at entries) commit (entries_fact g whom at entries f))
    (λ e. tt))
    (news_fact tag g me (at + 1) epoch whom index entries commit marks f)

pub news_of_fact : {C : Type 0} (tag : C → ℕ) (g : Owners C) (state : State) (whom : Option ℕ) (above : ℕ) (commit : Option ℕ) → AreOwned g state.peer.stable.history → AllByRecursion (MessageFact tag g) (rules.news_of state whom above commit)
news_of_fact tag g state whom above commit f =
    news_fact tag g state.peer.me 1 state.peer.stable.promised whom (above + 1) (drop above state.peer.stable.history) commit
    (marks_of state.has) (all_drop (IsOwned g) above state.peer.stable.history f)

-- ---- discovery and synchronization

-- what a peer did, at a server whose tags are these
record PeerFact {C : Type 0} (tag : C → ℕ) (g : Owners C) (n : ℕ) (taken : List ℕ) (acts : epoch_rules.Acts C) : Type 0 where
  pub server : Holds g n acts.0.stable.history acts.0.role acts.0.stable.promised taken
  pub sent : SentFact tag g acts.1

abbrev Peers : {C : Type 0} → Owners C → ℕ → List ℕ → Peer → Type 0
Peers g n taken peer = Holds g n peer.stable.history peer.role peer.stable.promised taken

quiet : {C : Type 0} (tag : C → ℕ) (g : Owners C) (n : ℕ) (taken : List ℕ) (peer : Peer) → Peers g n taken peer → PeerFact tag g n taken (epoch_rules.silent {C = C} peer)
quiet tag g n taken peer f = record { server = f; sent = tt }

answers : {C : Type 0} (tag : C → ℕ) (g : Owners C) (n : ℕ) (taken : List ℕ) (peer : Peer) (to : ℕ) (body : Body C) → Peers g n taken peer → BodyFact tag g to body → PeerFact tag g n taken (epoch_rules.tells peer to body)
answers tag g n taken peer to body f b = record { server = f; sent = (b, tt) }

-- a new epoch is above what was promised
next_is : (b : Bool) (m e : ℕ) → cond b (Some (m + 1)) None ≡ Some e → m + 1 ≡ e
next_is true m e is = cc
next_is false m e is = absurd cc

next_above : (heard promised epoch : ℕ) → next_epoch (max heard promised) ≡ Some epoch → promised < epoch
next_above heard promised epoch is =
    let next : max heard promised + 1 ≡ epoch = next_is (nat_lt (max heard promised) 2147483647) (max heard promised) epoch is in
    omega arith

chooses_fact : {C : Type 0} (tag : C → ℕ) (g : Owners C) (n : ℕ) (taken : List ℕ) (peer : Peer) (heard : List Bool) (next : Option ℕ) → Peers g n taken peer → ((epoch : ℕ) → next ≡ Some epoch → peer.stable.promised < epoch) → PeerFact tag g n taken (epoch_rules.chooses {C = C} peer heard next)
chooses_fact tag g n taken peer heard None f above = record {
  server = idles g n peer.stable.history peer.stable.history peer.role Looking peer.stable.promised taken taken f f.owned tt (λ b. tt);
  sent = tt;
}
chooses_fact tag g n taken peer heard (Some epoch) f above = record {
  server = rises g n peer.stable.history peer.role (Choose (put (silent_servers peer.servers) peer.me (vote_of peer.stable)) (silent_servers peer.servers)) peer.stable.promised epoch taken taken f
      tt (above epoch refl);
  sent = to_others_fact tag g peer.me 1 (say.NewEpoch epoch) heard (λ to. tt);
}

c_epoch_fact : {C : Type 0} (tag : C → ℕ) (passes : List Bool → Bool) (g : Owners C) (n : ℕ) (taken : List ℕ) (peer : Peer) (from promised : ℕ) (role : Role) → Peers g n taken peer → PeerFact tag g n taken (epoch_rules.c_epoch_as {C = C} passes peer from promised role)
c_epoch_fact tag passes g n taken peer from promised (Discover heard) f =
    by_test (PeerFact tag g n taken) (passes (marks_of (put heard from promised)))
    (epoch_rules.chooses peer (marks_of (put heard from promised)) (next_epoch (max (greatest (put heard from promised)) peer.stable.promised)))
    (epoch_rules.silent (record peer { role = Discover (put heard from promised) }))
    (λ e. chooses_fact tag g n taken peer (marks_of (put heard from promised)) (next_epoch (max (greatest (put heard from promised)) peer.stable.promised)) f
    (λ epoch is. next_above (greatest (put heard from promised)) peer.stable.promised epoch is))
    (λ e. record {
      server = idles g n peer.stable.history peer.stable.history peer.role (Discover (put heard from promised)) peer.stable.promised taken taken f f.owned tt (λ b. tt);
      sent = tt;
    })
c_epoch_fact tag passes g n taken peer from promised (Choose votes joiners) f = answers tag g n taken peer from (say.NewEpoch peer.stable.promised) f tt
c_epoch_fact tag passes g n taken peer from promised Sync f = answers tag g n taken peer from (say.NewEpoch peer.stable.promised) f tt
c_epoch_fact tag passes g n taken peer from promised Broadcast f = answers tag g n taken peer from (say.NewEpoch peer.stable.promised) f tt
c_epoch_fact tag passes g n taken peer from promised Looking f = quiet tag g n taken peer f
c_epoch_fact tag passes g n taken peer from promised (Following leader synced) f = quiet tag g n taken peer f

less_is : (a b : ℕ) → nat_lt a b ≡ true → a < b
less_is a b e = grind (arith, nat_tests)

new_epoch_fact : {C : Type 0} (tag : C → ℕ) (g : Owners C) (n : ℕ) (taken : List ℕ) (peer : Peer) (from epoch : ℕ) → Peers g n taken peer → PeerFact tag g n taken (epoch_rules.new_epoch {C = C} peer from epoch)
new_epoch_fact tag g n taken peer from epoch f =
    by_test (PeerFact tag g n taken) (follows peer.role from) (epoch_rules.promises peer from epoch) (epoch_rules.silent peer)
    (λ follower. by_test (PeerFact tag g n taken) (nat_lt peer.stable.promised epoch) _ _
    (λ less. record {
      server = rises g n peer.stable.history peer.role peer.role peer.stable.promised epoch taken taken f f.votes (less_is peer.stable.promised epoch less);
      sent = (tt, tt);
    })
    (λ no. by_test (PeerFact tag g n taken) (epoch == peer.stable.promised) _ _
    (λ same. answers tag g n taken peer from (say.AckEpoch epoch false peer.stable.current (last_zxid peer.stable.history)) f tt)
    (λ other. quiet tag g n taken peer f)))
    (λ other. quiet tag g n taken peer f)

owned_up_to : {C : Type 0} (g : Owners C) (zxid : ℤ) (entries : List Entry) → AreOwned g entries → AreOwned g (up_to zxid entries)
owned_up_to g zxid [] f = tt
owned_up_to g zxid (entry ∷ entries) f =
    by_test (AreOwned g) (int_lt zxid entry.txn.zxid) [] (entry ∷ up_to zxid entries) (λ e. tt) (λ e. (f.0, owned_up_to g zxid entries f.1))

told_fact : {C : Type 0} (tag : C → ℕ) (g : Owners C) (to epoch : ℕ) (history : List Entry) (last : ℤ) → AreOwned g history → BodyFact {C = C} tag g to (new_leader_to epoch history last)
told_fact tag g to epoch history last f = all_drop (IsOwned g) (length (up_to last history)) history f

joiners_fact : {C : Type 0} (tag : C → ℕ) (g : Owners C) (me at epoch : ℕ) (history : List Entry) (joiners : List (Option ℤ)) → AreOwned g history → AllByRecursion (MessageFact {C = C} tag g) (to_joiners me at epoch history joiners)
joiners_fact tag g me at epoch history [] f = tt
joiners_fact tag g me at epoch history (None ∷ joiners) f = joiners_fact tag g me (at + 1) epoch history joiners f
joiners_fact tag g me at epoch history ((Some last) ∷ joiners) f =
    all_append (MessageFact tag g) (to_joiner me at epoch history (Some last)) (to_joiners me (at + 1) epoch history joiners)
    (by_test (AllByRecursion (MessageFact tag g)) (at == me) [] (message me at (new_leader_to epoch history last) ∷ []) (λ e. tt) (λ e. (told_fact tag g at epoch history last f, tt)))
    (joiners_fact tag g me (at + 1) epoch history joiners f)

gathers_fact : {C : Type 0} (tag : C → ℕ) (passes : List Bool → Bool) (g : Owners C) (n : ℕ) (taken : List ℕ) (peer : Peer) (before votes : List (Option Vote)) (were joiners : List (Option ℤ)) → Holds g n peer.stable.history (Choose before were) peer.stable.promised taken → PeerFact tag g n taken (epoch_rules.gathers {C = C} passes peer votes joiners)
gathers_fact tag passes g n taken peer before votes were joiners f =
    by_test (PeerFact tag g n taken) (passes (marks_of votes)) _ _
    (λ quorum. by_test (PeerFact tag g n taken) (exceeds (vote_of peer.stable) votes) _ _
    (λ greater. record { server = idles g n peer.stable.history peer.stable.history (Choose before were) Looking peer.stable.promised taken taken f f.owned tt (λ b. tt); sent = tt })
    (λ none. record {
      server = record { owned = f.owned; votes = tt; past = f.past };
      sent = joiners_fact tag g peer.me 1 peer.stable.promised peer.stable.history joiners f.owned;
    }))
    (λ few. record { server = record { owned = f.owned; votes = tt; past = f.past }; sent = tt })

ack_epoch_as_fact : {C : Type 0} (tag : C → ℕ) (passes : List Bool → Bool) (g : Owners C) (n : ℕ) (taken : List ℕ) (peer : Peer) (from : ℕ) (vote : Bool) (said : Vote) (role : Role) → Peers g n taken peer → Holds g n peer.stable.history role peer.stable.promised taken → PeerFact tag g n taken (epoch_rules.ack_epoch_as {C = C} passes peer from vote said role)
ack_epoch_as_fact tag passes g n taken peer from vote said (Choose votes joiners) f r =
    gathers_fact tag passes g n taken peer votes (cond vote (put votes from said) votes) joiners (put joiners from said.last) r
ack_epoch_as_fact tag passes g n taken peer from vote said Sync f r = answers tag g n taken peer from (new_leader_to peer.stable.promised peer.stable.history said.last) f (told_fact tag g from peer.stable.promised peer.stable.history said.last f.owned)
ack_epoch_as_fact tag passes g n taken peer from vote said Broadcast f r = answers tag g n taken peer from (new_leader_to peer.stable.promised peer.stable.history said.last) f (told_fact tag g from peer.stable.promised peer.stable.history said.last f.owned)
ack_epoch_as_fact tag passes g n taken peer from vote said Looking f r = quiet tag g n taken peer f
ack_epoch_as_fact tag passes g n taken peer from vote said (Discover heard) f r = quiet tag g n taken peer f
ack_epoch_as_fact tag passes g n taken peer from vote said (Following leader synced) f r = quiet tag g n taken peer f

peer_ack_epoch_fact : {C : Type 0} (tag : C → ℕ) (passes : List Bool → Bool) (g : Owners C) (n : ℕ) (taken : List ℕ) (peer : Peer) (from epoch : ℕ) (vote : Bool) (said : Vote) → Peers g n taken peer → PeerFact tag g n taken (epoch_rules.ack_epoch {C = C} passes peer from epoch vote said)
peer_ack_epoch_fact tag passes g n taken peer from epoch vote said f =
    by_test (PeerFact tag g n taken) (epoch == peer.stable.promised) _ _
    (λ e. ack_epoch_as_fact tag passes g n taken peer from vote said peer.role f f)
    (λ e. quiet tag g n taken peer f)

joins_fact : {C : Type 0} (tag : C → ℕ) (g : Owners C) (n : ℕ) (taken : List ℕ) (peer : Peer) (from epoch current : ℕ) (history : List Entry) → Peers g n taken peer → AreOwned g history → PeerFact tag g n taken (epoch_rules.joins {C = C} peer from epoch current history)
joins_fact tag g n taken peer from epoch current history f h = record {
  server = idles g n peer.stable.history history peer.role (Following from true) peer.stable.promised taken taken f h tt (λ b. tt);
  sent = (tt, tt);
}

takes_history_fact : {C : Type 0} (tag : C → ℕ) (g : Owners C) (n : ℕ) (taken : List ℕ) (peer : Peer) (from epoch : ℕ) (history : List Entry) → Peers g n taken peer → AreOwned g history → PeerFact tag g n taken (epoch_rules.takes_history {C = C} peer from epoch history)
takes_history_fact tag g n taken peer from epoch history f h =
    by_test (PeerFact tag g n taken) (is_behind peer.stable epoch (length history)) _ _
    (λ behind. joins_fact tag g n taken peer from epoch epoch history f h)
    (λ no. joins_fact tag g n taken peer from epoch peer.stable.current peer.stable.history f f.owned)

peer_new_leader_fact : {C : Type 0} (tag : C → ℕ) (g : Owners C) (n : ℕ) (taken : List ℕ) (peer : Peer) (from epoch : ℕ) (keep : ℤ) (rest : List Entry) → Peers g n taken peer → AreOwned g rest → PeerFact tag g n taken (epoch_rules.new_leader {C = C} peer from epoch keep rest)
peer_new_leader_fact tag g n taken peer from epoch keep rest f h =
    by_test (PeerFact tag g n taken) (follows peer.role from && (epoch == peer.stable.promised)) _ _
    (λ e. by_test (PeerFact tag g n taken) (goes_on peer.stable.history keep rest) _ _
    (λ on. takes_history_fact tag g n taken peer from epoch (meant peer.stable.history keep rest) f
    (all_append (IsOwned g) (up_to keep peer.stable.history) rest (owned_up_to g keep peer.stable.history f.owned) h))
    (λ off. quiet tag g n taken peer f))
    (λ e. quiet tag g n taken peer f)

-- ---- the same at a server

by_peer_fact : {C : Type 0} (tag : C → ℕ) (g : Owners C) (n : ℕ) (state : State) (acts : epoch_rules.Acts C) → PeerFact tag g n state.taken acts → ActsFact tag g n (rules.by_peer state acts)
by_peer_fact tag g n state acts f = record { server = f.server; sent = f.sent }

pub lead_fact : {C : Type 0} (tag : C → ℕ) (g : Owners C) (n : ℕ) (state : State) → ServerFact g n state → ActsFact tag g n (rules.lead {C = C} state)
lead_fact tag g n state f = record {
  server = idles g n state.peer.stable.history state.peer.stable.history state.peer.role (Discover (put (silent_servers state.peer.servers) state.peer.me state.peer.stable.promised)) state.peer.stable.promised state.taken state.taken f f.owned tt (λ b. tt);
  sent = tt;
}

pub follow_fact : {C : Type 0} (tag : C → ℕ) (g : Owners C) (n : ℕ) (state : State) (leader : ℕ) → ServerFact g n state → ActsFact tag g n (rules.follow {C = C} state leader)
follow_fact tag g n state leader f = record {
  server = idles g n state.peer.stable.history state.peer.stable.history state.peer.role (Following leader false) state.peer.stable.promised state.taken state.taken f f.owned tt (λ b. tt);
  sent = (tt, tt);
}

pub hears_c_epoch : {C : Type 0} (tag : C → ℕ) (passes : List Bool → Bool) (g : Owners C) (n : ℕ) (state : State) (from promised : ℕ) → ServerFact g n state → ActsFact tag g n (rules.c_epoch {C = C} passes state from promised)
hears_c_epoch tag passes g n state from promised f =
    by_peer_fact tag g n state (epoch_rules.c_epoch passes state.peer from promised) (c_epoch_fact tag passes g n state.taken state.peer from promised state.peer.role f)

pub hears_new_epoch : {C : Type 0} (tag : C → ℕ) (g : Owners C) (n : ℕ) (state : State) (from epoch : ℕ) → ServerFact g n state → ActsFact tag g n (rules.new_epoch {C = C} state from epoch)
hears_new_epoch tag g n state from epoch f =
    by_peer_fact tag g n state (epoch_rules.new_epoch state.peer from epoch) (new_epoch_fact tag g n state.taken state.peer from epoch f)

pub hears_ack_epoch : {C : Type 0} (tag : C → ℕ) (passes : List Bool → Bool) (g : Owners C) (n : ℕ) (state : State) (from epoch : ℕ) (vote : Bool) (said : Vote) → ServerFact g n state → ActsFact tag g n (rules.ack_epoch {C = C} passes state from epoch vote said)
hears_ack_epoch tag passes g n state from epoch vote said f =
    let p = peer_ack_epoch_fact tag passes g n state.taken state.peer from epoch vote said f in
    by_test (ActsFact tag g n) (is_choosing state.peer.role)
    (rules.begun state (epoch_rules.ack_epoch passes state.peer from epoch vote said))
    (rules.by_peer state (epoch_rules.ack_epoch passes state.peer from epoch vote said))
    (λ e. record { server = p.server; sent = p.sent })
    (λ e. record { server = p.server; sent = p.sent })

still : {C : Type 0} (tag : C → ℕ) (g : Owners C) (n : ℕ) (state : State) → ServerFact g n state → ActsFact tag g n (rules.silent {C = C} state)
still tag g n state f = record { server = f; sent = tt }

pub hears_new_leader : {C : Type 0} (tag : C → ℕ) (g : Owners C) (n : ℕ) (state : State) (from epoch : ℕ) (keep : ℤ) (rest : List Entry) → ServerFact g n state → AreOwned g rest → ActsFact tag g n (rules.new_leader {C = C} state from epoch keep rest)
hears_new_leader tag g n state from epoch keep rest f h =
    let p = peer_new_leader_fact tag g n state.taken state.peer from epoch keep rest f h in
    by_test (ActsFact tag g n) (follows state.peer.role from)
    (rules.joined state (epoch_rules.new_leader state.peer from epoch keep rest)) (rules.silent state)
    (λ e. record { server = p.server; sent = p.sent })
    (λ e. still tag g n state f)

-- ---- broadcast

-- what is settled changes nothing that is known of tags
pub settles_fact : {C : Type 0} (tag : C → ℕ) (passes : List Bool → Bool) (g : Owners C) (n : ℕ) (state : State) (tells : Settled → rules.Acts C) → ((next : State) (commit : Option ℕ) → ServerFact g n next → ActsFact tag g n (tells (next, commit))) → ServerFact g n state → ActsFact tag g n (tells (settles passes state))
settles_fact tag passes g n state tells told f =
    by_test (λ (s : Settled). ActsFact tag g n (tells s)) (nat_lt state.top (counted passes state)) _ _
    (λ e. told (record state { top = counted passes state; delivered = max state.delivered (counted passes state) }) (Some (counted passes state)) f)
    (λ e. told state None f)

pub tells_news_fact : {C : Type 0} (tag : C → ℕ) (g : Owners C) (n : ℕ) (whom : Option ℕ) (above : ℕ) (next : State) (commit : Option ℕ) → ServerFact g n next → ActsFact tag g n (rules.tells_news {C = C} whom above (next, commit))
tells_news_fact tag g n whom above next commit f = record { server = f; sent = news_of_fact tag g next whom above commit f.owned }

catching_up_fact : {C : Type 0} (tag : C → ℕ) (passes : List Bool → Bool) (g : Owners C) (n to above : ℕ) (next : State) (commit : Option ℕ) → ServerFact g n next → ActsFact tag g n (rules.catching_up {C = C} passes to above (next, commit))
catching_up_fact tag passes g n to above next None f = record {
  server = f;
  sent = tells_all_fact tag g next.peer.me to next.peer.stable.promised (above + 1) (drop above next.peer.stable.history) (Some (counted passes next))
      (all_drop (IsOwned g) above next.peer.stable.history f.owned);
}
catching_up_fact tag passes g n to above next (Some commit) f =
    record { server = f; sent = news_of_fact tag g next (Some to) above (Some commit) f.owned }

-- a leader in sync has no calls of its epoch yet
not_in_sync : (promised : ℕ) (taken newer : List ℕ) (epoch tag : ℕ) → IsPast promised Sync taken epoch tag → IsPast promised Broadcast newer epoch tag
not_in_sync promised taken newer epoch tag past = elim past [
  | inl less ↦ inl less
  | inr same ↦ absurd (let no : false ≡ true = same.1 in cc)
]

enters_fact : {C : Type 0} (tag : C → ℕ) (passes : List Bool → Bool) (g : Owners C) (n : ℕ) (state : State) → Holds g n state.peer.stable.history Sync state.peer.stable.promised state.taken → ActsFact tag g n (rules.enters {C = C} passes state)
enters_fact tag passes g n state f = tells_news_fact tag g n None (length state.peer.stable.history) (entered state (counted passes state)) (Some (counted passes state))
    (record {
      owned = f.owned;
      votes = tt;
      past = λ t epoch call entry asked made. not_in_sync state.peer.stable.promised state.taken [] epoch t (f.past t epoch call entry asked made);
    })

ack_leader_as_fact : {C : Type 0} (tag : C → ℕ) (passes : List Bool → Bool) (g : Owners C) (n : ℕ) (state : State) (from count : ℕ) (role : Role) → ServerFact g n state → Holds g n state.peer.stable.history role state.peer.stable.promised state.taken → ActsFact tag g n (rules.ack_leader_as {C = C} passes state from count role)
ack_leader_as_fact tag passes g n state from count Sync f r =
    by_test (ActsFact tag g n) (passes (marks_of (raised state from count).has))
    (rules.enters passes (raised state from count)) (rules.silent (raised state from count))
    (λ e. enters_fact tag passes g n (raised state from count) r)
    (λ e. still tag g n (raised state from count) f)
ack_leader_as_fact tag passes g n state from count Broadcast f r =
    settles_fact tag passes g n (raised state from count) (rules.catching_up passes from count)
    (λ next commit s. catching_up_fact tag passes g n from count next commit s) f
ack_leader_as_fact tag passes g n state from count Looking f r = still tag g n state f
ack_leader_as_fact tag passes g n state from count (Discover heard) f r = still tag g n state f
ack_leader_as_fact tag passes g n state from count (Choose votes joiners) f r = still tag g n state f
ack_leader_as_fact tag passes g n state from count (Following leader synced) f r = still tag g n state f

pub hears_ack_leader : {C : Type 0} (tag : C → ℕ) (passes : List Bool → Bool) (g : Owners C) (n : ℕ) (state : State) (from epoch count : ℕ) → ServerFact g n state → ActsFact tag g n (rules.ack_leader {C = C} passes state from epoch count)
hears_ack_leader tag passes g n state from epoch count f =
    by_test (ActsFact tag g n) (epoch == state.peer.stable.promised) _ _
    (λ e. ack_leader_as_fact tag passes g n state from count state.peer.role f f)
    (λ e. still tag g n state f)

pub hears_propose : {C : Type 0} (tag : C → ℕ) (g : Owners C) (n : ℕ) (state : State) (from epoch index : ℕ) (entry : Entry) → ServerFact g n state → IsOwned g entry → ActsFact tag g n (rules.propose {C = C} state from epoch index entry)
hears_propose tag g n state from epoch index entry f owned =
    by_test (ActsFact tag g n) (follows state.peer.role from && is_next state.peer.stable epoch index) _ _
    (λ e. by_test (ActsFact tag g n) (is_above state.peer.stable entry) _ _
    (λ above. record {
      server = record {
        owned = all_append (IsOwned g) state.peer.stable.history (entry ∷ []) f.owned (owned, tt);
        votes = f.votes;
        past = f.past;
      };
      sent = (tt, tt);
    })
    (λ below. still tag g n state f))
    (λ e. still tag g n state f)

ack_as_fact : {C : Type 0} (tag : C → ℕ) (passes : List Bool → Bool) (g : Owners C) (n : ℕ) (state : State) (from epoch count : ℕ) (role : Role) → ServerFact g n state → ActsFact tag g n (rules.ack_as {C = C} passes state from epoch count role)
ack_as_fact tag passes g n state from epoch count Broadcast f =
    by_test (ActsFact tag g n) (epoch == state.peer.stable.promised) _ _
    (λ e. settles_fact tag passes g n (raised state from count) (rules.tells_news None (length state.peer.stable.history))
    (λ next commit s. tells_news_fact tag g n None (length state.peer.stable.history) next commit s) f)
    (λ e. still tag g n state f)
ack_as_fact tag passes g n state from epoch count Looking f = still tag g n state f
ack_as_fact tag passes g n state from epoch count (Discover heard) f = still tag g n state f
ack_as_fact tag passes g n state from epoch count (Choose votes joiners) f = still tag g n state f
ack_as_fact tag passes g n state from epoch count Sync f = still tag g n state f
ack_as_fact tag passes g n state from epoch count (Following leader synced) f = still tag g n state f

pub hears_ack : {C : Type 0} (tag : C → ℕ) (passes : List Bool → Bool) (g : Owners C) (n : ℕ) (state : State) (from epoch count : ℕ) → ServerFact g n state → ActsFact tag g n (rules.ack {C = C} passes state from epoch count)
hears_ack tag passes g n state from epoch count f = ack_as_fact tag passes g n state from epoch count state.peer.role f

-- delivered entries and syncs do not concern the tags of calls
still_with : {C : Type 0} (tag : C → ℕ) (g : Owners C) (n : ℕ) (state : State) (delivered : ℕ) (asked : List Asked) (caught : List Caught) → ServerFact g n state → ActsFact tag g n (rules.silent {C = C} (record state { delivered = delivered; asked = asked; caught = caught }))
still_with tag g n state delivered asked caught f = record { server = f; sent = tt }

pub hears_commit : {C : Type 0} (tag : C → ℕ) (g : Owners C) (n : ℕ) (state : State) (from epoch count : ℕ) → ServerFact g n state → ActsFact tag g n (rules.commit {C = C} state from epoch count)
hears_commit tag g n state from epoch count f =
    let delivered : ℕ = max state.delivered (min (length state.peer.stable.history) count) in
    by_test (ActsFact tag g n) (follows state.peer.role from && (epoch == state.peer.stable.current)) _ _
    (λ e. still_with tag g n state delivered (left_asked delivered state.asked) (state.caught ++ newly_caught delivered state.asked) f)
    (λ e. still tag g n state f)

sync_fact_as : {C : Type 0} (tag : C → ℕ) (g : Owners C) (n : ℕ) (state : State) (sync : ℕ) (role : Role) → ServerFact g n state → ActsFact tag g n (rules.sync_as {C = C} state sync role)
sync_fact_as tag g n state sync Broadcast f = record { server = f; sent = tt }
sync_fact_as tag g n state sync (Following leader synced) f =
    by_test (ActsFact tag g n) synced _ _ (λ e. record { server = f; sent = (tt, tt) }) (λ e. record { server = f; sent = tt })
sync_fact_as tag g n state sync Looking f = record { server = f; sent = tt }
sync_fact_as tag g n state sync (Discover heard) f = record { server = f; sent = tt }
sync_fact_as tag g n state sync (Choose votes joiners) f = record { server = f; sent = tt }
sync_fact_as tag g n state sync Sync f = record { server = f; sent = tt }

pub sync_fact : {C : Type 0} (tag : C → ℕ) (g : Owners C) (n : ℕ) (state : State) (sync : ℕ) → ServerFact g n state → ActsFact tag g n (rules.sync {C = C} state sync)
sync_fact tag g n state sync f = sync_fact_as tag g n state sync state.peer.role f

sync_ask_fact_as : {C : Type 0} (tag : C → ℕ) (g : Owners C) (n : ℕ) (state : State) (from epoch sync : ℕ) (role : Role) → ServerFact g n state → ActsFact tag g n (rules.sync_ask_as {C = C} state from epoch sync role)
sync_ask_fact_as tag g n state from epoch sync Broadcast f =
    by_test (ActsFact tag g n) (epoch == state.peer.stable.promised) _ _ (λ e. record { server = f; sent = (tt, tt) }) (λ e. still tag g n state f)
sync_ask_fact_as tag g n state from epoch sync Looking f = still tag g n state f
sync_ask_fact_as tag g n state from epoch sync (Discover heard) f = still tag g n state f
sync_ask_fact_as tag g n state from epoch sync (Choose votes joiners) f = still tag g n state f
sync_ask_fact_as tag g n state from epoch sync Sync f = still tag g n state f
sync_ask_fact_as tag g n state from epoch sync (Following leader synced) f = still tag g n state f

pub hears_sync_ask : {C : Type 0} (tag : C → ℕ) (g : Owners C) (n : ℕ) (state : State) (from epoch sync : ℕ) → ServerFact g n state → ActsFact tag g n (rules.sync_ask {C = C} state from epoch sync)
hears_sync_ask tag g n state from epoch sync f = sync_ask_fact_as tag g n state from epoch sync state.peer.role f

pub hears_sync_tell : {C : Type 0} (tag : C → ℕ) (g : Owners C) (n : ℕ) (state : State) (from epoch sync count : ℕ) → ServerFact g n state → ActsFact tag g n (rules.sync_tell {C = C} state from epoch sync count)
hears_sync_tell tag g n state from epoch sync count f =
    let delivered : ℕ = max state.delivered (min (length state.peer.stable.history) count) in
    let asked : List Asked = told sync count state.asked in
    by_test (ActsFact tag g n) ((follows state.peer.role from && (epoch == state.peer.stable.current)) && is_asked sync state.asked) _ _
    (λ e. still_with tag g n state delivered (left_asked delivered asked) (state.caught ++ newly_caught delivered asked) f)
    (λ e. still tag g n state f)
