-- No rule changes a server's number, or the number of servers that it knows.
use Rattle.std.proofs.Common.{◌≡◌, ℕ, ℤ, ◌==◌, ◌&&◌, not, nat_lt, Bool, true, false, if◌then◌else◌, max, List, [], ◌∷◌, ◌++◌, length, Option, Some, None, Ok, refl, sym, ap, ◌∙◌, subst}
use Rattle.zab_epoch.specs.declared.history.Entry.{Entry}
use Rattle.zab_epoch.specs.declared.message.Body.{Body}
use Rattle.zab_epoch.specs.declared.message.Body.TheVariants.{CEpoch, NewEpoch, AckEpoch, NewLeader, AckLeader, Propose, Ack, Commit, Request, SyncAsk, SyncTell}
use Rattle.zab_epoch.specs.declared.peer.Peer.{Peer}
use Rattle.zab_epoch.specs.declared.role.Role.{Role}
use Rattle.zab_epoch.specs.declared.role.Role.TheVariants as roles
use Rattle.zab_epoch.specs.declared.votes.Vote.{Vote}
use Rattle.zab_epoch.specs.Roles.{follows, is_choosing}
use Rattle.zab_epoch.specs.Rules as epoch
use Rattle.zab_epoch.specs.Tables.{marks_of, put}
use Rattle.zab_broadcast.specs.declared.state.State.{State}
use Rattle.zab_broadcast.specs.Calls.{Setting, is_taken}
use Rattle.zab_broadcast.specs.Syncs.{is_asked}
use Rattle.zab_broadcast.specs.Rules as rules
use Rattle.zab_broadcast.specs.Rules.{Acts, Settled, counted, settles, raised, enters, tells_news, ack_leader_as, took, next_zxid, appends_at, appends, submit_as, request_as, is_next, is_above, ack_as, sync_as, sync_ask_as}
use Rattle.zab_model.specs.Worlds.{receives}
use Rattle.zab_host.specs.Hosts.{Input, Receives, Submits, Syncs, Leads, Follows, acts_of}

-- one number, and one number of servers
pub record Same (peer next : Peer) : Type 0 where
  pub me : next.me ≡ peer.me
  pub servers : next.servers ≡ peer.servers

same : (peer : Peer) → Same peer peer
same peer = record { me = refl; servers = refl }

-- ---- the first two phases

module _ (C : Type 0) (peer : Peer) where
  abbrev Stays : epoch.Acts C → Type 0
  Stays acts = Same peer acts.0

  peer_if : (b : Bool) (x y : epoch.Acts C) → Stays x → Stays y → Stays (if b then x else y)
  peer_if true x y p q = p
  peer_if false x y p q = q

  chosen : (heard : List Bool) (next : Option ℕ) → Stays (epoch.chooses peer heard next)
  chosen heard None = record { me = refl; servers = refl }
  chosen heard (Some number) = record { me = refl; servers = refl }

  hears_keep : (passes : List Bool → Bool) (heard : List (Option ℕ)) → Stays (epoch.hears passes peer heard)
  hears_keep passes heard =
      peer_if (passes (marks_of heard)) (epoch.chooses peer (marks_of heard) (epoch.next_epoch (max (epoch.greatest heard) peer.stable.promised)))
      (epoch.silent (record peer { role = roles.Discover heard })) (chosen (marks_of heard) (epoch.next_epoch (max (epoch.greatest heard) peer.stable.promised)))
      (record { me = refl; servers = refl })

  heard_epoch : (passes : List Bool → Bool) (from promised : ℕ) (role : Role) → Stays (epoch.c_epoch_as passes peer from promised role)
  heard_epoch passes from promised roles.Looking = same peer
  heard_epoch passes from promised (roles.Discover heard) = hears_keep passes (put heard from promised)
  heard_epoch passes from promised (roles.Choose votes joiners) = same peer
  heard_epoch passes from promised roles.Sync = same peer
  heard_epoch passes from promised roles.Broadcast = same peer
  heard_epoch passes from promised (roles.Following leader synced) = same peer

  new_epoch : (from number : ℕ) → Stays (epoch.new_epoch peer from number)
  new_epoch from number =
      peer_if (follows peer.role from) _ _
      (peer_if (epoch.is_new peer.stable number) _ _ (record { me = refl; servers = refl })
      (peer_if (number == peer.stable.promised) _ _ (same peer) (same peer)))
      (same peer)

  gathers_keep : (passes : List Bool → Bool) (votes : List (Option Vote)) (joiners : List (Option ℤ)) → Stays (epoch.gathers passes peer votes joiners)
  gathers_keep passes votes joiners =
      peer_if (passes (marks_of votes))
      (if epoch.exceeds (epoch.vote_of peer.stable) votes then epoch.silent (record peer { role = roles.Looking }) else epoch.begins peer joiners)
      (epoch.silent (record peer { role = roles.Choose votes joiners }))
      (peer_if (epoch.exceeds (epoch.vote_of peer.stable) votes) (epoch.silent (record peer { role = roles.Looking })) (epoch.begins peer joiners)
      (record { me = refl; servers = refl }) (record { me = refl; servers = refl }))
      (record { me = refl; servers = refl })

  gathered : (passes : List Bool → Bool) (from : ℕ) (vote : Bool) (said : Vote) (role : Role) → Stays (epoch.ack_epoch_as passes peer from vote said role)
  gathered passes from vote said roles.Looking = same peer
  gathered passes from vote said (roles.Discover heard) = same peer
  gathered passes from vote said (roles.Choose votes joiners) =
      gathers_keep passes (if vote then put votes from said else votes) (put joiners from said.last)
  gathered passes from vote said roles.Sync = same peer
  gathered passes from vote said roles.Broadcast = same peer
  gathered passes from vote said (roles.Following leader synced) = same peer

  ack_epoch : (passes : List Bool → Bool) (from number : ℕ) (vote : Bool) (said : Vote) → Stays (epoch.ack_epoch passes peer from number vote said)
  ack_epoch passes from number vote said = peer_if (number == peer.stable.promised) _ _ (gathered passes from vote said peer.role) (same peer)

  new_leader : (from number : ℕ) (keep : ℤ) (rest : List Entry) → Stays (epoch.new_leader peer from number keep rest)
  new_leader from number keep rest =
      peer_if (follows peer.role from && (number == peer.stable.promised)) _ _
      (peer_if (epoch.goes_on peer.stable.history keep rest) _ _
      (peer_if (epoch.is_behind peer.stable number (length (epoch.meant peer.stable.history keep rest))) _ _
      (record { me = refl; servers = refl }) (record { me = refl; servers = refl }))
      (same peer))
      (same peer)

-- ---- broadcast

abbrev peer_in : Settled → Peer
peer_in settled = settled.0.peer

pick : (peer : Peer) (b : Bool) (x y : Settled) → peer_in x ≡ peer → peer_in y ≡ peer → peer_in (if b then x else y) ≡ peer
pick peer true x y p q = p
pick peer false x y p q = q

settled_peer : (passes : List Bool → Bool) (state : State) → peer_in (settles passes state) ≡ state.peer
settled_peer passes state =
    pick state.peer (nat_lt state.top (counted passes state)) (record state { top = counted passes state; delivered = max state.delivered (counted passes state) }, Some (counted passes state)) (state, None) refl refl

module _ {C : Type 0} (setting : Setting C) (state : State) where
  abbrev Keeps : Acts C → Type 0
  Keeps acts = Same state.peer acts.0.peer

  by_if : (b : Bool) (x y : Acts C) → Keeps x → Keeps y → Keeps (if b then x else y)
  by_if true x y p q = p
  by_if false x y p q = q

  unchanged : Same state.peer state.peer
  unchanged = same state.peer

  settles_on : (whom : Option ℕ) (above : ℕ) (now : State) → Same state.peer now.peer → Keeps (tells_news whom above (settles setting.passes now))
  settles_on whom above now keeps = subst (Same state.peer) (sym (settled_peer setting.passes now)) keeps

  leader_acked : (from count : ℕ) (role : Role) → Keeps (ack_leader_as setting.passes state from count role)
  leader_acked from count roles.Looking = unchanged
  leader_acked from count (roles.Discover heard) = unchanged
  leader_acked from count (roles.Choose votes joiners) = unchanged
  leader_acked from count (roles.Following leader synced) = unchanged
  leader_acked from count roles.Sync =
      by_if (setting.passes (marks_of (raised state from count).has)) (enters setting.passes (raised state from count)) (raised state from count, Ok [])
      (record { me = refl; servers = refl }) unchanged
  leader_acked from count roles.Broadcast = subst (Same state.peer) (sym (settled_peer setting.passes (raised state from count))) unchanged

  acked : (from number count : ℕ) (role : Role) → Keeps (ack_as setting.passes state from number count role)
  acked from number count roles.Looking = unchanged
  acked from number count (roles.Discover heard) = unchanged
  acked from number count (roles.Choose votes joiners) = unchanged
  acked from number count (roles.Following leader synced) = unchanged
  acked from number count roles.Sync = unchanged
  acked from number count roles.Broadcast =
      by_if (number == state.peer.stable.promised) (tells_news None (length state.peer.stable.history) (settles setting.passes (raised state from count))) (state, Ok [])
      (settles_on None (length state.peer.stable.history) (raised state from count) unchanged) unchanged

  appended : (call : C) (zxid : Option ℤ) → Keeps (appends_at setting state call zxid)
  appended call None = record { me = refl; servers = refl }
  appended call (Some zxid) =
      settles_on None (length state.peer.stable.history) (took state (setting.made state.peer.stable.history call zxid)) (record { me = refl; servers = refl })

  submitted : (call : C) (role : Role) → Keeps (submit_as setting state call role)
  submitted call roles.Looking = unchanged
  submitted call (roles.Discover heard) = unchanged
  submitted call (roles.Choose votes joiners) = unchanged
  submitted call roles.Sync = unchanged
  submitted call roles.Broadcast = appended call (next_zxid state.peer.stable.promised state.made)
  submitted call (roles.Following leader true) = unchanged
  submitted call (roles.Following leader false) = unchanged

  requested : (number : ℕ) (call : C) (role : Role) → Keeps (request_as setting state number call role)
  requested number call roles.Looking = unchanged
  requested number call (roles.Discover heard) = unchanged
  requested number call (roles.Choose votes joiners) = unchanged
  requested number call roles.Sync = unchanged
  requested number call (roles.Following leader synced) = unchanged
  requested number call roles.Broadcast =
      by_if ((number == state.peer.stable.promised) && not (is_taken (setting.tag call) state.taken)) (appends setting state call) (state, Ok [])
      (appended call (next_zxid state.peer.stable.promised state.made)) unchanged

  synced : (tag : ℕ) (role : Role) → Keeps (sync_as state tag role)
  synced tag roles.Looking = unchanged
  synced tag (roles.Discover heard) = unchanged
  synced tag (roles.Choose votes joiners) = unchanged
  synced tag roles.Sync = unchanged
  synced tag roles.Broadcast = unchanged
  synced tag (roles.Following leader true) = unchanged
  synced tag (roles.Following leader false) = unchanged

  sync_asked : (from number tag : ℕ) (role : Role) → Keeps (sync_ask_as state from number tag role)
  sync_asked from number tag roles.Looking = unchanged
  sync_asked from number tag (roles.Discover heard) = unchanged
  sync_asked from number tag (roles.Choose votes joiners) = unchanged
  sync_asked from number tag roles.Sync = unchanged
  sync_asked from number tag (roles.Following leader synced) = unchanged
  sync_asked from number tag roles.Broadcast = by_if (number == state.peer.stable.promised) _ (state, Ok []) unchanged unchanged

  pub received : (from : ℕ) (body : Body C) → Keeps (receives setting from body state)
  received from (CEpoch promised) = heard_epoch C state.peer setting.passes from promised state.peer.role
  received from (NewEpoch number) = new_epoch C state.peer from number
  received from (AckEpoch number vote current last) =
      by_if (is_choosing state.peer.role) _ _
      (ack_epoch C state.peer setting.passes from number vote (record { current = current; last = last }))
      (ack_epoch C state.peer setting.passes from number vote (record { current = current; last = last }))
  received from (NewLeader number keep rest) =
      by_if (follows state.peer.role from) _ (state, Ok []) (new_leader C state.peer from number keep rest) unchanged
  received from (AckLeader number count) =
      by_if (number == state.peer.stable.promised) (ack_leader_as setting.passes state from count state.peer.role) (state, Ok []) (leader_acked from count state.peer.role) unchanged
  received from (Propose number index entry) =
      by_if (follows state.peer.role from && is_next state.peer.stable number index) _ (state, Ok [])
      (by_if (is_above state.peer.stable entry) _ (state, Ok []) (record { me = refl; servers = refl }) unchanged) unchanged
  received from (Ack number count) = acked from number count state.peer.role
  received from (Commit number count) = by_if (follows state.peer.role from && (number == state.peer.stable.current)) _ (state, Ok []) unchanged unchanged
  received from (Request number call) = requested number call state.peer.role
  received from (SyncAsk number tag) = sync_asked from number tag state.peer.role
  received from (SyncTell number tag count) =
      by_if ((follows state.peer.role from && (number == state.peer.stable.current)) && is_asked tag state.asked) _ (state, Ok []) unchanged unchanged

  pub keeps_number : (input : Input C) → Keeps (acts_of setting state input)
  keeps_number (Receives message) = received message.sender message.body
  keeps_number (Submits call) = submitted call state.peer.role
  keeps_number (Syncs tag) = synced tag state.peer.role
  keeps_number Leads = record { me = refl; servers = refl }
  keeps_number (Follows leader) = record { me = refl; servers = refl }
