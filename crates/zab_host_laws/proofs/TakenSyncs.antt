-- No rule reads the completed syncs.
use Rattle.std.proofs.Common.{◌≡◌, ℕ, ℤ, ◌==◌, ◌&&◌, not, nat_lt, Bool, true, false, if◌then◌else◌, List, [], ◌∷◌, ◌++◌, length, Option, Some, None, Ok, refl, sym, ap, ◌∙◌, subst}
use Rattle.std.proofs.lemmas.List.{append-nil, append_assoc}
use Rattle.zab_epoch.specs.declared.message.Body.{Body}
use Rattle.zab_epoch.specs.declared.message.Body.TheVariants.{CEpoch, NewEpoch, AckEpoch, NewLeader, AckLeader, Propose, Ack, Commit, Request, SyncAsk, SyncTell}
use Rattle.zab_epoch.specs.declared.role.Role.{Role}
use Rattle.zab_epoch.specs.declared.role.Role.TheVariants as roles
use Rattle.zab_epoch.specs.Roles.{follows, is_choosing}
use Rattle.zab_epoch.specs.Tables.{marks_of}
use Rattle.zab_broadcast.specs.declared.state.State.{State}
use Rattle.zab_broadcast.specs.declared.syncs.Caught.{Caught}
use Rattle.zab_broadcast.specs.Calls.{Setting, is_taken}
use Rattle.zab_broadcast.specs.Syncs.{is_asked, caught_at, newly_caught, told}
use Rattle.zab_broadcast.specs.Rules.{Acts, Settled, counted, settles, raised, tells_news, catching_up, ack_leader_as, took, next_zxid, appends_at, submit_as, request_as, is_next, is_above, ack_as, sync_as, sync_ask_as, delivers_to}
use Rattle.zab_model.specs.Worlds.{receives}
use Rattle.zab_host.specs.Hosts.{Input, Receives, Submits, Syncs, Leads, Follows, acts_of}
use Rattle.zab_host_laws.specs.TakenSyncs.{with_caught, HasTaken, TakenSyncsChangeNothing}

module _ {C : Type 0} (setting : Setting C) (state : State) (kept : List Caught) where
  abbrev other : State
  other = with_caught state kept

  -- the outcomes of a rule for both: the same syncs complete
  record Both (a b : Acts C) : Type 0 where
    more : List Caught
    all : a.0.caught ≡ state.caught ++ more
    left : b.0 ≡ with_caught a.0 (kept ++ more)
    result : b.1 ≡ a.1

  quiet : (a b : Acts C) → a.0.caught ≡ state.caught → b.0 ≡ with_caught a.0 kept → b.1 ≡ a.1 → Both a b
  quiet a b all left result = record {
    more = [];
    all = all ∙ sym (append-nil state.caught);
    left = left ∙ ap (with_caught a.0) (sym (append-nil kept));
    result = result;
  }

  none : Both (state, Ok []) (other, Ok [])
  none = quiet (state, Ok []) (other, Ok []) refl refl refl

  by_if : (b : Bool) (x y x2 y2 : Acts C) → Both x x2 → Both y y2 → Both (if b then x else y) (if b then x2 else y2)
  by_if true x y x2 y2 p q = p
  by_if false x y x2 y2 p q = q

  -- a count rises, or not
  pick : (act : Settled → Acts C) (b : Bool) (x y x2 y2 : Settled) → Both (act x) (act x2) → Both (act y) (act y2) → Both (act (if b then x else y)) (act (if b then x2 else y2))
  pick act true x y x2 y2 p q = p
  pick act false x y x2 y2 p q = q

  news_on : (whom : Option ℕ) (above : ℕ) (now : State) → now.caught ≡ state.caught
      → Both (tells_news whom above (settles setting.passes now)) (tells_news whom above (settles setting.passes (with_caught now kept)))
  news_on whom above now is =
      pick (tells_news whom above) (nat_lt now.top (counted setting.passes now)) _ (now, None) _ (with_caught now kept, None)
      (quiet _ _ is refl refl) (quiet _ _ is refl refl)

  catches_on : (from above : ℕ) (now : State) → now.caught ≡ state.caught
      → Both (catching_up setting.passes from above (settles setting.passes now)) (catching_up setting.passes from above (settles setting.passes (with_caught now kept)))
  catches_on from above now is =
      pick (catching_up setting.passes from above) (nat_lt now.top (counted setting.passes now)) _ (now, None) _ (with_caught now kept, None)
      (quiet _ _ is refl refl) (quiet _ _ is refl refl)

  leader_acked : (from count : ℕ) (role : Role) → Both (ack_leader_as setting.passes state from count role) (ack_leader_as setting.passes other from count role)
  leader_acked from count roles.Looking = none
  leader_acked from count (roles.Discover heard) = none
  leader_acked from count (roles.Choose votes joiners) = none
  leader_acked from count (roles.Following leader synced) = none
  leader_acked from count roles.Sync =
      by_if (setting.passes (marks_of (raised state from count).has)) _ _ _ _ (quiet _ _ refl refl refl) (quiet _ _ refl refl refl)
  leader_acked from count roles.Broadcast = catches_on from count (raised state from count) refl

  acked : (from number count : ℕ) (role : Role) → Both (ack_as setting.passes state from number count role) (ack_as setting.passes other from number count role)
  acked from number count roles.Looking = none
  acked from number count (roles.Discover heard) = none
  acked from number count (roles.Choose votes joiners) = none
  acked from number count (roles.Following leader synced) = none
  acked from number count roles.Sync = none
  acked from number count roles.Broadcast =
      by_if (number == state.peer.stable.promised) _ _ _ _ (news_on None (length state.peer.stable.history) (raised state from count) refl) none

  appended : (call : C) (zxid : Option ℤ) → Both (appends_at setting state call zxid) (appends_at setting other call zxid)
  appended call None = quiet _ _ refl refl refl
  appended call (Some zxid) =
      news_on None (length state.peer.stable.history) (took state (setting.made state.peer.stable.history call zxid)) refl

  submitted : (call : C) (role : Role) → Both (submit_as setting state call role) (submit_as setting other call role)
  submitted call roles.Looking = quiet _ _ refl refl refl
  submitted call (roles.Discover heard) = quiet _ _ refl refl refl
  submitted call (roles.Choose votes joiners) = quiet _ _ refl refl refl
  submitted call roles.Sync = quiet _ _ refl refl refl
  submitted call roles.Broadcast = appended call (next_zxid state.peer.stable.promised state.made)
  submitted call (roles.Following leader true) = quiet _ _ refl refl refl
  submitted call (roles.Following leader false) = quiet _ _ refl refl refl

  requested : (number : ℕ) (call : C) (role : Role) → Both (request_as setting state number call role) (request_as setting other number call role)
  requested number call roles.Looking = none
  requested number call (roles.Discover heard) = none
  requested number call (roles.Choose votes joiners) = none
  requested number call roles.Sync = none
  requested number call (roles.Following leader synced) = none
  requested number call roles.Broadcast =
      by_if ((number == state.peer.stable.promised) && not (is_taken (setting.tag call) state.taken)) _ _ _ _
      (appended call (next_zxid state.peer.stable.promised state.made)) none

  synced : (tag : ℕ) (role : Role) → Both (sync_as state tag role) (sync_as other tag role)
  synced tag roles.Looking = quiet _ _ refl refl refl
  synced tag (roles.Discover heard) = quiet _ _ refl refl refl
  synced tag (roles.Choose votes joiners) = quiet _ _ refl refl refl
  synced tag roles.Sync = quiet _ _ refl refl refl
  synced tag roles.Broadcast = record { more = caught_at tag state.delivered ∷ []; all = refl; left = refl; result = refl }
  synced tag (roles.Following leader true) = quiet _ _ refl refl refl
  synced tag (roles.Following leader false) = quiet _ _ refl refl refl

  sync_asked : (from number tag : ℕ) (role : Role) → Both (sync_ask_as state from number tag role) (sync_ask_as other from number tag role)
  sync_asked from number tag roles.Looking = none
  sync_asked from number tag (roles.Discover heard) = none
  sync_asked from number tag (roles.Choose votes joiners) = none
  sync_asked from number tag roles.Sync = none
  sync_asked from number tag (roles.Following leader synced) = none
  sync_asked from number tag roles.Broadcast = by_if (number == state.peer.stable.promised) _ _ _ _ (quiet _ _ refl refl refl) none

  received : (from : ℕ) (body : Body C) → Both (receives setting from body state) (receives setting from body other)
  received from (CEpoch promised) = quiet _ _ refl refl refl
  received from (NewEpoch number) = quiet _ _ refl refl refl
  received from (AckEpoch number vote current last) =
      by_if (is_choosing state.peer.role) _ _ _ _ (quiet _ _ refl refl refl) (quiet _ _ refl refl refl)
  received from (NewLeader number keep rest) = by_if (follows state.peer.role from) _ _ _ _ (quiet _ _ refl refl refl) none
  received from (AckLeader number count) = by_if (number == state.peer.stable.promised) _ _ _ _ (leader_acked from count state.peer.role) none
  received from (Propose number index entry) =
      by_if (follows state.peer.role from && is_next state.peer.stable number index) _ _ _ _
      (by_if (is_above state.peer.stable entry) _ _ _ _ (quiet _ _ refl refl refl) none) none
  received from (Ack number count) = acked from number count state.peer.role
  received from (Commit number count) =
      by_if (follows state.peer.role from && (number == state.peer.stable.current)) _ _ _ _
      (record { more = newly_caught (delivers_to state count).delivered state.asked; all = refl; left = refl; result = refl }) none
  received from (Request number call) = requested number call state.peer.role
  received from (SyncAsk number tag) = sync_asked from number tag state.peer.role
  received from (SyncTell number tag count) =
      by_if ((follows state.peer.role from && (number == state.peer.stable.current)) && is_asked tag state.asked) _ _ _ _
      (record { more = newly_caught (delivers_to state count).delivered (told tag count state.asked); all = refl; left = refl; result = refl }) none

  both : (input : Input C) → Both (acts_of setting state input) (acts_of setting other input)
  both (Receives message) = received message.sender message.body
  both (Submits call) = submitted call state.peer.role
  both (Syncs tag) = synced tag state.peer.role
  both Leads = quiet _ _ refl refl refl
  both (Follows leader) = quiet _ _ refl refl refl

  -- what was taken stays taken
  kept_so : (taken : List Caught) (input : Input C) → state.caught ≡ taken ++ kept
      → HasTaken taken (acts_of setting state input).0 (acts_of setting other input).0 × ((acts_of setting other input).1 ≡ (acts_of setting state input).1)
  kept_so taken input all =
      let b = both input in
      let rest : (acts_of setting other input).0.caught ≡ kept ++ b.more = ap (λ s. s.caught) b.left in (
        record {
          same = b.left ∙ ap (with_caught (acts_of setting state input).0) (sym rest);
          all = b.all ∙ ap (λ l. l ++ b.more) all ∙ append_assoc taken kept b.more ∙ ap (λ l. taken ++ l) (sym rest);
        },
        b.result,
      )

pub taken_syncs : {C : Type 0} (setting : Setting C) → TakenSyncsChangeNothing setting
taken_syncs setting = record {
  inputs = λ taken whole left input h.
      subst (λ (s : State). HasTaken taken (acts_of setting whole input).0 (acts_of setting s input).0 × ((acts_of setting s input).1 ≡ (acts_of setting whole input).1)) (sym h.same)
      (kept_so setting whole left.caught taken input h.all);
  takes = λ taken whole left h. record {
    same = ap (λ (s : State). with_caught s []) h.same;
    all = h.all ∙ sym (append-nil (taken ++ left.caught));
  };
}
