-- An append-only input appends at most one entry to what its server stores.
use Rattle.std.proofs.Common.{◌≡◌, ◌≢◌, Result, Err, inl, inr, ℕ, ℤ, max, Bool, true, false, not, ◌==◌, ◌&&◌, nat_lt, if◌then◌else◌, List, [], ◌∷◌, ◌++◌, length, take, drop, Option, Some, None, Ok, refl, sym, ap, ◌∙◌, subst, arith, length-append}
use Rattle.std.proofs.lemmas.List.{take-append-le, take-append-drop}
use Rattle.zab_epoch.specs.declared.rule_fault.RuleFault.{RuleFault}
use Rattle.zab_epoch.specs.declared.rule_fault.RuleFault.TheVariants as faults
use Rattle.zab_epoch.specs.declared.history.Entry.{Entry}
use Rattle.zab_epoch.specs.declared.message.Body.{Body}
use Rattle.zab_epoch.specs.declared.message.Body.TheVariants.{CEpoch, NewEpoch, AckEpoch, NewLeader, AckLeader, Propose, Ack, Commit, Request, SyncAsk, SyncTell}
use Rattle.zab_epoch.specs.declared.message.Message.{Message}
use Rattle.zab_epoch.specs.declared.role.Role.{Role}
use Rattle.zab_epoch.specs.declared.role.Role.TheVariants as roles
use Rattle.zab_epoch.specs.declared.stable.Stable.{Stable}
use Rattle.zab_epoch.specs.Roles.{follows}
use Rattle.zab_epoch.specs.Tables.{marks_of}
use Rattle.zab_broadcast.specs.declared.state.State.{State}
use Rattle.zab_broadcast.specs.Calls.{Setting, is_taken}
use Rattle.zab_broadcast.specs.Syncs.{is_asked}
use Rattle.zab_broadcast.specs.Rules as rules
use Rattle.zab_broadcast.specs.Rules.{Acts, Settled, counted, settles, raised, enters, tells_news, ack_leader_as, took, next_zxid, appends_at, appends, submit_as, request_as, is_next, is_above, ack_as, sync_as, sync_ask_as}
use Rattle.zab_model.specs.Worlds.{receives}
use Rattle.zab_host.specs.Hosts.{Input, Receives, Submits, Syncs, Leads, Follows, acts_of, IsAppendOnlyBody}
use Rattle.zab_host.specs.Durability.{IsDurable, IsStoredUpTo}
use Rattle.zab_host.specs.Growth.{IsAppendOnly, GrowsByOne}

-- ---- one rule

module _ {C : Type 0} (stable : Stable) where
  -- a rule's outcome
  abbrev Grows : Acts C → Type 0
  Grows acts = GrowsByOne stable acts.0.peer.stable

  by_if : (b : Bool) (x y : Acts C) → Grows x → Grows y → Grows (if b then x else y)
  by_if true x y p q = p
  by_if false x y p q = q

abbrev stable_in : Settled → Stable
stable_in settled = settled.0.peer.stable

pick : (stable : Stable) (b : Bool) (x y : Settled) → stable_in x ≡ stable → stable_in y ≡ stable → stable_in (if b then x else y) ≡ stable
pick stable true x y p q = p
pick stable false x y p q = q

settled_stable : (passes : List Bool → Bool) (state : State) → stable_in (settles passes state) ≡ state.peer.stable
settled_stable passes state =
    pick state.peer.stable (nat_lt state.top (counted passes state)) (record state { top = counted passes state; delivered = max state.delivered (counted passes state) }, Some (counted passes state)) (state, None) refl refl

sync_stays : (C : Type 0) (state : State) (tag : ℕ) (role : Role) → GrowsByOne state.peer.stable (sync_as {C = C} state tag role).0.peer.stable
sync_stays C state tag roles.Looking = inl refl
sync_stays C state tag (roles.Discover heard) = inl refl
sync_stays C state tag (roles.Choose votes joiners) = inl refl
sync_stays C state tag roles.Sync = inl refl
sync_stays C state tag roles.Broadcast = inl refl
sync_stays C state tag (roles.Following leader true) = inl refl
sync_stays C state tag (roles.Following leader false) = inl refl

module _ {C : Type 0} (setting : Setting C) (state : State) where
  settles_on : (whom : Option ℕ) (above : ℕ) (now : State) → GrowsByOne state.peer.stable now.peer.stable → Grows {C = C} state.peer.stable (tells_news whom above (settles setting.passes now))
  settles_on whom above now grows = subst (λ (s : Stable). GrowsByOne state.peer.stable s) (sym (settled_stable setting.passes now)) grows

  leader_acked : (from count : ℕ) (role : Role) → Grows {C = C} state.peer.stable (ack_leader_as setting.passes state from count role)
  leader_acked from count roles.Looking = inl refl
  leader_acked from count (roles.Discover heard) = inl refl
  leader_acked from count (roles.Choose votes joiners) = inl refl
  leader_acked from count (roles.Following leader synced) = inl refl
  leader_acked from count roles.Sync =
      by_if state.peer.stable (setting.passes (marks_of (raised state from count).has)) (enters setting.passes (raised state from count)) (raised state from count, Ok []) (inl refl) (inl refl)
  leader_acked from count roles.Broadcast = inl (settled_stable setting.passes (raised state from count))

  acked : (from epoch count : ℕ) (role : Role) → Grows {C = C} state.peer.stable (ack_as setting.passes state from epoch count role)
  acked from epoch count roles.Looking = inl refl
  acked from epoch count (roles.Discover heard) = inl refl
  acked from epoch count (roles.Choose votes joiners) = inl refl
  acked from epoch count (roles.Following leader synced) = inl refl
  acked from epoch count roles.Sync = inl refl
  acked from epoch count roles.Broadcast =
      by_if state.peer.stable (epoch == state.peer.stable.promised) (tells_news None (length state.peer.stable.history) (settles setting.passes (raised state from count))) (state, Ok [])
      (settles_on None (length state.peer.stable.history) (raised state from count) (inl refl)) (inl refl)

  appended : (call : C) (zxid : Option ℤ) → Grows {C = C} state.peer.stable (appends_at setting state call zxid)
  appended call None = inl refl
  appended call (Some zxid) =
      settles_on None (length state.peer.stable.history) (took state (setting.made state.peer.stable.history call zxid)) (inr (setting.made state.peer.stable.history call zxid, refl))

  submitted : (call : C) (role : Role) → Grows {C = C} state.peer.stable (submit_as setting state call role)
  submitted call roles.Looking = inl refl
  submitted call (roles.Discover heard) = inl refl
  submitted call (roles.Choose votes joiners) = inl refl
  submitted call roles.Sync = inl refl
  submitted call roles.Broadcast = appended call (next_zxid state.peer.stable.promised state.made)
  submitted call (roles.Following leader true) = inl refl
  submitted call (roles.Following leader false) = inl refl

  requested : (epoch : ℕ) (call : C) (role : Role) → Grows {C = C} state.peer.stable (request_as setting state epoch call role)
  requested epoch call roles.Looking = inl refl
  requested epoch call (roles.Discover heard) = inl refl
  requested epoch call (roles.Choose votes joiners) = inl refl
  requested epoch call roles.Sync = inl refl
  requested epoch call (roles.Following leader synced) = inl refl
  requested epoch call roles.Broadcast =
      by_if state.peer.stable ((epoch == state.peer.stable.promised) && not (is_taken (setting.tag call) state.taken)) (appends setting state call) (state, Ok [])
      (appended call (next_zxid state.peer.stable.promised state.made)) (inl refl)

  sync_asked : (from epoch tag : ℕ) (role : Role) → Grows {C = C} state.peer.stable (sync_ask_as state from epoch tag role)
  sync_asked from epoch tag roles.Looking = inl refl
  sync_asked from epoch tag (roles.Discover heard) = inl refl
  sync_asked from epoch tag (roles.Choose votes joiners) = inl refl
  sync_asked from epoch tag roles.Sync = inl refl
  sync_asked from epoch tag (roles.Following leader synced) = inl refl
  sync_asked from epoch tag roles.Broadcast = by_if state.peer.stable (epoch == state.peer.stable.promised) _ (state, Ok []) (inl refl) (inl refl)

  received : (from : ℕ) (body : Body C) → IsAppendOnlyBody body → Grows {C = C} state.peer.stable (receives setting from body state)
  received from (CEpoch promised) light = absurd light
  received from (NewEpoch epoch) light = absurd light
  received from (AckEpoch epoch vote current last) light = absurd light
  received from (NewLeader epoch keep rest) light = absurd light
  received from (AckLeader epoch count) light =
      by_if state.peer.stable (epoch == state.peer.stable.promised) (ack_leader_as setting.passes state from count state.peer.role) (state, Ok []) (leader_acked from count state.peer.role) (inl refl)
  received from (Propose epoch index entry) light =
      by_if state.peer.stable (follows state.peer.role from && is_next state.peer.stable epoch index) _ (state, Ok [])
      (by_if state.peer.stable (is_above state.peer.stable entry) _ (state, Ok []) (inr (entry, refl)) (inl refl)) (inl refl)
  received from (Ack epoch count) light = acked from epoch count state.peer.role
  received from (Commit epoch count) light = by_if state.peer.stable (follows state.peer.role from && (epoch == state.peer.stable.current)) _ (state, Ok []) (inl refl) (inl refl)
  received from (Request epoch call) light = requested epoch call state.peer.role
  received from (SyncAsk epoch tag) light = sync_asked from epoch tag state.peer.role
  received from (SyncTell epoch tag count) light =
      by_if state.peer.stable ((follows state.peer.role from && (epoch == state.peer.stable.current)) && is_asked tag state.asked) _ (state, Ok []) (inl refl) (inl refl)

  pub one_more : (input : Input C) → IsAppendOnly input → Grows {C = C} state.peer.stable (acts_of setting state input)
  one_more (Receives message) light = received message.sender message.body light
  one_more (Submits call) light = submitted call state.peer.role
  one_more (Syncs tag) light = sync_stays C state tag state.peer.role
  one_more Leads light = inl refl
  one_more (Follows leader) light = inl refl

-- ---- what a host's server does

module _ {C : Type 0} (setting : Setting C) (state now : State) where
  pub submit_grows : (call : C) (result : Result (List (Message C)) RuleFault) → (now, result) ≡ rules.submit setting state call → GrowsByOne state.peer.stable now.peer.stable
  submit_grows call result is = subst (λ (s : State). GrowsByOne state.peer.stable s.peer.stable) (sym (ap (λ (acts : Acts C). acts.0) is)) (submitted setting state call state.peer.role)

  pub receive_grows : (from : ℕ) (body : Body C) (result : Result (List (Message C)) RuleFault) → IsAppendOnlyBody body
      → (result ≢ Err faults.NoMemory → (now, result) ≡ receives setting from body state)
      → (result ≡ Err faults.NoMemory → now ≡ state)
      → GrowsByOne state.peer.stable now.peer.stable
  receive_grows from body (Ok messages) light acts same =
      subst (λ (s : State). GrowsByOne state.peer.stable s.peer.stable) (sym (ap (λ (acts : Acts C). acts.0) (acts (λ wrong. absurd cc)))) (received setting state from body light)
  receive_grows from body (Err faults.NoMemory) light acts same = inl (ap (λ (s : State). s.peer.stable) (same refl))
  receive_grows from body (Err faults.NotServing) light acts same =
      subst (λ (s : State). GrowsByOne state.peer.stable s.peer.stable) (sym (ap (λ (acts : Acts C). acts.0) (acts (λ wrong. absurd cc)))) (received setting state from body light)
  receive_grows from body (Err faults.EpochFull) light acts same =
      subst (λ (s : State). GrowsByOne state.peer.stable s.peer.stable) (sym (ap (λ (acts : Acts C). acts.0) (acts (λ wrong. absurd cc)))) (received setting state from body light)

module _ {C : Type 0} (state now : State) where
  pub sync_grows : (tag : ℕ) (result : Result (List (Message C)) RuleFault) → (now, result) ≡ rules.sync {C = C} state tag → GrowsByOne state.peer.stable now.peer.stable
  sync_grows tag result is = subst (λ (s : State). GrowsByOne state.peer.stable s.peer.stable) (sym (ap (λ (acts : Acts C). acts.0) is)) (sync_stays C state tag state.peer.role)

  pub lead_grows : (result : Result (List (Message C)) RuleFault) → (now, result) ≡ rules.lead {C = C} state → GrowsByOne state.peer.stable now.peer.stable
  lead_grows result is = inl (ap (λ (acts : Acts C). acts.0.peer.stable) is)

  pub follow_grows : (leader : ℕ) (result : Result (List (Message C)) RuleFault) → (now, result) ≡ rules.follow {C = C} state leader → GrowsByOne state.peer.stable now.peer.stable
  follow_grows leader result is = inl (ap (λ (acts : Acts C). acts.0.peer.stable) is)

-- ---- what is stored

module _ (may_recover : Stable → Type 0) where
  pub none_stored : (stable : Stable) → IsStoredUpTo may_recover 0 stable
  none_stored stable = record { within = omega arith; same = λ found may. refl }

  pub all_stored : (stable : Stable) (count : ℕ) → count ≡ length stable.history → IsDurable stable may_recover → IsStoredUpTo may_recover count stable
  all_stored stable count is durable = record { within = omega (arith, is); same = λ found may. ap (λ (s : Stable). take count s.history) (durable found may) }

  -- what grows keeps what is stored
  pub still_stored : (before after : Stable) (count : ℕ) → GrowsByOne before after → IsStoredUpTo may_recover count before → IsStoredUpTo may_recover count after
  still_stored before after count (inl same) stored = subst (IsStoredUpTo may_recover count) (sym same) stored
  still_stored before after count (inr more) stored = subst (IsStoredUpTo may_recover count) (sym more.1) (record {
    within = let grown = length-append before.history (more.0 ∷ []) in omega (arith, grown, stored.within);
    same = λ found may. stored.same found may ∙ sym (take-append-le count before.history (more.0 ∷ []) stored.within);
  })

-- an equal front, and the rest
pub rest_of : (count : ℕ) (own other : List Entry) → take count own ≡ take count other → take count own ++ drop count other ≡ other
rest_of count own other same = ap (λ (l : List Entry). l ++ drop count other) same ∙ take-append-drop count other

-- ---- the steps that leave the history

module _ {C : Type 0} (may_recover : Stable → Type 0) (count : ℕ) (state now : State) where
  pub lead_keeps : (result : Result (List (Message C)) RuleFault) → (now, result) ≡ rules.lead {C = C} state → IsStoredUpTo may_recover count state.peer.stable → IsStoredUpTo may_recover count now.peer.stable
  lead_keeps result is = still_stored may_recover state.peer.stable now.peer.stable count (lead_grows {C = C} state now result is)

  pub follow_keeps : (leader : ℕ) (result : Result (List (Message C)) RuleFault) → (now, result) ≡ rules.follow {C = C} state leader → IsStoredUpTo may_recover count state.peer.stable → IsStoredUpTo may_recover count now.peer.stable
  follow_keeps leader result is = still_stored may_recover state.peer.stable now.peer.stable count (follow_grows {C = C} state now leader result is)

  pub sync_keeps : (tag : ℕ) (result : Result (List (Message C)) RuleFault) → (now, result) ≡ rules.sync {C = C} state tag → IsStoredUpTo may_recover count state.peer.stable → IsStoredUpTo may_recover count now.peer.stable
  sync_keeps tag result is = still_stored may_recover state.peer.stable now.peer.stable count (sync_grows {C = C} state now tag result is)
