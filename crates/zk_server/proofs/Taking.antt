-- A host takes an input.
use Rattle.std.proofs.Common.{◌≡◌, ◌≢◌, ◌⊎◌, ◌≤◌, inl, inr, ℕ, List, [], ◌∷◌, ◌++◌, length, Result, Ok, Err, refl, sym, ap, ◌∙◌, subst, arith}
use Rattle.std.proofs.lemmas.List.{append-nil, take_all}
use Rattle.zab_broadcast.specs.Calls.{Setting}
use Rattle.zab_broadcast.specs.declared.state.State.{State}
use Rattle.zab_epoch.specs.declared.message.Message.{Message}
use Rattle.zab_epoch.specs.declared.stable.Stable.{Stable}
use Rattle.zab_host.specs.declared.fault.HostFault.{HostFault}
use Rattle.zab_host.specs.declared.fault.HostFault.TheVariants as host_faults
use Rattle.zab_host.specs.declared.fault.ReceiveFault.TheVariants as receive_faults
use Rattle.zab_host.specs.declared.storage.StoreFault.{StoreFault}
use Rattle.zab_host.specs.declared.tags.TagIssuer.{TagIssuer}
use Rattle.zab_host.specs.Growth.{IsAppendOnly}
use Rattle.zab_host.specs.Hosts.{HostView, Input, Receives, IsFor, IsOutside, StepsTo, HasActed, IsRejected, IsStored, acts_of, messages_of, host}
use Rattle.zab_host_laws.specs.Composition.{step_of, after_inputs}
use Rattle.zab_host_laws.specs.Tags.{tag_in}
use Rattle.zk_host.specs.declared.replica_host.ReplicaHost.{ReplicaHost}
use Rattle.zk_host.specs.WatchedTrees.{WatchedTreeView}
use Rattle.zk_requests.specs.declared.call.Call.{Call}
use Rattle.zk_server.specs.declared.member.Member.{Member}
use Rattle.zk_server.specs.Deeds.{profile_for, setting_for, Deeds, FailsBy, Keeps, KeepsIn, TakesBy}
use Rattle.zk_server.proofs.Inputs.{after_both}
use Rattle.zk_server_laws.specs.Stores.{KeepsFirst, KeepsSome, StoresKeepFirstInputs}
use Rattle.zk_server_laws.specs.Turns.{AreRising, IsAfterSome}

module _ {S : Type 0} (may_recover : S → Stable → Type 0) (boots : S → ℕ) (me : Member) (law : StoresKeepFirstInputs (setting_for me.servers) may_recover) where
  abbrev setting : Setting Call
  setting = setting_for me.servers

  -- ---- the store

  no_more : (state : State) (before : List (Input Call)) (storage : S) → KeepsFirst setting may_recover state before storage → KeepsFirst setting may_recover state (before ++ []) storage
  no_more state before storage keeps = subst (λ (l : List (Input Call)). KeepsFirst setting may_recover state l storage) (sym (append-nil before)) keeps

  some_of : (state : State) (inputs : List (Input Call)) (storage : S) → KeepsFirst setting may_recover state inputs storage → KeepsSome setting may_recover state inputs storage
  some_of state inputs storage keeps found may = (let first = keeps found may in (first.0, first.1.1.1))

  pub keeps_some : (old : HostView Call S) (inputs : List (Input Call)) (storage : S) → Keeps may_recover boots me old inputs storage → KeepsIn may_recover boots me old inputs storage
  keeps_some old inputs storage keeps state before is first = some_of state (before ++ inputs) storage (keeps state before is first)

  -- nothing is stored
  keeps_none : (old : HostView Call S) (storage : S) → storage ≡ old.storage → Keeps may_recover boots me old [] storage
  keeps_none old storage same state before is keeps =
      no_more state before storage (subst (λ (s : S). KeepsFirst setting may_recover state before s) (sym same) keeps)

  keeps_light : (old : HostView Call S) (input : Input Call) (storage : S) → storage ≡ old.storage → IsAppendOnly input → Keeps may_recover boots me old (input ∷ []) storage
  keeps_light old input storage same light state before is keeps =
      law.appends state before input storage light (subst (λ (s : S). KeepsFirst setting may_recover state before s) (sym same) keeps)

  after_is : (old : State) (inputs before : List (Input Call)) (state new : State) → old ≡ after_inputs setting state before → new ≡ after_inputs setting old inputs → new ≡ after_inputs setting state (before ++ inputs)
  after_is old inputs before state new is now = now ∙ ap (λ (s : State). after_inputs setting s inputs) is ∙ sym (after_both setting state before inputs)

  -- all is stored
  keeps_stored : (old new : HostView Call S) (inputs : List (Input Call)) → IsStored may_recover new → new.state ≡ after_inputs setting old.state inputs → Keeps may_recover boots me old inputs new.storage
  keeps_stored old new inputs stored now state before is keeps =
      law.stored state (before ++ inputs) new.storage
      (λ found may. stored found may ∙ ap (λ (s : State). s.peer.stable) (after_is old.state inputs before state new.state is now))

  -- ---- one input

  module _ (old new : ReplicaHost S) (rest : (new.tree ≡ old.tree) × ((new.shown ≡ old.shown) × (new.tags ≡ old.tags))) where
    rising : AreRising me.number old.tags.boot old.tags.used new.tags.used []
    rising = (let e : new.tags.used ≡ old.tags.used = ap (λ (t : TagIssuer). t.used) rest.1.1 in omega arith)

    within : old.tags.used ≤ 4294967296 → new.tags.used ≤ 4294967296
    within le = (let e : new.tags.used ≡ old.tags.used = ap (λ (t : TagIssuer). t.used) rest.1.1 in omega arith)

    -- no input was taken
    none : (keeps : Keeps may_recover boots me old.host [] new.host.storage) → boots new.host.storage ≡ boots old.host.storage
        → new.host.state ≡ old.host.state → new.host.outbox ≡ old.host.outbox → Deeds may_recover boots me [] [] old new
    none keeps starts state outbox = record {
      accepted = tt;
      state = state;
      outbox = outbox ∙ sym (append-nil old.host.outbox);
      asked = refl;
      rising = rising;
      within = within;
      host = ap (λ (t : TagIssuer). t.host) rest.1.1;
      boot = ap (λ (t : TagIssuer). t.boot) rest.1.1;
      keeps = keeps;
      starts = starts;
      tree = ap (λ (t : WatchedTreeView). t.tree) rest.0;
      news = ap (λ (t : WatchedTreeView). t.news) rest.0;
      shown = rest.1.0;
    }

    -- the input was taken
    one : (input : Input Call) (keeps : Keeps may_recover boots me old.host (input ∷ []) new.host.storage) → boots new.host.storage ≡ boots old.host.storage
        → tag_in (profile_for me.servers) (step_of me.number input) ≡ [] → IsFor old.host.state input
        → new.host.state ≡ (acts_of setting old.host.state input).0 → new.host.outbox ≡ old.host.outbox ++ messages_of (acts_of setting old.host.state input).1
        → Deeds may_recover boots me (input ∷ []) [] old new
    one input keeps starts quiet fits state outbox = record {
      accepted = (fits, tt);
      state = state;
      outbox = outbox ∙ ap (λ l. old.host.outbox ++ l) (sym (append-nil (messages_of (acts_of setting old.host.state input).1)));
      asked = ap (λ (l : List ℕ). l ++ []) quiet;
      rising = rising;
      within = within;
      host = ap (λ (t : TagIssuer). t.host) rest.1.1;
      boot = ap (λ (t : TagIssuer). t.boot) rest.1.1;
      keeps = keeps;
      starts = starts;
      tree = ap (λ (t : WatchedTreeView). t.tree) rest.0;
      news = ap (λ (t : WatchedTreeView). t.news) rest.0;
      shown = rest.1.0;
    }

    failed_none : (keeps : KeepsIn may_recover boots me old.host [] new.host.storage) → boots new.host.storage ≡ boots old.host.storage → (input : Input Call) → FailsBy may_recover boots me input old new
    failed_none keeps starts input = record {
      inputs = [];
      only = inl refl;
      failure = record { accepted = tt; asked = refl; rising = rising; within = within; keeps = keeps; starts = starts };
    }

    failed_one : (input : Input Call) (keeps : KeepsIn may_recover boots me old.host (input ∷ []) new.host.storage) → boots new.host.storage ≡ boots old.host.storage
        → tag_in (profile_for me.servers) (step_of me.number input) ≡ [] → IsFor old.host.state input → FailsBy may_recover boots me input old new
    failed_one input keeps starts quiet fits = record {
      inputs = input ∷ [];
      only = inr refl;
      failure = record { accepted = (fits, tt); asked = ap (λ (l : List ℕ). l ++ []) quiet; rising = rising; within = within; keeps = keeps; starts = starts };
    }

    taken_one : (input : Input Call) → IsFor old.host.state input → Deeds may_recover boots me (input ∷ []) [] old new → TakesBy may_recover boots me input old new
    taken_one input fits deeds = record { inputs = input ∷ []; offers = inl (fits, refl); deeds = deeds }

    taken_none : (input : Input Call) (fault : HostFault) → IsOutside old.host.state input fault → Deeds may_recover boots me [] [] old new → TakesBy may_recover boots me input old new
    taken_none input fault outside deeds = record { inputs = []; offers = inr (fault, (outside, refl)); deeds = deeds }

    -- the host after a step: what its store keeps is known for no input and for the input
    module _ (input : Input Call) (quiet : tag_in (profile_for me.servers) (step_of me.number input) ≡ []) (starts : boots new.host.storage ≡ boots old.host.storage)
        (keeps_no : new.host.state ≡ old.host.state → Keeps may_recover boots me old.host [] new.host.storage)
        (keeps_it : new.host.state ≡ (acts_of setting old.host.state input).0 → Keeps may_recover boots me old.host (input ∷ []) new.host.storage) where
      abbrev Steps : Result (Unit {0}) HostFault → Type 0
      Steps result = StepsTo setting (host old.host.state old.host.outbox new.host.storage) input new.host result

      state_of : (a : State) (b : List (Message Call)) (s : S) → new.host ≡ host a b s → new.host.state ≡ a
      state_of a b s is = ap (λ (v : HostView Call S). v.state) is

      outbox_of : (a : State) (b : List (Message Call)) (s : S) → new.host ≡ host a b s → new.host.outbox ≡ b
      outbox_of a b s is = ap (λ (v : HostView Call S). v.outbox) is

      acted : (result : Result (Unit {0}) HostFault) → HasActed setting (host old.host.state old.host.outbox new.host.storage) input new.host result → TakesBy may_recover boots me input old new
      acted result h =
          let state = state_of _ _ _ h.now in
          taken_one input h.fits (one input (keeps_it state) starts quiet h.fits state (outbox_of _ _ _ h.now))

      outside : (fault : HostFault) → new.host ≡ host old.host.state old.host.outbox new.host.storage → IsOutside old.host.state input fault → TakesBy may_recover boots me input old new
      outside fault same out =
          let state = state_of _ _ _ same in
          taken_none input fault out (none (keeps_no state) starts state (outbox_of _ _ _ same))

      goes_on : (result : Result (Unit {0}) HostFault) → result ≢ Err host_faults.NoMemory → Steps result → TakesBy may_recover boots me input old new
      goes_on (Ok x) fine h = acted (Ok tt) h
      goes_on (Err host_faults.NoServer) fine h = outside host_faults.NoServer h.0 h.1
      goes_on (Err host_faults.OutOfOrder) fine h = outside host_faults.OutOfOrder h.0 h.1
      goes_on (Err host_faults.NotServing) fine h = acted (Err host_faults.NotServing) h
      goes_on (Err host_faults.EpochFull) fine h = acted (Err host_faults.EpochFull) h
      goes_on (Err host_faults.NoMemory) fine h = absurd (fine refl)

      stops : Steps (Err host_faults.NoMemory) → FailsBy may_recover boots me input old new
      stops (inl same) = failed_none (keeps_some old.host [] new.host.storage (keeps_no (state_of _ _ _ same))) starts input
      stops (inr lost) = failed_one input (keeps_some old.host (input ∷ []) new.host.storage (keeps_it (state_of _ _ _ lost.1))) starts quiet lost.0

    -- ---- an input that is stored later

    module _ (input : Input Call) where
      storage_of : (state : State) (outbox : List (Message Call)) → new.host ≡ host state outbox old.host.storage → new.host.storage ≡ old.host.storage
      storage_of state outbox is = ap (λ (v : HostView Call S). v.storage) is

      same_storage : (result : Result (Unit {0}) HostFault) → StepsTo setting old.host input new.host result → new.host.storage ≡ old.host.storage
      same_storage (Ok x) h = storage_of _ _ h.now
      same_storage (Err host_faults.NoServer) h = storage_of old.host.state old.host.outbox h.0
      same_storage (Err host_faults.OutOfOrder) h = storage_of old.host.state old.host.outbox h.0
      same_storage (Err host_faults.NotServing) h = storage_of _ _ h.now
      same_storage (Err host_faults.EpochFull) h = storage_of _ _ h.now
      same_storage (Err host_faults.NoMemory) (inl same) = storage_of old.host.state old.host.outbox same
      same_storage (Err host_faults.NoMemory) (inr lost) = storage_of _ _ lost.1

      steps_by : (result : Result (Unit {0}) HostFault) → StepsTo setting old.host input new.host result → StepsTo setting (host old.host.state old.host.outbox new.host.storage) input new.host result
      steps_by result h = subst (λ (s : S). StepsTo setting (host old.host.state old.host.outbox s) input new.host result) (sym (same_storage result h)) h

    pub takes_light : (input : Input Call) (result : Result (Unit {0}) HostFault) → tag_in (profile_for me.servers) (step_of me.number input) ≡ [] → IsAppendOnly input
        → result ≢ Err host_faults.NoMemory → StepsTo setting old.host input new.host result → TakesBy may_recover boots me input old new
    takes_light input result quiet light fine h =
        let same = same_storage input result h in
        goes_on input quiet (ap boots same) (λ is. keeps_none old.host new.host.storage same) (λ is. keeps_light old.host input new.host.storage same light)
        result fine (steps_by input result h)

    pub fails_light : (input : Input Call) (result : Result (Unit {0}) HostFault) → tag_in (profile_for me.servers) (step_of me.number input) ≡ [] → IsAppendOnly input
        → result ≡ Err host_faults.NoMemory → StepsTo setting old.host input new.host result → FailsBy may_recover boots me input old new
    fails_light input result quiet light is h =
        let h2 = subst (λ (r : Result (Unit {0}) HostFault). StepsTo setting old.host input new.host r) is h in
        let same = same_storage input (Err host_faults.NoMemory) h2 in
        stops input quiet (ap boots same) (λ is. keeps_none old.host new.host.storage same) (λ is. keeps_light old.host input new.host.storage same light)
        (steps_by input (Err host_faults.NoMemory) h2)

    -- ---- a message that is stored at once

    module _ (message : Message Call) (starts : boots new.host.storage ≡ boots old.host.storage) where
      pub takes_whole : message.addressee ≡ old.host.state.peer.me → new.host.state ≡ (acts_of setting old.host.state (Receives message)).0
          → new.host.outbox ≡ old.host.outbox ++ messages_of (acts_of setting old.host.state (Receives message)).1 → IsStored may_recover new.host
          → TakesBy may_recover boots me (Receives message) old new
      takes_whole mine state outbox stored =
          taken_one (Receives message) mine
          (one (Receives message) (keeps_stored old.host new.host (Receives message ∷ []) stored state) starts refl mine state outbox)

      pub takes_rejected : (fault : HostFault) → fault ≢ host_faults.NoMemory → IsRejected may_recover setting old.host (Receives message) new.host (receive_faults.Host fault)
          → TakesBy may_recover boots me (Receives message) old new
      takes_rejected fault fine h =
          goes_on (Receives message) refl starts (λ is. keeps_stored old.host new.host [] h.1 is) (λ is. keeps_stored old.host new.host (Receives message ∷ []) h.1 is)
          (Err fault) (λ e. fine cc) h.0

      pub fails_rejected : (fault : HostFault) → fault ≡ host_faults.NoMemory → IsRejected may_recover setting old.host (Receives message) new.host (receive_faults.Host fault)
          → FailsBy may_recover boots me (Receives message) old new
      fails_rejected fault is h =
          let h2 = subst (λ (f : HostFault). IsRejected may_recover setting old.host (Receives message) new.host (receive_faults.Host f)) is h in
          stops (Receives message) refl starts (λ is. keeps_stored old.host new.host [] h2.1 is) (λ is. keeps_stored old.host new.host (Receives message ∷ []) h2.1 is) h2.0

      -- its store fails: it recovers what it recovered before, or what the host has
      module _ (crash : (found : Stable) → may_recover new.host.storage found → may_recover old.host.storage found ⊎ (found ≡ new.host.state.peer.stable)) where
        abbrev Found : Stable → State → Type 0
        Found found state = may_recover old.host.storage found ⊎ (found ≡ state.peer.stable)

        kept_whole : new.host.state ≡ (acts_of setting old.host.state (Receives message)).0 → KeepsIn may_recover boots me old.host (Receives message ∷ []) new.host.storage
        kept_whole now state before is keeps =
            law.whole state before (Receives message) old.host.storage new.host.storage keeps
            (λ found may. subst (Found found) (after_is old.host.state (Receives message ∷ []) before state new.host.state is now) (crash found may))

        kept_none : new.host.state ≡ old.host.state → KeepsIn may_recover boots me old.host [] new.host.storage
        kept_none now state before is keeps found may = some_found (crash found may)
          where
            some_found : Found found new.host.state → IsAfterSome setting state (before ++ []) found
            some_found (inl was) = some_of state (before ++ []) old.host.storage (no_more state before old.host.storage keeps) found was
            some_found (inr whole) = (
              length (before ++ []),
              whole ∙ ap (λ (s : State). s.peer.stable) (after_is old.host.state [] before state new.host.state is now)
                  ∙ ap (λ (l : List (Input Call)). (after_inputs setting state l).peer.stable) (sym (take_all (length (before ++ [])) (before ++ []) (omega arith))),
            )

        fails_by : (result : Result (Unit {0}) HostFault) → StepsTo setting (host old.host.state old.host.outbox new.host.storage) (Receives message) new.host result
            → FailsBy may_recover boots me (Receives message) old new
        fails_by (Ok x) h = failed_one (Receives message) (kept_whole (ap (λ (v : HostView Call S). v.state) h.now)) starts refl h.fits
        fails_by (Err host_faults.NoServer) h = failed_none (kept_none (ap (λ (v : HostView Call S). v.state) h.0)) starts (Receives message)
        fails_by (Err host_faults.OutOfOrder) h = failed_none (kept_none (ap (λ (v : HostView Call S). v.state) h.0)) starts (Receives message)
        fails_by (Err host_faults.NotServing) h = failed_one (Receives message) (kept_whole (ap (λ (v : HostView Call S). v.state) h.now)) starts refl h.fits
        fails_by (Err host_faults.EpochFull) h = failed_one (Receives message) (kept_whole (ap (λ (v : HostView Call S). v.state) h.now)) starts refl h.fits
        fails_by (Err host_faults.NoMemory) (inl same) = failed_none (kept_none (ap (λ (v : HostView Call S). v.state) same)) starts (Receives message)
        fails_by (Err host_faults.NoMemory) (inr lost) = failed_one (Receives message) (kept_whole (ap (λ (v : HostView Call S). v.state) lost.1)) starts refl lost.0

        pub fails_to_store : (fault : StoreFault) → IsRejected may_recover setting old.host (Receives message) new.host (receive_faults.Store fault) → FailsBy may_recover boots me (Receives message) old new
        fails_to_store fault h = fails_by h.0 h.1
