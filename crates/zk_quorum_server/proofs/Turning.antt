-- A turn with clients, from its parts.
use Rattle.std.proofs.Common.{◌≡◌, ◌⊎◌, ◌≤◌, ℕ, ℤ, List, [], ◌∷◌, ◌++◌, length, refl, sym, ap, ◌∙◌, subst, arith}
use Rattle.std.proofs.lemmas.List.{append-nil, nil_from_length}
use Rattle.zab_broadcast.specs.Calls.{Setting}
use Rattle.zab_broadcast.specs.declared.state.State.{State}
use Rattle.zab_broadcast.specs.declared.syncs.Caught.{Caught}
use Rattle.zab_epoch.specs.declared.message.Message.{Message}
use Rattle.zab_epoch.specs.declared.stable.Stable.{Stable}
use Rattle.zab_host.specs.declared.tags.TagIssuer.{TagIssuer}
use Rattle.zab_host.specs.Durability.{IsPartialStore}
use Rattle.zab_host.specs.Hosts.{HostView, Input, IsStored}
use Rattle.zab_host.specs.Tags.{Request}
use Rattle.zab_host_laws.specs.Composition.{after_inputs, messages_in}
use Rattle.zab_host_laws.specs.TakenSyncs.{HasTaken}
use Rattle.zk_client_port.specs.Asking.{FailsAsking, HasAsked}
use Rattle.zk_client_port.specs.Turns.{Server, server}
use Rattle.zk_host.specs.declared.replica_host.ReplicaHost.{ReplicaHost}
use Rattle.zk_peer_links.specs.declared.arrival.Arrival.{Arrival}
use Rattle.zk_quorum_server.proofs.Asked.{Did, Failed, did, failed}
use Rattle.zk_quorum_server.specs.Turns.{HasRoom, HasServed, HasStopped, ServesClients, WritesAll}
use Rattle.zk_requests.specs.declared.call.Call.{Call}
use Rattle.zk_server.proofs.Acting.{heard_both}
use Rattle.zk_server.proofs.Hearing.{deeds_then, failure_then}
use Rattle.zk_server.proofs.Inputs.{after_both, heard_among}
use Rattle.zk_server.proofs.Turning.{Acted, acted, all_heard, all_nothing_brought}
use Rattle.zk_server.specs.Deeds.{setting_for, Deeds, Failure, FailsAt, FailsToAct, HearsAll}
use Rattle.zk_server.specs.Elections.{ElectionView, after_arrivals, choice_of}
use Rattle.zk_server.specs.Mail.{brought_on, mail_for}
use Rattle.zk_server.specs.Sites.{IsReady}
use Rattle.zk_server.specs.Turns.{voting, Decides}
use Rattle.zk_server.specs.declared.member.Member.{Member}
use Rattle.zk_server_laws.specs.Stores.{StoresKeepFirstInputs}
use Rattle.zk_server_laws.specs.Turns.{AllHeard, AreRising}

module _ {S : Type 0} (may_recover : S → Stable → Type 0) (boots : S → ℕ) (me : Member) (arrivals : List Arrival) (old : ReplicaHost S)
    (ready : IsReady may_recover me old) (none : old.tree.news ≡ []) (law : StoresKeepFirstInputs (setting_for me.servers) may_recover) where
  abbrev setting : Setting Call
  setting = setting_for me.servers

  abbrev Heard : List (Input Call) → Type 0
  Heard inputs = AllHeard me.servers (brought_on arrivals) inputs

  -- ---- a turn that fails

  stopped : (inputs : List (Input Call)) (requests : List Request) (new : ReplicaHost S) → Heard inputs → Failure may_recover boots me inputs requests old new
      → HasStopped may_recover boots me arrivals old new.host.storage
  stopped inputs requests new heard failure = record {
    inputs = inputs;
    requests = requests;
    next_used = new.tags.used;
    does = λ line_to. record {
      acts = record {
        accepted = failure.accepted;
        heard = heard;
        asked = failure.asked;
        rising = failure.rising;
        within = failure.within ready.within;
      };
      crash = failure.keeps old.host.state [] refl (law.stored old.host.state [] old.host.storage ready.stored);
      starts = (let e = failure.starts in omega arith);
    };
  }

  pub hearing_fails : (new : ReplicaHost S) → FailsAt may_recover boots me (mail_for me arrivals) old new → HasStopped may_recover boots me arrivals old new.host.storage
  hearing_fails new fails = stopped fails.inputs [] new (all_heard me arrivals fails.inputs fails.among) fails.failure

  module _ (mid : ReplicaHost S) (hears : HearsAll may_recover boots me (mail_for me arrivals) old mid) where
    heard_first : Heard hears.inputs
    heard_first = all_heard me arrivals hears.inputs (heard_among setting old.host.state (mail_for me arrivals) hears.inputs hears.hears)

    -- inputs that no connection has brought come after those
    heard_then : (inputs : List (Input Call)) → AllHeard me.servers (λ line. []) inputs → Heard (hears.inputs ++ inputs)
    heard_then inputs heard =
        heard_both me.servers (brought_on arrivals) hears.inputs inputs heard_first (all_nothing_brought me.servers (brought_on arrivals) inputs heard)

    pub acting_fails : (new : ReplicaHost S) → FailsToAct may_recover boots me mid new → HasStopped may_recover boots me arrivals old new.host.storage
    acting_fails new fails =
        stopped (hears.inputs ++ fails.inputs) [] new (heard_then fails.inputs fails.heard)
        (failure_then may_recover boots me old mid new hears.inputs fails.inputs [] [] hears.deeds fails.failure)

    module _ (election next : ElectionView) (last : ReplicaHost S) (decides : Decides may_recover boots me election mid next last) where
      done : Acted may_recover boots me mid last
      done = acted may_recover boots me (choice_of (voting may_recover boots me election mid)) mid last decides.acts

      abbrev first_inputs : List (Input Call)
      first_inputs = hears.inputs ++ done.inputs

      decided : Deeds may_recover boots me first_inputs [] old last
      decided = deeds_then may_recover boots me old mid last hears.inputs done.inputs [] [] hears.deeds done.deeds

      heard_decided : Heard first_inputs
      heard_decided = heard_then done.inputs done.heard

      heard_asked : (inputs : List (Input Call)) → AllHeard me.servers (λ line. []) inputs → Heard (first_inputs ++ inputs)
      heard_asked inputs heard =
          heard_both me.servers (brought_on arrivals) first_inputs inputs heard_decided (all_nothing_brought me.servers (brought_on arrivals) inputs heard)

      mine : last.tags.host ≡ me.number
      mine = decided.host ∙ ready.mine

      no_news : last.tree.news ≡ []
      no_news = decided.news ∙ none

      pub asking_fails : (new : ReplicaHost S) → FailsAsking setting last new → HasRoom new → HasStopped may_recover boots me arrivals old new.host.storage
      asking_fails new fails room =
          (let it : Failed may_recover boots me law last new = failed may_recover boots me law last new mine no_news room fails in
          stopped (first_inputs ++ it.inputs) it.requests new (heard_asked it.inputs it.heard)
          (failure_then may_recover boots me old last new first_inputs it.inputs [] it.requests decided it.failure))

      -- ---- the store

      module _ (served : ReplicaHost S) (asks : HasAsked setting last served) (room : HasRoom served) where
        asked : Did may_recover boots me law last served
        asked = did may_recover boots me law last served mine no_news room asks

        abbrev inputs : List (Input Call)
        inputs = first_inputs ++ asked.inputs

        deeds : Deeds may_recover boots me inputs asked.requests old served
        deeds = deeds_then may_recover boots me old last served first_inputs asked.inputs [] asked.requests decided asked.deeds

        heard : Heard inputs
        heard = heard_asked asked.inputs asked.heard

        module _ (new : ReplicaHost S) (tags : new.tags ≡ served.tags) (starts : boots new.host.storage ≡ boots served.host.storage) where
          used_is : new.tags.used ≡ served.tags.used
          used_is = ap (λ (t : TagIssuer). t.used) tags

          rising : AreRising me.number old.tags.boot old.tags.used new.tags.used asked.requests
          rising = subst (λ (n : ℕ). AreRising me.number old.tags.boot old.tags.used n asked.requests) (sym used_is) deeds.rising

          within : new.tags.used ≤ 4294967296
          within = (let high = deeds.within ready.within in let e = used_is in omega arith)

          writing_fails_with : ((found : Stable) → may_recover new.host.storage found → may_recover served.host.storage found ⊎ IsPartialStore (may_recover served.host.storage) served.host.state.peer.stable found)
              → HasStopped may_recover boots me arrivals old new.host.storage
          writing_fails_with crash =
              stopped inputs asked.requests new heard
              record {
                accepted = deeds.accepted;
                asked = deeds.asked;
                rising = rising;
                within = λ le. within;
                keeps = λ state before is keeps.
                    law.part state (before ++ inputs) served.host.storage new.host.storage (deeds.keeps state before is keeps)
                    (λ found may. part_of state before found is (crash found may));
                starts = starts ∙ deeds.starts;
              }
            where
              part_of : (state : State) (before : List (Input Call)) (found : Stable) → old.host.state ≡ after_inputs setting state before
                  → may_recover served.host.storage found ⊎ IsPartialStore (may_recover served.host.storage) served.host.state.peer.stable found
                  → may_recover served.host.storage found ⊎ IsPartialStore (may_recover served.host.storage) (after_inputs setting state (before ++ inputs)).peer.stable found
              part_of state before found is =
                  subst (λ (s : State). may_recover served.host.storage found ⊎ IsPartialStore (may_recover served.host.storage) served.host.state.peer.stable found → may_recover served.host.storage found ⊎ IsPartialStore (may_recover served.host.storage) s.peer.stable found)
                  (deeds.state ∙ ap (λ (s : State). after_inputs setting s inputs) is ∙ sym (after_both setting state before inputs)) (λ given. given)

          sent : (messages : List (Message Call)) → messages ≡ served.host.outbox → messages ≡ messages_in setting old.host.state inputs
          sent messages said = said ∙ deeds.outbox ∙ ap (λ (l : List (Message Call)). l ++ messages_in setting old.host.state inputs) (nil_from_length old.host.outbox ready.silent)

          -- the completed syncs are taken
          taken : (whole left : State) → served.host.state ≡ whole → left ≡ record served.host.state { caught = [] } → HasTaken served.host.state.caught whole left
          taken whole left is now =
              subst (λ (w : State). HasTaken served.host.state.caught w left) is
              (subst (λ (l : State). HasTaken served.host.state.caught served.host.state l) (sym now)
              record { same = refl; all = sym (append-nil served.host.state.caught) })

      -- the count of tags is that of the served host
      room_before : (served new : ReplicaHost S) → new.tags ≡ served.tags → HasRoom new → HasRoom served
      room_before served new tags room = subst (λ (t : TagIssuer). t.used ≤ 4294967296) tags room

      pub writing_fails : (served new : ReplicaHost S) (asks : HasAsked setting last served) (tags : new.tags ≡ served.tags) (starts : boots new.host.storage ≡ boots served.host.storage)
          → ((found : Stable) → may_recover new.host.storage found → may_recover served.host.storage found ⊎ IsPartialStore (may_recover served.host.storage) served.host.state.peer.stable found)
          → HasRoom new → HasStopped may_recover boots me arrivals old new.host.storage
      writing_fails served new asks tags starts crash room = writing_fails_with served asks (room_before served new tags room) new tags starts crash

-- ---- a turn that returns

module _ {S : Type 0} (may_recover : S → Stable → Type 0) (boots : S → ℕ) (me : Member) (arrivals : List Arrival) (now : ℤ) (start : ElectionView) (old : Server S)
    (ready : IsReady may_recover me old.host) (none : old.host.tree.news ≡ []) (law : StoresKeepFirstInputs (setting_for me.servers) may_recover) where
  module _ (mid last : ReplicaHost S) (between new : Server S) (election next : ElectionView) (messages : List (Message Call))
      (hears : HearsAll may_recover boots me (mail_for me arrivals) old.host mid) (decides : Decides may_recover boots me election mid next last)
      (asks : HasAsked (setting_for me.servers) last between.host) (tags : new.host.tags ≡ between.host.tags)
      (starts : boots new.host.host.storage ≡ boots between.host.host.storage) (room : HasRoom new.host) where
    room_at : HasRoom between.host
    room_at = room_before may_recover boots me arrivals old.host ready none law mid hears election next last decides between.host new.host tags room

    all_done : Deeds may_recover boots me (inputs may_recover boots me arrivals old.host ready none law mid hears election next last decides between.host asks room_at)
        (asked may_recover boots me arrivals old.host ready none law mid hears election next last decides between.host asks room_at).requests old.host between.host
    all_done = deeds may_recover boots me arrivals old.host ready none law mid hears election next last decides between.host asks room_at

    pub served : election ≡ after_arrivals arrivals start → ServesClients me now (server last old.hub old.connections old.admission) between → WritesAll now between new
        → messages ≡ between.host.host.outbox → IsStored may_recover new.host.host → HasServed may_recover boots me arrivals now start old next new messages
    served notes serves writes said stored =
        let syncs = writes.writes.syncs in
        let releases = writes.writes.releases in
        let host_is : new.host ≡ writes.between.host = ap (λ (it : Server S). it.host) writes.cuts in
        let state : new.host.host.state ≡ record between.host.host.state { caught = [] } =
        ap (λ (it : ReplicaHost S). it.host.state) host_is ∙ syncs.state ∙ ap (λ (s : State). record s { caught = [] }) releases.state in
        let outbox : new.host.host.outbox ≡ [] = ap (λ (it : ReplicaHost S). it.host.outbox) host_is ∙ syncs.outbox ∙ releases.outbox in
        record {
          heard = mid;
          decided = last;
          served = between;
          hears = hears;
          decides = subst (λ (e : ElectionView). Decides may_recover boots me e mid next last) notes decides;
          serves = serves;
          writes = writes;
          inputs = inputs may_recover boots me arrivals old.host ready none law mid hears election next last decides between.host asks room_at;
          requests = (asked may_recover boots me arrivals old.host ready none law mid hears election next last decides between.host asks room_at).requests;
          does = λ line_to. record {
            acts = record {
              accepted = all_done.accepted;
              heard = heard may_recover boots me arrivals old.host ready none law mid hears election next last decides between.host asks room_at;
              asked = all_done.asked;
              rising = rising may_recover boots me arrivals old.host ready none law mid hears election next last decides between.host asks room_at new.host tags starts;
              within = room;
            };
            state = taken may_recover boots me arrivals old.host ready none law mid hears election next last decides between.host asks room_at new.host tags starts
                (after_inputs (setting_for me.servers) old.host.host.state (inputs may_recover boots me arrivals old.host ready none law mid hears election next last decides between.host asks room_at)) new.host.host.state all_done.state state;
            stored = stored;
            sends = sent may_recover boots me arrivals old.host ready none law mid hears election next last decides between.host asks room_at new.host tags starts messages said;
            starts = starts ∙ all_done.starts;
          };
          boot = ap (λ (t : TagIssuer). t.boot) tags ∙ all_done.boot;
          ready = record {
            silent = ap length outbox;
            stored = stored;
            mine = ap (λ (t : TagIssuer). t.host) tags ∙ all_done.host ∙ ready.mine;
            within = room;
          };
          written = ap (λ (it : ReplicaHost S). it.tree.news) host_is ∙ ap (λ t. t.news) syncs.tree ∙ ap (λ t. t.news) releases.tree;
        }
