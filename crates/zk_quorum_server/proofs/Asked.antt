-- What clients ask are inputs of the host, each with a tag that was never used.
use Rattle.std.proofs.Common.{◌≡◌, ◌≢◌, ◌⊎◌, ◌≤◌, inl, inr, ℕ, ◌+◌, suc, List, [], ◌∷◌, ◌++◌, map, Option, Some, None, Result, Ok, Err, refl, sym, ap, ◌∙◌, subst, arith}
use Rattle.std.proofs.lemmas.List.{append-nil}
use Rattle.zab_broadcast.specs.Calls.{Setting}
use Rattle.zab_broadcast.specs.declared.state.State.{State}
use Rattle.zab_epoch.specs.declared.message.Message.{Message}
use Rattle.zab_epoch.specs.declared.stable.Stable.{Stable}
use Rattle.zab_host.specs.declared.fault.HostFault.{HostFault}
use Rattle.zab_host.specs.declared.fault.HostFault.TheVariants as host_faults
use Rattle.zab_host.specs.declared.tags.TagIssuer.{TagIssuer}
use Rattle.zab_host.specs.Growth.{IsAppendOnly}
use Rattle.zab_host.specs.Hosts.{HostView, Input, IsFor, StepsTo, HasActed, acts_of, host_after, host_without_messages, messages_of}
use Rattle.zab_host.specs.Tags.{Request, request_tag, tag_of}
use Rattle.zab_host_laws.specs.Composition.{step_of, after_inputs}
use Rattle.zab_host_laws.specs.Tags.{tags_in}
use Rattle.zk_client_port.specs.Asking.{AsksAll, AsksOne, FailsAsking, HasAsked, Rests, ToSubmit, ToSync, Wish, input_of}
use Rattle.zk_client_port.specs.Execution.{next_tag, ByHost, FailsToAsk, IsRejected, NoTag, Requests, Steps}
use Rattle.zk_quorum_server.specs.Turns.{HasRoom}
use Rattle.zk_host.specs.declared.replica_host.ReplicaHost.{ReplicaHost}
use Rattle.zk_requests.specs.declared.call.Call.{Call}
use Rattle.zk_server.specs.declared.member.Member.{Member}
use Rattle.zk_server.specs.Deeds.{profile_for, setting_for, Deeds, Failure, Keeps, KeepsIn}
use Rattle.zk_server.proofs.Acting.{heard_both}
use Rattle.zk_server.proofs.Hearing.{deeds_then, failure_of, failure_then, no_deeds}
use Rattle.zk_server_laws.specs.Stores.{KeepsFirst, KeepsSome, StoresKeepFirstInputs}
use Rattle.zk_server_laws.specs.Turns.{AllHeard, AreRising, IsHeard}

-- ---- a wish

own_tag : (servers number : ℕ) (wish : Wish) (tag : ℕ) → tags_in (profile_for servers) (map (step_of number) (input_of wish tag ∷ [])) ≡ tag ∷ []
own_tag servers number (ToSubmit session cxid auths now request) tag = refl
own_tag servers number ToSync tag = refl

only_appends : (wish : Wish) (tag : ℕ) → IsAppendOnly (input_of wish tag)
only_appends (ToSubmit session cxid auths now request) tag = tt
only_appends ToSync tag = tt

is_for : (wish : Wish) (tag : ℕ) (state : State) → IsFor state (input_of wish tag)
is_for (ToSubmit session cxid auths now request) tag state = tt
is_for ToSync tag state = tt

is_heard : (servers : ℕ) (wish : Wish) (tag : ℕ) → IsHeard servers (λ line. []) (input_of wish tag)
is_heard servers (ToSubmit session cxid auths now request) tag = tt
is_heard servers ToSync tag = tt

-- ---- the count of tags rises

module _ {S : Type 0} (setting : Setting Call) where
  used_after : (input : Input Call) (old new : ReplicaHost S) (result : Result (Unit {0}) HostFault) → Steps setting input old new result → old.tags.used ≤ new.tags.used
  used_after input old new result steps = (let e : new.tags.used ≡ old.tags.used + 1 = ap (λ (t : TagIssuer). t.used) steps.counted in omega arith)

  used_by_rejected : (wish : Wish) (old new : ReplicaHost S) → IsRejected setting (input_of wish) old new → old.tags.used ≤ new.tags.used
  used_by_rejected wish old new (NoTag used same) = (let e : new.tags.used ≡ old.tags.used = ap (λ (it : ReplicaHost S). it.tags.used) same in omega arith)
  used_by_rejected wish old new (ByHost fault why steps) = used_after (input_of wish (next_tag old.tags)) old new (Err fault) steps

  used_by : (wish : Wish) (old new : ReplicaHost S) (tag : Option ℕ) → Requests setting (input_of wish) old new tag → old.tags.used ≤ new.tags.used
  used_by wish old new (Some tag) it = used_after (input_of wish tag) old new (Ok tt) it.1
  used_by wish old new None it = used_by_rejected wish old new it

  used_at_rest : (old new : ReplicaHost S) → Rests old new → old.tags.used ≤ new.tags.used
  used_at_rest old new rests = (let e : new.tags.used ≡ old.tags.used = ap (λ (t : TagIssuer). t.used) rests.tags in omega arith)

  used_by_one : (wish : Wish) (old new : ReplicaHost S) → AsksOne setting wish old new → old.tags.used ≤ new.tags.used
  used_by_one wish old new it =
      (let first : old.tags.used ≤ it.before.tags.used = used_at_rest old it.before it.rests in
      let later : it.before.tags.used ≤ new.tags.used = used_by wish it.before new it.tag it.requests in omega arith)

  used_by_all : (wishes : List Wish) (old new : ReplicaHost S) → AsksAll setting wishes old new → old.tags.used ≤ new.tags.used
  used_by_all [] old new it = used_at_rest old new it
  used_by_all (wish ∷ wishes) old new it =
      (let first : old.tags.used ≤ it.0.tags.used = used_by_one wish old it.0 it.1.0 in
      let later : it.0.tags.used ≤ new.tags.used = used_by_all wishes it.0 new it.1.1 in omega arith)

module _ {S : Type 0} (may_recover : S → Stable → Type 0) (boots : S → ℕ) (me : Member) (law : StoresKeepFirstInputs (setting_for me.servers) may_recover) where
  abbrev setting : Setting Call
  setting = setting_for me.servers

  -- the host has taken inputs that clients asked
  pub record Did (old new : ReplicaHost S) : Type 0 where
    pub inputs : List (Input Call)
    pub requests : List Request
    pub heard : AllHeard me.servers (λ line. []) inputs
    pub deeds : Deeds may_recover boots me inputs requests old new

  -- it has failed at one
  pub record Failed (old new : ReplicaHost S) : Type 0 where
    pub inputs : List (Input Call)
    pub requests : List Request
    pub heard : AllHeard me.servers (λ line. []) inputs
    pub failure : Failure may_recover boots me inputs requests old new

  pub did_then : (old mid new : ReplicaHost S) → Did old mid → Did mid new → Did old new
  did_then old mid new first later = record {
    inputs = first.inputs ++ later.inputs;
    requests = first.requests ++ later.requests;
    heard = heard_both me.servers (λ line. []) first.inputs later.inputs first.heard later.heard;
    deeds = deeds_then may_recover boots me old mid new first.inputs later.inputs first.requests later.requests first.deeds later.deeds;
  }

  failed_then : (old mid new : ReplicaHost S) → Did old mid → Failed mid new → Failed old new
  failed_then old mid new first later = record {
    inputs = first.inputs ++ later.inputs;
    requests = first.requests ++ later.requests;
    heard = heard_both me.servers (λ line. []) first.inputs later.inputs first.heard later.heard;
    failure = failure_then may_recover boots me old mid new first.inputs later.inputs first.requests later.requests first.deeds later.failure;
  }

  -- ---- nothing is asked

  keeps_none : (old : HostView Call S) (storage : S) → storage ≡ old.storage → Keeps may_recover boots me old [] storage
  keeps_none old storage same state before is keeps =
      subst (λ (l : List (Input Call)). KeepsFirst setting may_recover state l storage) (sym (append-nil before))
      (subst (λ (s : S). KeepsFirst setting may_recover state before s) (sym same) keeps)

  keeps_one : (old : HostView Call S) (input : Input Call) (storage : S) → storage ≡ old.storage → IsAppendOnly input → Keeps may_recover boots me old (input ∷ []) storage
  keeps_one old input storage same light state before is keeps =
      law.appends state before input storage light (subst (λ (s : S). KeepsFirst setting may_recover state before s) (sym same) keeps)

  rested : (old new : ReplicaHost S) → old.tree.news ≡ [] → Rests old new → Did old new
  rested old new none rests =
      let used : new.tags.used ≡ old.tags.used = ap (λ (t : TagIssuer). t.used) rests.tags in
      let storage : new.host.storage ≡ old.host.storage = ap (λ (v : HostView Call S). v.storage) rests.host in
      record {
        inputs = [];
        requests = [];
        heard = tt;
        deeds = record {
          accepted = tt;
          state = ap (λ (v : HostView Call S). v.state) rests.host;
          outbox = ap (λ (v : HostView Call S). v.outbox) rests.host ∙ sym (append-nil old.host.outbox);
          asked = refl;
          rising = omega arith;
          within = λ le. omega arith;
          host = ap (λ (t : TagIssuer). t.host) rests.tags;
          boot = ap (λ (t : TagIssuer). t.boot) rests.tags;
          keeps = keeps_none old.host new.host.storage storage;
          starts = ap boots storage;
          tree = rests.tree;
          news = rests.news none ∙ sym none;
          shown = rests.shown;
        };
      }

  -- ---- one wish

  module _ (wish : Wish) (old new : ReplicaHost S) (mine : old.tags.host ≡ me.number) (room : HasRoom new) where
    abbrev input : Input Call
    input = input_of wish (next_tag old.tags)

    abbrev request : Request
    request = record { host = me.number; boot = old.tags.boot; number = old.tags.used }

    asked : tags_in (profile_for me.servers) (map (step_of me.number) (input ∷ [])) ≡ map request_tag (request ∷ [])
    asked = own_tag me.servers me.number wish (next_tag old.tags) ∙ ap (λ (host : ℕ). tag_of host old.tags.boot old.tags.used ∷ []) mine

    module _ (counted : new.tags ≡ record old.tags { used = old.tags.used + 1 }) where
      used_is : new.tags.used ≡ old.tags.used + 1
      used_is = ap (λ (t : TagIssuer). t.used) counted

      rising : AreRising me.number old.tags.boot old.tags.used new.tags.used (request ∷ [])
      rising = (refl, (refl, (omega arith, (let e = used_is in omega arith))))

      gap : AreRising me.number old.tags.boot old.tags.used new.tags.used []
      gap = (let e = used_is in omega arith)

      within : old.tags.used ≤ 4294967296 → new.tags.used ≤ 4294967296
      within le = room

      took : new.host ≡ host_after setting old.host input → new.tree ≡ old.tree → new.shown ≡ old.shown → Did old new
      took now tree shown =
          let storage : new.host.storage ≡ old.host.storage = ap (λ (v : HostView Call S). v.storage) now in
          record {
            inputs = input ∷ [];
            requests = request ∷ [];
            heard = (is_heard me.servers wish (next_tag old.tags), tt);
            deeds = record {
              accepted = (is_for wish (next_tag old.tags) old.host.state, tt);
              state = ap (λ (v : HostView Call S). v.state) now;
              outbox = ap (λ (v : HostView Call S). v.outbox) now ∙ ap (λ (l : List (Message Call)). old.host.outbox ++ l) (sym (append-nil (messages_of (acts_of setting old.host.state input).1)));
              asked = asked;
              rising = rising;
              within = within;
              host = ap (λ (t : TagIssuer). t.host) counted;
              boot = ap (λ (t : TagIssuer). t.boot) counted;
              keeps = keeps_one old.host input new.host.storage storage (only_appends wish (next_tag old.tags));
              starts = ap boots storage;
              tree = ap (λ t. t.tree) tree;
              news = ap (λ t. t.news) tree;
              shown = shown;
            };
          }

      dropped : new.host ≡ old.host → new.tree ≡ old.tree → new.shown ≡ old.shown → Did old new
      dropped same tree shown =
          let storage : new.host.storage ≡ old.host.storage = ap (λ (v : HostView Call S). v.storage) same in
          record {
            inputs = [];
            requests = [];
            heard = tt;
            deeds = record {
              accepted = tt;
              state = ap (λ (v : HostView Call S). v.state) same;
              outbox = ap (λ (v : HostView Call S). v.outbox) same ∙ sym (append-nil old.host.outbox);
              asked = refl;
              rising = gap;
              within = within;
              host = ap (λ (t : TagIssuer). t.host) counted;
              boot = ap (λ (t : TagIssuer). t.boot) counted;
              keeps = keeps_none old.host new.host.storage storage;
              starts = ap boots storage;
              tree = ap (λ t. t.tree) tree;
              news = ap (λ t. t.news) tree;
              shown = shown;
            };
          }

      lost : new.host ≡ host_without_messages setting old.host input → Failed old new
      lost now =
          let storage : new.host.storage ≡ old.host.storage = ap (λ (v : HostView Call S). v.storage) now in
          let keeps = keeps_one old.host input new.host.storage storage (only_appends wish (next_tag old.tags)) in
          record {
            inputs = input ∷ [];
            requests = request ∷ [];
            heard = (is_heard me.servers wish (next_tag old.tags), tt);
            failure = record {
              accepted = (is_for wish (next_tag old.tags) old.host.state, tt);
              asked = asked;
              rising = rising;
              within = within;
              keeps = λ state before is first found may. (let it = keeps state before is first found may in (it.0, it.1.1.1));
              starts = ap boots storage;
            };
          }

      stepped : (result : Result (Unit {0}) HostFault) → result ≢ Err host_faults.NoMemory → StepsTo setting old.host input new.host result → new.tree ≡ old.tree → new.shown ≡ old.shown → Did old new
      stepped (Ok _) why steps tree shown = took steps.now tree shown
      stepped (Err host_faults.NotServing) why steps tree shown = took steps.now tree shown
      stepped (Err host_faults.EpochFull) why steps tree shown = took steps.now tree shown
      stepped (Err host_faults.NoServer) why steps tree shown = dropped steps.0 tree shown
      stepped (Err host_faults.OutOfOrder) why steps tree shown = dropped steps.0 tree shown
      stepped (Err host_faults.NoMemory) why steps tree shown = absurd (why refl)

    failed_one : FailsToAsk setting (input_of wish) old new → Failed old new
    failed_one fails = failed_by fails.steps
      where
        failed_by : (new.host ≡ old.host) ⊎ (IsFor old.host.state input × (new.host ≡ host_without_messages setting old.host input)) → Failed old new
        failed_by (inl same) =
            (let did = dropped fails.counted same fails.tree fails.shown in
            record { inputs = did.inputs; requests = did.requests; heard = did.heard; failure = failure_of may_recover boots me old new did.inputs did.requests did.deeds })
        failed_by (inr now) = lost fails.counted now.1

    rejected : IsRejected setting (input_of wish) old new → Did old new
    rejected (NoTag used same) = record { inputs = []; requests = []; heard = tt; deeds = no_deeds may_recover boots me old new same }
    rejected (ByHost fault why steps) = stepped steps.counted (Err fault) (λ is. why cc) steps.steps steps.tree steps.shown

    asked_one : (tag : Option ℕ) → Requests setting (input_of wish) old new tag → Did old new
    asked_one (Some tag) it =
        (let steps = subst (λ (n : ℕ). Steps setting (input_of wish n) old new (Ok tt)) it.0 it.1 in
        stepped steps.counted (Ok tt) (λ is. absurd cc) steps.steps steps.tree steps.shown)
    asked_one None it = rejected it

  -- ---- all

  did_one : (wish : Wish) (old new : ReplicaHost S) → old.tags.host ≡ me.number → old.tree.news ≡ [] → HasRoom new → AsksOne setting wish old new → Did old new
  did_one wish old new mine none room it =
      let first = rested old it.before none it.rests in
      did_then old it.before new first (asked_one wish it.before new (first.deeds.host ∙ mine) room it.tag it.requests)

  did_all : (wishes : List Wish) (old new : ReplicaHost S) → old.tags.host ≡ me.number → old.tree.news ≡ [] → HasRoom new → AsksAll setting wishes old new → Did old new
  did_all [] old new mine none room it = rested old new none it
  did_all (wish ∷ wishes) old new mine none room it =
      let rises : it.0.tags.used ≤ new.tags.used = used_by_all setting wishes it.0 new it.1.1 in
      let high : new.tags.used ≤ 4294967296 = room in
      let room_first : it.0.tags.used ≤ 4294967296 = omega arith in
      let first = did_one wish old it.0 mine none room_first it.1.0 in
      did_then old it.0 new first (did_all wishes it.0 new (first.deeds.host ∙ mine) (first.deeds.news ∙ none) room it.1.1)

  pub did : (old new : ReplicaHost S) → old.tags.host ≡ me.number → old.tree.news ≡ [] → HasRoom new → HasAsked setting old new → Did old new
  did old new mine none room it = did_all it.wishes old new mine none room it.asks

  pub failed : (old new : ReplicaHost S) → old.tags.host ≡ me.number → old.tree.news ≡ [] → HasRoom new → FailsAsking setting old new → Failed old new
  failed old new mine none room it =
      let rises : it.before.tags.used ≤ new.tags.used = used_after setting (input_of it.wish (next_tag it.before.tags)) it.before new (Err host_faults.NoMemory) it.fails in
      let high : new.tags.used ≤ 4294967296 = room in
      let room_first : it.before.tags.used ≤ 4294967296 = omega arith in
      let first = did old it.before mine none room_first it.asked in
      failed_then old it.before new first (failed_one it.wish it.before new (first.deeds.host ∙ mine) room it.fails)
