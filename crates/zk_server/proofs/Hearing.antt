-- A host takes inputs after inputs.
use Rattle.std.proofs.Common.{◌≡◌, ◌⊎◌, ◌≤◌, inl, inr, ℕ, zero, suc, ◌+◌, List, [], ◌∷◌, ◌++◌, length, map, take, slice_get, Option, Some, None, refl, sym, ap, ◌∙◌, subst, arith}
use Rattle.std.proofs.lemmas.List.{append-nil, append_assoc, take_all}
use Rattle.zab_broadcast.specs.Calls.{Setting}
use Rattle.zab_broadcast.specs.declared.state.State.{State}
use Rattle.zab_epoch.specs.declared.message.Message.{Message}
use Rattle.zab_epoch.specs.declared.stable.Stable.{Stable}
use Rattle.zab_host.specs.Hosts.{Input, Receives}
use Rattle.zab_host.specs.Tags.{Request, request_tag}
use Rattle.zab_host_laws.specs.Composition.{step_of, after_inputs, messages_in}
use Rattle.zab_host_laws.specs.Fits.{AllFor}
use Rattle.zab_host_laws.specs.Tags.{tags_in}
use Rattle.zk_host.specs.declared.replica_host.ReplicaHost.{ReplicaHost}
use Rattle.zk_requests.specs.declared.call.Call.{Call}
use Rattle.zk_server.specs.declared.member.Member.{Member}
use Rattle.zk_server.specs.Deeds.{profile_for, setting_for, AllAmong, Deeds, Failure, FailsAt, FailsBy, Hears, HearsAll, TakesBy}
use Rattle.zk_server.specs.Mail.{listed}
use Rattle.zk_server.proofs.Inputs.{after_both, all_both, all_front, all_more, asked_both, for_both, heard_among, hears_both, map_both, messages_both, rising_both, take_more}
use Rattle.zk_server_laws.specs.Stores.{KeepsFirst, KeepsSome}
use Rattle.zk_server_laws.specs.Turns.{AreRising}

module _ {S : Type 0} (may_recover : S → Stable → Type 0) (boots : S → ℕ) (me : Member) where
  abbrev setting : Setting Call
  setting = setting_for me.servers

  -- the host before a turn's later inputs
  from_mid : (old mid : ReplicaHost S) (a before : List (Input Call)) (state : State) → mid.host.state ≡ after_inputs setting old.host.state a
      → old.host.state ≡ after_inputs setting state before → mid.host.state ≡ after_inputs setting state (before ++ a)
  from_mid old mid a before state now is = now ∙ ap (λ (s : State). after_inputs setting s a) is ∙ sym (after_both setting state before a)

  rising_then : (old mid : ReplicaHost S) (high : ℕ) (r1 r2 : List Request) → mid.tags.boot ≡ old.tags.boot → AreRising me.number old.tags.boot old.tags.used mid.tags.used r1
      → AreRising me.number mid.tags.boot mid.tags.used high r2 → AreRising me.number old.tags.boot old.tags.used high (r1 ++ r2)
  rising_then old mid high r1 r2 same first later =
      rising_both me.number old.tags.boot old.tags.used mid.tags.used high r1 r2 first (subst (λ (b : ℕ). AreRising me.number b mid.tags.used high r2) same later)

  pub deeds_then : (old mid new : ReplicaHost S) (a b : List (Input Call)) (r1 r2 : List Request) → Deeds may_recover boots me a r1 old mid → Deeds may_recover boots me b r2 mid new
      → Deeds may_recover boots me (a ++ b) (r1 ++ r2) old new
  deeds_then old mid new a b r1 r2 first later = record {
    accepted = for_both setting old.host.state a b first.accepted (subst (λ (s : State). AllFor setting s b) first.state later.accepted);
    state = later.state ∙ ap (λ (s : State). after_inputs setting s b) first.state ∙ sym (after_both setting old.host.state a b);
    outbox = later.outbox ∙ ap (λ l. l ++ messages_in setting mid.host.state b) first.outbox
        ∙ append_assoc old.host.outbox (messages_in setting old.host.state a) (messages_in setting mid.host.state b)
        ∙ ap (λ (s : State). old.host.outbox ++ (messages_in setting old.host.state a ++ messages_in setting s b)) first.state
        ∙ ap (λ l. old.host.outbox ++ l) (sym (messages_both setting old.host.state a b));
    asked = asked_both (profile_for me.servers) me.number a b ∙ ap (λ (l : List ℕ). l ++ tags_in (profile_for me.servers) (map (step_of me.number) b)) first.asked ∙ ap (λ (l : List ℕ). map request_tag r1 ++ l) later.asked ∙ sym (map_both request_tag r1 r2);
    rising = rising_then old mid new.tags.used r1 r2 first.boot first.rising later.rising;
    within = λ le. later.within (first.within le);
    host = later.host ∙ first.host;
    boot = later.boot ∙ first.boot;
    keeps = λ state before is keeps. subst (λ (l : List (Input Call)). KeepsFirst setting may_recover state l new.host.storage) (append_assoc before a b)
        (later.keeps state (before ++ a) (from_mid old mid a before state first.state is) (first.keeps state before is keeps));
    starts = later.starts ∙ first.starts;
    tree = later.tree ∙ first.tree;
    news = later.news ∙ first.news;
    shown = later.shown ∙ first.shown;
  }

  pub failure_then : (old mid new : ReplicaHost S) (a b : List (Input Call)) (r1 r2 : List Request) → Deeds may_recover boots me a r1 old mid → Failure may_recover boots me b r2 mid new
      → Failure may_recover boots me (a ++ b) (r1 ++ r2) old new
  failure_then old mid new a b r1 r2 first later = record {
    accepted = for_both setting old.host.state a b first.accepted (subst (λ (s : State). AllFor setting s b) first.state later.accepted);
    asked = asked_both (profile_for me.servers) me.number a b ∙ ap (λ (l : List ℕ). l ++ tags_in (profile_for me.servers) (map (step_of me.number) b)) first.asked ∙ ap (λ (l : List ℕ). map request_tag r1 ++ l) later.asked ∙ sym (map_both request_tag r1 r2);
    rising = rising_then old mid new.tags.used r1 r2 first.boot first.rising later.rising;
    within = λ le. later.within (first.within le);
    keeps = λ state before is keeps. subst (λ (l : List (Input Call)). KeepsSome setting may_recover state l new.host.storage) (append_assoc before a b)
        (later.keeps state (before ++ a) (from_mid old mid a before state first.state is) (first.keeps state before is keeps));
    starts = later.starts ∙ first.starts;
  }

  -- the host fails after it has taken the inputs
  pub failure_of : (old new : ReplicaHost S) (inputs : List (Input Call)) (requests : List Request) → Deeds may_recover boots me inputs requests old new → Failure may_recover boots me inputs requests old new
  failure_of old new inputs requests deeds = record {
    accepted = deeds.accepted;
    asked = deeds.asked;
    rising = deeds.rising;
    within = deeds.within;
    keeps = λ state before is keeps found may. (let first = deeds.keeps state before is keeps found may in (first.0, first.1.1.1));
    starts = deeds.starts;
  }

  pub no_deeds : (old new : ReplicaHost S) → new ≡ old → Deeds may_recover boots me [] [] old new
  no_deeds old new same =
      subst (λ (it : ReplicaHost S). Deeds may_recover boots me [] [] old it) (sym same)
      record {
        accepted = tt;
        state = refl;
        outbox = sym (append-nil old.host.outbox);
        asked = refl;
        rising = omega arith;
        within = λ le. le;
        host = refl;
        boot = refl;
        keeps = λ state before is keeps. subst (λ (l : List (Input Call)). KeepsFirst setting may_recover state l old.host.storage) (sym (append-nil before)) keeps;
        starts = refl;
        tree = refl;
        news = refl;
        shown = refl;
      }

  pub no_failure : (old new : ReplicaHost S) → new ≡ old → Failure may_recover boots me [] [] old new
  no_failure old new same = failure_of old new [] [] (no_deeds old new same)

  -- ---- messages

  pub hears_nothing : (old new : ReplicaHost S) → new ≡ old → HearsAll may_recover boots me [] old new
  hears_nothing old new same = record { inputs = []; hears = refl; deeds = no_deeds old new same }

  pub all_then : (old mid new : ReplicaHost S) (a b : List (Message Call)) → HearsAll may_recover boots me a old mid → HearsAll may_recover boots me b mid new → HearsAll may_recover boots me (a ++ b) old new
  all_then old mid new a b first later = record {
    inputs = first.inputs ++ later.inputs;
    hears = hears_both setting old.host.state a b first.inputs later.inputs first.hears (subst (λ (s : State). Hears setting s b later.inputs) first.deeds.state later.hears);
    deeds = deeds_then old mid new first.inputs later.inputs [] [] first.deeds later.deeds;
  }

  pub fails_then : (old mid new : ReplicaHost S) (a b rest : List (Message Call)) → HearsAll may_recover boots me a old mid → FailsAt may_recover boots me b mid new → FailsAt may_recover boots me (a ++ b) old new
  fails_then old mid new a b rest first later = record {
    inputs = first.inputs ++ later.inputs;
    among = all_both (a ++ b) first.inputs later.inputs (all_front a b first.inputs (heard_among setting old.host.state a first.inputs first.hears)) (all_more a b later.inputs later.among);
    failure = failure_then old mid new first.inputs later.inputs [] [] first.deeds later.failure;
  }

  pub fails_front : (old new : ReplicaHost S) (a b : List (Message Call)) → FailsAt may_recover boots me a old new → FailsAt may_recover boots me (a ++ b) old new
  fails_front old new a b fails = record { inputs = fails.inputs; among = all_front a b fails.inputs fails.among; failure = fails.failure }

  -- ---- one message

  pub hears_one : (message : Message Call) (old new : ReplicaHost S) → TakesBy may_recover boots me (Receives message) old new → HearsAll may_recover boots me (message ∷ []) old new
  hears_one message old new takes = record {
    inputs = takes.inputs;
    hears = (takes.inputs, ([], (sym (append-nil takes.inputs), (takes.offers, refl))));
    deeds = takes.deeds;
  }

  only_among : (message : Message Call) (inputs : List (Input Call)) → (inputs ≡ []) ⊎ (inputs ≡ Receives message ∷ []) → AllAmong (message ∷ []) inputs
  only_among message inputs (inl none) = subst (λ (l : List (Input Call)). AllAmong (message ∷ []) l) (sym none) tt
  only_among message inputs (inr one) = subst (λ (l : List (Input Call)). AllAmong (message ∷ []) l) (sym one) ((0, refl), tt)

  pub fails_one : (message : Message Call) (old new : ReplicaHost S) → FailsBy may_recover boots me (Receives message) old new → FailsAt may_recover boots me (message ∷ []) old new
  fails_one message old new fails = record { inputs = fails.inputs; among = only_among message fails.inputs fails.only; failure = fails.failure }

  module _ (messages : List (Message Call)) (index : ℕ) (old new : ReplicaHost S) where
    pub hears_none : None ≡ slice_get messages index → new ≡ old → HearsAll may_recover boots me (listed (slice_get messages index)) old new
    hears_none is same = subst (λ (o : Option (Message Call)). HearsAll may_recover boots me (listed o) old new) is (hears_nothing old new same)

    pub hears_found : (message : Message Call) → Some message ≡ slice_get messages index → TakesBy may_recover boots me (Receives message) old new
        → HearsAll may_recover boots me (listed (slice_get messages index)) old new
    hears_found message is takes = subst (λ (o : Option (Message Call)). HearsAll may_recover boots me (listed o) old new) is (hears_one message old new takes)

    pub fails_found : (message : Message Call) → Some message ≡ slice_get messages index → FailsBy may_recover boots me (Receives message) old new
        → FailsAt may_recover boots me (listed (slice_get messages index)) old new
    fails_found message is fails = subst (λ (o : Option (Message Call)). FailsAt may_recover boots me (listed o) old new) is (fails_one message old new fails)

  -- ---- all messages

  take_next : {A : Type 0} (xs : List A) (index : ℕ) → take index xs ++ listed (slice_get xs index) ≡ take (index + 1) xs
  take_next xs index = (let more : suc index ≡ index + 1 = omega arith in sym (take_more xs index) ∙ ap (λ (n : ℕ). take n xs) more)

  pub hears_more : (messages : List (Message Call)) (index : ℕ) (old mid new : ReplicaHost S) → HearsAll may_recover boots me (take index messages) old mid
      → HearsAll may_recover boots me (listed (slice_get messages index)) mid new → HearsAll may_recover boots me (take (index + 1) messages) old new
  hears_more messages index old mid new first later =
      subst (λ (l : List (Message Call)). HearsAll may_recover boots me l old new) (take_next messages index)
      (all_then old mid new (take index messages) (listed (slice_get messages index)) first later)

  pub hears_whole : (messages : List (Message Call)) (index : ℕ) (old new : ReplicaHost S) → length messages ≤ index → HearsAll may_recover boots me (take index messages) old new → HearsAll may_recover boots me messages old new
  hears_whole messages index old new whole heard = subst (λ (l : List (Message Call)). HearsAll may_recover boots me l old new) (take_all index messages whole) heard

  take_drop : {A : Type 0} (k : ℕ) (xs : List A) → (rest : List A) × (take k xs ++ rest ≡ xs)
  take_drop zero xs = (xs, refl)
  take_drop (suc k) [] = ([], refl)
  take_drop (suc k) (x ∷ xs) = (let d = take_drop k xs in (d.0, ap (λ l. x ∷ l) d.1))

  -- ---- one of the later messages

  -- it hears some messages, and fails at the next ones
  pub fails_front_later : (old mid new : ReplicaHost S) (a b rest : List (Message Call)) → HearsAll may_recover boots me a old mid → FailsAt may_recover boots me b mid new
      → FailsAt may_recover boots me ((a ++ b) ++ rest) old new
  fails_front_later old mid new a b rest first fails = fails_front old new (a ++ b) rest (fails_then old mid new a b [] first fails)

  pub fails_later : (messages : List (Message Call)) (index : ℕ) (old mid new : ReplicaHost S) → HearsAll may_recover boots me (take index messages) old mid
      → FailsAt may_recover boots me (listed (slice_get messages index)) mid new → FailsAt may_recover boots me messages old new
  fails_later messages index old mid new first later =
      let rest = take_drop (index + 1) messages in
      subst (λ (l : List (Message Call)). FailsAt may_recover boots me l old new) (ap (λ (l : List (Message Call)). l ++ rest.0) (take_next messages index) ∙ rest.1)
      (fails_front_later old mid new (take index messages) (listed (slice_get messages index)) rest.0 first later)

  pub fails_nothing : (old new : ReplicaHost S) → new ≡ old → FailsAt may_recover boots me [] old new
  fails_nothing old new same = record { inputs = []; among = tt; failure = no_failure old new same }
