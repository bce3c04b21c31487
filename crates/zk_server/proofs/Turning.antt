-- A turn, from its parts.
use Rattle.std.proofs.Common.{◌≡◌, ◌≢◌, ◌⊎◌, ◌<◌, ◌≤◌, ◌==◌, inl, inr, ℕ, zero, suc, ◌+◌, Bool, true, false, if◌then◌else◌, List, [], ◌∷◌, ◌++◌, length, take, get_or, slice_get, Option, Some, None, refl, sym, ap, ◌∙◌, subst, arith}
use Rattle.std.proofs.lemmas.Bool.Decides.{nat_tests}
use Rattle.std.proofs.lemmas.List.{append-nil, append_assoc, take_all}
use Rattle.zab_broadcast.specs.Calls.{Setting}
use Rattle.zab_broadcast.specs.declared.state.State.{State}
use Rattle.zab_epoch.specs.declared.message.Message.{Message}
use Rattle.zab_epoch.specs.declared.stable.Stable.{Stable}
use Rattle.zab_host.specs.declared.tags.TagIssuer.{TagIssuer}
use Rattle.zab_host.specs.Durability.{IsPartialStore}
use Rattle.zab_host.specs.Hosts.{Input, Receives, Submits, Syncs, Leads, Follows, IsStored}
use Rattle.zab_host.specs.Votes.{vote_of}
use Rattle.zab_host.specs.declared.vote.Vote.{Vote}
use Rattle.zab_host_laws.specs.Composition.{after_inputs, messages_in}
use Rattle.zab_host_laws.specs.TakenSyncs.{HasTaken}
use Rattle.zk_host.specs.declared.replica_host.ReplicaHost.{ReplicaHost}
use Rattle.zk_requests.specs.declared.call.Call.{Call}
use Rattle.zk_peer_links.specs.declared.arrival.Arrival.{Arrival}
use Rattle.zk_peer_links.specs.declared.arrival.Arrival.TheVariants as arrivals
use Rattle.zk_server.specs.declared.election.Choice.{Choice}
use Rattle.zk_server.specs.declared.election.Choice.TheVariants.{Wait, Lead, Follow}
use Rattle.zk_server.specs.declared.member.Member.{Member}
use Rattle.zk_server.specs.Deeds.{setting_for, Acknowledges, ActsBy, AllAmong, Deeds, Failure, FailsAt, FailsToAct, HearsAll, IsAmong}
use Rattle.zk_server.specs.Elections.{ElectionView, after_arrival, after_arrivals, after_choice, choice_of, with_vote}
use Rattle.zk_server.specs.Mail.{brought_by, brought_on, listed, mail_for, mail_in, mail_of}
use Rattle.zk_server.specs.Sites.{IsReady}
use Rattle.zk_server.specs.Turns.{voting, Decides, HasFailed, HasTurned}
use Rattle.zk_server.proofs.Acting.{all_heard_own, heard_both, heard_offered, own_all}
use Rattle.zk_server.proofs.Hearing.{all_then, deeds_then, failure_then, fails_front, fails_front_later, fails_nothing, hears_nothing, no_deeds}
use Rattle.zk_server.proofs.Inputs.{after_both, heard_among, take_more}
use Rattle.zk_server_laws.specs.Stores.{StoresKeepFirstInputs}
use Rattle.zk_server_laws.specs.Turns.{AllHeard, AreRising, IsHeard}

no_items : {A : Type 0} (xs : List A) → length xs ≡ 0 → xs ≡ []
no_items [] is = refl
no_items (x ∷ xs) is = absurd (omega arith)

-- ---- messages and connections

get_split : {X : Type 0} (a b : List X) (place : ℕ) (x : X) → slice_get (a ++ b) place ≡ Some x → (slice_get a place ≡ Some x) ⊎ ((later : ℕ) × (slice_get b later ≡ Some x))
get_split [] b place x is = inr (place, is)
get_split (y ∷ a) b zero x is = inl is
get_split (y ∷ a) b (suc place) x is = get_split a b place x is

get_front : {X : Type 0} (a b : List X) (place : ℕ) (x : X) → slice_get a place ≡ Some x → slice_get (a ++ b) place ≡ Some x
get_front [] b place x is = absurd cc
get_front (y ∷ a) b zero x is = is
get_front (y ∷ a) b (suc place) x is = get_front a b place x is

get_after : {X : Type 0} (a b : List X) (place : ℕ) (x : X) → slice_get b place ≡ Some x → (later : ℕ) × (slice_get (a ++ b) later ≡ Some x)
get_after [] b place x is = (place, is)
get_after (y ∷ a) b place x is = (let found = get_after a b place x is in (suc found.0, found.1))

-- a message is on some connection
abbrev IsOn : (ℕ → List (Message Call)) → Message Call → Type 0
IsOn brought message = (line : ℕ) × ((place : ℕ) × (slice_get (brought line) place ≡ Some message))

on_own_line : (line : ℕ) (messages : List (Message Call)) (place : ℕ) (message : Message Call) → slice_get messages place ≡ Some message → slice_get (brought_by line (arrivals.Mail line messages)) place ≡ Some message
on_own_line line messages place message is =
    let same : (line == line) ≡ true = grind (arith, nat_tests) in
    subst (λ (b : Bool). slice_get (if b then messages else []) place ≡ Some message) (sym same) is

on_arrival : (arrival : Arrival) (place : ℕ) (message : Message Call) → slice_get (mail_of arrival) place ≡ Some message → IsOn (λ line. brought_by line arrival) message
on_arrival (arrivals.Mail line messages) place message is = (line, (place, on_own_line line messages place message is))
on_arrival (arrivals.Notice notice) place message is = absurd cc
on_arrival (arrivals.Session notice) place message is = absurd cc
on_arrival (arrivals.Closed peer) place message is = absurd cc
on_arrival arrivals.Lead place message is = absurd cc

on_some : (arrivals : List Arrival) (place : ℕ) (message : Message Call) → slice_get (mail_in arrivals) place ≡ Some message → IsOn (brought_on arrivals) message
on_some [] place message is = absurd cc
on_some (arrival ∷ arrivals) place message is = elim (get_split (mail_of arrival) (mail_in arrivals) place message is) [
  | inl first ↦
      (let on = on_arrival arrival place message first in
      (on.0, (on.1.0, get_front (brought_by on.0 arrival) (brought_on arrivals on.0) on.1.0 message on.1.1)))
  | inr later ↦
      (let on = on_some arrivals later.0 message later.1 in
      (on.0, get_after (brought_by on.0 arrival) (brought_on arrivals on.0) on.1.0 message on.1.1))
]

heard_mail : (servers : ℕ) (arrivals : List Arrival) (input : Input Call) → servers ≢ 1 → IsAmong (mail_in arrivals) input → IsHeard servers (brought_on arrivals) input
heard_mail servers arrivals (Receives message) many among =
    (let on = on_some arrivals among.0 message among.1 in inl record { many = many; line = on.0; place = on.1.0; is = on.1.1 })
heard_mail servers arrivals (Submits call) many among = tt
heard_mail servers arrivals (Syncs tag) many among = tt
heard_mail servers arrivals Leads many among = tt
heard_mail servers arrivals (Follows leader) many among = tt

heard_none : (servers : ℕ) (brought : ℕ → List (Message Call)) (input : Input Call) → IsAmong [] input → IsHeard servers brought input
heard_none servers brought (Receives message) among = absurd cc
heard_none servers brought (Submits call) among = tt
heard_none servers brought (Syncs tag) among = tt
heard_none servers brought Leads among = tt
heard_none servers brought (Follows leader) among = tt

heard_if : (servers : ℕ) (arrivals : List Arrival) (alone : Bool) (input : Input Call) → (servers == 1) ≡ alone → IsAmong (if alone then [] else mail_in arrivals) input → IsHeard servers (brought_on arrivals) input
heard_if servers arrivals true input is among = heard_none servers (brought_on arrivals) input among
heard_if servers arrivals false input is among = (let many : servers ≢ 1 = grind (arith, nat_tests) in heard_mail servers arrivals input many among)

pub all_heard : (me : Member) (arrivals : List Arrival) (inputs : List (Input Call)) → AllAmong (mail_for me arrivals) inputs → AllHeard me.servers (brought_on arrivals) inputs
all_heard me arrivals [] among = tt
all_heard me arrivals (input ∷ inputs) among = (heard_if me.servers arrivals (me.servers == 1) input refl among.0, all_heard me arrivals inputs among.1)

nothing_brought : (servers : ℕ) (brought : ℕ → List (Message Call)) (input : Input Call) → IsHeard servers (λ line. []) input → IsHeard servers brought input
nothing_brought servers brought (Receives message) (inl on) = (let is : None ≡ Some message = on.is in absurd cc)
nothing_brought servers brought (Receives message) (inr own) = inr own
nothing_brought servers brought (Submits call) heard = tt
nothing_brought servers brought (Syncs tag) heard = tt
nothing_brought servers brought Leads heard = tt
nothing_brought servers brought (Follows leader) heard = tt

pub all_nothing_brought : (servers : ℕ) (brought : ℕ → List (Message Call)) (inputs : List (Input Call)) → AllHeard servers (λ line. []) inputs → AllHeard servers brought inputs
all_nothing_brought servers brought [] heard = tt
all_nothing_brought servers brought (input ∷ inputs) heard = (nothing_brought servers brought input heard.0, all_nothing_brought servers brought inputs heard.1)

-- ---- arrivals, one after the other

take_next : {A : Type 0} (xs : List A) (index : ℕ) → take index xs ++ listed (slice_get xs index) ≡ take (index + 1) xs
take_next xs index = (let more : suc index ≡ index + 1 = omega arith in sym (take_more xs index) ∙ ap (λ (n : ℕ). take n xs) more)

at_index : {A : Type 0} (xs : List A) (index : ℕ) (x : A) → index < length xs → x ≡ get_or xs index x → slice_get xs index ≡ Some x
at_index [] index x lt is = absurd (omega arith)
at_index (y ∷ xs) zero x lt is = ap Some (sym is)
at_index (y ∷ xs) (suc index) x lt is = at_index xs index x (omega arith) is

notes_both : (a b : List Arrival) (it : ElectionView) → after_arrivals (a ++ b) it ≡ after_arrivals b (after_arrivals a it)
notes_both [] b it = refl
notes_both (arrival ∷ a) b it = notes_both a b (after_arrival arrival it)

pub notes_more : (arrivals : List Arrival) (index : ℕ) (arrival : Arrival) (old mid new : ElectionView) → index < length arrivals → arrival ≡ get_or arrivals index arrival → mid ≡ after_arrivals (take index arrivals) old
    → new ≡ after_arrival arrival mid → new ≡ after_arrivals (take (index + 1) arrivals) old
notes_more arrivals index arrival old mid new lt is first later =
    let at = at_index arrivals index arrival lt is in
    later ∙ ap (λ (e : ElectionView). after_arrival arrival e) first ∙ sym (notes_both (take index arrivals) (arrival ∷ []) old)
    ∙ ap (λ (o : Option Arrival). after_arrivals (take index arrivals ++ listed o) old) (sym at) ∙ ap (λ l. after_arrivals l old) (take_next arrivals index)

pub notes_whole : (arrivals : List Arrival) (index : ℕ) (old new : ElectionView) → length arrivals ≤ index → new ≡ after_arrivals (take index arrivals) old → new ≡ after_arrivals arrivals old
notes_whole arrivals index old new whole is = is ∙ ap (λ l. after_arrivals l old) (take_all index arrivals whole)

mail_both : (a b : List Arrival) → mail_in (a ++ b) ≡ mail_in a ++ mail_in b
mail_both [] b = refl
mail_both (arrival ∷ a) b = ap (λ l. mail_of arrival ++ l) (mail_both a b) ∙ sym (append_assoc (mail_of arrival) (mail_in a) (mail_in b))

mail_next : (arrivals : List Arrival) (index : ℕ) (arrival : Arrival) → slice_get arrivals index ≡ Some arrival → mail_in (take index arrivals) ++ mail_of arrival ≡ mail_in (take (index + 1) arrivals)
mail_next arrivals index arrival at =
    ap (λ l. mail_in (take index arrivals) ++ l) (sym (append-nil (mail_of arrival))) ∙ sym (mail_both (take index arrivals) (arrival ∷ []))
    ∙ ap (λ (o : Option Arrival). mail_in (take index arrivals ++ listed o)) (sym at) ∙ ap mail_in (take_next arrivals index)

take_drop : {A : Type 0} (k : ℕ) (xs : List A) → (rest : List A) × (take k xs ++ rest ≡ xs)
take_drop zero xs = (xs, refl)
take_drop (suc k) [] = ([], refl)
take_drop (suc k) (x ∷ xs) = (let d = take_drop k xs in (d.0, ap (λ l. x ∷ l) d.1))

module _ {S : Type 0} (may_recover : S → Stable → Type 0) (boots : S → ℕ) (me : Member) where
  abbrev setting : Setting Call
  setting = setting_for me.servers

  pub mail_whole : (arrivals : List Arrival) (index : ℕ) (old new : ReplicaHost S) → length arrivals ≤ index → HearsAll may_recover boots me (mail_in (take index arrivals)) old new → HearsAll may_recover boots me (mail_in arrivals) old new
  mail_whole arrivals index old new whole heard = subst (λ (l : List Arrival). HearsAll may_recover boots me (mail_in l) old new) (take_all index arrivals whole) heard

  pub mail_more : (arrivals : List Arrival) (index : ℕ) (arrival : Arrival) (old mid new : ReplicaHost S) → index < length arrivals → arrival ≡ get_or arrivals index arrival
      → HearsAll may_recover boots me (mail_in (take index arrivals)) old mid → HearsAll may_recover boots me (mail_of arrival) mid new → HearsAll may_recover boots me (mail_in (take (index + 1) arrivals)) old new
  mail_more arrivals index arrival old mid new lt is first later =
      let at = at_index arrivals index arrival lt is in
      subst (λ (l : List (Message Call)). HearsAll may_recover boots me l old new) (mail_next arrivals index arrival at)
      (all_then may_recover boots me old mid new (mail_in (take index arrivals)) (mail_of arrival) first later)

  pub mail_fails : (arrivals : List Arrival) (index : ℕ) (arrival : Arrival) (old mid new : ReplicaHost S) → index < length arrivals → arrival ≡ get_or arrivals index arrival
      → HearsAll may_recover boots me (mail_in (take index arrivals)) old mid → FailsAt may_recover boots me (mail_of arrival) mid new
      → FailsAt may_recover boots me (mail_in arrivals) old new
  mail_fails arrivals index arrival old mid new lt is first later =
      let at = at_index arrivals index arrival lt is in
      let rest = take_drop (index + 1) arrivals in
      let whole : (mail_in (take index arrivals) ++ mail_of arrival) ++ mail_in rest.0 ≡ mail_in arrivals =
      ap (λ (l : List (Message Call)). l ++ mail_in rest.0) (mail_next arrivals index arrival at) ∙ sym (mail_both (take (index + 1) arrivals) rest.0) ∙ ap mail_in rest.1 in
      subst (λ (l : List (Message Call)). FailsAt may_recover boots me l old new) whole
      (fails_front_later may_recover boots me old mid new (mail_in (take index arrivals)) (mail_of arrival) (mail_in rest.0) first later)

  -- memory runs out before any message is received
  pub no_memory_to_hear : (arrivals : List Arrival) (old new : ReplicaHost S) → new ≡ old → FailsAt may_recover boots me (mail_for me arrivals) old new
  no_memory_to_hear arrivals old new same = fails_front may_recover boots me old new [] (mail_for me arrivals) (fails_nothing may_recover boots me old new same)

  mail_if : (alone : Bool) (arrivals : List Arrival) → (me.servers == 1) ≡ alone → (if alone then [] else mail_in arrivals) ≡ mail_for me arrivals
  mail_if alone arrivals is = ap (λ (b : Bool). if b then [] else mail_in arrivals) (sym is)

  pub hears_alone : (arrivals : List Arrival) (old new : ReplicaHost S) → me.servers ≡ 1 → new ≡ old → HearsAll may_recover boots me (mail_for me arrivals) old new
  hears_alone arrivals old new alone same =
      let yes : (me.servers == 1) ≡ true = grind (arith, nat_tests) in
      subst (λ (l : List (Message Call)). HearsAll may_recover boots me l old new) (mail_if true arrivals yes) (hears_nothing may_recover boots me old new same)

  pub hears_others : (arrivals : List Arrival) (old new : ReplicaHost S) → me.servers ≢ 1 → HearsAll may_recover boots me (mail_in arrivals) old new → HearsAll may_recover boots me (mail_for me arrivals) old new
  hears_others arrivals old new many hears =
      let no : (me.servers == 1) ≡ false = grind (arith, nat_tests) in
      subst (λ (l : List (Message Call)). HearsAll may_recover boots me l old new) (mail_if false arrivals no) hears

  pub fails_others : (arrivals : List Arrival) (old new : ReplicaHost S) → me.servers ≢ 1 → FailsAt may_recover boots me (mail_in arrivals) old new
      → FailsAt may_recover boots me (mail_for me arrivals) old new
  fails_others arrivals old new many fails =
      let alone_not : (me.servers == 1) ≡ false = grind (arith, nat_tests) in
      subst (λ (l : List (Message Call)). FailsAt may_recover boots me l old new) (mail_if false arrivals alone_not) fails

  pub decides : (election next : ElectionView) (old new : ReplicaHost S) (vote : Vote) (choice : Choice) → vote ≡ vote_of old.host.state → choice ≡ choice_of (with_vote vote election)
      → next ≡ after_choice choice (with_vote vote election) → ActsBy may_recover boots me choice old new → Decides may_recover boots me election old next new
  decides election next old new vote choice own chosen position acts =
      let same : with_vote vote election ≡ voting may_recover boots me election old = ap (λ (v : Vote). with_vote v election) own in
      record {
        position = position ∙ ap (λ (c : Choice). after_choice c (with_vote vote election)) chosen ∙ ap (λ (e : ElectionView). after_choice (choice_of e) e) same;
        acts = subst (λ (c : Choice). ActsBy may_recover boots me c old new) (chosen ∙ ap choice_of same) acts;
      }

  -- ---- what an election decides is a list of inputs

  pub record Acted (old new : ReplicaHost S) : Type 0 where
    pub inputs : List (Input Call)
    pub heard : AllHeard me.servers (λ line. []) inputs
    pub deeds : Deeds may_recover boots me inputs [] old new

  acted_alone : (alone : Bool) (old mid new : ReplicaHost S) (first : List (Input Call)) → (me.servers == 1) ≡ alone → AllHeard me.servers (λ line. []) first → Deeds may_recover boots me first [] old mid
      → Acknowledges may_recover boots me alone mid new → Acted old new
  acted_alone true old mid new first is heard deeds own =
      let alone : me.servers ≡ 1 = grind (arith, nat_tests) in
      record {
        inputs = first ++ own.inputs;
        heard = heard_both me.servers (λ line. []) first own.inputs heard
            (all_heard_own me.servers _ own.inputs alone (own_all mid.host.state.peer.role (vote_of mid.host.state)) (heard_among setting mid.host.state _ own.inputs own.hears));
        deeds = deeds_then may_recover boots me old mid new first own.inputs [] [] deeds own.deeds;
      }
  acted_alone false old mid new first is heard deeds own = record {
    inputs = first;
    heard = heard;
    deeds = subst (λ (it : ReplicaHost S). Deeds may_recover boots me first [] old it) (sym own) deeds;
  }

  pub acted : (choice : Choice) (old new : ReplicaHost S) → ActsBy may_recover boots me choice old new → Acted old new
  acted Wait old new acts = record { inputs = []; heard = tt; deeds = no_deeds may_recover boots me old new acts }
  acted (Follow leader) old new acts = record {
    inputs = acts.inputs;
    heard = heard_offered me.servers (λ line. []) setting old.host.state (Follows leader) acts.inputs tt acts.offers;
    deeds = acts.deeds;
  }
  acted Lead old new acts =
      acted_alone (me.servers == 1) old acts.between new acts.leads.inputs refl
      (heard_offered me.servers (λ line. []) setting old.host.state Leads acts.leads.inputs tt acts.leads.offers) acts.leads.deeds acts.own

  -- ---- a turn that fails

  module _ (arrivals : List Arrival) (old : ReplicaHost S) (ready : IsReady may_recover me old) (law : StoresKeepFirstInputs (setting_for me.servers) may_recover) where
    pub failed : (inputs : List (Input Call)) (new : ReplicaHost S) → AllHeard me.servers (brought_on arrivals) inputs → Failure may_recover boots me inputs [] old new
        → HasFailed may_recover boots me arrivals old new.host.storage
    failed inputs new heard failure = record {
      inputs = inputs;
      next_used = new.tags.used;
      does = λ line_to. record {
        acts = record {
          accepted = failure.accepted;
          heard = heard;
          asked = failure.asked;
          rising = failure.rising;
          within = failure.within ready.within;
        };
        crash = failure.keeps old.host.state [] refl (law.stored old.host.state [] old.host.storage ready.stored);
        starts = (let e = failure.starts in omega arith);
      };
    }

    pub hearing_fails : (new : ReplicaHost S) → FailsAt may_recover boots me (mail_for me arrivals) old new → HasFailed may_recover boots me arrivals old new.host.storage
    hearing_fails new fails = failed fails.inputs new (all_heard me arrivals fails.inputs fails.among) fails.failure

    pub heard_in : (mid : ReplicaHost S) (hears : HearsAll may_recover boots me (mail_for me arrivals) old mid) → AllHeard me.servers (brought_on arrivals) hears.inputs
    heard_in mid hears = all_heard me arrivals hears.inputs (heard_among setting old.host.state (mail_for me arrivals) hears.inputs hears.hears)

    pub acting_fails : (mid new : ReplicaHost S) → HearsAll may_recover boots me (mail_for me arrivals) old mid → FailsToAct may_recover boots me mid new
        → HasFailed may_recover boots me arrivals old new.host.storage
    acting_fails mid new hears fails =
        failed (hears.inputs ++ fails.inputs) new
        (heard_both me.servers (brought_on arrivals) hears.inputs fails.inputs (heard_in mid hears) (all_nothing_brought me.servers (brought_on arrivals) fails.inputs fails.heard))
        (failure_then may_recover boots me old mid new hears.inputs fails.inputs [] [] hears.deeds fails.failure)

    -- ---- the store

    module _ (election next : ElectionView) (mid last new : ReplicaHost S) (hears : HearsAll may_recover boots me (mail_for me arrivals) old mid)
        (decides : Decides may_recover boots me election mid next last) (tags : new.tags ≡ last.tags) (starts : boots new.host.storage ≡ boots last.host.storage) where
      done : Acted mid last
      done = acted (choice_of (voting may_recover boots me election mid)) mid last decides.acts

      abbrev inputs : List (Input Call)
      inputs = hears.inputs ++ done.inputs

      heard : AllHeard me.servers (brought_on arrivals) inputs
      heard = heard_both me.servers (brought_on arrivals) hears.inputs done.inputs (heard_in mid hears) (all_nothing_brought me.servers (brought_on arrivals) done.inputs done.heard)

      deeds : Deeds may_recover boots me inputs [] old last
      deeds = deeds_then may_recover boots me old mid last hears.inputs done.inputs [] [] hears.deeds done.deeds

      used_is : new.tags.used ≡ last.tags.used
      used_is = ap (λ (t : TagIssuer). t.used) tags

      rising : AreRising me.number old.tags.boot old.tags.used new.tags.used []
      rising = (let low : old.tags.used ≤ last.tags.used = deeds.rising in let e = used_is in omega arith)

      within : new.tags.used ≤ 4294967296
      within = (let high = deeds.within ready.within in let e = used_is in omega arith)

      pub storing_fails : ((found : Stable) → may_recover new.host.storage found → may_recover last.host.storage found ⊎ IsPartialStore (may_recover last.host.storage) last.host.state.peer.stable found)
          → HasFailed may_recover boots me arrivals old new.host.storage
      storing_fails crash =
          failed inputs new heard
          record {
            accepted = deeds.accepted;
            asked = deeds.asked;
            rising = rising;
            within = λ le. within;
            keeps = λ state before is keeps.
                law.part state (before ++ inputs) last.host.storage new.host.storage (deeds.keeps state before is keeps)
                (λ found may. part_of state before found is (crash found may));
            starts = starts ∙ deeds.starts;
          }
        where
          part_of : (state : State) (before : List (Input Call)) (found : Stable) → old.host.state ≡ after_inputs setting state before
              → may_recover last.host.storage found ⊎ IsPartialStore (may_recover last.host.storage) last.host.state.peer.stable found
              → may_recover last.host.storage found ⊎ IsPartialStore (may_recover last.host.storage) (after_inputs setting state (before ++ inputs)).peer.stable found
          part_of state before found is =
              subst (λ (s : State). may_recover last.host.storage found ⊎ IsPartialStore (may_recover last.host.storage) last.host.state.peer.stable found → may_recover last.host.storage found ⊎ IsPartialStore (may_recover last.host.storage) s.peer.stable found)
              (deeds.state ∙ ap (λ (s : State). after_inputs setting s inputs) is ∙ sym (after_both setting state before inputs)) (λ given. given)

      taken_none : (whole left : State) → left ≡ whole → HasTaken [] whole left
      taken_none whole left same = subst (λ (s : State). HasTaken [] whole s) (sym same) record { same = refl; all = refl }

      now_state : new.host.state ≡ last.host.state → new.host.state ≡ after_inputs setting old.host.state inputs
      now_state state = state ∙ deeds.state

      sent : (messages : List (Message Call)) → messages ≡ last.host.outbox → messages ≡ messages_in setting old.host.state inputs
      sent messages said = said ∙ deeds.outbox ∙ ap (λ l. l ++ messages_in setting old.host.state inputs) (no_items old.host.outbox ready.silent)

      pub turned : (start : ElectionView) (messages : List (Message Call)) → election ≡ after_arrivals arrivals start → messages ≡ last.host.outbox → IsStored may_recover new.host
          → new.host.state ≡ last.host.state → new.host.outbox ≡ [] → HasTurned may_recover boots me arrivals start old next new messages
      turned start messages notes said stored state empty = record {
        inputs = inputs;
        does = λ line_to. record {
          acts = record { accepted = deeds.accepted; heard = heard; asked = deeds.asked; rising = rising; within = within };
          state = taken_none (after_inputs setting old.host.state inputs) new.host.state (now_state state);
          stored = stored;
          sends = sent messages said;
          starts = starts ∙ deeds.starts;
        };
        heard = mid;
        decided = last;
        hears = hears;
        decides = subst (λ (e : ElectionView). Decides may_recover boots me e mid next last) notes decides;
        stays = state;
        boot = ap (λ (t : TagIssuer). t.boot) tags ∙ deeds.boot;
        ready = record {
          silent = ap length empty;
          stored = stored;
          mine = ap (λ (t : TagIssuer). t.host) tags ∙ deeds.host ∙ ready.mine;
          within = within;
        };
      }
