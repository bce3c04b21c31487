-- Runs: the server of a completed sync has delivered what the leader had when it was accepted.
use Rattle.std.proofs.Common.{◌≡◌, ℕ, suc, zero, ◌-◌, ◌<◌, ◌≤◌, ◌⊎◌, inl, inr, List, [], ◌∷◌, length, take, Option, Some, None, Ok, refl, sym, ap, subst, ◌∙◌, slice_get, arith}
use Rattle.std.proofs.Math.Seq.{take-length}
use Rattle.std.proofs.lemmas.Option.{slice_get-get_or}
use Rattle.std.specs.List.{AllByRecursion}
use Rattle.zab_epoch.specs.declared.history.Entry.{Entry}
use Rattle.zab_epoch.specs.Quorums.{IsQuorumSystem}
use Rattle.zab_broadcast.specs.declared.syncs.Caught.{Caught}
use Rattle.zab_laws.specs.Prefixes.{IsPrefix}
use Rattle.zab_laws.specs.Cores as laws
use Rattle.zab_laws.proofs.PrefixLaws.{prefix_refl, prefix_by_length}
use Rattle.zab_laws.proofs.Keeping.{grows_refl, grows_trans}
use Rattle.zab_rule_laws.specs.Told.{laws_of}
use Rattle.zab_rule_laws.proofs.Hearing.{CarriesZxid}
use Rattle.zab_rule_laws.proofs.TagFacts.{all_append, all_get}
use Rattle.zab_model.specs.declared.event.Event.{Event}
use Rattle.zab_model.specs.declared.event.Event.TheVariants.{Sync}
use Rattle.zab_model.specs.declared.event.Moved.{Moved}
use Rattle.zab_model.specs.ProcessStates.{ProcessState, new_server, new_servers}
use Rattle.zab_model.specs.Worlds.{World, Profile, Answer, new_world, server_at, happens}
use Rattle.zab_model.specs.Runs.{after, answers, run, delivered_list, delivered_of, caught_list, syncs_of, delivered_after}
use Rattle.zab_model.proofs.ServerLists.{found}
use Rattle.zab_agreement_laws.specs.Moments.{Synchronizes, Started}
use Rattle.zab_agreement_laws.specs.Syncs.{IsCaught, AreCaught}
use Rattle.zab_agreement_laws.specs.Agreement.{Agrees}
use Rattle.zab_agreement_laws.proofs.AgreeEvents.{IsNumbered, WorldStands, happens_keeps}
use Rattle.zab_agreement_laws.proofs.WholeRuns.{shares_of, new_world_stands}
use Rattle.zab_agreement_laws.proofs.AgreeRuns.{runs_agree}
use Rattle.zab_call_laws.proofs.SyncFacts.{Book, Taken, nothing_taken, Grows, IsAnswered, ServerFact, all_answered_grow}
use Rattle.zab_call_laws.proofs.SyncWorlds.{Knows, AreSpent, delivered_length}
use Rattle.zab_call_laws.proofs.SyncEvents.{IsTaking, happens_gives}
use Rattle.zab_call_laws.proofs.Taking.{taken_once}

-- ---- the syncs of a server

abbrev AreAnswered : {C : Type 0} → Book → World C → ℕ → Type 0
AreAnswered book w n = AllByRecursion (IsAnswered book n (length (delivered_of w n))) (syncs_of w n)

answered_by : (k : laws.Setting Entry) (g : laws.Ghost Entry) (book : Book) (n : ℕ) (o : Option ProcessState) → ((it : ProcessState) → o ≡ Some it → IsNumbered k g n it.state) → ((it : ProcessState) → o ≡ Some it → ServerFact book n it.state) → AllByRecursion (IsAnswered book n (length (delivered_list o))) (caught_list o)
answered_by k g book n None f b = tt
answered_by k g book n (Some it) f b =
    subst (λ d. AllByRecursion (IsAnswered book n d) it.state.caught) (sym (delivered_length k g n it.state (f it refl))) (b it refl).caught

answered_in : {C : Type 0} (k : laws.Setting Entry) (g : laws.Ghost Entry) (book : Book) (w : World C) (n : ℕ) → WorldStands k g w → Knows g book w → AreAnswered book w n
answered_in k g book w n f b = answered_by k g book n (server_at w.servers n) (λ it is. f.servers n it is) (λ it is. b.servers n it is)

answered_later : {C : Type 0} (book later : Book) (w : World C) (n : ℕ) → Grows book later → AreAnswered book w n → AreAnswered later w n
answered_later book later w n grows f =
    all_answered_grow book later n (length (delivered_of w n)) (length (delivered_of w n)) (syncs_of w n) grows (omega arith) f

-- ---- runs from a world on

-- one of the events took the sync
record IsTakenFrom {C : Type 0} (g : laws.Ghost Entry) (profile : Profile C) (w : World C) (events : List (Event C)) (tag : ℕ) (it : Taken) : Type 0 where
  pub place : ℕ
  pub asked : slice_get events place ≡ Some (Sync it.server tag)
  pub sent : Moved
  pub accepted : slice_get (answers profile w events) place ≡ Some (Ok sent)
  pub stands : ProcessState
  pub is : server_at (after profile w (take place events)).servers it.server ≡ Some stands
  pub current : stands.state.peer.stable.current ≡ it.epoch
  pub began : laws.Began Entry
  pub began_is : g.began it.epoch ≡ Some began
  pub leader_is : began.leader ≡ it.leader
  pub delivered : it.delivered ≡ length (delivered_of (after profile w (take place events)) it.leader)

-- the epochs that began, each at some moment, and the syncs that were accepted and completed
record Through {C : Type 0} (profile : Profile C) (g : laws.Ghost Entry) (book : Book) (w : World C) (events : List (Event C)) : Type 0 where
  pub last : laws.Ghost Entry
  pub more : laws.Grows g last
  pub begun : (epoch : ℕ) (b : laws.Began Entry) → last.began epoch ≡ Some b → (g.began epoch ≡ Some b) ⊎ ((count : ℕ) × Synchronizes (after profile w (take count events)).servers b.leader epoch b.start)
  pub later : Book
  pub grows : Grows book later
  pub answered : (count n : ℕ) → AreAnswered later (after profile w (take count events)) n
  pub taken : (tag : ℕ) (it : Taken) → later tag ≡ Some it → (book tag ≡ Some it) ⊎ IsTakenFrom last profile w events tag it

taken_now : {C : Type 0} (g last : laws.Ghost Entry) (profile : Profile C) (w : World C) (event : Event C) (events : List (Event C)) (tag : ℕ) (it : Taken) → laws.Grows g last → IsTaking g w event (happens profile w event).1 tag it → IsTakenFrom last profile w (event ∷ events) tag it
taken_now g last profile w event events tag it grows t = record {
  place = zero;
  asked = ap Some t.happened;
  sent = t.sent;
  accepted = ap Some t.answered;
  stands = t.stands;
  is = t.is;
  current = t.current;
  began = t.began;
  began_is = grows.began it.epoch t.began t.began_is;
  leader_is = t.leader_is;
  delivered = t.delivered;
}

taken_later : {C : Type 0} (last : laws.Ghost Entry) (profile : Profile C) (w : World C) (event : Event C) (events : List (Event C)) (tag : ℕ) (it : Taken) → IsTakenFrom last profile (happens profile w event).0 events tag it → IsTakenFrom last profile w (event ∷ events) tag it
taken_later last profile w event events tag it t = record {
  place = suc t.place;
  asked = t.asked;
  sent = t.sent;
  accepted = t.accepted;
  stands = t.stands;
  is = t.is;
  current = t.current;
  began = t.began;
  began_is = t.began_is;
  leader_is = t.leader_is;
  delivered = t.delivered;
}

answered_at_once : {C : Type 0} (profile : Profile C) (book : Book) (w : World C) (count n : ℕ) → AreAnswered book w n → AreAnswered book (after profile w (take count [])) n
answered_at_once profile book w zero n f = f
answered_at_once profile book w (suc count) n f = f

answered_through : {C : Type 0} (profile : Profile C) (book : Book) (w : World C) (event : Event C) (events : List (Event C)) (count n : ℕ) → AreAnswered book w n → ((count : ℕ) → AreAnswered book (after profile (happens profile w event).0 (take count events)) n) → AreAnswered book (after profile w (take count (event ∷ events))) n
answered_through profile book w event events zero n now rest = now
answered_through profile book w event events (suc count) n now rest = rest count

taken_through : {C : Type 0} (profile : Profile C) → CarriesZxid profile.setting → laws.Shares (laws_of profile.setting.passes) → (g : laws.Ghost Entry) (book : Book) (w : World C) (events : List (Event C)) → WorldStands (laws_of profile.setting.passes) g w → Knows g book w → AreSpent book w.tags.syncs → Through profile g book w events
taken_through profile law share g book w [] f b spent = record {
  last = g;
  more = grows_refl g;
  begun = λ epoch began is. inl is;
  later = book;
  grows = λ tag it is. is;
  answered = λ count n. answered_at_once profile book w count n (answered_in (laws_of profile.setting.passes) g book w n f b);
  taken = λ tag it is. inl is;
}
taken_through profile law share g book w (event ∷ events) f b spent =
    let s = happens_keeps profile law share g w event f in
    let p = happens_gives profile g book w event f b spent s in
    let t = taken_through profile law share s.after p.later (happens profile w event).0 events s.stands p.known p.spent in
    let grows : Grows book t.later = λ tag it is. t.grows tag it (p.grows tag it is) in
    record {
      last = t.last;
      more = grows_trans g s.after t.last s.grows t.more;
      begun = λ epoch began is. elim (t.begun epoch began is) [
        | inl was ↦ elim (s.writes.began epoch began was) [ inl old ↦ inl old | inr now ↦ inr (suc zero, now) ]
        | inr at ↦ inr (suc at.0, at.1)
      ];
      later = t.later;
      grows = grows;
      answered = λ count n. answered_through profile t.later w event events count n
          (answered_later book t.later w n grows (answered_in (laws_of profile.setting.passes) g book w n f b))
          (λ c. t.answered c n);
      taken = λ tag it is. elim (t.taken tag it is) [
        | inl was ↦ elim (p.adds tag it was) [
          | inl old ↦ inl old
          | inr now ↦ inr (taken_now s.after t.last profile w event events tag it t.more now)
        ]
        | inr later ↦ inr (taken_later t.last profile w event events tag it later)
      ];
    }

-- ---- new worlds

abbrev IsNew : ProcessState → Type 0
IsNew it = (n : ℕ) → ServerFact nothing_taken n it.state

new_servers_know : (servers more : ℕ) → AllByRecursion IsNew (new_servers servers more)
new_servers_know servers zero = tt
new_servers_know servers (suc more) = all_append IsNew (new_servers servers more) (new_server servers (suc more) ∷ []) (new_servers_know servers more)
    (λ n. record { asked = tt; caught = tt; synced = λ synced. absurd synced }, tt)

never : {A : Type 0} (it : Taken) → (let o : Option Taken = None in o ≡ Some it) → A
never it is = absurd cc

new_world_knows : {C : Type 0} (g : laws.Ghost Entry) (servers : ℕ) → Knows {C = C} g nothing_taken (new_world servers)
new_world_knows g servers = record {
  servers = λ n it is. all_get IsNew (new_servers servers servers) (n - 1) it (new_servers_know servers servers) (found (new_servers servers servers) n it is).get n;
  messages = tt;
  taken = λ tag it is. never it is;
}

-- ---- from some of the events to all

place_within : {A : Type 0} (xs : List A) (count place : ℕ) (x : A) → slice_get (take count xs) place ≡ Some x → (place < count) × (slice_get xs place ≡ Some x)
place_within xs zero place x is = absurd cc
place_within [] (suc count) place x is = absurd cc
place_within (y ∷ xs) (suc count) zero x is = (omega arith, is)
place_within (y ∷ xs) (suc count) (suc place) x is =
    let rest = place_within xs count place x is in
    let low : place < count = rest.0 in
    (omega arith, rest.1)

take_none : {A : Type 0} (p : ℕ) → (let l : List A = [] in take p l) ≡ []
take_none zero = refl
take_none (suc p) = refl

-- the first ones of some of the first are some of the first
take_within : {A : Type 0} (xs : List A) (count place : ℕ) → (few : ℕ) × (take place (take count xs) ≡ take few xs)
take_within xs zero place = (zero, take_none place)
take_within [] (suc count) place = (place, refl)
take_within (x ∷ xs) (suc count) zero = (zero, refl)
take_within {A} (x ∷ xs) (suc count) (suc place) =
    let rest = take_within xs count place in
    (suc rest.0, ap (λ (l : List A). x ∷ l) rest.1)

take_before : {A : Type 0} (xs : List A) (count place : ℕ) → place < count → take place (take count xs) ≡ take place xs
take_before xs zero place low = absurd (omega arith)
take_before [] (suc count) place low = refl
take_before (x ∷ xs) (suc count) zero low = refl
take_before {A} (x ∷ xs) (suc count) (suc place) low = ap (λ (l : List A). x ∷ l) (take_before xs count place (omega arith))

answers_within : {C : Type 0} (profile : Profile C) (w : World C) (events : List (Event C)) (count place : ℕ) (answer : Answer) → slice_get (answers profile w (take count events)) place ≡ Some answer → slice_get (answers profile w events) place ≡ Some answer
answers_within profile w events zero place answer is = absurd cc
answers_within profile w [] (suc count) place answer is = is
answers_within profile w (event ∷ events) (suc count) zero answer is = is
answers_within profile w (event ∷ events) (suc count) (suc place) answer is = answers_within profile (happens profile w event).0 events count place answer is

started_within : {C : Type 0} (profile : Profile C) (servers : ℕ) (events : List (Event C)) (count leader epoch : ℕ) (start : List Entry) → Started profile servers (take count events) leader epoch start → Started profile servers events leader epoch start
started_within {C} profile servers events count leader epoch start at =
    let few = take_within events count at.0 in
    (few.0, subst (λ (l : List (Event C)). Synchronizes (run profile servers l).0.servers leader epoch start) few.1 at.1)

-- ---- the law

-- of two lists of which one is a prefix of the other, the shorter is the prefix
shorter_front : (a b : List Entry) → IsPrefix a b ⊎ IsPrefix b a → length a ≤ length b → IsPrefix a b
shorter_front a b (inl front) low = front
shorter_front a b (inr front) low = prefix_by_length a b a (prefix_refl a) front low

caught_of : {C : Type 0} (profile : Profile C) (servers : ℕ) (events : List (Event C)) (last : laws.Ghost Entry) (count server : ℕ) (it : Caught) (y : Taken) → Agrees profile servers events → ((epoch : ℕ) (b : laws.Began Entry) → last.began epoch ≡ Some b → Started profile servers events b.leader epoch b.start) → y.server ≡ server → y.delivered ≤ it.length → it.length ≤ length (delivered_after profile servers events count server) → IsTakenFrom last profile (new_world servers) (take count events) it.tag y → IsCaught profile servers events count server it
caught_of {C} profile servers events last count server it y agrees started same low reached t =
    let within = place_within events count t.place (Sync y.server it.tag) t.asked in
    let first : take t.place (take count events) ≡ take t.place events = take_before events count t.place within.0 in
    let had : y.delivered ≡ length (delivered_after profile servers events t.place y.leader) =
    t.delivered ∙ ap (λ (l : List (Event C)). length (delivered_of (run profile servers l).0 y.leader)) first in
    let accepted = answers_within profile (new_world servers) events count t.place (Ok t.sent) t.accepted in
    let no_more : length (delivered_after profile servers events t.place y.leader) ≤ it.length = omega arith in
    let all : length (delivered_after profile servers events t.place y.leader) ≤ length (delivered_after profile servers events count server) = omega arith in
    record {
      place = t.place;
      before = within.0;
      asked = within.1 ∙ ap (λ n. Some (Sync n it.tag)) same;
      sent = t.sent;
      accepted = accepted;
      only = λ other number again is answered.
          taken_once profile (new_world servers) events it.tag other t.place number y.server again t.sent is answered within.1 accepted;
      epoch = y.epoch;
      history = t.stands.state.peer.stable.history;
      held = record {
        stands = t.stands;
        is = ap (λ (l : List (Event C)). server_at (run profile servers l).0.servers server) (sym first)
            ∙ (ap (λ n. server_at (run profile servers (take t.place (take count events))).0.servers n) (sym same) ∙ t.is);
        current = t.current;
        history_is = refl;
      };
      leader = y.leader;
      start = t.began.start;
      started = subst (λ n. Started profile servers events n y.epoch t.began.start) t.leader_is (started y.epoch t.began t.began_is);
      no_more = no_more;
      delivered = reached;
      front = shorter_front (delivered_after profile servers events t.place y.leader) (delivered_after profile servers events count server)
          (agrees.one_order t.place count y.leader server) all;
    }

-- an epoch that began, of a run
begun_moment : {C : Type 0} (profile : Profile C) (servers : ℕ) (events : List (Event C)) (t : Through profile laws.start nothing_taken (new_world servers) events) (epoch : ℕ) (began : laws.Began Entry) → t.last.began epoch ≡ Some began → Started profile servers events began.leader epoch began.start
begun_moment profile servers events t epoch began is = elim (t.begun epoch began is) [ inl first ↦ absurd (let no : None ≡ Some began = first in cc) | inr at ↦ at ]

-- a sync completed within `n` events was accepted at one of them
pub are_caught : {C : Type 0} (profile : Profile C) → CarriesZxid profile.setting → IsQuorumSystem profile.setting.passes → (servers : ℕ) (events : List (Event C)) → AreCaught profile servers events
are_caught {C} profile law system servers events count server it has =
    let few : List (Event C) = take count events in
    let w : World C = new_world servers in
    let t = taken_through profile law (shares_of profile.setting.passes system) laws.start nothing_taken w few (new_world_stands (laws_of profile.setting.passes) servers)
    (new_world_knows laws.start servers) (λ tag y is. never y is) in
    let answered : AreAnswered t.later (after profile w few) server =
    subst (λ (l : List (Event C)). AreAnswered t.later (after profile w l) server) (take-length few) (t.answered (length few) server) in
    let y = all_get (IsAnswered t.later server (length (delivered_of (after profile w few) server))) (syncs_of (after profile w few) server) has.0 it answered
    (slice_get-get_or (syncs_of (after profile w few) server) has.0 it has.1 ∙ ap Some has.2) in
    elim (t.taken it.tag y.it y.is) [
      | inl none ↦ never y.it none
      | inr taken ↦ caught_of profile servers events t.last count server it y.it (runs_agree profile law system servers events)
          (λ epoch began is. started_within profile servers events count began.leader epoch began.start (begun_moment profile servers few t epoch began is))
          y.server_is y.low y.reached taken
    ]
