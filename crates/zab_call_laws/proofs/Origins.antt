-- Runs: a tag belongs to one entry, and each entry comes from an accepted call.
use Rattle.std.proofs.Common.{◌≡◌, ℕ, ℤ, suc, zero, ◌⊎◌, inl, inr, List, [], ◌∷◌, ◌++◌, length, take, Option, Some, None, Ok, refl, sym, ap, subst, ◌∙◌}
use Rattle.std.proofs.Math.Seq.{take-length}
use Rattle.std.proofs.lemmas.Option.{slice_get-get_or}
use Rattle.std.specs.List.{Contains}
use Rattle.zab_epoch.specs.declared.history.Entry.{Entry}
use Rattle.zab_epoch.specs.Quorums.{IsQuorumSystem}
use Rattle.zab_laws.specs.Prefixes.{IsPrefix}
use Rattle.zab_laws.proofs.PrefixLaws.{prefix_refl}
use Rattle.zab_rule_laws.proofs.Hearing.{CarriesZxid}
use Rattle.zab_rule_laws.proofs.TagFacts.{Owners, nobody, IsOwned, AreOwned, ServerFact, Grows, grows_refl, grows_trans, owned_grows, same_some, all_get}
use Rattle.zab_rule_laws.proofs.TagCalls.{CarriesTag}
use Rattle.zab_model.specs.declared.event.Event.{Event}
use Rattle.zab_model.specs.declared.event.Moved.{Moved}
use Rattle.zab_model.specs.ProcessStates.{ProcessState}
use Rattle.zab_model.specs.Worlds.{World, Profile, new_world, server_at, happens}
use Rattle.zab_model.specs.Runs.{after, run, history_list, history_of, history_after}
use Rattle.zab_agreement_laws.specs.Agreement.{Agrees}
use Rattle.zab_agreement_laws.specs.Laws.{IsTaggedOnce}
use Rattle.zab_agreement_laws.specs.Origins.{call_of, IsAccepted, IsOrigin, ComeFromCalls}
use Rattle.zab_agreement_laws.proofs.AgreeRuns.{runs_agree}
use Rattle.zab_call_laws.proofs.Accepting.{IsAcceptedFrom, accepted_once}
use Rattle.zab_call_laws.proofs.TagRuns.{WorldFact, IsAsked, IsMadeIn, IsKnown, Keeps, happens_keeps, no_one, new_world_fact}

-- ---- histories

history_by : {C : Type 0} (g : Owners C) (n : ℕ) (o : Option ProcessState) → ((it : ProcessState) → o ≡ Some it → ServerFact g n it.state) → AreOwned g (history_list o)
history_by g n None f = tt
history_by g n (Some it) f = (f it refl).owned

history_fact : {C : Type 0} (tag : C → ℕ) (g : Owners C) (w : World C) (n : ℕ) → WorldFact tag g w → AreOwned g (history_of w n)
history_fact tag g w n f = history_by g n (server_at w.servers n) (λ it is. f.servers n it is)

-- ---- runs from a world on

-- a call that was sent before, or is accepted
abbrev IsKnownFrom : {C : Type 0} → Profile C → Owners C → World C → List (Event C) → C → Type 0
IsKnownFrom profile g w events call = IsAsked profile.setting.tag g call ⊎ IsAcceptedFrom profile w events call

record IsMadeFrom {C : Type 0} (profile : Profile C) (g : Owners C) (w : World C) (events : List (Event C)) (x : Entry) : Type 0 where
  pub count : ℕ
  pub server : ℕ
  pub before : List Entry
  pub call : C
  pub zxid : ℤ
  pub known : IsKnownFrom profile g w events call
  pub made : x ≡ profile.setting.made before call zxid
  pub held : history_of (after profile w (take count events)) server ≡ before ++ x ∷ []

-- one owner for all entries ever held, and each was there before or is made of a call
record IsOwnedThrough {C : Type 0} (profile : Profile C) (g : Owners C) (w : World C) (events : List (Event C)) : Type 0 where
  pub last : Owners C
  pub grows : Grows g last
  pub held : (count n : ℕ) → AreOwned last (history_of (after profile w (take count events)) n)
  pub made : (tag : ℕ) (x : Entry) → last.owner tag ≡ Some x → (g.owner tag ≡ Some x) ⊎ IsMadeFrom profile g w events x

-- ---- the first event

accepted_now : {C : Type 0} (profile : Profile C) (w : World C) (event : Event C) (events : List (Event C)) (call : C) (sent : Moved) → call_of profile event ≡ Some call → (happens profile w event).1 ≡ Ok sent → IsAcceptedFrom profile w (event ∷ events) call
accepted_now profile w event events call sent submitted answered = record {
  place = zero;
  event = event;
  happened = refl;
  submitted = submitted;
  sent = sent;
  answered = ap Some answered;
}

known_now : {C : Type 0} (profile : Profile C) (g : Owners C) (w : World C) (event : Event C) (events : List (Event C)) (call : C) → IsKnown profile.setting g (call_of profile event) (happens profile w event).1 call → IsKnownFrom profile g w (event ∷ events) call
known_now profile g w event events call (inl asked) = inl asked
known_now profile g w event events call (inr is) = inr (accepted_now profile w event events call is.1.0 is.0 is.1.1)

made_now : {C : Type 0} (profile : Profile C) (g : Owners C) (w : World C) (event : Event C) (events : List (Event C)) (x : Entry) → IsMadeIn profile.setting (IsKnown profile.setting g (call_of profile event) (happens profile w event).1) (happens profile w event).0 x → IsMadeFrom profile g w (event ∷ events) x
made_now profile g w event events x m = record {
  count = suc zero;
  server = m.server;
  before = m.before;
  call = m.call;
  zxid = m.zxid;
  known = known_now profile g w event events m.call m.known;
  made = m.made;
  held = m.held;
}

-- ---- later events

asked_later : {C : Type 0} (profile : Profile C) (g : Owners C) (w : World C) (event : Event C) (events : List (Event C)) (k : Keeps profile.setting g (call_of profile event) (happens profile w event)) (call : C) → IsAsked profile.setting.tag k.after call → IsKnownFrom profile g w (event ∷ events) call
asked_later profile g w event events k call a = elim (k.adds.asked (profile.setting.tag call) (a.leader, a.epoch, call) a.is) [
  | inl old ↦ inl (record { leader = a.leader; epoch = a.epoch; is = old })
  | inr known ↦ known_now profile g w event events call known
]

accepted_later : {C : Type 0} (profile : Profile C) (w : World C) (event : Event C) (events : List (Event C)) (call : C) → IsAcceptedFrom profile (happens profile w event).0 events call → IsAcceptedFrom profile w (event ∷ events) call
accepted_later profile w event events call a = record {
  place = suc a.place;
  event = a.event;
  happened = a.happened;
  submitted = a.submitted;
  sent = a.sent;
  answered = a.answered;
}

known_later : {C : Type 0} (profile : Profile C) (g : Owners C) (w : World C) (event : Event C) (events : List (Event C)) (k : Keeps profile.setting g (call_of profile event) (happens profile w event)) (call : C) → IsKnownFrom profile k.after (happens profile w event).0 events call → IsKnownFrom profile g w (event ∷ events) call
known_later profile g w event events k call (inl asked) = asked_later profile g w event events k call asked
known_later profile g w event events k call (inr accepted) = inr (accepted_later profile w event events call accepted)

made_later : {C : Type 0} (profile : Profile C) (g : Owners C) (w : World C) (event : Event C) (events : List (Event C)) (k : Keeps profile.setting g (call_of profile event) (happens profile w event)) (x : Entry) → IsMadeFrom profile k.after (happens profile w event).0 events x → IsMadeFrom profile g w (event ∷ events) x
made_later profile g w event events k x m = record {
  count = suc m.count;
  server = m.server;
  before = m.before;
  call = m.call;
  zxid = m.zxid;
  known = known_later profile g w event events k m.call m.known;
  made = m.made;
  held = m.held;
}

owned_at_once : {C : Type 0} (profile : Profile C) (g : Owners C) (w : World C) (count n : ℕ) → WorldFact profile.setting.tag g w → AreOwned g (history_of (after profile w (take count [])) n)
owned_at_once profile g w zero n f = history_fact profile.setting.tag g w n f
owned_at_once profile g w (suc count) n f = history_fact profile.setting.tag g w n f

owned_later : {C : Type 0} (profile : Profile C) (g last : Owners C) (w : World C) (event : Event C) (events : List (Event C)) (count n : ℕ) → WorldFact profile.setting.tag g w → Grows g last → ((count n : ℕ) → AreOwned last (history_of (after profile (happens profile w event).0 (take count events)) n)) → AreOwned last (history_of (after profile w (take count (event ∷ events))) n)
owned_later profile g last w event events zero n f grows held = owned_grows g last (history_of w n) grows (history_fact profile.setting.tag g w n f)
owned_later profile g last w event events (suc count) n f grows held = held count n

owned_through : {C : Type 0} (profile : Profile C) → CarriesTag profile.setting → (g : Owners C) (w : World C) (events : List (Event C)) → WorldFact profile.setting.tag g w → IsOwnedThrough profile g w events
owned_through profile law g w [] f = record {
  last = g;
  grows = grows_refl g;
  held = λ count n. owned_at_once profile g w count n f;
  made = λ tag x is. inl is;
}
owned_through profile law g w (event ∷ events) f =
    let k = happens_keeps profile law g w event f in
    let o = owned_through profile law k.after (happens profile w event).0 events k.fact in
    let grows = grows_trans g k.after o.last k.grows o.grows in
    record {
      last = o.last;
      grows = grows;
      held = λ count n. owned_later profile g o.last w event events count n f grows o.held;
      made = λ tag x is. elim (o.made tag x is) [
        | inl was ↦ elim (k.adds.owner tag x was) [ inl old ↦ inl old | inr now ↦ inr (made_now profile g w event events x now) ]
        | inr later ↦ inr (made_later profile g w event events k x later)
      ];
    }

-- ---- runs of new worlds

abbrev Whole : {C : Type 0} → Profile C → ℕ → List (Event C) → Type 0
Whole {C} profile servers events = IsOwnedThrough profile (nobody C) (new_world servers) events

whole : {C : Type 0} (profile : Profile C) → CarriesTag profile.setting → (servers : ℕ) (events : List (Event C)) → Whole profile servers events
whole {C} profile law servers events =
    owned_through profile law (nobody C) (new_world servers) events (new_world_fact profile.setting.tag servers)

owned_of : {C : Type 0} (g : Owners C) (entries : List Entry) (entry : Entry) → AreOwned g entries → Contains entries entry → IsOwned g entry
owned_of g entries entry f has = all_get (IsOwned g) entries has.0 entry f (slice_get-get_or entries has.0 entry has.1 ∙ ap Some has.2)

pub tagged_once : {C : Type 0} (profile : Profile C) → CarriesTag profile.setting → (servers : ℕ) (events : List (Event C)) → IsTaggedOnce profile servers events
tagged_once profile law servers events one_count other_count one other x y has_x has_y same =
    let o = whole profile law servers events in
    let is_x = owned_of o.last (history_after profile servers events one_count one) x (o.held one_count one) has_x in
    let is_y = owned_of o.last (history_after profile servers events other_count other) y (o.held other_count other) has_y in
    same_some x y (sym is_x ∙ (ap o.last.owner same ∙ is_y))

-- ---- origins

last_owned : {C : Type 0} (g : Owners C) (before rest : List Entry) (x : Entry) → AreOwned g ((before ++ x ∷ []) ++ rest) → IsOwned g x
last_owned g [] rest x f = f.0
last_owned g (y ∷ before) rest x f = last_owned g before rest x f.1

never_empty : {A : Type 0} (xs : List A) (x : A) → [] ≡ xs ++ x ∷ [] → ⊥
never_empty [] x e = cc
never_empty (y ∷ xs) x e = cc

same_front : {A : Type 0} (xs ys : List A) (x : A) → xs ++ x ∷ [] ≡ ys ++ x ∷ [] → xs ≡ ys
same_front [] [] x e = refl
same_front [] (y ∷ ys) x e = absurd (never_empty ys x (let t : [] ≡ ys ++ x ∷ [] = cc in t))
same_front (z ∷ xs) [] x e = absurd (never_empty xs x (let t : [] ≡ xs ++ x ∷ [] = cc in t))
same_front (z ∷ xs) (y ∷ ys) x e =
    let head : z ≡ y = cc in
    let tails : xs ++ x ∷ [] ≡ ys ++ x ∷ [] = cc in
    ap (λ (a : _). a ∷ xs) head ∙ ap (λ (l : List _). y ∷ l) (same_front xs ys x tails)

accepted_of : {C : Type 0} (profile : Profile C) (servers : ℕ) (events : List (Event C)) (call : C) → IsKnownFrom profile (nobody C) (new_world servers) events call → IsAccepted profile servers events call
accepted_of {C} profile servers events call (inl asked) = absurd (no_one (asked.leader, asked.epoch, call) asked.is)
accepted_of profile servers events call (inr a) = record {
  place = a.place;
  event = a.event;
  happened = a.happened;
  submitted = a.submitted;
  sent = a.sent;
  answered = a.answered;
}

-- the same from a new world on
abbrev accepted_from : {C : Type 0} (profile : Profile C) (servers : ℕ) (events : List (Event C)) (call : C) → IsAccepted profile servers events call → IsAcceptedFrom profile (new_world servers) events call
accepted_from profile servers events call a = record {
  place = a.place;
  event = a.event;
  happened = a.happened;
  submitted = a.submitted;
  sent = a.sent;
  answered = a.answered;
}

one_place : {C : Type 0} (profile : Profile C) (servers : ℕ) (events : List (Event C)) (call other : C) → profile.setting.tag other ≡ profile.setting.tag call → (again : IsAccepted profile servers events other) (accepted : IsAccepted profile servers events call) → again.place ≡ accepted.place
one_place profile servers events call other same again accepted =
    accepted_once profile (new_world servers) events other call same
    (accepted_from profile servers events other again) (accepted_from profile servers events call accepted)

-- of an entry that is in some history at the end
origin_of : {C : Type 0} (profile : Profile C) → CarriesTag profile.setting → CarriesZxid profile.setting → (servers : ℕ) (events : List (Event C)) → Agrees profile servers events → (server : ℕ) (before : List Entry) (x : Entry) → IsPrefix (before ++ x ∷ []) (history_of (run profile servers events).0 server) → IsMadeFrom profile (nobody C) (new_world servers) events x → (call : C) × IsOrigin profile servers events before x call
origin_of {C} profile carries_tag carries_zxid servers events agrees server before x within m =
    let w : World C = new_world servers in
    let now : IsPrefix (before ++ x ∷ []) (history_after profile servers events (length events) server) =
    subst (λ (l : List (Event C)). IsPrefix (before ++ x ∷ []) (history_of (run profile servers l).0 server)) (sym (take-length events)) within in
    let then : IsPrefix (m.before ++ x ∷ []) (history_after profile servers events m.count m.server) =
    subst (λ (h : List Entry). IsPrefix (m.before ++ x ∷ []) h) (sym m.held) (prefix_refl (m.before ++ x ∷ [])) in
    let same : before ≡ m.before =
    same_front before m.before x (agrees.one_zxid (length events) m.count server m.server before m.before x x now then refl) in
    let zxid : x.txn.zxid ≡ m.zxid = ap (λ (e : Entry). e.txn.zxid) m.made ∙ carries_zxid m.before m.call m.zxid in
    let tag : profile.setting.tag m.call ≡ x.tag = sym (ap (λ (e : Entry). e.tag) m.made ∙ carries_tag m.before m.call m.zxid) in
    let accepted = accepted_of profile servers events m.call m.known in (
      m.call,
      record {
        accepted = accepted;
        tag = tag;
        only = λ other again is. one_place profile servers events m.call other (is ∙ sym tag) again accepted;
        made = m.made
            ∙ (ap (λ (h : List Entry). profile.setting.made h m.call m.zxid) (sym same) ∙ ap (profile.setting.made before m.call) (sym zxid));
      },
    )

pub come_from_calls : {C : Type 0} (profile : Profile C) → CarriesTag profile.setting → CarriesZxid profile.setting → IsQuorumSystem profile.setting.passes → (servers : ℕ) (events : List (Event C)) → ComeFromCalls profile servers events
come_from_calls {C} profile carries_tag carries_zxid system servers events count server before x within =
    let told : List (Event C) = take count events in
    let o = whole profile carries_tag servers told in
    let held : AreOwned o.last (history_after profile servers events count server) =
    subst (λ (l : List (Event C)). AreOwned o.last (history_of (run profile servers l).0 server)) (take-length told) (o.held (length told) server) in
    let is : IsOwned o.last x = last_owned o.last before within.rest x (subst (AreOwned o.last) (sym within.is) held) in
    elim (o.made x.tag x is) [
      | inl never ↦ absurd (no_one x never)
      | inr m ↦ origin_of profile carries_tag carries_zxid servers told (runs_agree profile carries_zxid system servers told) server before x within m
    ]
