-- What is known over a whole run.
use Rattle.std.proofs.Common.{◌≡◌, ◌≢◌, ℕ, suc, zero, ◌-◌, ◌<◌, ◌⊎◌, inl, inr, Bool, true, List, [], ◌∷◌, ◌++◌, length, take, Option, Some, None, refl, sym, ap, subst, ◌∙◌, arith, slice_get, lit≤}
use Rattle.zab_epoch.specs.declared.history.Entry.{Entry}
use Rattle.zab_epoch.specs.declared.role.Role.TheVariants.{Sync}
use Rattle.zab_epoch.specs.Quorums.{IsQuorumSystem}
use Rattle.zab_laws.specs.Prefixes.{IsPrefix}
use Rattle.zab_laws.specs.Cores as laws
use Rattle.zab_laws.proofs.PrefixLaws.{prefix_refl, prefix_trans}
use Rattle.zab_laws.proofs.Keeping.{grows_refl, grows_trans, told_grows, holds_self, holds_grows}
use Rattle.zab_laws.proofs.Extending.{kept_start}
use Rattle.zab_rule_laws.specs.Told.{laws_of, Syncs, RoleFact, Stands}
use Rattle.zab_rule_laws.proofs.Growing.{of_leader_grows}
use Rattle.zab_rule_laws.proofs.Hearing.{CarriesZxid}
use Rattle.zab_model.specs.declared.event.Event.{Event}
use Rattle.zab_model.specs.declared.event.Event.TheVariants.{Crash}
use Rattle.zab_model.specs.ProcessStates.{ProcessState, new_server, new_servers}
use Rattle.zab_model.specs.Worlds.{World, Profile, new_world, server_at, happens}
use Rattle.zab_model.specs.Runs.{after, delivered_list, delivered_of, history_list, history_of}
use Rattle.zab_agreement_laws.specs.Moments.{Holds, Synchronizes}
use Rattle.zab_model.proofs.ServerLists.{found}
use Rattle.zab_agreement_laws.proofs.AgreeEvents.{IsNumbered, WorldStands, happens_keeps}

-- ---- what is delivered and held

abbrev pub IsTold : laws.Setting Entry → laws.Ghost Entry → List Entry → Type 0
IsTold k g list = (current : ℕ) × ((list ≡ []) ⊎ laws.Delivered k g current list)

pub record IsHeldSomewhere (g : laws.Ghost Entry) (list : List Entry) : Type 0 where
  pub server : ℕ
  pub epoch : ℕ
  pub longest : List Entry
  pub is : g.held server epoch ≡ Some longest
  pub within : IsPrefix list longest

abbrev pub IsHeld : laws.Ghost Entry → List Entry → Type 0
IsHeld g list = (list ≡ []) ⊎ IsHeldSomewhere g list

told_later : (k : laws.Setting Entry) (g y : laws.Ghost Entry) (list : List Entry) → laws.Grows g y → IsTold k g list → IsTold k y list
told_later k g y list grows t = (t.0, told_grows k g y grows t.0 list t.1)

held_later : (g y : laws.Ghost Entry) (list : List Entry) → laws.Grows g y → IsHeld g list → IsHeld y list
held_later g y list grows (inl none) = inl none
held_later g y list grows (inr h) =
    let q = grows.held h.server h.epoch h.longest h.is in
    inr (record { server = h.server; epoch = h.epoch; longest = q.history; is = q.is; within = prefix_trans list h.longest q.history h.within q.begins })

told_by : (k : laws.Setting Entry) (g : laws.Ghost Entry) (n : ℕ) (o : Option ProcessState) → ((it : ProcessState) → o ≡ Some it → IsNumbered k g n it.state) → IsTold k g (delivered_list o)
told_by k g n None f = (0, inl refl)
told_by k g n (Some it) f = (it.state.peer.stable.current, (f it refl).stands.kept.sound.told)

held_by : (k : laws.Setting Entry) (g : laws.Ghost Entry) (n : ℕ) (o : Option ProcessState) → ((it : ProcessState) → o ≡ Some it → IsNumbered k g n it.state) → IsHeld g (history_list o)
held_by k g n None f = inl refl
held_by k g n (Some it) f = inr (record {
  server = it.state.peer.me;
  epoch = it.state.peer.stable.current;
  longest = it.state.peer.stable.history;
  is = (f it refl).stands.kept.sound.held_now;
  within = prefix_refl it.state.peer.stable.history;
})

pub told_in : {C : Type 0} (k : laws.Setting Entry) (g : laws.Ghost Entry) (w : World C) (n : ℕ) → WorldStands k g w → IsTold k g (delivered_of w n)
told_in k g w n f = told_by k g n (server_at w.servers n) (λ it is. f.servers n it is)

pub held_in : {C : Type 0} (k : laws.Setting Entry) (g : laws.Ghost Entry) (w : World C) (n : ℕ) → WorldStands k g w → IsHeld g (history_of w n)
held_in k g w n f = held_by k g n (server_at w.servers n) (λ it is. f.servers n it is)

-- ---- what servers hold is in the books

-- an epoch that this leader began with this history
pub record IsBegun (g : laws.Ghost Entry) (leader epoch : ℕ) (start : List Entry) : Type 0 where
  pub began : laws.Began Entry
  pub is : g.began epoch ≡ Some began
  pub leader_is : began.leader ≡ leader
  pub start_is : began.start ≡ start

pub record IsWritten (g : laws.Ghost Entry) (servers : List ProcessState) : Type 0 where
  pub held : (n : ℕ) (it : ProcessState) → server_at servers n ≡ Some it → laws.Holds g n it.state.peer.stable.current it.state.peer.stable.history
  pub of_leader : (n : ℕ) (it : ProcessState) → server_at servers n ≡ Some it → 0 < it.state.peer.stable.current → laws.IsOfLeader g it.state.peer.stable.current it.state.peer.stable.history
  pub began : (n : ℕ) (it : ProcessState) → server_at servers n ≡ Some it → it.state.peer.role ≡ Sync → IsBegun g n it.state.peer.stable.current it.state.peer.stable.history

written_in : {C : Type 0} (k : laws.Setting Entry) (g : laws.Ghost Entry) (w : World C) → WorldStands k g w → IsWritten g w.servers
written_in k g w f = record {
  held = λ n it is. holds_self g n it.state.peer.stable.current it.state.peer.stable.history (now n it is);
  of_leader = λ n it is above. f.facts.of_leader n it.state.peer.stable.current it.state.peer.stable.history (now n it is) above;
  began = λ n it is sync.
      (let s = f.servers n it is in
      let y : Syncs g it.state = subst (RoleFact k g it.state) sync s.stands.role in
      record { began = y.leads.began; is = y.leads.is; leader_is = y.leads.leader ∙ s.me; start_is = sym y.history });
}
  where
    now : (n : ℕ) (it : ProcessState) → server_at w.servers n ≡ Some it → g.held n it.state.peer.stable.current ≡ Some it.state.peer.stable.history
    now n it is =
        let s = f.servers n it is in
        subst (λ m. g.held m it.state.peer.stable.current ≡ Some it.state.peer.stable.history) s.me s.stands.kept.sound.held_now

written_later : (g y : laws.Ghost Entry) (servers : List ProcessState) → laws.Grows g y → IsWritten g servers → IsWritten y servers
written_later g y servers grows f = record {
  held = λ n it is. holds_grows g y grows n it.state.peer.stable.current it.state.peer.stable.history (f.held n it is);
  of_leader = λ n it is above. of_leader_grows g y grows it.state.peer.stable.current it.state.peer.stable.history (f.of_leader n it is above);
  began = λ n it is sync.
      (let b = f.began n it is sync in
      record { began = b.began; is = grows.began it.state.peer.stable.current b.began b.is; leader_is = b.leader_is; start_is = b.start_is });
}

-- ---- runs

pub record Through {C : Type 0} (k : laws.Setting Entry) (profile : Profile C) (g : laws.Ghost Entry) (w : World C) (events : List (Event C)) : Type 0 where
  pub last : laws.Ghost Entry
  pub grows : laws.Grows g last
  pub facts : laws.AreFacts k last
  pub stands : WorldStands k last (after profile w events)
  pub told : (count n : ℕ) → IsTold k last (delivered_of (after profile w (take count events)) n)
  pub held : (count n : ℕ) → IsHeld last (history_of (after profile w (take count events)) n)
  pub written : (count : ℕ) → IsWritten last (after profile w (take count events)).servers
  -- what is in the books was had at some moment
  pub kept : (n epoch : ℕ) (h : List Entry) → last.held n epoch ≡ Some h → (g.held n epoch ≡ Some h) ⊎ ((count : ℕ) × Holds (after profile w (take count events)).servers n epoch h)
  pub begun : (epoch : ℕ) (b : laws.Began Entry) → last.began epoch ≡ Some b → (g.began epoch ≡ Some b) ⊎ ((count : ℕ) × Synchronizes (after profile w (take count events)).servers b.leader epoch b.start)
  pub more : (count n : ℕ) (event : Event C) → slice_get events count ≡ Some event → event ≢ Crash n → IsPrefix (delivered_of (after profile w (take count events)) n) (delivered_of (after profile w (take (suc count) events)) n)

at_once : {C : Type 0} (profile : Profile C) (P : World C → Type 0) (w : World C) (count : ℕ) → P w → P (after profile w (take count []))
at_once profile P w zero p = p
at_once profile P w (suc count) p = p

later : {C : Type 0} (profile : Profile C) (P : World C → Type 0) (w : World C) (event : Event C) (events : List (Event C)) (count : ℕ) → P w → ((count : ℕ) → P (after profile (happens profile w event).0 (take count events))) → P (after profile w (take count (event ∷ events)))
later profile P w event events zero now rest = now
later profile P w event events (suc count) now rest = rest count

same_event : {C : Type 0} (x y : Event C) → (let o : Option (Event C) = Some x in o ≡ Some y) → x ≡ y
same_event x y e = cc

more_later : {C : Type 0} (profile : Profile C) (w : World C) (first : Event C) (events : List (Event C)) (count n : ℕ) (event : Event C) → (first ≢ Crash n → IsPrefix (delivered_of w n) (delivered_of (happens profile w first).0 n)) → ((count : ℕ) → slice_get events count ≡ Some event → event ≢ Crash n → IsPrefix (delivered_of (after profile (happens profile w first).0 (take count events)) n) (delivered_of (after profile (happens profile w first).0 (take (suc count) events)) n)) → slice_get (first ∷ events) count ≡ Some event → event ≢ Crash n → IsPrefix (delivered_of (after profile w (take count (first ∷ events))) n) (delivered_of (after profile w (take (suc count) (first ∷ events))) n)
more_later profile w first events zero n event now rest is spared = now (λ crash. spared (sym (same_event first event is) ∙ crash))
more_later profile w first events (suc count) n event now rest is spared = rest count is spared

pub through : {C : Type 0} (profile : Profile C) → CarriesZxid profile.setting → laws.Shares (laws_of profile.setting.passes) → (g : laws.Ghost Entry) (w : World C) (events : List (Event C)) → WorldStands (laws_of profile.setting.passes) g w → Through (laws_of profile.setting.passes) profile g w events
through profile law share g w [] f = record {
  last = g;
  grows = grows_refl g;
  facts = f.facts;
  stands = f;
  told = λ count n. at_once profile (λ v. IsTold (laws_of profile.setting.passes) g (delivered_of v n)) w count (told_in (laws_of profile.setting.passes) g w n f);
  held = λ count n. at_once profile (λ v. IsHeld g (history_of v n)) w count (held_in (laws_of profile.setting.passes) g w n f);
  more = λ count n event is spared. absurd cc;
  written = λ count. at_once profile (λ v. IsWritten g v.servers) w count (written_in (laws_of profile.setting.passes) g w f);
  kept = λ n epoch h is. inl is;
  begun = λ epoch b is. inl is;
}
through profile law share g w (event ∷ events) f =
    let s = happens_keeps profile law share g w event f in
    let t = through profile law share s.after (happens profile w event).0 events s.stands in
    let grows = grows_trans g s.after t.last s.grows t.grows in
    record {
      last = t.last;
      grows = grows;
      facts = t.facts;
      stands = t.stands;
      told = λ count n. later profile (λ v. IsTold (laws_of profile.setting.passes) t.last (delivered_of v n)) w event events count
          (told_later (laws_of profile.setting.passes) g t.last (delivered_of w n) grows (told_in (laws_of profile.setting.passes) g w n f)) (λ c. t.told c n);
      held = λ count n. later profile (λ v. IsHeld t.last (history_of v n)) w event events count
          (held_later g t.last (history_of w n) grows (held_in (laws_of profile.setting.passes) g w n f)) (λ c. t.held c n);
      written = λ count. later profile (λ v. IsWritten t.last v.servers) w event events count
          (written_later g t.last w.servers grows (written_in (laws_of profile.setting.passes) g w f)) (λ c. t.written c);
      kept = λ n epoch h is. elim (t.kept n epoch h is) [
        | inl was ↦ elim (s.writes.held n epoch h was) [ inl old ↦ inl old | inr now ↦ inr (suc zero, now) ]
        | inr at ↦ inr (suc at.0, at.1)
      ];
      begun = λ epoch b is. elim (t.begun epoch b is) [
        | inl was ↦ elim (s.writes.began epoch b was) [ inl old ↦ inl old | inr now ↦ inr (suc zero, now) ]
        | inr at ↦ inr (suc at.0, at.1)
      ];
      more = λ count n e is spared. more_later profile w event events count n e (λ other. s.more n other) (λ c here still. t.more c n e here still) is spared;
    }

-- ---- a new world

record IsNew (k : laws.Setting Entry) (n : ℕ) (it : ProcessState) : Type 0 where
  pub me : it.state.peer.me ≡ n
  pub stands : 0 < n → Stands k laws.start it.state

new_stands : (k : laws.Setting Entry) (servers n : ℕ) → IsNew k n (new_server servers n)
new_stands k servers n = record {
  me = refl;
  stands = λ above. record { kept = kept_start k n; role = tt; within = lit≤ tt; above = above };
}

get_last : {A : Type 0} (xs : List A) (x y : A) (i : ℕ) → slice_get (xs ++ x ∷ []) i ≡ Some y → (slice_get xs i ≡ Some y) ⊎ ((i ≡ length xs) × (x ≡ y))
get_last [] x y zero e = inr (refl, (let f : Some x ≡ Some y = e in cc))
get_last [] x y (suc i) e = absurd cc
get_last (z ∷ xs) x y zero e = inl e
get_last (z ∷ xs) x y (suc i) e = elim (get_last xs x y i e) [
  | inl in_front ↦ inl in_front
  | inr here ↦ inr (ap suc here.0, here.1)
]

length_push : {A : Type 0} (xs : List A) (x : A) → length (xs ++ x ∷ []) ≡ suc (length xs)
length_push [] x = refl
length_push (z ∷ xs) x = ap suc (length_push xs x)

length_new : (servers more : ℕ) → length (new_servers servers more) ≡ more
length_new servers zero = refl
length_new servers (suc more) = length_push (new_servers servers more) (new_server servers (suc more)) ∙ ap suc (length_new servers more)

new_at : (k : laws.Setting Entry) (servers more i : ℕ) (it : ProcessState) → slice_get (new_servers servers more) i ≡ Some it → IsNew k (suc i) it
new_at k servers zero i it e = absurd cc
new_at k servers (suc more) i it e = elim (get_last (new_servers servers more) (new_server servers (suc more)) it i e) [
  | inl in_front ↦ new_at k servers more i it in_front
  | inr here ↦
      (let at : suc i ≡ suc more = ap suc (here.0 ∙ length_new servers more) in
      subst (λ n. IsNew k n it) (sym at) (subst (IsNew k (suc more)) here.1 (new_stands k servers (suc more))))
]

pub new_world_stands : {C : Type 0} (k : laws.Setting Entry) (servers : ℕ) → WorldStands {C = C} k laws.start (new_world servers)
new_world_stands k servers = record {
  facts = (kept_start k 0).facts;
  servers = λ n it is.
      (let place = found (new_servers servers servers) n it is in
      let low : 0 < n = place.above in
      let at : suc (n - 1) ≡ n = omega arith in
      let new = subst (λ m. IsNew k m it) at (new_at k servers servers (n - 1) it place.get) in
      record { me = new.me; stands = new.stands low });
  messages = tt;
}

-- two quorums share a server
pub shares_of : (passes : List Bool → Bool) → IsQuorumSystem passes → laws.Shares (laws_of passes)
shares_of passes system a b p q =
    let s = system a b p q in
    let one : suc s.0 - 1 ≡ s.0 = omega arith in (
      suc s.0,
      (omega arith, subst (λ i. slice_get a i ≡ Some true) (sym one) s.1),
      (omega arith, subst (λ i. slice_get b i ≡ Some true) (sym one) s.2),
    )

-- ---- runs of new worlds

abbrev pub Whole : {C : Type 0} → Profile C → ℕ → List (Event C) → Type 0
Whole profile servers events = Through (laws_of profile.setting.passes) profile laws.start (new_world servers) events

pub whole : {C : Type 0} (profile : Profile C) → CarriesZxid profile.setting → IsQuorumSystem profile.setting.passes → (servers : ℕ) (events : List (Event C)) → Whole profile servers events
whole profile law system servers events =
    through profile law (shares_of profile.setting.passes system) laws.start (new_world servers) events (new_world_stands (laws_of profile.setting.passes) servers)
