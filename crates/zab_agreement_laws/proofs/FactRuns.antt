-- The facts of every run on which agreement stands.
use Rattle.std.proofs.Common.{◌≡◌, ℕ, zero, suc, ◌+◌, ◌*◌, ◌^◌, ◌<◌, ◌≤◌, ◌==◌, ℤ, pos, inl, inr, cond, List, [], ◌∷◌, ◌++◌, length, take, Option, Some, None, refl, sym, ap, subst, ◌∙◌, arith, length-append}
use Rattle.std.proofs.lemmas.Int.{ints}
use Rattle.zab_epoch.specs.declared.history.Entry.{Entry}
use Rattle.zab_epoch.specs.Quorums.{IsQuorumSystem}
use Rattle.zab_laws.specs.Prefixes.{IsPrefix}
use Rattle.zab_laws.specs.Cores as laws
use Rattle.zab_laws.proofs.PrefixLaws.{prefix_nil, prefix_trans, prefix_length, prefix_of_nil}
use Rattle.zab_laws.proofs.Updates.{eq_other}
use Rattle.zab_laws.proofs.Facts.{same_some, some_not_none, in_later}
use Rattle.zab_laws.proofs.Matching.{IsMadeIn, made_in}
use Rattle.zab_rule_laws.specs.Told.{laws_of}
use Rattle.zab_rule_laws.proofs.Hearing.{CarriesZxid}
use Rattle.zab_model.specs.declared.event.Event.{Event}
use Rattle.zab_model.specs.Worlds.{Profile, new_world}
use Rattle.zab_model.specs.Runs.{after, delivered_after, history_of}
use Rattle.zab_agreement_laws.specs.Moments.{Held, Started, IsAcknowledged}
use Rattle.zab_agreement_laws.specs.Facts.{OneLeaderAnEpoch, AcknowledgedLasts, IsOfEpoch, HistoriesBeginWithTheirEpoch, DeliveredWasAcknowledged, IsEntryOf, HasQuorum}
use Rattle.zab_agreement_laws.proofs.WholeRuns.{IsBegun, Whole, whole, shares_of, told_in, held_in}

-- ---- from the books to the run

none_held : (n epoch : ℕ) (h : List Entry) → 0 < epoch → (laws.start {X = Entry}).held n epoch ≡ Some h → ⊥
none_held n epoch h above is =
    some_not_none h (cond (epoch == 0) (Some []) None) is (ap (λ b. cond b (let o : Option (List Entry) = Some [] in o) None) (eq_other epoch 0 (λ none. omega arith)))

none_began : (epoch : ℕ) (b : laws.Began Entry) → (laws.start {X = Entry}).began epoch ≡ Some b → ⊥
none_began epoch b is = some_not_none b ((laws.start {X = Entry}).began epoch) is refl

-- what is in the books was held at some moment
moment : {C : Type 0} (profile : Profile C) (servers : ℕ) (events : List (Event C)) (t : Whole profile servers events) (n epoch : ℕ) (h : List Entry) → t.last.held n epoch ≡ Some h → 0 < epoch → Held profile servers events n epoch h
moment profile servers events t n epoch h is above = elim (t.kept n epoch h is) [ inl first ↦ absurd (none_held n epoch h above first) | inr at ↦ at ]

start_moment : {C : Type 0} (profile : Profile C) (servers : ℕ) (events : List (Event C)) (t : Whole profile servers events) (epoch : ℕ) (b : laws.Began Entry) → t.last.began epoch ≡ Some b → Started profile servers events b.leader epoch b.start
start_moment profile servers events t epoch b is = elim (t.begun epoch b is) [ inl first ↦ absurd (none_began epoch b first) | inr at ↦ at ]

acknowledged_of : {C : Type 0} (profile : Profile C) (servers : ℕ) (events : List (Event C)) (t : Whole profile servers events) (epoch : ℕ) (list : List Entry) → laws.IsChosen (laws_of profile.setting.passes) t.last epoch list → 0 < epoch → IsAcknowledged profile servers events epoch list
acknowledged_of profile servers events t epoch list chosen above = record {
  marks = chosen.marks;
  quorum = chosen.quorum;
  each = λ n m. (let h = chosen.each n m in record { history = h.history; held = moment profile servers events t n epoch h.history h.is above; begins = h.begins });
}

-- ---- from the run to the books

held_of : {C : Type 0} (profile : Profile C) (servers : ℕ) (events : List (Event C)) (t : Whole profile servers events) (n epoch : ℕ) (h : List Entry) → Held profile servers events n epoch h → laws.Holds t.last n epoch h
held_of profile servers events t n epoch h at =
    let x = (t.written at.0).held n at.1.stands at.1.is in
    subst (λ e. laws.Holds t.last n e h) at.1.current (subst (λ l. laws.Holds t.last n at.1.stands.state.peer.stable.current l) at.1.history_is x)

of_leader_of : {C : Type 0} (profile : Profile C) (servers : ℕ) (events : List (Event C)) (t : Whole profile servers events) (n epoch : ℕ) (h : List Entry) → Held profile servers events n epoch h → 0 < epoch → laws.IsOfLeader t.last epoch h
of_leader_of profile servers events t n epoch h at above =
    let x = (t.written at.0).of_leader n at.1.stands at.1.is (subst (λ e. 0 < e) (sym at.1.current) above) in
    subst (λ e. laws.IsOfLeader t.last e h) at.1.current (subst (λ l. laws.IsOfLeader t.last at.1.stands.state.peer.stable.current l) at.1.history_is x)

begun_of : {C : Type 0} (profile : Profile C) (servers : ℕ) (events : List (Event C)) (t : Whole profile servers events) (leader epoch : ℕ) (start : List Entry) → Started profile servers events leader epoch start → IsBegun t.last leader epoch start
begun_of profile servers events t leader epoch start at =
    let h = at.1.holds in
    let x = (t.written at.0).began leader h.stands h.is at.1.role in
    subst (λ e. IsBegun t.last leader e start) h.current (subst (λ l. IsBegun t.last leader h.stands.state.peer.stable.current l) h.history_is x)

chosen_of : {C : Type 0} (profile : Profile C) (servers : ℕ) (events : List (Event C)) (t : Whole profile servers events) (epoch : ℕ) (list : List Entry) → IsAcknowledged profile servers events epoch list → laws.IsChosen (laws_of profile.setting.passes) t.last epoch list
chosen_of profile servers events t epoch list said = record {
  marks = said.marks;
  quorum = said.quorum;
  each = λ n m.
      (let a = said.each n m in
      let x = held_of profile servers events t n epoch a.history a.held in
      record { history = x.history; is = x.is; begins = prefix_trans list a.history x.history a.begins x.begins });
}

-- ---- the four facts

pub one_leader : {C : Type 0} (profile : Profile C) → CarriesZxid profile.setting → IsQuorumSystem profile.setting.passes → (servers : ℕ) (events : List (Event C)) → OneLeaderAnEpoch profile servers events
one_leader profile law system servers events epoch one other start another a b =
    let t = whole profile law system servers events in
    let x = begun_of profile servers events t one epoch start a in
    let y = begun_of profile servers events t other epoch another b in
    let same : x.began ≡ y.began = same_some x.began y.began (sym x.is ∙ y.is) in
    (sym x.leader_is ∙ ap (λ (d : laws.Began Entry). d.leader) same ∙ y.leader_is, sym x.start_is ∙ ap (λ (d : laws.Began Entry). d.start) same ∙ y.start_is)

-- a quorum has a server, and with epoch 0 it has held nothing
nothing_in_epoch_0 : {C : Type 0} (profile : Profile C) (servers : ℕ) (events : List (Event C)) (t : Whole profile servers events) → IsQuorumSystem profile.setting.passes → (list : List Entry) → laws.IsChosen (laws_of profile.setting.passes) t.last 0 list → list ≡ []
nothing_in_epoch_0 profile servers events t system list chosen =
    let both = shares_of profile.setting.passes system chosen.marks chosen.marks chosen.quorum chosen.quorum in
    let held = chosen.each both.0 both.1 in
    prefix_of_nil list (subst (IsPrefix list) (t.facts.held_first both.0 held.history held.is) held.begins)

lasts_from : {C : Type 0} (profile : Profile C) (servers : ℕ) (events : List (Event C)) (t : Whole profile servers events) → IsQuorumSystem profile.setting.passes → (epoch later : ℕ) (list : List Entry) (began : laws.Began Entry) → laws.IsChosen (laws_of profile.setting.passes) t.last epoch list → epoch < later → t.last.began later ≡ Some began → IsPrefix list began.start
lasts_from profile servers events t system zero later list began chosen less is =
    subst (λ l. IsPrefix l began.start) (sym (nothing_in_epoch_0 profile servers events t system list chosen)) (prefix_nil began.start)
lasts_from profile servers events t system (suc epoch) later list began chosen less is =
    in_later (laws_of profile.setting.passes) t.last (shares_of profile.setting.passes system) t.facts (suc later) (suc epoch) later list began (omega arith) chosen (omega arith) less is

pub acknowledged_lasts : {C : Type 0} (profile : Profile C) → CarriesZxid profile.setting → IsQuorumSystem profile.setting.passes → (servers : ℕ) (events : List (Event C)) → AcknowledgedLasts profile servers events
acknowledged_lasts profile law system servers events epoch later leader list start said less begun =
    let t = whole profile law system servers events in
    let b = begun_of profile servers events t leader later start begun in
    subst (IsPrefix list) b.start_is
    (lasts_from profile servers events t system epoch later list b.began (chosen_of profile servers events t epoch list said) less b.is)

-- a history of the epoch's leader, in the books, is one of the epoch
pub of_epoch : {C : Type 0} (profile : Profile C) (servers : ℕ) (events : List (Event C)) (t : Whole profile servers events) (epoch : ℕ) (history : List Entry) → laws.IsOfLeader t.last epoch history → 0 < epoch → IsOfEpoch profile servers events epoch history
of_epoch profile servers events t epoch history o above = record {
  leader = o.began.leader;
  start = o.began.start;
  started = start_moment profile servers events t epoch o.began o.is;
  starts = o.starts;
  longest = o.longest;
  held = moment profile servers events t o.began.leader epoch o.longest o.longest_is above;
  most = λ list held.
      (let x = held_of profile servers events t o.began.leader epoch list held in
      subst (IsPrefix list) (same_some x.history o.longest (sym x.is ∙ o.longest_is)) x.begins);
  within = o.within;
}

-- no epoch that began is 0
pub began_above : {C : Type 0} (profile : Profile C) (servers : ℕ) (events : List (Event C)) (t : Whole profile servers events) (epoch : ℕ) (began : laws.Began Entry) → t.last.began epoch ≡ Some began → 0 < epoch
began_above profile servers events t epoch began is =
    let elected = t.facts.elected epoch began is in
    t.facts.voted_above elected.winner epoch elected.best elected.best_is

pub begins_with_its_epoch : {C : Type 0} (profile : Profile C) → CarriesZxid profile.setting → IsQuorumSystem profile.setting.passes → (servers : ℕ) (events : List (Event C)) → HistoriesBeginWithTheirEpoch profile servers events
begins_with_its_epoch profile law system servers events server epoch history at above =
    let t = whole profile law system servers events in
    of_epoch profile servers events t epoch history (of_leader_of profile servers events t server epoch history at above) above

pub delivered_was_acknowledged : {C : Type 0} (profile : Profile C) → CarriesZxid profile.setting → IsQuorumSystem profile.setting.passes → (servers : ℕ) (events : List (Event C)) → DeliveredWasAcknowledged profile servers events
delivered_was_acknowledged profile law system servers events count server =
    let t = whole profile law system servers (take count events) in
    elim (told_in (laws_of profile.setting.passes) t.last (after profile (new_world servers) (take count events)) server t.stands).1 [
      | inl none ↦ inl none
      | inr d ↦ inr (d.epoch, d.above, acknowledged_of profile servers (take count events) t d.epoch (delivered_after profile servers events count server) d.chosen d.above)
    ]

-- ---- no entry of an epoch is made before a quorum has its start

same_epoch : (e f n m : ℕ) (z : ℤ) → z ≡ pos (e * 2 ^ 32 + (1 + n)) → z ≡ pos (f * 2 ^ 32 + m) → 1 + n < 2 ^ 32 → m < 2 ^ 32 → e ≡ f
same_epoch e f n m z p q a b = omega (arith, ints)

not_at_start : (start own before : List Entry) (x : Entry) → start ++ own ≡ start → IsPrefix (before ++ x ∷ []) own → ⊥
not_at_start start own before x none within =
    let low : length (before ++ x ∷ []) ≤ length own = prefix_length (before ++ x ∷ []) own within in
    let long : length (start ++ own) ≡ length start = ap length none in
    omega (arith, length-append start own, length-append before (x ∷ []))

quorum_of : {C : Type 0} (profile : Profile C) (servers : ℕ) (events : List (Event C)) (t : Whole profile servers events) (epoch : ℕ) (before : List Entry) (x : Entry) → IsMadeIn (laws_of profile.setting.passes) t.last before x → IsEntryOf epoch x → HasQuorum profile servers events epoch
quorum_of profile servers events t epoch before x m made =
    let above : 0 < m.epoch = began_above profile servers events t m.epoch m.began m.is in
    let chosen : laws.IsChosen (laws_of profile.setting.passes) t.last m.epoch m.began.start = elim (t.facts.start_chosen m.epoch m.began (m.began.start ++ m.own) m.is m.longest_is) [
      | inl none ↦ absurd (not_at_start m.began.start m.own m.beyond.before x none m.beyond.within)
      | inr c ↦ c
    ] in
    subst (HasQuorum profile servers events) (same_epoch m.epoch epoch m.number made.0 x.txn.zxid m.key_is made.1 m.small made.2)
    (record {
      leader = m.began.leader;
      start = m.began.start;
      started = start_moment profile servers events t m.epoch m.began m.is;
      acknowledged = acknowledged_of profile servers events t m.epoch m.began.start chosen above;
    })

pub not_in_nothing : (list : List Entry) (x : Entry) → IsPrefix (list ++ x ∷ []) [] → ⊥
not_in_nothing [] x p = let f : x ∷ [] ≡ [] = prefix_of_nil (x ∷ []) p in cc
not_in_nothing (y ∷ list) x p = let f : y ∷ (list ++ x ∷ []) ≡ [] = prefix_of_nil (y ∷ (list ++ x ∷ [])) p in cc

pub has_quorum : {C : Type 0} (profile : Profile C) (servers : ℕ) (events : List (Event C)) (t : Whole profile servers events) (p epoch : ℕ) (before : List Entry) (x : Entry) → IsPrefix (before ++ x ∷ []) (history_of (after profile (new_world servers) events) p) → IsEntryOf epoch x → HasQuorum profile servers events epoch
has_quorum profile servers events t p epoch before x within made =
    elim (held_in (laws_of profile.setting.passes) t.last (after profile (new_world servers) events) p t.stands) [
      | inl none ↦ absurd (not_in_nothing before x (subst (IsPrefix (before ++ x ∷ [])) none within))
      | inr h ↦ quorum_of profile servers events t epoch before x
          (made_in (laws_of profile.setting.passes) t.last t.facts (suc h.epoch) h.server h.epoch h.longest before x (omega arith) h.is
          (prefix_trans (before ++ x ∷ []) (history_of (after profile (new_world servers) events) p) h.longest within h.within)) made
    ]
