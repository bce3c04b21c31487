-- Delivered lists agree by the four facts and the law of quorums alone.
use Rattle.std.proofs.Common.{◌≡◌, ℕ, zero, suc, ◌<◌, ◌≤◌, ◌⊎◌, inl, inr, List, [], ◌∷◌, take, refl, sym, ap, subst, arith}
use Rattle.zab_epoch.specs.declared.history.Entry.{Entry}
use Rattle.zab_epoch.specs.Quorums.{IsQuorumSystem}
use Rattle.zab_laws.specs.Prefixes.{IsPrefix}
use Rattle.zab_laws.proofs.PrefixLaws.{prefix_nil, prefix_trans, prefix_either}
use Rattle.zab_laws.proofs.Facts.{split}
use Rattle.zab_model.specs.declared.event.Event.{Event}
use Rattle.zab_model.specs.Worlds.{Profile}
use Rattle.zab_model.specs.Runs.{run, delivered_after}
use Rattle.zab_agreement_laws.specs.Moments.{Holds, Held, HasAcknowledged, IsAcknowledged}
use Rattle.zab_agreement_laws.specs.Facts.{OneLeaderAnEpoch, AcknowledgedLasts, HistoriesBeginWithTheirEpoch, FactsGiveOneOrder}
use Rattle.zab_agreement_laws.proofs.WholeRuns.{shares_of}

-- ---- what was acknowledged in a part of a run was acknowledged in it

twice : {A : Type 0} (m n : ℕ) (xs : List A) → (k : ℕ) × (take m (take n xs) ≡ take k xs)
twice zero n xs = (zero, refl)
twice (suc m) zero xs = (zero, refl)
twice (suc m) (suc n) [] = (zero, refl)
twice (suc m) (suc n) (x ∷ xs) = let r = twice m n xs in (suc r.0, ap (λ l. x ∷ l) r.1)

held_more : {C : Type 0} (profile : Profile C) (servers n : ℕ) (events : List (Event C)) (server epoch : ℕ) (h : List Entry) → Held profile servers (take n events) server epoch h → Held profile servers events server epoch h
held_more {C} profile servers n events server epoch h at =
    let r = twice at.0 n events in
    (r.0, subst (λ (l : List (Event C)). Holds (run profile servers l).0.servers server epoch h) r.1 at.1)

acknowledged_more : {C : Type 0} (profile : Profile C) (servers n : ℕ) (events : List (Event C)) (epoch : ℕ) (list : List Entry) → IsAcknowledged profile servers (take n events) epoch list → IsAcknowledged profile servers events epoch list
acknowledged_more profile servers n events epoch list said = record {
  marks = said.marks;
  quorum = said.quorum;
  each = λ t m. (let a = said.each t m in record { history = a.history; held = held_more profile servers n events t epoch a.history a.held; begins = a.begins });
}

-- ---- one order

record AreFacts {C : Type 0} (profile : Profile C) (servers : ℕ) (events : List (Event C)) : Type 0 where
  one_leader : OneLeaderAnEpoch profile servers events
  lasts : AcknowledgedLasts profile servers events
  begins : HistoriesBeginWithTheirEpoch profile servers events

-- some server of a quorum
some_server : {C : Type 0} (profile : Profile C) (servers : ℕ) (events : List (Event C)) → IsQuorumSystem profile.setting.passes → (epoch : ℕ) (list : List Entry) → IsAcknowledged profile servers events epoch list → (t : ℕ) × HasAcknowledged profile servers events t epoch list
some_server profile servers events system epoch list said =
    let both = shares_of profile.setting.passes system said.marks said.marks said.quorum said.quorum in
    (both.0, said.each both.0 both.1)

in_one_epoch : {C : Type 0} (profile : Profile C) (servers : ℕ) (events : List (Event C)) → IsQuorumSystem profile.setting.passes → AreFacts profile servers events → (epoch : ℕ) (one other : List Entry) → 0 < epoch → IsAcknowledged profile servers events epoch one → IsAcknowledged profile servers events epoch other → IsPrefix one other ⊎ IsPrefix other one
in_one_epoch profile servers events system f epoch one other above a b =
    let s = some_server profile servers events system epoch one a in
    let t = some_server profile servers events system epoch other b in
    let x = f.begins s.0 epoch s.1.history s.1.held above in
    let y = f.begins t.0 epoch t.1.history t.1.held above in
    let same = f.one_leader epoch x.leader y.leader x.start y.start x.started y.started in
    let longest : IsPrefix y.longest x.longest = x.most y.longest (subst (λ q. Held profile servers events q epoch y.longest) (sym same.0) y.held) in
    prefix_either one other x.longest
    (prefix_trans one s.1.history x.longest s.1.begins x.within)
    (prefix_trans other y.longest x.longest (prefix_trans other t.1.history y.longest t.1.begins y.within) longest)

in_later_epoch : {C : Type 0} (profile : Profile C) (servers : ℕ) (events : List (Event C)) → IsQuorumSystem profile.setting.passes → AreFacts profile servers events → (epoch later : ℕ) (one other : List Entry) → 0 < epoch → epoch < later → IsAcknowledged profile servers events epoch one → IsAcknowledged profile servers events later other → IsPrefix one other ⊎ IsPrefix other one
in_later_epoch profile servers events system f epoch later one other above less a b =
    let t = some_server profile servers events system later other b in
    let y = f.begins t.0 later t.1.history t.1.held (omega arith) in
    prefix_either one other t.1.history
    (prefix_trans one y.start t.1.history (f.lasts epoch later y.leader one y.start a less y.started) y.starts) t.1.begins

in_two_epochs : {C : Type 0} (profile : Profile C) (servers : ℕ) (events : List (Event C)) → IsQuorumSystem profile.setting.passes → AreFacts profile servers events → (epoch later : ℕ) (one other : List Entry) → 0 < epoch → epoch ≤ later → IsAcknowledged profile servers events epoch one → IsAcknowledged profile servers events later other → IsPrefix one other ⊎ IsPrefix other one
in_two_epochs profile servers events system f epoch later one other above low a b = elim (split epoch later) [
  | inl less ↦ in_later_epoch profile servers events system f epoch later one other above less a b
  | inr more ↦
      (let same : later ≡ epoch = omega arith in
      in_one_epoch profile servers events system f epoch one other above a (subst (λ e. IsAcknowledged profile servers events e other) same b))
]

either_way : (one other : List Entry) → IsPrefix one other ⊎ IsPrefix other one → IsPrefix other one ⊎ IsPrefix one other
either_way one other (inl p) = inr p
either_way one other (inr p) = inl p

pub facts_give_one_order : {C : Type 0} (profile : Profile C) → IsQuorumSystem profile.setting.passes → (servers : ℕ) (events : List (Event C)) → FactsGiveOneOrder profile servers events
facts_give_one_order {C} profile system servers events one_leader lasts begins told i j p q =
    let f : AreFacts profile servers events = record { one_leader = one_leader; lasts = lasts; begins = begins } in
    elim (told i p) [
      | inl none ↦ inl (subst (λ l. IsPrefix l (delivered_after profile servers events j q)) (sym none) (prefix_nil (delivered_after profile servers events j q)))
      | inr a ↦ elim (told j q) [
        | inl none ↦ inr (subst (λ l. IsPrefix l (delivered_after profile servers events i p)) (sym none) (prefix_nil (delivered_after profile servers events i p)))
        | inr b ↦
            (let x = acknowledged_more profile servers i events a.0 (delivered_after profile servers events i p) a.2 in
            let y = acknowledged_more profile servers j events b.0 (delivered_after profile servers events j q) b.2 in
            elim (split a.0 b.0) [
              | inl less ↦ in_two_epochs profile servers events system f a.0 b.0 (delivered_after profile servers events i p) (delivered_after profile servers events j q) a.1 (omega arith) x y
              | inr more ↦ either_way (delivered_after profile servers events j q) (delivered_after profile servers events i p)
                  (in_two_epochs profile servers events system f b.0 a.0 (delivered_after profile servers events j q) (delivered_after profile servers events i p) b.1 more y x)
            ])
      ]
    ]
