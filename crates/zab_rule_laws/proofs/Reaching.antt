-- What a leader in broadcast has delivered, a quorum of its epoch held.
use Rattle.std.proofs.Common.{◌≡◌, ℕ, suc, ◌≤◌, inl, inr, List, length, Some, ap, subst, arith}
use Rattle.std.proofs.lemmas.List.{length-take-le}
use Rattle.zab_epoch.specs.declared.history.Entry.{Entry}
use Rattle.zab_broadcast.specs.declared.state.State.{State}
use Rattle.zab_laws.specs.Prefixes.{IsPrefix}
use Rattle.zab_laws.specs.Cores as laws
use Rattle.zab_laws.proofs.PrefixLaws.{prefix_length}
use Rattle.zab_laws.proofs.Facts.{in_later, split}
use Rattle.zab_rule_laws.specs.Told.{core_of, told_of, IsReached, Broadcasts}

-- a quorum that held a list held as many as it has
chosen_reached : (k : laws.Setting Entry) (g : laws.Ghost Entry) (epoch count : ℕ) (list : List Entry) (began : laws.Began Entry) → g.began epoch ≡ Some began → laws.IsChosen k g epoch list → count ≤ length list → IsReached k g epoch count
chosen_reached k g epoch count list began is chosen low = record {
  began = began;
  is = is;
  marks = chosen.marks;
  quorum = chosen.quorum;
  each = λ t m. (let h = chosen.each t m in
      let long : length list ≤ length h.history = prefix_length list h.history h.begins in
      record { history = h.history; is = h.is; long = omega arith });
}

-- it was delivered in the leader's epoch, or the epoch began with it
pub leader_reached : (k : laws.Setting Entry) (g : laws.Ghost Entry) (state : State) → laws.Shares k → laws.IsKept k g state.peer.me (core_of state) → state.delivered ≤ length state.peer.stable.history → Broadcasts k g state → IsReached k g state.peer.stable.current state.delivered
leader_reached k g state share kept within b =
    let now : ℕ = state.peer.stable.current in
    let start : List Entry = b.leads.began.start in
    let long : length (told_of state) ≡ state.delivered = length-take-le state.delivered state.peer.stable.history within in
    elim kept.sound.told [
      | inl none ↦
          (let empty : length (told_of state) ≡ 0 = ap (λ (list : List Entry). length list) none in
          chosen_reached k g now state.delivered start b.leads.began b.leads.is b.chosen (omega arith))
      | inr was ↦
          elim (split was.epoch now) [
            | inl earlier ↦
                (let front : IsPrefix (told_of state) start = in_later k g share kept.facts (suc now) was.epoch now (told_of state) b.leads.began (omega arith) was.chosen was.above earlier b.leads.is in
                let low : length (told_of state) ≤ length start = prefix_length (told_of state) start front in
                chosen_reached k g now state.delivered start b.leads.began b.leads.is b.chosen (omega arith))
            | inr later ↦
                (let within_now : was.epoch ≤ now = was.within in
                let same : was.epoch ≡ now = omega arith in
                chosen_reached k g now state.delivered (told_of state) b.leads.began b.leads.is
                (subst (λ e. laws.IsChosen k g e (told_of state)) same was.chosen) (omega arith))
          ]
    ]
