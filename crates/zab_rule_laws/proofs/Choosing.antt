-- A leader chooses an epoch: it promises to itself.
use Rattle.std.proofs.Common.{◌≡◌, ℕ, zero, suc, ◌+◌, ◌-◌, ◌<◌, ◌≤◌, ◌==◌, ◌&&◌, not, Bool, cond, List, [], ◌∷◌, length, replicate, Option, Some, None, refl, sym, subst, inl, inr, arith, slice_get}
use Rattle.std.specs.List.{AllByRecursion}
use Rattle.zab_epoch.specs.declared.history.Entry.{Entry}
use Rattle.zab_epoch.specs.declared.message.Body.TheVariants.{NewEpoch}
use Rattle.zab_epoch.specs.declared.votes.Vote.{Vote}
use Rattle.zab_epoch.specs.Rules as epoch_rules
use Rattle.zab_epoch.specs.Sending.{message, to_others}
use Rattle.zab_epoch.specs.Tables.{silent_servers, put}
use Rattle.zab_broadcast.specs.declared.state.State.{State}
use Rattle.zab_broadcast.specs.Rules.{by_peer}
use Rattle.zab_laws.specs.Cores as laws
use Rattle.zab_laws.specs.Cores.Move.{Promise}
use Rattle.zab_laws.proofs.Keeping.{keeps_promise, two_now}
use Rattle.zab_laws.proofs.Facts.{same_some}
use Rattle.zab_rule_laws.specs.Told.{core_of, told_of, HasVote, VotesFact, MessageFact, OwesOf}
use Rattle.zab_rule_laws.proofs.Electing.{last_same}
use Rattle.zab_laws.proofs.PrefixLaws.{prefix_refl}
use Rattle.zab_rule_laws.proofs.Common.{by_test, stays}
use Rattle.zab_rule_laws.proofs.Telling.{all_append}
use Rattle.zab_rule_laws.proofs.Leading.{set_cases}

none_voted : (g : laws.Ghost Entry) (q epoch n : ℕ) → VotesFact g q epoch (replicate n None)
none_voted g q epoch n i v e = absurd (never n i v e)
  where
    never : (n i : ℕ) (v : Vote) → slice_get (replicate n (let o : Option Vote = None in o)) i ≡ Some (Some v) → ⊥
    never zero i v e = cc
    never (suc n) zero v e = cc
    never (suc n) (suc i) v e = never n i v e

pub put_voted : (g : laws.Ghost Entry) (q epoch from : ℕ) (votes : List (Option Vote)) (said : Vote) → VotesFact g q epoch votes → 0 < from → HasVote g from epoch q said.current said.last → VotesFact g q epoch (put votes from said)
put_voted g q epoch from votes said fact pos0 new i v e = elim (set_cases votes (from - 1) i (Some said) (Some v) e) [
  | inl p ↦
      (let at : i + 1 ≡ from = (let z : i ≡ from - 1 = p.0 in omega arith) in
      let value : v ≡ said = same_some v said p.1 in
      subst (λ t. HasVote g t epoch q v.current v.last) (sym at)
      (subst (λ (w : Vote). HasVote g from epoch q w.current w.last) (sym value) new))
  | inr old ↦ fact i v old
]

told_epoch : (C : Type 0) (k : laws.Setting Entry) (g : laws.Ghost Entry) (me at epoch : ℕ) (marks : List Bool) → AllByRecursion (MessageFact {C = C} k g) (to_others me at (NewEpoch epoch) marks)
told_epoch C k g me at epoch [] = tt
told_epoch C k g me at epoch (mark ∷ marks) =
    all_append (MessageFact {C = C} k g) (cond (mark && not (at == me)) (message me at (NewEpoch epoch) ∷ []) []) (to_others me (at + 1) (NewEpoch epoch) marks)
    (by_test (AllByRecursion (MessageFact {C = C} k g)) (mark && not (at == me)) (message me at (NewEpoch epoch) ∷ []) [] (λ e. (tt, tt)) (λ e. tt))
    (told_epoch C k g me (at + 1) epoch marks)

-- a leader promises to itself, and votes itself
pub chooses_owes : {C : Type 0} (k : laws.Setting Entry) (g : laws.Ghost Entry) (state : State) (heard : List Bool) (next : Option ℕ) → laws.IsKept k g state.peer.me (core_of state) → state.delivered ≤ length state.peer.stable.history → 0 < state.peer.me → ((epoch : ℕ) → next ≡ Some epoch → state.peer.stable.promised < epoch) → OwesOf {C = C} k g state (by_peer state (epoch_rules.chooses state.peer heard next))
chooses_owes {C} k g state heard None kept within pos0 above = record {
  ghost = g;
  keeps = stays k g state.peer.me (core_of state) kept;
  role = tt;
  sent = tt;
  me = refl;
  within = within;
  more = prefix_refl (told_of state);
  begins = inl (λ e b is. is);
}
chooses_owes {C} k g state heard (Some epoch) kept within pos0 above =
    let me : ℕ = state.peer.me in
    let own : Vote = epoch_rules.vote_of state.peer.stable in
    let voted = two_now g me epoch (record { leader = me; current = state.peer.stable.current; history = state.peer.stable.history }) in
    let y : laws.Ghost Entry = laws.new_ghost (Promise me epoch me) (core_of state) g in
    let low : state.peer.stable.current ≤ state.peer.stable.promised = kept.sound.current in
    let high : state.peer.stable.promised < epoch = above epoch refl in
    record {
      ghost = y;
      keeps = keeps_promise k g (core_of state) me epoch me kept high;
      role = record {
        below = omega arith;
        own = voted;
        votes_are = put_voted y me epoch me (silent_servers state.peer.servers) own (none_voted y me epoch state.peer.servers) pos0
            (record { history = state.peer.stable.history; is = voted; last_is = sym (last_same state.peer.stable.history) });
      };
      sent = told_epoch C k y me 1 epoch heard;
      me = refl;
      within = within;
      more = prefix_refl (told_of state);
      begins = inl (λ e b is. is);
    }
