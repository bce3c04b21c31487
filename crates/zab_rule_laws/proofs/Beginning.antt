-- A leader begins its epoch.
use Rattle.std.proofs.Common.{◌≡◌, ℕ, ℤ, zero, suc, ◌+◌, ◌<◌, ◌≤◌, ◌==◌, min, inr, List, [], ◌∷◌, length, take, replicate, Option, Some, None, refl, subst, arith, slice_get}
use Rattle.std.specs.List.{AllByRecursion}
use Rattle.zab_epoch.specs.declared.history.Entry.{Entry}
use Rattle.zab_epoch.specs.Rules as epoch_rules
use Rattle.zab_epoch.specs.Rules.{new_leader_to, to_joiner, to_joiners}
use Rattle.zab_epoch.specs.Sending.{message}
use Rattle.zab_epoch.specs.Tables.{silent_servers, put}
use Rattle.zab_broadcast.specs.declared.state.State.{State}
use Rattle.zab_broadcast.specs.Rules.{begun}
use Rattle.zab_laws.specs.Prefixes.{IsPrefix}
use Rattle.zab_laws.specs.Cores as laws
use Rattle.zab_laws.specs.Cores.Move.{Begin}
use Rattle.zab_laws.proofs.PrefixLaws.{prefix_refl}
use Rattle.zab_laws.proofs.Updates.{at_same}
use Rattle.zab_laws.proofs.Beginning.{two_same, keeps_begin}
use Rattle.zab_rule_laws.specs.Told.{core_of, told_of, HasFact, MessageFact, OwesOf}
use Rattle.zab_rule_laws.proofs.Common.{by_test}
use Rattle.zab_rule_laws.proofs.Telling.{all_append}
use Rattle.zab_rule_laws.proofs.Splicing.{tells_it}
use Rattle.zab_rule_laws.proofs.Leading.{put_has}

none_has : (g : laws.Ghost Entry) (epoch n : ℕ) → HasFact g epoch (replicate n None)
none_has g epoch zero i count e = absurd cc
none_has g epoch (suc n) zero count e = absurd cc
none_has g epoch (suc n) (suc i) count e = absurd (never n i e)
  where
    never : (n i : ℕ) → slice_get (replicate n (let o : Option ℕ = None in o)) i ≡ Some (Some count) → ⊥
    never zero i e = cc
    never (suc n) zero e = cc
    never (suc n) (suc i) e = never n i e

-- the history to each other server that joined
to_each : (C : Type 0) (k : laws.Setting Entry) (g : laws.Ghost Entry) (me at epoch : ℕ) (history : List Entry) (joiners : List (Option ℤ)) → laws.IsOfLeader g epoch history → AllByRecursion (MessageFact {C = C} k g) (to_joiners me at epoch history joiners)
to_each C k g me at epoch history [] of = tt
to_each C k g me at epoch history (None ∷ joiners) of = to_each C k g me (at + 1) epoch history joiners of
to_each C k g me at epoch history ((Some last) ∷ joiners) of =
    all_append (MessageFact {C = C} k g) (to_joiner me at epoch history (Some last)) (to_joiners me (at + 1) epoch history joiners)
    (by_test (AllByRecursion (MessageFact {C = C} k g)) (at == me) [] (message me at (new_leader_to epoch history last) ∷ []) (λ e. tt) (λ e. (tells_it g epoch history last of, tt)))
    (to_each C k g me (at + 1) epoch history joiners of)

pub begins_owes : {C : Type 0} (k : laws.Setting Entry) (g : laws.Ghost Entry) (state : State) (joiners : List (Option ℤ)) → laws.Shares k → laws.IsKept k g state.peer.me (core_of state) → state.delivered ≤ length state.peer.stable.history → 0 < state.peer.me → state.peer.stable.current < state.peer.stable.promised → laws.IsElected k g state.peer.stable.promised state.peer.me state.peer.stable.history → OwesOf {C = C} k g state (begun state (epoch_rules.begins state.peer joiners))
begins_owes {C} k g state joiners share kept within pos0 below elected =
    let me : ℕ = state.peer.me in
    let epoch : ℕ = state.peer.stable.promised in
    let own : List Entry = state.peer.stable.history in
    let y : laws.Ghost Entry = laws.new_ghost (Begin me epoch own) (core_of state) g in
    let keeps = keeps_begin k g (core_of state) me epoch own share kept (refl, below, elected) in
    let m : state.delivered ≡ min state.delivered (length own) = omega arith in
    let began : laws.Began Entry = record { leader = me; start = own } in
    let is : y.began epoch ≡ Some began = at_same g.began epoch (Some began) in
    let held : y.held me epoch ≡ Some own = two_same g.held me epoch (Some own) in
    let has : HasFact y epoch (put (silent_servers state.peer.servers) me (length own)) =
    put_has y epoch me (length own) (silent_servers state.peer.servers) (none_has y epoch state.peer.servers) pos0 (record { history = own; is = held; long = omega arith }) in
    let of : laws.IsOfLeader y epoch own = record { began = began; is = is; starts = prefix_refl own; longest = own; longest_is = held; within = prefix_refl own } in
    record {
      ghost = y;
      keeps = subst (λ n. laws.Keeps k g y me (record { promised = epoch; current = epoch; history = own; delivered = take n own })) m keeps;
      role = record { leads = record { same = refl; began = began; is = is; leader = refl; has = has }; history = refl };
      sent = to_each C k y me 1 epoch own joiners of;
      me = refl;
      within = omega arith;
      more = subst (λ n. IsPrefix (told_of state) (take n own)) m (prefix_refl (told_of state));
      begins = inr refl;
    }
