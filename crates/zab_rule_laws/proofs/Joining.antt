-- NewLeader at a follower.
use Rattle.std.proofs.Common.{◌≡◌, ℕ, ℤ, Bool, true, ◌<◌, ◌≤◌, ◌==◌, ◌&&◌, ◌||◌, nat_lt, min, ◌⊎◌, inl, inr, false, List, [], ◌∷◌, ◌++◌, length, take, Some, Ok, refl, sym, ap, subst, ◌∙◌, arith}
use Rattle.std.proofs.lemmas.Bool.Decides.{nat_tests}
use Rattle.std.proofs.lemmas.List.{length-take-le}
use Rattle.zab_epoch.specs.declared.history.Entry.{Entry}
use Rattle.zab_epoch.specs.Rules as epoch_rules
use Rattle.zab_broadcast.specs.declared.state.State.{State}
use Rattle.zab_epoch.specs.Roles.{follows}
use Rattle.zab_epoch.proofs.Guards.{cuts_nothing}
use Rattle.zab_broadcast.specs.Rules as rules
use Rattle.zab_broadcast.specs.Rules.{Acts, joined, with_peer}
use Rattle.zab_laws.specs.Prefixes.{IsPrefix}
use Rattle.zab_laws.specs.Cores as laws
use Rattle.zab_laws.specs.Cores.Move.{Adopt}
use Rattle.zab_laws.proofs.PrefixLaws.{prefix_by_length, prefix_length, prefix_refl}
use Rattle.zab_laws.proofs.Facts.{same_longest}
use Rattle.zab_laws.proofs.Beginning.{two_same}
use Rattle.zab_laws.proofs.Adopting.{begun_above, keeps_adopt}
use Rattle.zab_rule_laws.specs.Told.{laws_of, core_of, core_with, told_of, GoesOn, RoleFact, OwesOf}
use Rattle.zab_rule_laws.proofs.Splicing.{meant_is}
use Rattle.zab_rule_laws.proofs.Common.{by_test, both_true, eq_is, stays}
use Rattle.zab_rule_laws.proofs.Following.{owes_nothing, follower}

not_newer : (c e m n : ℕ) → (nat_lt c e || ((c == e) && nat_lt m n)) ≡ false → e ≤ c
not_newer c e m n is = grind (arith, nat_tests)

take_front : {A : Type 0} (a b : List A) → take (length a) (a ++ b) ≡ a
take_front [] [] = refl
take_front [] (y ∷ b) = refl
take_front (x ∷ a) b = ap (λ l. x ∷ l) (take_front a b)

-- what was delivered is the first part of the new history
pub front_of : (d : ℕ) (own history : List Entry) → d ≤ length own → IsPrefix (take d own) history → take d own ≡ take (min d (length history)) history
front_of d own history within p =
    let long : length (take d own) ≡ d = length-take-le d own within in
    let low : length (take d own) ≤ length history = prefix_length (take d own) history p in
    let least : min d (length history) ≡ length (take d own) = omega (arith, long, low) in
    sym (take_front (take d own) p.rest) ∙ ap (λ l. take (length (take d own)) l) p.is ∙ ap (λ n. take n history) (sym least)

same_told : (state : State) → state.delivered ≤ length state.peer.stable.history → IsPrefix (told_of state) (take (min state.delivered (length state.peer.stable.history)) state.peer.stable.history)
same_told state within =
    let m : state.delivered ≡ min state.delivered (length state.peer.stable.history) = omega arith in
    subst (λ n. IsPrefix (told_of state) (take n state.peer.stable.history)) m (prefix_refl (told_of state))

same_core : (k : laws.Setting Entry) (g : laws.Ghost Entry) (state : State) → laws.IsKept k g state.peer.me (core_of state) → state.delivered ≤ length state.peer.stable.history → laws.Keeps k g g state.peer.me (core_with state (min state.delivered (length state.peer.stable.history)))
same_core k g state kept within =
    let m : state.delivered ≡ min state.delivered (length state.peer.stable.history) = omega arith in
    subst (λ n. laws.Keeps k g g state.peer.me (core_with state n)) m (stays k g state.peer.me (core_of state) kept)

-- a history of the epoch at a follower of its promise
takes_owes : {C : Type 0} (k : laws.Setting Entry) (g : laws.Ghost Entry) (state : State) (from epoch : ℕ) (history : List Entry) → 0 < state.peer.me → laws.Shares k → laws.IsKept k g state.peer.me (core_of state) → state.delivered ≤ length state.peer.stable.history → epoch ≡ state.peer.stable.promised → laws.IsOfLeader g epoch history → OwesOf {C = C} k g state (joined state (epoch_rules.takes_history state.peer from epoch history))
takes_owes {C} k g state from epoch history pos0 share kept within p of =
    by_test (λ (acts : epoch_rules.Acts C). OwesOf {C = C} k g state (joined state acts)) (epoch_rules.is_behind state.peer.stable epoch (length history)) _ _
    (λ newer. takes p (cuts_nothing state.peer.stable epoch history newer))
    (λ older. (let low : epoch ≤ state.peer.stable.current = not_newer state.peer.stable.current epoch (length state.peer.stable.history) (length history) older in
    let high : state.peer.stable.current ≤ state.peer.stable.promised = kept.sound.current in
    let same : state.peer.stable.current ≡ epoch = omega arith in
    record {
      ghost = g;
      keeps = same_core k g state kept within;
      role = tt;
      sent = ((pos0, record { history = state.peer.stable.history; is = subst (λ e. g.held state.peer.me e ≡ Some state.peer.stable.history) same kept.sound.held_now; long = omega arith }), tt);
      me = refl;
      within = omega arith;
      more = same_told state within;
      begins = inl (λ e b is. is);
    }))
  where
    takes : epoch ≡ state.peer.stable.promised → (state.peer.stable.current < epoch) ⊎ ((state.peer.stable.current ≡ epoch) × (length state.peer.stable.history < length history)) → OwesOf {C = C} k g state (joined state (epoch_rules.joins state.peer from epoch epoch history))
    takes p newer =
        let me : ℕ = state.peer.me in
        let own : List Entry = state.peer.stable.history in
        let y : laws.Ghost Entry = laws.new_ghost (Adopt me epoch history) (core_of state) g in
        let above : 0 < epoch = begun_above k g (core_of state) me kept epoch of.began of.is in
        let longer : (state.peer.stable.current < epoch) ⊎ ((state.peer.stable.current ≡ epoch) × IsPrefix own history) = elim newer [
          | inl less ↦ inl less
          | inr more ↦
              (let held : g.held me epoch ≡ Some own = subst (λ e. g.held me e ≡ Some own) more.0 kept.sound.held_now in
              let o = kept.facts.of_leader me epoch own held above in
              let one : of.longest ≡ o.longest = same_longest g epoch history own of o in
              let long : length own < length history = more.1 in
              inr (more.0, prefix_by_length own history o.longest o.within (subst (IsPrefix history) one of.within) (omega arith)))
        ] in
        let keeps = keeps_adopt k g (core_of state) me epoch history share kept (sym p, of, longer) in
        let list : take state.delivered own ≡ take (min state.delivered (length history)) history = front_of state.delivered own history within keeps.kept.sound.delivered in
        record {
          ghost = y;
          keeps = subst (λ (d : List Entry). laws.Keeps k g y me (record { promised = state.peer.stable.promised; current = epoch; history = history; delivered = d })) list keeps;
          role = tt;
          sent = ((pos0, record { history = history; is = two_same g.held me epoch (Some history); long = omega arith }), tt);
          me = refl;
          within = omega arith;
          more = subst (IsPrefix (told_of state)) list (prefix_refl (told_of state));
          begins = inl (λ e b is. is);
        }

pub new_leader_owes : {C : Type 0} (passes : List Bool → Bool) (g : laws.Ghost Entry) (state : State) (from epoch : ℕ) (keep : ℤ) (rest : List Entry) → 0 < state.peer.me → laws.Shares (laws_of passes) → laws.IsKept (laws_of passes) g state.peer.me (core_of state) → state.delivered ≤ length state.peer.stable.history → RoleFact (laws_of passes) g state state.peer.role → GoesOn g epoch keep rest → OwesOf {C = C} (laws_of passes) g state (rules.new_leader state from epoch keep rest)
new_leader_owes {C} passes g state from epoch keep rest pos0 share kept within role told =
    by_test (OwesOf {C = C} (laws_of passes) g state) (follows state.peer.role from) (joined state (epoch_rules.new_leader state.peer from epoch keep rest)) (rules.silent state)
    (λ following. by_test (λ (acts : epoch_rules.Acts C). OwesOf {C = C} (laws_of passes) g state (joined state acts)) (follows state.peer.role from && (epoch == state.peer.stable.promised)) _ _
    (λ is. by_test (λ (acts : epoch_rules.Acts C). OwesOf {C = C} (laws_of passes) g state (joined state acts)) (epoch_rules.goes_on state.peer.stable.history keep rest) _ _
    (λ on. takes_owes (laws_of passes) g state from epoch (epoch_rules.meant state.peer.stable.history keep rest) pos0 share kept within
    (eq_is epoch state.peer.stable.promised (both_true (follows state.peer.role from) (epoch == state.peer.stable.promised) is).1)
    (meant_is (laws_of passes) g refl kept.facts state.peer.me state.peer.stable.current epoch state.peer.stable.history keep rest kept.sound.held_now told on))
    (λ off. as_it_was following))
    (λ is. as_it_was following))
    (λ is. owes_nothing (laws_of passes) g state (Ok []) kept within role tt)
  where
    as_it_was : follows state.peer.role from ≡ true → OwesOf {C = C} (laws_of passes) g state (joined state (epoch_rules.silent state.peer))
    as_it_was following = record { ghost = g; keeps = same_core (laws_of passes) g state kept within; role = follower (laws_of passes) g (with_peer state state.peer state.has) state.peer.role from following; sent = tt; me = refl; within = omega arith; more = same_told state within; begins = inl (λ e b is. is) }
