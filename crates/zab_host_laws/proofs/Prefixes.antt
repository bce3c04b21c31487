-- Which append-only inputs survive a crash.
use Rattle.std.proofs.Common.{◌≡◌, ◌⊎◌, inl, inr, ℕ, zero, suc, ◌+◌, ◌≤◌, List, [], ◌∷◌, ◌++◌, length, take, refl, sym, ap, ◌∙◌, subst, arith, length-append}
use Rattle.std.proofs.lemmas.List.{take_all, take_at}
use Rattle.zab_epoch.specs.declared.history.Entry.{Entry}
use Rattle.zab_epoch.specs.declared.stable.Stable.{Stable}
use Rattle.zab_laws.specs.Prefixes.{IsPrefix}
use Rattle.zab_laws.proofs.PrefixLaws.{prefix_refl, prefix_trans, prefix_append}
use Rattle.zab_broadcast.specs.declared.state.State.{State}
use Rattle.zab_broadcast.specs.Calls.{Setting}
use Rattle.zab_host.specs.Growth.{GrowsByOne}
use Rattle.zab_host.specs.Hosts.{Input, acts_of}
use Rattle.zab_host.proofs.Growth.{one_more}
use Rattle.zab_host_laws.specs.Composition.{after_inputs}
use Rattle.zab_host_laws.specs.Prefixes.{AreAppendOnly, CrashesLeaveInputPrefixes}

take_front : {X : Type 0} (a rest : List X) (n : ℕ) → n ≡ length a → take n (a ++ rest) ≡ a
take_front a rest n is = take_at a rest n (sym is)

module _ {C : Type 0} (setting : Setting C) where
  pub kept : (state : State) (inputs : List (Input C)) → AreAppendOnly inputs → IsPrefix state.peer.stable.history (after_inputs setting state inputs).peer.stable.history
  kept state [] light = prefix_refl state.peer.stable.history
  kept state (input ∷ inputs) light =
      prefix_trans _ _ _ (step (one_more setting state input light.0)) (kept (acts_of setting state input).0 inputs light.1)
    where
      step : GrowsByOne state.peer.stable (acts_of setting state input).0.peer.stable → IsPrefix state.peer.stable.history (acts_of setting state input).0.peer.stable.history
      step (inl same) = subst (λ (s : Stable). IsPrefix state.peer.stable.history s.history) (sym same) (prefix_refl state.peer.stable.history)
      step (inr more) = subst (λ (s : Stable). IsPrefix state.peer.stable.history s.history) (sym more.1) (prefix_append state.peer.stable.history (more.0 ∷ []))

  same_epochs : (state : State) (inputs : List (Input C)) → AreAppendOnly inputs
      → ((after_inputs setting state inputs).peer.stable.promised ≡ state.peer.stable.promised) × ((after_inputs setting state inputs).peer.stable.current ≡ state.peer.stable.current)
  same_epochs state [] light = (refl, refl)
  same_epochs state (input ∷ inputs) light =
      let rest = same_epochs (acts_of setting state input).0 inputs light.1 in
      let one = step (one_more setting state input light.0) in
      (rest.0 ∙ one.0, rest.1 ∙ one.1)
    where
      step : GrowsByOne state.peer.stable (acts_of setting state input).0.peer.stable → ((acts_of setting state input).0.peer.stable.promised ≡ state.peer.stable.promised) × ((acts_of setting state input).0.peer.stable.current ≡ state.peer.stable.current)
      step (inl same) = (ap (λ (s : Stable). s.promised) same, ap (λ (s : Stable). s.current) same)
      step (inr more) = (ap (λ (s : Stable). s.promised) more.1, ap (λ (s : Stable). s.current) more.1)

  abbrev cut_at : Stable → ℕ → Stable
  cut_at after count = record { promised = after.promised; current = after.current; history = take count after.history }

  -- cut where the first input began, it is what was there
  cut_at_once : (state : State) (inputs : List (Input C)) (count : ℕ) → AreAppendOnly inputs → count ≡ length state.peer.stable.history
      → cut_at (after_inputs setting state inputs).peer.stable count ≡ state.peer.stable
  cut_at_once state inputs count light is =
      let p = kept state inputs light in
      let e = same_epochs state inputs light in
      let h : take count (after_inputs setting state inputs).peer.stable.history ≡ state.peer.stable.history =
      ap (take count) (sym p.is) ∙ take_front state.peer.stable.history p.rest count is in
      ap (λ (n : ℕ). record { promised = n; current = (after_inputs setting state inputs).peer.stable.current; history = take count (after_inputs setting state inputs).peer.stable.history }) e.0
      ∙ ap (λ (n : ℕ). record { promised = state.peer.stable.promised; current = n; history = take count (after_inputs setting state inputs).peer.stable.history }) e.1
      ∙ ap (λ (l : List Entry). record { promised = state.peer.stable.promised; current = state.peer.stable.current; history = l }) h

  longer : (n m : ℕ) → n ≤ m → (m ≡ n) ⊎ (n + 1 ≤ m)
  longer zero zero le = inl refl
  longer zero (suc m) le = inr (omega arith)
  longer (suc n) zero le = absurd (omega (arith, le))
  longer (suc n) (suc m) le = elim (longer n m (omega (arith, le))) [
    | inl e ↦ inl (ap suc e)
    | inr e ↦ inr (omega (arith, e))
  ]

  pub fronts : (state : State) (inputs : List (Input C)) (count : ℕ) → AreAppendOnly inputs → length state.peer.stable.history ≤ count
      → (first : ℕ) × (cut_at (after_inputs setting state inputs).peer.stable count ≡ (after_inputs setting state (take first inputs)).peer.stable)
  fronts state [] count light le =
      (0, ap (λ (l : List Entry). record { promised = state.peer.stable.promised; current = state.peer.stable.current; history = l }) (take_all count state.peer.stable.history le))
  fronts state (input ∷ inputs) count light le = elim (longer (length state.peer.stable.history) count le) [
    | inl e ↦ (0, cut_at_once state (input ∷ inputs) count light e)
    | inr more ↦ on (fronts (acts_of setting state input).0 inputs count light.1 (enough (one_more setting state input light.0) more))
  ]
    where
      on : ((first : ℕ) × (cut_at (after_inputs setting (acts_of setting state input).0 inputs).peer.stable count ≡ (after_inputs setting (acts_of setting state input).0 (take first inputs)).peer.stable))
          → (first : ℕ) × (cut_at (after_inputs setting state (input ∷ inputs)).peer.stable count ≡ (after_inputs setting state (take first (input ∷ inputs))).peer.stable)
      on rest = (suc rest.0, rest.1)

      enough : GrowsByOne state.peer.stable (acts_of setting state input).0.peer.stable → length state.peer.stable.history + 1 ≤ count → length (acts_of setting state input).0.peer.stable.history ≤ count
      enough (inl same) more = let e : length (acts_of setting state input).0.peer.stable.history ≡ length state.peer.stable.history = ap (λ (s : Stable). length s.history) same in omega (arith, e, more)
      enough (inr one) more =
          let e : length (acts_of setting state input).0.peer.stable.history ≡ length state.peer.stable.history + 1 = ap (λ (s : Stable). length s.history) one.1 ∙ length-append state.peer.stable.history (one.0 ∷ []) in
          omega (arith, e, more)

  pub crashes_leave : CrashesLeaveInputPrefixes setting
  crashes_leave state inputs left light (inl all) = (length inputs, all ∙ ap (λ (l : List (Input C)). (after_inputs setting state l).peer.stable) (sym (take_all (length inputs) inputs (omega arith))))
  crashes_leave state inputs left light (inr some) =
      let f = fronts state inputs some.1.0 light some.1.1.0 in (f.0, some.1.1.1 ∙ f.1)
