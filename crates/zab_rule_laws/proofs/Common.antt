-- What the rules share.
use Rattle.std.proofs.Common.{◌≡◌, ℕ, zero, suc, ◌+◌, ◌-◌, ◌<◌, ◌≤◌, ◌==◌, ◌&&◌, nat_lt, nat_le, max, inl, inr, Bool, true, false, cond, List, [], ◌∷◌, length, take, Option, Some, None, refl, ap, subst, ◌∙◌, arith, slice_get}
use Rattle.std.proofs.lemmas.Bool.Decides.{nat_tests}
use Rattle.std.proofs.lemmas.List.{length-take}
use Rattle.zab_epoch.specs.declared.history.Entry.{Entry}
use Rattle.zab_broadcast.specs.Counts.{commit_count, reached}
use Rattle.zab_broadcast.specs.declared.state.State.{State}
use Rattle.zab_laws.specs.Prefixes.{IsPrefix}
use Rattle.zab_laws.specs.Cores as laws
use Rattle.zab_laws.specs.Cores.Move.{Deliver}
use Rattle.zab_laws.proofs.PrefixLaws.{prefix_trans, prefix_take, prefix_by_length, prefix_nil, prefix_refl, prefix_cons}
use Rattle.zab_laws.proofs.Facts.{same_longest, split}
use Rattle.zab_laws.proofs.Keeping.{keeps_deliver, grows_refl}
use Rattle.zab_rule_laws.specs.Told.{core_of, core_with, IsReached, HasFact}

pub by_test : {A : Type 0} (P : A → Type 0) (b : Bool) (x y : A) → (b ≡ true → P x) → (b ≡ false → P y) → P (cond b x y)
by_test P true x y p q = p refl
by_test P false x y p q = q refl

pub both_true : (a b : Bool) → (a && b) ≡ true → (a ≡ true) × (b ≡ true)
both_true true true e = (refl, refl)
both_true true false e = absurd cc
both_true false b e = absurd cc

pub eq_is : (a b : ℕ) → (a == b) ≡ true → a ≡ b
eq_is a b e = grind (arith, nat_tests)

pub less_is : (a b : ℕ) → nat_lt a b ≡ true → a < b
less_is a b e = grind (arith, nat_tests)

pub at_most_is : (a b : ℕ) → nat_le a b ≡ true → a ≤ b
at_most_is a b e = grind (arith, nat_tests)

-- ---- nothing moves

pub stays : (k : laws.Setting Entry) (g : laws.Ghost Entry) (s : ℕ) (c : laws.Core Entry) → laws.IsKept k g s c → laws.Keeps k g g s c
stays k g s c kept = record {
  kept = kept;
  grows = grows_refl g;
  others = λ t d other old. old;
  held_new = λ t e h is. inl is;
  began_new = λ e b is. inl is;
}

-- ---- what a quorum holds is chosen

pub chosen_of : (k : laws.Setting Entry) (g : laws.Ghost Entry) (s epoch count n : ℕ) (h : List Entry) → laws.AreFacts k g → IsReached k g epoch count → g.held s epoch ≡ Some h → 0 < epoch → n ≤ count → laws.IsChosen k g epoch (take n h)
chosen_of k g s epoch count n h facts r held above low =
    let o = facts.of_leader s epoch h held above in
    record {
      marks = r.marks;
      quorum = r.quorum;
      each = λ t m. (let a = r.each t m in
          let p = facts.of_leader t epoch a.history a.is above in
          let long : count ≤ length a.history = a.long in
          let one : p.longest ≡ o.longest = same_longest g epoch a.history h p o in
          record {
            history = a.history;
            is = a.is;
            begins = prefix_by_length (take n h) a.history o.longest
                (prefix_trans (take n h) h o.longest (prefix_take n h) o.within)
                (subst (IsPrefix a.history) one p.within)
                (omega (arith, length-take n h));
          });
    }

-- delivering as many as that, if more than before
pub delivers_more : (k : laws.Setting Entry) (g : laws.Ghost Entry) (state : State) (s count : ℕ) → laws.IsKept k g s (core_of state) → 0 < state.peer.stable.current → (state.delivered < count → laws.IsChosen k g state.peer.stable.current (take count state.peer.stable.history)) → laws.Keeps k g g s (core_with state (max state.delivered count))
delivers_more k g state s count kept above chosen = elim (split state.delivered count) [
  | inl less ↦
      (let m : count ≡ max state.delivered count = omega arith in
      subst (λ n. laws.Keeps k g g s (core_with state n)) m (keeps_deliver k g (core_of state) s count kept (above, chosen less)))
  | inr more ↦
      (let m : state.delivered ≡ max state.delivered count = omega arith in
      subst (λ n. laws.Keeps k g g s (core_with state n)) m (stays k g s (core_of state) kept))
]

-- ---- the commit count

pub count_passes : (passes : List Bool → Bool) (has : List (Option ℕ)) (n : ℕ) → 0 < commit_count passes has n → passes (reached (commit_count passes has n) has) ≡ true
count_passes passes has zero above = absurd (omega arith)
count_passes passes has (suc n) above = choose (passes (reached (suc n) has)) refl (count_passes passes has n) above
  where
    choose : (b : Bool) → passes (reached (suc n) has) ≡ b → (0 < commit_count passes has n → passes (reached (commit_count passes has n) has) ≡ true) → 0 < cond b (suc n) (commit_count passes has n) → passes (reached (cond (passes (reached (suc n) has)) (suc n) (commit_count passes has n)) has) ≡ true
    choose true e ih above = ap (λ b. passes (reached (cond b (suc n) (commit_count passes has n)) has)) e ∙ e
    choose false e ih above = ap (λ b. passes (reached (cond b (suc n) (commit_count passes has n)) has)) e ∙ ih above

pub reached_slot : (count : ℕ) (has : List (Option ℕ)) (i : ℕ) → slice_get (reached count has) i ≡ Some true → (l : ℕ) × (slice_get has i ≡ Some (Some l)) × (count ≤ l)
reached_slot count [] i e = absurd cc
reached_slot count (None ∷ has) zero e = absurd cc
reached_slot count ((Some l) ∷ has) zero e = (l, refl, at_most_is count l (let f : Some (nat_le count l) ≡ Some true = e in cc))
reached_slot count (slot ∷ has) (suc i) e = reached_slot count has i e

pub has_reached : (k : laws.Setting Entry) (g : laws.Ghost Entry) (epoch count : ℕ) (began : laws.Began Entry) (has : List (Option ℕ)) → g.began epoch ≡ Some began → HasFact g epoch has → k.passes (reached count has) ≡ true → IsReached k g epoch count
has_reached k g epoch count began has is fact quorum = record {
  began = began;
  is = is;
  marks = reached count has;
  quorum = quorum;
  each = λ t m. (let slot = reached_slot count has (t - 1) m.1 in
      let low : count ≤ slot.0 = slot.2 in
      let at : t - 1 + 1 ≡ t = (let p : 0 < t = m.0 in omega arith) in
      let h = fact (t - 1) slot.0 slot.1 in
      let long : slot.0 ≤ length h.history = h.long in
      record { history = h.history; is = subst (λ u. g.held u epoch ≡ Some h.history) at h.is; long = omega arith });
}

-- delivering more leaves what was delivered at the front
take_more : (d n : ℕ) (list : List Entry) → d ≤ n → IsPrefix (take d list) (take n list)
take_more zero n list low = prefix_nil (take n list)
take_more (suc d) zero list low = absurd (omega arith)
take_more (suc d) (suc n) [] low = prefix_refl []
take_more (suc d) (suc n) (x ∷ list) low = prefix_cons x (take d list) (take n list) (take_more d n list (omega arith))

pub more_told : (d n : ℕ) (list : List Entry) → IsPrefix (take d list) (take (max d n) list)
more_told d n list = take_more d (max d n) list (omega arith)
