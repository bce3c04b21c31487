-- What hosts have delivered grows, in one order.
use Rattle.std.proofs.Common.{◌≡◌, ◌≢◌, ◌⊎◌, inl, inr, ℕ, ◌+◌, ◌≤◌, ℤ, pos, ◌≤ℤ◌, List, [], ◌∷◌, ◌++◌, length, take, slice_get, Option, Some, None, refl, sym, ap, ◌∙◌, subst, subst₂, arith, length-append}
use Rattle.std.proofs.lemmas.List.{take_at, take_all, append-nil, append_assoc}
use Rattle.std.proofs.lemmas.Int.{ints}
use Rattle.std.specs.List.{AllByRecursion}
use Rattle.zab_laws.specs.Prefixes.{IsPrefix, last_key, Rises}
use Rattle.zab_laws.proofs.PrefixLaws.{prefix_refl, prefix_trans, prefix_take, prefix_by_last, rises_front}
use Rattle.zab_epoch.specs.declared.history.Entry.{Entry}
use Rattle.zab_model.specs.declared.event.Event.{Event}
use Rattle.zab_model.specs.declared.used_tags.UsedTags.{UsedTags}
use Rattle.zab_model.specs.ProcessStates.{ProcessState}
use Rattle.zab_model.specs.Worlds.{World, Profile, spent, server_at}
use Rattle.zab_model.specs.Runs.{after, run, delivered_list, history_list, delivered_of, delivered_after}
use Rattle.zab_model.proofs.RunLaws.{after_all}
use Rattle.zab_agreement_laws.specs.Agreement.{Agrees}
use Rattle.zab_host_laws.specs.Hosts.{Network, Step, Restarts, with_tags, new_network, after_step, after_steps, MayStepAll, calls_after, syncs_after}
use Rattle.zab_host_laws.proofs.HostRuns.{AreSpent, Quiet, quiet_steps, all_steps, calls_all, syncs_all}
use Rattle.zab_host_laws.specs.NeverBack.{delivered_by, last_zxid, HostsOnlyGrow, HostsNeverGoBack}

stepped_both : {C : Type 0} (profile : Profile C) (c : Network C) (a b : List (Step C)) → after_steps profile c (a ++ b) ≡ after_steps profile (after_steps profile c a) b
stepped_both profile c [] b = refl
stepped_both profile c (step ∷ a) b = stepped_both profile (after_step profile c step) a b

may_first : {C : Type 0} (profile : Profile C) (c : Network C) (calls syncs : List ℕ) (a b : List (Step C)) → MayStepAll profile c calls syncs (a ++ b) → MayStepAll profile c calls syncs a
may_first profile c calls syncs [] b may = tt
may_first profile c calls syncs (step ∷ a) b may = (may.0, may_first profile (after_step profile c step) (calls_after profile calls step) (syncs_after syncs step) a b may.1)

may_last : {C : Type 0} (profile : Profile C) (c : Network C) (calls syncs : List ℕ) (a b : List (Step C)) → MayStepAll profile c calls syncs (a ++ b) → MayStepAll profile (after_steps profile c a) (calls_all profile calls a) (syncs_all syncs a) b
may_last profile c calls syncs [] b may = may
may_last profile c calls syncs (step ∷ a) b may = may_last profile (after_step profile c step) (calls_after profile calls step) (syncs_after syncs step) a b may.1

-- ---- over events

slice_at : {X : Type 0} (front rest : List X) (x : X) → slice_get (front ++ x ∷ rest) (length front) ≡ Some x
slice_at [] rest x = refl
slice_at (y ∷ front) rest x = slice_at front rest x

module _ {C : Type 0} (profile : Profile C) (servers : ℕ) (events : List (Event C)) (agrees : Agrees profile servers events) (p : ℕ) where
  grows : (front rest : List (Event C)) → Quiet p rest → events ≡ front ++ rest → IsPrefix (delivered_after profile servers events (length front) p) (delivered_after profile servers events (length events) p)
  grows front [] quiet is =
      let same : length front ≡ length events = ap length (sym (is ∙ append-nil front)) in
      subst (λ n. IsPrefix (delivered_after profile servers events (length front) p) (delivered_after profile servers events n p)) same (prefix_refl (delivered_after profile servers events (length front) p))
  grows front (event ∷ rest) quiet is =
      let here : slice_get events (length front) ≡ Some event = ap (λ l. slice_get l (length front)) is ∙ slice_at front rest event in
      let one = agrees.only_grows (length front) p event here quiet.0 in
      let more : length (front ++ event ∷ []) ≡ length front + 1 = length-append front (event ∷ []) in
      let on = grows (front ++ event ∷ []) rest quiet.1 (is ∙ sym (append_assoc front (event ∷ []) rest)) in
      prefix_trans _ _ _ one (subst (λ n. IsPrefix (delivered_after profile servers events n p) (delivered_after profile servers events (length events) p)) more on)

delivered_in_history : (o : Option ProcessState) → IsPrefix (delivered_list o) (history_list o)
delivered_in_history None = prefix_refl []
delivered_in_history (Some it) = prefix_take it.state.delivered it.state.peer.stable.history

earlier_is_prefix : {X : Type 0} (key : X → ℤ) (start : ℤ) (a b : List X) → IsPrefix a b ⊎ IsPrefix b a → Rises key start a → last_key key start a ≤ℤ last_key key start b → IsPrefix a b
earlier_is_prefix key start a b (inl p) r h = p
earlier_is_prefix key start a b (inr p) r h = prefix_by_last key start a b a r (prefix_refl a) p h

-- ---- over steps

module _ {C : Type 0} (profile : Profile C) (agrees : (servers : ℕ) (events : List (Event C)) → Agrees profile servers events) (servers : ℕ) (before between : List (Step C)) (may : MayStepAll profile (new_network servers) [] [] (before ++ between)) where
  none : AreSpent [] [] (spent [] [])
  none = record { calls_new = λ tag p. p; syncs_new = λ tag p. p }

  first : (events : List (Event C)) × (then_tags : UsedTags) × (after profile (with_tags (spent [] []) (new_network servers)) events ≡ with_tags then_tags (after_steps profile (new_network servers) before)) × AreSpent (calls_all profile [] before) (syncs_all [] before) then_tags
  first = all_steps profile (new_network servers) [] [] (spent [] []) before none (may_first profile (new_network servers) [] [] before between may)

  second : (events : List (Event C)) × (then_tags : UsedTags) × (after profile (with_tags first.1 (after_steps profile (new_network servers) before)) events ≡ with_tags then_tags (after_steps profile (after_steps profile (new_network servers) before) between)) × AreSpent (calls_all profile (calls_all profile [] before) between) (syncs_all (syncs_all [] before) between) then_tags
  second = all_steps profile (after_steps profile (new_network servers) before) (calls_all profile [] before) (syncs_all [] before) first.1 between first.3 (may_last profile (new_network servers) [] [] before between may)

  all : List (Event C)
  all = first.0 ++ second.0

  early : (p : ℕ) → delivered_after profile servers all (length first.0) p ≡ delivered_by profile servers before p
  unfolding all
  early p =
      ap (λ (events : List (Event C)). delivered_of (run profile servers events).0 p) (take_at first.0 second.0 (length first.0) refl) ∙ ap (λ (x : World C). delivered_of x p) first.2

  late : (q : ℕ) → delivered_after profile servers all (length all) q ≡ delivered_by profile servers (before ++ between) q
  unfolding all first
  late q =
      ap (λ (events : List (Event C)). delivered_of (run profile servers events).0 q) (take_all (length all) all (omega arith))
      ∙ ap (λ (x : World C). delivered_of x q) (after_all profile (new_network servers) first.0 second.0 ∙ ap (λ (x : World C). after profile x second.0) first.2 ∙ second.2)
      ∙ ap (λ (x : World C). delivered_of x q) (sym (stepped_both profile (new_network servers) before between))

  grown : (p : ℕ) → AllByRecursion (λ step. step ≢ Restarts p) between → IsPrefix (delivered_by profile servers before p) (delivered_by profile servers (before ++ between) p)
  unfolding second all
  grown p others =
      subst₂ (λ (a b : List Entry). IsPrefix a b) (early p) (late p)
      (grows profile servers all (agrees servers all) p first.0 second.0
      (quiet_steps profile (after_steps profile (new_network servers) before) (calls_all profile [] before) (syncs_all [] before) first.1 between first.3 (may_last profile (new_network servers) [] [] before between may) p others)
      refl)

  back : (p q : ℕ) (seen : ℤ) → last_zxid (delivered_by profile servers before p) ≤ℤ seen → seen ≤ℤ last_zxid (delivered_by profile servers (before ++ between) q) → IsPrefix (delivered_by profile servers before p) (delivered_by profile servers (before ++ between) q)
  back p q seen low high =
      let order : IsPrefix (delivered_by profile servers before p) (delivered_by profile servers (before ++ between) q) ⊎ IsPrefix (delivered_by profile servers (before ++ between) q) (delivered_by profile servers before p) =
      subst₂ (λ (a b : List Entry). IsPrefix a b ⊎ IsPrefix b a) (early p) (late q) ((agrees servers all).one_order (length first.0) (length all) p q) in
      let rises : Rises (λ (entry : Entry). entry.txn.zxid) (pos 0) (delivered_by profile servers before p) =
      subst (λ (a : List Entry). Rises (λ (entry : Entry). entry.txn.zxid) (pos 0) a) (early p)
      (rises_front (λ (entry : Entry). entry.txn.zxid) (pos 0) _ _ ((agrees servers all).rises (length first.0) p) (delivered_in_history (server_at (run profile servers (take (length first.0) all)).0.servers p))) in
      earlier_is_prefix (λ (entry : Entry). entry.txn.zxid) (pos 0) _ _ order rises (omega (arith, ints))

pub only_grow : {C : Type 0} (profile : Profile C) → ((servers : ℕ) (events : List (Event C)) → Agrees profile servers events) → HostsOnlyGrow profile
only_grow profile agrees servers before between may p others = grown profile agrees servers before between may p others

pub never_back : {C : Type 0} (profile : Profile C) → ((servers : ℕ) (events : List (Event C)) → Agrees profile servers events) → HostsNeverGoBack profile
never_back profile agrees servers before between may p q seen low high = back profile agrees servers before between may p q seen low high
