-- All hosts show one order, and clients never go back.
use Rattle.std.proofs.Common.{◌≡◌, ◌⊎◌, inl, inr, ℕ, ℤ, pos, ◌≤ℤ◌, false, int_lt, List, [], ◌∷◌, ◌++◌, length, take, Option, Some, None, refl, sym, ap, ◌∙◌, subst, subst₂, arith}
use Rattle.std.proofs.lemmas.Bool.Decides.{nat_tests}
use Rattle.std.proofs.lemmas.Int.{ints}
use Rattle.std.proofs.lemmas.List.{take_all}
use Rattle.zab_agreement_laws.specs.Agreement.{Agrees}
use Rattle.zab_epoch.specs.declared.history.Entry.{Entry}
use Rattle.zab_epoch.specs.Entries.{txns_of}
use Rattle.zab_host_laws.specs.NeverBack.{HostsOnlyGrow}
use Rattle.zab_laws.specs.Prefixes.{IsPrefix, Rises}
use Rattle.zab_laws.proofs.PrefixLaws.{prefix_refl, prefix_trans, prefix_take, prefix_either, rises_front}
use Rattle.zab_model.specs.declared.event.Event.{Event}
use Rattle.zab_model.specs.ProcessStates.{ProcessState}
use Rattle.zab_model.specs.Runs.{run, delivered_list, history_list, delivered_of, history_of}
use Rattle.zab_model.specs.Worlds.{World, Profile, server_at}
use Rattle.zab_host_laws.specs.Hosts.{Network, Step, new_network, after_step, after_steps, MayStepAll, HostsAreARun}
use Rattle.zab_host_laws.specs.Agreement.{HostsAgree}
use Rattle.zk_headline_laws.specs.Headline.{last_zxid}
use Rattle.zk_headline_laws.proofs.ReadLaws.{earlier_is_prefix, last_of_the_list}
use Rattle.zk_host_laws.specs.HostTrees.{HostEnsemble, new_hosts, Action, Steps, Releases, Forgets, Reads, Closes, Takes, steps_of, MayAct, after_action, after_actions, hosts_after, shown_by}
use Rattle.zk_host_laws.specs.Guarantees.{GoesOn, TreesAgree, ReadsNeverGoBack}
use Rattle.zk_host_laws.proofs.Showing.{may_first, all_match, tree_is}
use Rattle.zk_model.specs.declared.event.Question.{Question}
use Rattle.zk_model.specs.Ensembles.{reply_of}
use Rattle.zk_requests.specs.declared.call.Call.{Call}
use Rattle.zk_table.specs.Histories.{tree_of}

-- ---- the steps of actions

networks : (profile : Profile Call) (x : HostEnsemble) (actions : List Action) → (after_actions profile x actions).network ≡ after_steps profile x.network (steps_of actions)
networks profile x [] = refl
networks profile x (Steps step ∷ actions) = networks profile (after_action profile x (Steps step)) actions
networks profile x (Releases number ∷ actions) = networks profile (after_action profile x (Releases number)) actions
networks profile x (Forgets number ∷ actions) = networks profile (after_action profile x (Forgets number)) actions
networks profile x (Reads number connection question ∷ actions) = networks profile (after_action profile x (Reads number connection question)) actions
networks profile x (Closes number connection ∷ actions) = networks profile (after_action profile x (Closes number connection)) actions
networks profile x (Takes number ∷ actions) = networks profile (after_action profile x (Takes number)) actions

pub network_is : (profile : Profile Call) (servers : ℕ) (actions : List Action) → (hosts_after profile servers actions).network ≡ after_steps profile (new_network servers) (steps_of actions)
network_is profile servers actions = networks profile (new_hosts servers) actions

steps_both : (a b : List Action) → steps_of (a ++ b) ≡ steps_of a ++ steps_of b
steps_both [] b = refl
steps_both (Steps step ∷ a) b = ap (λ l. step ∷ l) (steps_both a b)
steps_both (Releases number ∷ a) b = steps_both a b
steps_both (Forgets number ∷ a) b = steps_both a b
steps_both (Reads number connection question ∷ a) b = steps_both a b
steps_both (Closes number connection ∷ a) b = steps_both a b
steps_both (Takes number ∷ a) b = steps_both a b

-- ---- one order

compare : {X : Type 0} (a b c d : List X) → IsPrefix a c → IsPrefix b d → IsPrefix c d ⊎ IsPrefix d c → IsPrefix a b ⊎ IsPrefix b a
compare a b c d p q (inl r) = prefix_either a b d (prefix_trans a c d p r) q
compare a b c d p q (inr r) = prefix_either a b c p (prefix_trans b d c q r)

module _ (profile : Profile Call) (agree : HostsAgree profile) (servers : ℕ) (before between : List Action) (may : MayAct profile servers (before ++ between)) where
  abbrev earlier : HostEnsemble
  earlier = hosts_after profile servers before

  abbrev later : HostEnsemble
  later = hosts_after profile servers (before ++ between)

  may_both : MayStepAll profile (new_network servers) [] [] (steps_of before ++ steps_of between)
  may_both = subst (λ l. MayStepAll profile (new_network servers) [] [] l) (steps_both before between) may

  late : after_steps profile (new_network servers) (steps_of before ++ steps_of between) ≡ later.network
  late = ap (λ l. after_steps profile (new_network servers) l) (sym (steps_both before between)) ∙ sym (network_is profile servers (before ++ between))

  delivered_order : (p q : ℕ) → IsPrefix (delivered_of earlier.network p) (delivered_of later.network q) ⊎ IsPrefix (delivered_of later.network q) (delivered_of earlier.network p)
  delivered_order p q =
      subst₂ (λ (a b : Network Call). IsPrefix (delivered_of a p) (delivered_of b q) ⊎ IsPrefix (delivered_of b q) (delivered_of a p))
      (sym (network_is profile servers before)) late (agree servers (steps_of before) (steps_of between) may_both p q)

  pub shown_order : (p q : ℕ) → IsPrefix (shown_by earlier p) (shown_by later q) ⊎ IsPrefix (shown_by later q) (shown_by earlier p)
  shown_order p q =
      compare (shown_by earlier p) (shown_by later q) (delivered_of earlier.network p) (delivered_of later.network q)
      (prefix_take (earlier.host p).shown (delivered_of earlier.network p)) (prefix_take (later.host q).shown (delivered_of later.network q)) (delivered_order p q)

  pub may_before : MayAct profile servers before
  may_before = may_first profile (new_network servers) [] [] (steps_of before) (steps_of between) may_both

pub trees_agree : (profile : Profile Call) → HostsAgree profile → TreesAgree profile
trees_agree profile agree servers before between may p q = shown_order profile agree servers before between may p q

-- ---- zxids rise

delivered_in_history : (o : Option ProcessState) → IsPrefix (delivered_list o) (history_list o)
delivered_in_history None = prefix_refl []
delivered_in_history (Some it) = prefix_take it.state.delivered it.state.peer.stable.history

abbrev zxid : Entry → ℤ
zxid entry = entry.txn.zxid

module _ (profile : Profile Call) (agrees : (servers : ℕ) (events : List (Event Call)) → Agrees profile servers events) (hosts : HostsAreARun profile) where
  rise_in : (servers : ℕ) (events : List (Event Call)) (number : ℕ) → Rises zxid (pos 0) (delivered_of (run profile servers events).0 number)
  rise_in servers events number =
      rises_front zxid (pos 0) (delivered_of (run profile servers events).0 number) (history_of (run profile servers events).0 number)
      (subst (λ (l : List (Event Call)). Rises zxid (pos 0) (history_of (run profile servers l).0 number)) (take_all (length events) events (omega arith)) ((agrees servers events).rises (length events) number))
      (delivered_in_history (server_at (run profile servers events).0.servers number))

  rise : (servers : ℕ) (steps : List (Step Call)) → MayStepAll profile (new_network servers) [] [] steps → (number : ℕ) → Rises zxid (pos 0) (delivered_of (after_steps profile (new_network servers) steps) number)
  rise servers steps may number =
      let one = hosts servers steps may in
      subst (λ (w : World Call). Rises zxid (pos 0) (delivered_of w number)) one.2 (rise_in servers one.0 number)

  pub shown_rise : (servers : ℕ) (actions : List Action) → MayAct profile servers actions → (number : ℕ) → Rises zxid (pos 0) (shown_by (hosts_after profile servers actions) number)
  shown_rise servers actions may number =
      let x = hosts_after profile servers actions in
      rises_front zxid (pos 0) (shown_by x number) (delivered_of x.network number)
      (subst (λ (c : Network Call). Rises zxid (pos 0) (delivered_of c number)) (sym (network_is profile servers actions)) (rise servers (steps_of actions) may number))
      (prefix_take (x.host number).shown (delivered_of x.network number))

not_below : (a b : ℤ) → int_lt a b ≡ false → b ≤ℤ a
not_below a b is = grind (arith, nat_tests, ints)

pub never_back : (profile : Profile Call) → ((servers : ℕ) (events : List (Event Call)) → Agrees profile servers events) → HostsAreARun profile → HostsAgree profile → HostsOnlyGrow profile → ReadsNeverGoBack profile
never_back profile agrees hosts agree grow servers before between may seen_at asked_at question low near =
    let earlier = hosts_after profile servers before in
    let later = hosts_after profile servers (before ++ between) in
    let may_before : MayAct profile servers before = may_before profile agree servers before between may in
    let one = all_match profile grow servers before may_before seen_at in
    let two = all_match profile grow servers (before ++ between) may asked_at in
    let tree = tree_is (delivered_of later.network asked_at) (later.host asked_at) two in
    let first : (earlier.host seen_at).watched.tree.last ≡ last_zxid (shown_by earlier seen_at) =
    ap (λ t. t.last) (tree_is (delivered_of earlier.network seen_at) (earlier.host seen_at) one) ∙ last_of_the_list (shown_by earlier seen_at) in
    let second : (later.host asked_at).watched.tree.last ≡ last_zxid (shown_by later asked_at) =
    ap (λ t. t.last) tree ∙ last_of_the_list (shown_by later asked_at) in
    let high : question.seen ≤ℤ (later.host asked_at).watched.tree.last = not_below (later.host asked_at).watched.tree.last question.seen near in
    let below : last_zxid (shown_by earlier seen_at) ≤ℤ last_zxid (shown_by later asked_at) =
    subst₂ (λ a b. a ≤ℤ b) first second (omega (arith, ints, low, high)) in
    record {
      seen = earlier_is_prefix zxid (pos 0) (shown_by earlier seen_at) (shown_by later asked_at) (shown_order profile agree servers before between may seen_at asked_at)
          (shown_rise profile agrees hosts servers before may_before seen_at) below;
      reply = ap (reply_of question) tree;
    }
