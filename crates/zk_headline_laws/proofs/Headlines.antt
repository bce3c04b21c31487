-- The headline's first half, of every run.
use Rattle.std.proofs.Common.{◌≡◌, ℕ, ℤ, pos, ◌≤ℤ◌, ◌⊎◌, Bool, true, false, cond, List, [], ◌∷◌, ◌++◌, take, Option, Some, None, Result, Ok, Err, refl, sym, ap, subst, ◌∙◌, int_lt, arith}
use Rattle.std.proofs.lemmas.Bool.Decides.{nat_tests}
use Rattle.std.specs.Int.{w64, cast_unsigned}
use Rattle.std.proofs.lemmas.Int.{ints}
use Rattle.zab_epoch.specs.declared.history.Entry.{Entry}
use Rattle.zab_epoch.specs.Quorums.{IsQuorumSystem}
use Rattle.zab_laws.specs.Prefixes.{IsPrefix, Rises}
use Rattle.zab_laws.proofs.PrefixLaws.{prefix_refl, rises_front, prefix_take}
use Rattle.zab_rule_laws.proofs.Hearing.{CarriesZxid}
use Rattle.zab_rule_laws.proofs.TagCalls.{CarriesTag}
use Rattle.zab_model.specs.declared.fault.WorldFault.{WorldFault}
use Rattle.zab_call_laws.proofs.Origins.{come_from_calls}
use Rattle.zab_agreement_laws.specs.Origins.{IsOrigin}
use Rattle.zab_model.specs.Runs as zab
use Rattle.zab_model.specs.ProcessStates.{ProcessState}
use Rattle.zab_model.specs.Worlds.{Profile, is_server, running, server_at}
use Rattle.zab_agreement_laws.proofs.AgreeRuns.{runs_agree}
use Rattle.zk_requests.specs.declared.call.Call.{Call}
use Rattle.zab_epoch.specs.Entries.{txns_of}
use Rattle.zk_model.specs.declared.answer.Answer.TheVariants.{Looked}
use Rattle.zk_model.specs.declared.event.Event.{Event}
use Rattle.zk_model.specs.declared.event.Event.TheVariants as events
use Rattle.zk_model.specs.declared.event.Question.{Question}
use Rattle.zk_model.specs.declared.fault.EnsembleFault.{EnsembleFault}
use Rattle.zk_model.specs.declared.fault.EnsembleFault.TheVariants as faults
use Rattle.zk_model.specs.Refusals.{ensemble_fault_of}
use Rattle.zk_model.specs.Ensembles.{Ensemble, ReplicaView, Told, new_ensemble, looks, reads, replica_at, reply_of, waiting, waiting_by}
use Rattle.zk_headline_laws.specs.Headline.{ReplicaMatches, HasMatchingReplica, IsAnswered, ClosingIsUntold, Headline, last_zxid}
use Rattle.zk_headline_laws.specs.Traces.{trace_after, trace_entries, trace_events}
use Rattle.zk_model.specs.Runs.{in_world, world_count, ensemble_after, replica_after, delivered_after, history_after}
use Rattle.zk_headline_laws.proofs.Firing.{fires_in_run}
use Rattle.zk_model.proofs.Lists.{is_there}
use Rattle.zk_headline_laws.proofs.ReadLaws.{earlier_is_prefix, last_of_the_list}
use Rattle.zk_headline_laws.proofs.Standing.{stands_in_run}
use Rattle.zk_model.proofs.Worlds.{take_in_world, delivered_then, history_then, answer_at}
use Rattle.zk_table.specs.declared.read.ReadReply.{ReadReply}
use Rattle.zk_table.specs.declared.txn.Op.TheVariants.{CloseSession}
use Rattle.zk_table.specs.declared.txn.Txn.{Txn}
use Rattle.zk_machine.specs.Changes.{changes_of}
use Rattle.zk_table.specs.Histories.{tree_of}
use Rattle.zk_watch.proofs.Dropped.{stay_untold}
use Rattle.zk_watch.specs.declared.watch.Watch.{Watch}
use Rattle.zk_watch.specs.Watching.{fired_by, without_session}
use Rattle.zk_watch.specs.WatchLaws.{is_told}

-- ---- an accepted read

record LooksAt (x : Ensemble) (question : Question) (reply : ReadReply) : Type 0 where
  pub it : ReplicaView
  pub is : replica_at x.shown question.server ≡ Some it
  pub near : int_lt it.tree.last question.seen ≡ false
  pub reply_is : reply ≡ reply_of question it.tree

same_reply : (a b : ReadReply) → (let told : Told = Ok (Looked a) in told ≡ Ok (Looked b)) → a ≡ b
same_reply a b e = cc

is_refusal : (fault : EnsembleFault) (reply : ReadReply) → (let told : Told = Err fault in told ≡ Ok (Looked reply)) → ⊥
is_refusal fault reply e = absurd cc

near_by : (x : Ensemble) (question : Question) (reply : ReadReply) (it : ReplicaView) → replica_at x.shown question.server ≡ Some it → (b : Bool) → int_lt it.tree.last question.seen ≡ b → (left next : Ensemble) → (fault : EnsembleFault) → (let one : Ensemble × Told = (left, Err fault) in let other : Ensemble × Told = (next, Ok (Looked (reply_of question it.tree))) in (cond b one other).1 ≡ Ok (Looked reply)) → LooksAt x question reply
near_by x question reply it is true behind left next fault was = absurd (is_refusal fault reply was)
near_by x question reply it is false near left next fault was = record {
  it = it;
  is = is;
  near = near;
  reply_is = sym (same_reply (reply_of question it.tree) reply was);
}

looks_told : (x : Ensemble) (question : Question) (reply : ReadReply) (o : Option ReplicaView) → replica_at x.shown question.server ≡ o → (looks x question o).1 ≡ Ok (Looked reply) → LooksAt x question reply
looks_told x question reply None is was = absurd (is_refusal faults.NoServer reply was)
looks_told x question reply (Some it) is was = near_by x question reply it is (int_lt it.tree.last question.seen) refl _ _ _ was

reads_told : (x : Ensemble) (question : Question) (reply : ReadReply) (r : Result ProcessState WorldFault) → (reads x question r).1 ≡ Ok (Looked reply) → LooksAt x question reply
reads_told x question reply (Ok it) was = looks_told x question reply (replica_at x.shown question.server) refl was
reads_told x question reply (Err fault) was = absurd (is_refusal (ensemble_fault_of fault) reply was)

same_told : (a b : Told) → (let o : Option Told = Some a in o ≡ Some b) → a ≡ b
same_told a b e = cc

looked : (profile : Profile Call) (servers : ℕ) (some : List Event) (place : ℕ) (question : Question) (reply : ReadReply) → IsAnswered profile servers some place question reply → LooksAt (ensemble_after profile servers some place) question reply
looked profile servers some place question reply a =
    let x : Ensemble = ensemble_after profile servers some place in
    reads_told x question reply (running x.world.servers question.server)
    (same_told _ _ (sym (answer_at profile (new_ensemble servers) some place (events.Read question) a.asked) ∙ a.told))

-- ---- a session that closes

waits_without : (txn : Txn) (watches : List Watch) → txn.op ≡ CloseSession → waiting txn watches ≡ without_session (cast_unsigned w64 txn.session) watches
waits_without txn watches is = ap (λ op. waiting_by op txn.session watches) is

closing_untold : ClosingIsUntold
closing_untold tree txn watches is =
    ap (λ ws. is_told (cast_unsigned w64 txn.session) (fired_by (changes_of tree txn) ws)) (waits_without txn watches is)
    ∙ stay_untold (cast_unsigned w64 txn.session) (changes_of tree txn) watches

-- ---- increasing lists

not_behind : (a b seen : ℤ) → int_lt b seen ≡ false → a ≤ℤ seen → a ≤ℤ b
not_behind a b seen near ends = grind (arith, nat_tests, ints)

pub delivered_in_history : (o : Option ProcessState) → IsPrefix (zab.delivered_list o) (zab.history_list o)
delivered_in_history None = prefix_refl []
delivered_in_history (Some it) = prefix_take it.state.delivered it.state.peer.stable.history

-- ---- the headline

module _ (profile : Profile Call) (law : CarriesZxid profile.setting) (system : IsQuorumSystem profile.setting.passes) (tags : CarriesTag profile.setting) (servers : ℕ) (some : List Event) where
  shows_at : (count number : ℕ) (it : ReplicaView) → replica_after profile servers some count number ≡ Some it → ReplicaMatches (delivered_after profile servers some count number) it
  shows_at count number it is = (stands_in_run profile law system servers (take count some)).shows number it is

  shown : (count number : ℕ) → is_server servers number ≡ true → HasMatchingReplica profile servers some count number
  shown count number one =
      let s = stands_in_run profile law system servers (take count some) in
      let there = is_there (ensemble_after profile servers some count).shown number (ap (λ n. is_server n number) s.count ∙ one) in
      record { it = there.it; is = there.is; shows = s.shows number there.it there.is }

  one_order : (i j p q : ℕ) → IsPrefix (delivered_after profile servers some i p) (delivered_after profile servers some j q) ⊎ IsPrefix (delivered_after profile servers some j q) (delivered_after profile servers some i p)
  one_order i j p q =
      subst (λ a. IsPrefix a (delivered_after profile servers some j q) ⊎ IsPrefix (delivered_after profile servers some j q) a) (sym (delivered_then profile servers some i p))
      (subst (λ b. IsPrefix (zab.delivered_after profile servers (in_world some) (world_count i some) p) b ⊎ IsPrefix b (zab.delivered_after profile servers (in_world some) (world_count i some) p)) (sym (delivered_then profile servers some j q))
      ((runs_agree profile law system servers (in_world some)).one_order (world_count i some) (world_count j some) p q))

  delivered_rises : (count number : ℕ) → Rises (λ entry. entry.txn.zxid) (pos 0) (delivered_after profile servers some count number)
  delivered_rises count number =
      subst (Rises (λ entry. entry.txn.zxid) (pos 0)) (sym (delivered_then profile servers some count number))
      (rises_front (λ entry. entry.txn.zxid) (pos 0) _ _
      ((runs_agree profile law system servers (in_world some)).rises (world_count count some) number)
      (delivered_in_history (server_at (zab.run profile servers (take (world_count count some) (in_world some))).0.servers number)))

  told : (place : ℕ) (question : Question) (reply : ReadReply) → IsAnswered profile servers some place question reply → reply ≡ reply_of question (tree_of (txns_of (delivered_after profile servers some place question.server)))
  told place question reply a =
      let l = looked profile servers some place question reply a in
      l.reply_is ∙ ap (reply_of question) (shows_at place question.server l.it l.is).tree

  made : (count number : ℕ) (before : List Entry) (x : Entry) → IsPrefix (before ++ x ∷ []) (history_after profile servers some count number) → (call : Call) × IsOrigin profile servers (in_world (take count some)) before x call
  made count number before x within =
      let o = come_from_calls profile tags law system servers (in_world some) (world_count count some) number before x (subst (IsPrefix (before ++ x ∷ [])) (history_then profile servers some count number) within) in
      (o.0, subst (λ es. IsOrigin profile servers es before x o.0) (sym (take_in_world count some)) o.1)

  never_back : (place : ℕ) (question : Question) (reply : ReadReply) → IsAnswered profile servers some place question reply → (count number : ℕ) → last_zxid (delivered_after profile servers some count number) ≤ℤ question.seen → IsPrefix (delivered_after profile servers some count number) (delivered_after profile servers some place question.server)
  never_back place question reply a count number ends =
      let l = looked profile servers some place question reply a in
      let at : l.it.tree.last ≡ last_zxid (delivered_after profile servers some place question.server) =
      ap (λ t. t.last) (shows_at place question.server l.it l.is).tree ∙ last_of_the_list (delivered_after profile servers some place question.server) in
      let near : int_lt (last_zxid (delivered_after profile servers some place question.server)) question.seen ≡ false = ap (λ z. int_lt z question.seen) (sym at) ∙ l.near in
      earlier_is_prefix (λ entry. entry.txn.zxid) (pos 0) _ _ (one_order count place number question.server) (delivered_rises count number)
      (not_behind (last_zxid (delivered_after profile servers some count number)) (last_zxid (delivered_after profile servers some place question.server)) question.seen near ends)

  met : (count number : ℕ) → trace_entries (trace_after profile servers some count number) ≡ delivered_after profile servers some count number
  met count number = (fires_in_run profile law system servers (take count some) number).entries

  fired : (count number : ℕ) (it : ReplicaView) → replica_after profile servers some count number ≡ Some it → it.events ≡ trace_events (trace_after profile servers some count number)
  fired count number it is = ((fires_in_run profile law system servers (take count some) number).tells it is).events

  pub headline : Headline profile servers some
  headline = record { shown = shown; told = told; met = met; fired = fired; closing = closing_untold; one_order = one_order; origins = made; never_back = never_back }
