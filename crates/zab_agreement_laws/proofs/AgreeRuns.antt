-- Every run agrees.
use Rattle.std.proofs.Common.{◌≡◌, ◌≢◌, ℕ, suc, ◌+◌, pos, inl, inr, List, [], ◌∷◌, ◌++◌, take, Option, Some, None, sym, subst, slice_get, add-one, arith}
use Rattle.zab_epoch.specs.declared.history.Entry.{Entry}
use Rattle.zab_epoch.specs.Quorums.{IsQuorumSystem}
use Rattle.zab_laws.specs.Prefixes.{IsPrefix, Rises}
use Rattle.zab_laws.specs.Cores as laws
use Rattle.zab_laws.proofs.PrefixLaws.{prefix_refl, prefix_trans, prefix_take, rises_front}
use Rattle.zab_laws.proofs.Facts.{rising}
use Rattle.zab_laws.proofs.Extending.{agreed}
use Rattle.zab_laws.proofs.Matching.{one_zxid}
use Rattle.zab_rule_laws.specs.Told.{laws_of}
use Rattle.zab_rule_laws.proofs.Hearing.{CarriesZxid}
use Rattle.zab_model.specs.declared.event.Event.{Event}
use Rattle.zab_model.specs.declared.event.Event.TheVariants.{Crash}
use Rattle.zab_model.specs.ProcessStates.{ProcessState}
use Rattle.zab_model.specs.Worlds.{Profile, server_at}
use Rattle.zab_model.specs.Runs.{run, delivered_list, delivered_after, history_list, history_after}
use Rattle.zab_agreement_laws.specs.Agreement.{Agrees}
use Rattle.zab_agreement_laws.proofs.WholeRuns.{IsHeld, shares_of, whole}
use Rattle.zab_agreement_laws.proofs.FactRuns.{not_in_nothing, has_quorum}

same_entries : (k : laws.Setting Entry) (g : laws.Ghost Entry) → laws.AreFacts k g → (one two before other : List Entry) (x y : Entry) → IsHeld g one → IsHeld g two → IsPrefix (before ++ x ∷ []) one → IsPrefix (other ++ y ∷ []) two → k.key x ≡ k.key y → before ++ x ∷ [] ≡ other ++ y ∷ []
same_entries k g facts one two before other x y (inl none) b p q same = absurd (not_in_nothing before x (subst (IsPrefix (before ++ x ∷ [])) none p))
same_entries k g facts one two before other x y (inr a) (inl none) p q same = absurd (not_in_nothing other y (subst (IsPrefix (other ++ y ∷ [])) none q))
same_entries k g facts one two before other x y (inr a) (inr b) p q same =
    one_zxid k g facts a.server a.epoch b.server b.epoch a.longest b.longest before other x y a.is b.is
    (prefix_trans (before ++ x ∷ []) one a.longest p a.within)
    (prefix_trans (other ++ y ∷ []) two b.longest q b.within) same

rises_in : (k : laws.Setting Entry) (g : laws.Ghost Entry) → laws.AreFacts k g → (list : List Entry) → IsHeld g list → Rises k.key (pos 0) list
rises_in k g facts list (inl none) = subst (Rises k.key (pos 0)) (sym none) tt
rises_in k g facts list (inr h) =
    let r = rising k g facts (suc h.epoch) h.server h.epoch h.longest (omega arith) h.is in
    rises_front k.key (pos 0) list h.longest r.rises h.within

delivered_in_history : (o : Option ProcessState) → IsPrefix (delivered_list o) (history_list o)
delivered_in_history None = prefix_refl []
delivered_in_history (Some it) = prefix_take it.state.delivered it.state.peer.stable.history

pub runs_agree : {C : Type 0} (profile : Profile C) → CarriesZxid profile.setting → IsQuorumSystem profile.setting.passes → (servers : ℕ) (events : List (Event C)) → Agrees profile servers events
runs_agree {C} profile law system servers events =
    let share = shares_of profile.setting.passes system in
    let t = whole profile law system servers events in
    let grows : (i p : ℕ) (event : Event C) → slice_get events i ≡ Some event → event ≢ Crash p → IsPrefix (delivered_after profile servers events i p) (delivered_after profile servers events (i + 1) p) =
    (λ i p event is spared. subst (λ j. IsPrefix (delivered_after profile servers events i p) (delivered_after profile servers events j p)) (sym (add-one i)) (t.more i p event is spared)) in
    record {
      one_order = λ i j p q. (let a = t.told i p in let b = t.told j q in
          agreed (laws_of profile.setting.passes) t.last share t.facts (delivered_after profile servers events i p) (delivered_after profile servers events j q) a.0 b.0 a.1 b.1);
      only_grows = grows;
      stays_in_history = λ i p event is spared.
          prefix_trans (delivered_after profile servers events i p) (delivered_after profile servers events (i + 1) p) (history_after profile servers events (i + 1) p)
          (grows i p event is spared)
          (delivered_in_history (server_at (run profile servers (take (i + 1) events)).0.servers p));
      one_zxid = λ i j p q before other x y in_one in_other same.
          same_entries (laws_of profile.setting.passes) t.last t.facts (history_after profile servers events i p) (history_after profile servers events j q) before other x y (t.held i p) (t.held j q) in_one in_other same;
      rises = λ i p. rises_in (laws_of profile.setting.passes) t.last t.facts (history_after profile servers events i p) (t.held i p);
      quorum_first = λ i p epoch before x within made.
          has_quorum profile servers (take i events) (whole profile law system servers (take i events)) p epoch before x within made;
    }
