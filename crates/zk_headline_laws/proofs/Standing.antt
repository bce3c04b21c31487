-- Ensembles in a run: the world is that of the world's events, and each server shows what it has
-- delivered.
use Rattle.std.proofs.Common.{◌≡◌, ℕ, inl, inr, Bool, true, false, cond, List, [], ◌∷◌, ◌++◌, length, Option, Some, None, Result, Ok, Err, refl, sym, ap, subst, ◌∙◌, int_lt}
use Rattle.zab_epoch.specs.declared.history.Entry.{Entry}
use Rattle.zab_epoch.specs.Quorums.{IsQuorumSystem}
use Rattle.zab_laws.specs.Prefixes.{IsPrefix}
use Rattle.zab_rule_laws.proofs.Hearing.{CarriesZxid}
use Rattle.zab_model.specs.declared.event.Event.{Event as WorldEvent}
use Rattle.zab_model.specs.declared.fault.WorldFault.{WorldFault}
use Rattle.zab_model.specs.Movers.{mover}
use Rattle.zab_model.specs.Running.{is_running}
use Rattle.zab_model.specs.Runs as zab
use Rattle.zab_model.specs.Runs.{delivered_of}
use Rattle.zab_model.specs.ProcessStates.{ProcessState}
use Rattle.zab_model.specs.Worlds as worlds
use Rattle.zab_model.specs.Worlds.{World, Profile, new_world, running}
use Rattle.zab_agreement_laws.proofs.AgreeEvents.{happens_keeps}
use Rattle.zab_agreement_laws.proofs.Deliveries.{no_deliveries_first, others_keep, down_after_crash, down_has_nothing}
use Rattle.zab_model.proofs.RunLaws as zab_laws
use Rattle.zab_agreement_laws.proofs.WholeRuns.{whole, shares_of}
use Rattle.zab_rule_laws.proofs.TagFacts.{cases_eq}
use Rattle.zk_requests.specs.declared.call.Call.{Call}
use Rattle.zk_model.specs.declared.event.Event.{Event}
use Rattle.zk_model.specs.declared.event.Event.TheVariants as events
use Rattle.zk_model.specs.declared.event.Question.{Question}
use Rattle.zk_model.specs.Ensembles.{Ensemble, ReplicaView, Told, fresh, ensemble, new_ensemble, happens, moves, looks, reads, shown_then, replica_at, at_server, watching, reply_of}
use Rattle.zk_headline_laws.specs.Headline.{ReplicaMatches}
use Rattle.zk_model.specs.Runs.{after}
use Rattle.zk_model.proofs.Lists.{changed_here, changed_elsewhere, length_changed, fresh_at, length_replicate}
use Rattle.zk_headline_laws.proofs.Showing.{shows_fresh, shows_then}

-- ---- deliveries

not_both : {P : Type 0} (b : Bool) → b ≡ true → b ≡ false → P
not_both true t f = absurd cc
not_both false t f = absurd cc

-- the delivered list of a running server only grows
pub grows : (profile : Profile Call) → CarriesZxid profile.setting → IsQuorumSystem profile.setting.passes → (servers : ℕ) (es : List (WorldEvent Call)) (e : WorldEvent Call) (w : World Call) (p : ℕ) → w ≡ zab.after profile (new_world servers) es → is_running (worlds.happens profile w e).0 p ≡ true → IsPrefix (delivered_of w p) (delivered_of (worlds.happens profile w e).0 p)
grows profile law system servers es e w p is runs =
    let t = whole profile law system servers es in
    let keeps = happens_keeps profile law (shares_of profile.setting.passes system) t.last (zab.after profile (new_world servers) es) e t.stands in
    subst (λ v. IsPrefix (delivered_of v p) (delivered_of (worlds.happens profile v e).0 p)) (sym is)
    (keeps.more p (λ crash. not_both (is_running (worlds.happens profile w e).0 p) runs (ap (λ event. is_running (worlds.happens profile w event).0 p) crash ∙ down_after_crash profile w p)))

pub world_more : (profile : Profile Call) (servers : ℕ) (es : List (WorldEvent Call)) (e : WorldEvent Call) (w : World Call) → w ≡ zab.after profile (new_world servers) es → (worlds.happens profile w e).0 ≡ zab.after profile (new_world servers) (es ++ e ∷ [])
world_more profile servers es e w is = ap (λ v. (worlds.happens profile v e).0) is ∙ sym (zab_laws.after_more profile (new_world servers) es e)

-- and that of a stopped one is empty
pub nothing : (profile : Profile Call) (servers : ℕ) (es : List (WorldEvent Call)) (w : World Call) (p : ℕ) → w ≡ zab.after profile (new_world servers) es → is_running w p ≡ false → delivered_of w p ≡ []
nothing profile servers es w p is down =
    ap (λ v. delivered_of v p) is ∙ down_has_nothing profile servers es p (ap (λ v. is_running v p) (sym is) ∙ down)

-- ---- the state of an ensemble

pub record Stands (profile : Profile Call) (servers : ℕ) (x : Ensemble) : Type 0 where
  pub es : List (WorldEvent Call)
  pub world : x.world ≡ zab.after profile (new_world servers) es
  pub count : length x.shown ≡ servers
  pub shows : (p : ℕ) (it : ReplicaView) → replica_at x.shown p ≡ Some it → ReplicaMatches (delivered_of x.world p) it

pub new_stands : (profile : Profile Call) (servers : ℕ) → Stands profile servers (new_ensemble servers)
new_stands profile servers = record {
  es = [];
  world = refl;
  count = length_replicate servers fresh;
  shows = λ p it is. subst (ReplicaMatches (delivered_of (new_ensemble servers).world p)) (fresh_at servers p it is) (shows_fresh _ (no_deliveries_first Call servers p));
}

-- ---- an event of the world

moved_stands : (profile : Profile Call) → CarriesZxid profile.setting → IsQuorumSystem profile.setting.passes → (servers : ℕ) (x : Ensemble) (e : WorldEvent Call) (m : ℕ) → m ≡ mover x.world e → Stands profile servers x → Stands profile servers (moves x m (worlds.happens profile x.world e)).0
moved_stands profile law system servers x e m is s =
    let next : World Call = (worlds.happens profile x.world e).0 in
    let change : ReplicaView → ReplicaView = shown_then (is_running next m) (length (delivered_of x.world m)) (delivered_of next m) in
    record {
      es = s.es ++ e ∷ [];
      world = world_more profile servers s.es e x.world s.world;
      count = length_changed change x.shown m ∙ s.count;
      shows = λ p it at. elim (cases_eq p m) [
        | inl same ↦
            (let c = changed_here change x.shown m it (subst (λ q. replica_at (at_server change x.shown m) q ≡ Some it) same at) in
            subst (λ q. ReplicaMatches (delivered_of next q) it) (sym same) (subst (ReplicaMatches (delivered_of next m)) (sym c.is)
            (shows_then (is_running next m) (delivered_of x.world m) (delivered_of next m) c.old
            (λ runs. grows profile law system servers s.es e x.world m s.world runs)
            (λ down. nothing profile servers (s.es ++ e ∷ []) next m (world_more profile servers s.es e x.world s.world) down)
            (s.shows m c.old c.was))))
        | inr differs ↦
            subst (λ l. ReplicaMatches l it) (sym (others_keep profile x.world e p (λ same. differs (same ∙ sym is))))
            (s.shows p it (sym (changed_elsewhere change x.shown m p differs) ∙ at))
      ];
    }

-- ---- a read

same_shows : (d : List Entry) (question : Question) (reply : _) (it : ReplicaView) → ReplicaMatches d it → ReplicaMatches d (watching question reply it)
same_shows d question reply it h = record { tree = h.tree; answers = h.answers }

watching_stands : (profile : Profile Call) (servers : ℕ) (x : Ensemble) (question : Question) (reply : _) → Stands profile servers x → Stands profile servers (ensemble x.world (at_server (watching question reply) x.shown question.server))
watching_stands profile servers x question reply s =
    let change : ReplicaView → ReplicaView = watching question reply in
    record {
      es = s.es;
      world = s.world;
      count = length_changed change x.shown question.server ∙ s.count;
      shows = λ p it at. elim (cases_eq p question.server) [
        | inl same ↦
            (let c = changed_here change x.shown question.server it (subst (λ q. replica_at (at_server change x.shown question.server) q ≡ Some it) same at) in
            subst (λ q. ReplicaMatches (delivered_of x.world q) it) (sym same) (subst (ReplicaMatches (delivered_of x.world question.server)) (sym c.is)
            (same_shows (delivered_of x.world question.server) question reply c.old (s.shows question.server c.old c.was))))
        | inr differs ↦ s.shows p it (sym (changed_elsewhere change x.shown question.server p differs) ∙ at)
      ];
    }

by_test : (profile : Profile Call) (servers : ℕ) (b : Bool) (one other : Ensemble × Told) → Stands profile servers one.0 → Stands profile servers other.0 → Stands profile servers (cond b one other).0
by_test profile servers true one other p q = p
by_test profile servers false one other p q = q

looks_stand : (profile : Profile Call) (servers : ℕ) (x : Ensemble) (question : Question) (o : Option ReplicaView) → Stands profile servers x → Stands profile servers (looks x question o).0
looks_stand profile servers x question None s = s
looks_stand profile servers x question (Some it) s =
    by_test profile servers (int_lt it.tree.last question.seen) _ _ s (watching_stands profile servers x question (reply_of question it.tree) s)

reads_stand : (profile : Profile Call) (servers : ℕ) (x : Ensemble) (question : Question) (r : Result ProcessState WorldFault) → Stands profile servers x → Stands profile servers (reads x question r).0
reads_stand profile servers x question (Ok it) s = looks_stand profile servers x question (replica_at x.shown question.server) s
reads_stand profile servers x question (Err fault) s = s

-- ---- runs

pub event_stands : (profile : Profile Call) → CarriesZxid profile.setting → IsQuorumSystem profile.setting.passes → (servers : ℕ) (x : Ensemble) (event : Event) → Stands profile servers x → Stands profile servers (happens profile x event).0
event_stands profile law system servers x (events.World e) s = moved_stands profile law system servers x e (mover x.world e) refl s
event_stands profile law system servers x (events.Read question) s = reads_stand profile servers x question (running x.world.servers question.server) s

pub stands_after : (profile : Profile Call) → CarriesZxid profile.setting → IsQuorumSystem profile.setting.passes → (servers : ℕ) (x : Ensemble) (some : List Event) → Stands profile servers x → Stands profile servers (after profile x some)
stands_after profile law system servers x [] s = s
stands_after profile law system servers x (event ∷ some) s =
    stands_after profile law system servers (happens profile x event).0 some (event_stands profile law system servers x event s)

-- after any events from a new ensemble on
pub stands_in_run : (profile : Profile Call) → CarriesZxid profile.setting → IsQuorumSystem profile.setting.passes → (servers : ℕ) (some : List Event) → Stands profile servers (after profile (new_ensemble servers) some)
stands_in_run profile law system servers some = stands_after profile law system servers (new_ensemble servers) some (new_stands profile servers)
