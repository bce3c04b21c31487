-- What servers fire in runs: the events of their traces.
use Rattle.std.proofs.Common.{◌≡◌, ◌≢◌, ℕ, ◌==◌, inl, inr, Bool, true, false, cond, List, [], ◌∷◌, ◌++◌, map, length, drop, Option, Some, None, Result, Ok, Err, refl, sym, ap, subst, ◌∙◌, int_lt, eq-eqb, arith}
use Rattle.std.proofs.lemmas.Bool.Decides.{nat_tests}
use Rattle.std.proofs.lemmas.List.{append-nil, append_assoc}
use Rattle.zab_epoch.specs.declared.history.Entry.{Entry}
use Rattle.zab_epoch.specs.Quorums.{IsQuorumSystem}
use Rattle.zab_laws.specs.Prefixes.{IsPrefix}
use Rattle.zab_rule_laws.proofs.Hearing.{CarriesZxid}
use Rattle.zab_agreement_laws.proofs.Deliveries.{no_deliveries_first, others_stay}
use Rattle.zab_model.specs.declared.event.Event.{Event as WorldEvent}
use Rattle.zab_model.specs.declared.fault.WorldFault.{WorldFault}
use Rattle.zab_model.specs.declared.fault.WorldFault.TheVariants as world_faults
use Rattle.zab_model.specs.Movers.{mover}
use Rattle.zab_model.specs.Running.{is_up, is_running}
use Rattle.zab_model.specs.Runs.{delivered_of, delivered_list}
use Rattle.zab_model.specs.ProcessStates.{ProcessState}
use Rattle.zab_model.specs.Worlds as worlds
use Rattle.zab_model.specs.Worlds.{World, Profile, if_up, running, server_at}
use Rattle.zab_rule_laws.proofs.TagFacts.{cases_eq}
use Rattle.zk_machine.specs.Changes.{changes_of}
use Rattle.zk_requests.specs.declared.call.Call.{Call}
use Rattle.zab_epoch.specs.Entries.{txns_of}
use Rattle.zk_model.proofs.Lists.{changed_here, changed_elsewhere, fresh_at}
use Rattle.zk_headline_laws.proofs.Showing.{shows_in}
use Rattle.zk_headline_laws.proofs.Standing.{Stands, new_stands, event_stands, grows, world_more, nothing}
use Rattle.zk_model.specs.declared.answer.Answer.TheVariants.{Looked}
use Rattle.zk_model.specs.declared.event.Event.{Event}
use Rattle.zk_model.specs.declared.event.Event.TheVariants as events
use Rattle.zk_model.specs.declared.event.Question.{Question}
use Rattle.zk_model.specs.declared.fault.EnsembleFault.{EnsembleFault}
use Rattle.zk_model.specs.declared.fault.EnsembleFault.TheVariants as faults
use Rattle.zk_model.specs.Ensembles.{Ensemble, ReplicaView, Told, fresh, ensemble, new_ensemble, happens, moves, looks, reads, take_in, take_all, shown_then, replica_at, at_server, watching, waiting, reply_of}
use Rattle.zk_headline_laws.specs.Headline.{ReplicaMatches}
use Rattle.zk_headline_laws.specs.Traces.{TraceItem, trace_then, trace_from, trace_entries, set_by, watches_from, watches_in, fired_from, trace_events}
use Rattle.zk_headline_laws.specs.Traces.TraceItem.{Delivers, Answers}
use Rattle.zk_model.specs.Refusals.{ensemble_fault_of}
use Rattle.zk_model.specs.Runs.{after}
use Rattle.zk_table.specs.Histories.{state_after}
use Rattle.zk_table.specs.States.{State, start_state}
use Rattle.zk_table.specs.Steps.{step}
use Rattle.zk_table.specs.declared.read.ReadReply.{ReadReply}
use Rattle.zk_watch.specs.declared.watch.Watch.{Watch}
use Rattle.zk_watch.specs.Watching.{fired_by, left_after}

-- ---- traces, one after another

entries_more : (a b : List TraceItem) → trace_entries (a ++ b) ≡ trace_entries a ++ trace_entries b
entries_more [] b = refl
entries_more (Delivers entry ∷ a) b = ap (λ l. entry ∷ l) (entries_more a b)
entries_more (Answers question reply ∷ a) b = entries_more a b

entries_delivered : (es : List Entry) → trace_entries (map Delivers es) ≡ es
entries_delivered [] = refl
entries_delivered (e ∷ es) = ap (λ l. e ∷ l) (entries_delivered es)

watches_more : (tree : State) (ws : List Watch) (a b : List TraceItem) → watches_from tree ws (a ++ b) ≡ watches_from (state_after tree (txns_of (trace_entries a))) (watches_from tree ws a) b
watches_more tree ws [] b = refl
watches_more tree ws (Delivers entry ∷ a) b = watches_more (step tree entry.txn).0 (left_after (changes_of tree entry.txn) (waiting entry.txn ws)) a b
watches_more tree ws (Answers question reply ∷ a) b = watches_more tree (set_by question reply ws) a b

fired_more : (tree : State) (ws : List Watch) (a b : List TraceItem) → fired_from tree ws (a ++ b) ≡ fired_from tree ws a ++ fired_from (state_after tree (txns_of (trace_entries a))) (watches_from tree ws a) b
fired_more tree ws [] b = refl
fired_more tree ws (Delivers entry ∷ a) b =
    ap (λ l. fired_by (changes_of tree entry.txn) (waiting entry.txn ws) ++ l) (fired_more (step tree entry.txn).0 (left_after (changes_of tree entry.txn) (waiting entry.txn ws)) a b)
    ∙ sym (append_assoc (fired_by (changes_of tree entry.txn) (waiting entry.txn ws)) _ _)
fired_more tree ws (Answers question reply ∷ a) b = fired_more tree (set_by question reply ws) a b

-- ---- what a server shows of them

pub record Tells (met : List TraceItem) (it : ReplicaView) : Type 0 where
  pub watches : it.watches ≡ watches_in met
  pub events : it.events ≡ trace_events met

tells_fresh : Tells [] fresh
tells_fresh = record { watches = refl; events = refl }

tells_entry : (met : List TraceItem) (it : ReplicaView) (e : Entry) → ReplicaMatches (trace_entries met) it → Tells met it → Tells (met ++ Delivers e ∷ []) (take_in it e)
tells_entry met it e shows tells =
    record {
      watches = ap (λ t. left_after (changes_of t e.txn) (waiting e.txn it.watches)) shows.tree
          ∙ ap (λ ws. left_after (changes_of (state_after start_state (txns_of (trace_entries met))) e.txn) (waiting e.txn ws)) tells.watches
          ∙ sym (watches_more start_state [] met (Delivers e ∷ []));
      events = ap (λ t. it.events ++ fired_by (changes_of t e.txn) (waiting e.txn it.watches)) shows.tree
          ∙ ap (λ ws. it.events ++ fired_by (changes_of (state_after start_state (txns_of (trace_entries met))) e.txn) (waiting e.txn ws)) tells.watches
          ∙ ap (λ l. l ++ fired_by (changes_of (state_after start_state (txns_of (trace_entries met))) e.txn) (waiting e.txn (watches_in met))) tells.events
          ∙ ap (λ l. trace_events met ++ l) (sym (append-nil (fired_by (changes_of (state_after start_state (txns_of (trace_entries met))) e.txn) (waiting e.txn (watches_in met)))))
          ∙ sym (fired_more start_state [] met (Delivers e ∷ []));
    }

tells_all : (es : List Entry) (met : List TraceItem) (it : ReplicaView) → ReplicaMatches (trace_entries met) it → Tells met it → Tells (met ++ map Delivers es) (take_all it es)
tells_all [] met it shows tells = subst (λ l. Tells l it) (sym (append-nil met)) tells
tells_all (e ∷ es) met it shows tells =
    subst (λ l. Tells l (take_all (take_in it e) es)) (append_assoc met (Delivers e ∷ []) (map Delivers es))
    (tells_all es (met ++ Delivers e ∷ []) (take_in it e)
    (subst (λ l. ReplicaMatches l (take_in it e)) (sym (entries_more met (Delivers e ∷ []))) (shows_in (trace_entries met) it e shows))
    (tells_entry met it e shows tells))

tells_answer : (met : List TraceItem) (it : ReplicaView) (question : Question) (reply : ReadReply) → Tells met it → Tells (met ++ Answers question reply ∷ []) (watching question reply it)
tells_answer met it question reply tells = record {
  watches = ap (λ ws. set_by question reply ws) tells.watches ∙ sym (watches_more start_state [] met (Answers question reply ∷ []));
  events = tells.events ∙ sym (append-nil (trace_events met)) ∙ sym (fired_more start_state [] met (Answers question reply ∷ []));
}

-- ---- the state of an ensemble's server

pub record Fires (x : Ensemble) (number : ℕ) (met : List TraceItem) : Type 0 where
  pub entries : trace_entries met ≡ delivered_of x.world number
  pub down : is_running x.world number ≡ false → met ≡ []
  pub tells : (it : ReplicaView) → replica_at x.shown number ≡ Some it → Tells met it

new_fires : (servers number : ℕ) → Fires (new_ensemble servers) number []
new_fires servers number = record {
  entries = sym (no_deliveries_first Call servers number);
  down = λ down. refl;
  tells = λ it is. subst (Tells []) (fresh_at servers number it is) tells_fresh;
}

not_both : {P : Type 0} (b : Bool) → b ≡ true → b ≡ false → P
not_both true t f = absurd cc
not_both false t f = absurd cc

drop_all : {X : Type 0} (xs : List X) → drop (length xs) xs ≡ []
drop_all [] = refl
drop_all (x ∷ xs) = drop_all xs

drop_front : {X : Type 0} (a rest : List X) → drop (length a) (a ++ rest) ≡ rest
drop_front [] rest = refl
drop_front (x ∷ a) rest = drop_front a rest

front_and_rest : {X : Type 0} (before now : List X) → IsPrefix before now → before ++ drop (length before) now ≡ now
front_and_rest before now p =
    ap (λ l. before ++ drop (length before) l) (sym p.is) ∙ ap (λ l. before ++ l) (drop_front before p.rest) ∙ p.is

-- ---- an event of the world

-- the server that moves
mover_fires : (profile : Profile Call) → CarriesZxid profile.setting → IsQuorumSystem profile.setting.passes → (servers : ℕ) (x : Ensemble) (e : WorldEvent Call) (m : ℕ) (met : List TraceItem) → Stands profile servers x → Fires x m met → Fires (moves x m (worlds.happens profile x.world e)).0 m (trace_then x m (events.World e) (moves x m (worlds.happens profile x.world e)) met)
mover_fires profile law system servers x e m met s f = by_running (is_running next m) refl
  where
    next : World Call
    next = (worlds.happens profile x.world e).0

    before : List Entry
    before = delivered_of x.world m

    now : List Entry
    now = delivered_of next m

    change : Bool → ReplicaView → ReplicaView
    change runs = shown_then runs (length before) now

    met_now : Bool → List TraceItem
    met_now runs = cond runs (met ++ (map Delivers (drop (length before) now) ++ [])) []

    same_met : met ++ (map Delivers (drop (length before) now) ++ []) ≡ met ++ map Delivers (drop (length before) now)
    same_met = ap (λ l. met ++ l) (append-nil (map Delivers (drop (length before) now)))

    by_running : (b : Bool) → is_running next m ≡ b → Fires (moves x m (worlds.happens profile x.world e)).0 m (met_now b)
    by_running true runs = record {
      entries = ap trace_entries same_met
          ∙ entries_more met (map Delivers (drop (length before) now))
          ∙ ap (λ l. trace_entries met ++ l) (entries_delivered (drop (length before) now))
          ∙ ap (λ l. l ++ drop (length before) now) f.entries
          ∙ front_and_rest before now (grows profile law system servers s.es e x.world m s.world runs);
      down = λ down. not_both (is_running next m) runs down;
      tells = λ it at.
          let c = changed_here (change (is_running next m)) x.shown m it at in
          subst (λ l. Tells l it) (sym same_met)
          (subst (Tells (met ++ map Delivers (drop (length before) now))) (sym (c.is ∙ ap (λ b. change b c.old) runs))
          (tells_all (drop (length before) now) met c.old
          (subst (λ l. ReplicaMatches l c.old) (sym f.entries) (s.shows m c.old c.was)) (f.tells c.old c.was)));
    }
    by_running false stops = record {
      entries = sym (nothing profile servers (s.es ++ e ∷ []) next m (world_more profile servers s.es e x.world s.world) stops);
      down = λ down. refl;
      tells = λ it at.
          let c = changed_here (change (is_running next m)) x.shown m it at in
          subst (Tells []) (sym (c.is ∙ ap (λ b. change b c.old) stops)) tells_fresh;
    }

-- nothing happens at a server
stays : (x y : Ensemble) (number : ℕ) (met : List TraceItem) → delivered_of y.world number ≡ delivered_of x.world number → is_running y.world number ≡ is_running x.world number → replica_at y.shown number ≡ replica_at x.shown number → Fires x number met → Fires y number (cond (is_running y.world number) (met ++ (map Delivers (drop (length (delivered_of x.world number)) (delivered_of y.world number)) ++ [])) [])
stays x y number met same runs shown f = by_running (is_running y.world number) refl
  where
    met_now : Bool → List TraceItem
    met_now b = cond b (met ++ (map Delivers (drop (length (delivered_of x.world number)) (delivered_of y.world number)) ++ [])) []

    none_more : met ++ (map Delivers (drop (length (delivered_of x.world number)) (delivered_of y.world number)) ++ []) ≡ met
    none_more = ap (λ d. met ++ (map Delivers (drop (length (delivered_of x.world number)) d) ++ [])) same
        ∙ ap (λ l. met ++ (map Delivers l ++ [])) (drop_all (delivered_of x.world number))
        ∙ append-nil met

    fires_as : (l : List TraceItem) → l ≡ met → Fires y number l
    fires_as l is = record {
      entries = ap trace_entries is ∙ f.entries ∙ sym same;
      down = λ down. is ∙ f.down (sym runs ∙ down);
      tells = λ it at. subst (λ m. Tells m it) (sym is) (f.tells it (sym shown ∙ at));
    }

    by_running : (b : Bool) → is_running y.world number ≡ b → Fires y number (met_now b)
    by_running true up = fires_as _ none_more
    by_running false down = fires_as [] (sym (f.down (sym runs ∙ down)))

other_fires : (profile : Profile Call) (x : Ensemble) (e : WorldEvent Call) (m p : ℕ) (met : List TraceItem) → p ≢ m → m ≡ mover x.world e → Fires x p met → Fires (moves x m (worlds.happens profile x.world e)).0 p (trace_then x p (events.World e) (moves x m (worlds.happens profile x.world e)) met)
other_fires profile x e m p met other is f =
    let next : World Call = (worlds.happens profile x.world e).0 in
    let same : server_at next.servers p ≡ server_at x.world.servers p = others_stay profile x.world e p (λ eq. other (eq ∙ sym is)) in
    stays x (moves x m (worlds.happens profile x.world e)).0 p met (ap delivered_list same) (ap is_up same)
    (changed_elsewhere (shown_then (is_running next m) (length (delivered_of x.world m)) (delivered_of next m)) x.shown m p other) f

world_fires : (profile : Profile Call) → CarriesZxid profile.setting → IsQuorumSystem profile.setting.passes → (servers : ℕ) (x : Ensemble) (e : WorldEvent Call) (m p : ℕ) (met : List TraceItem) → m ≡ mover x.world e → Stands profile servers x → Fires x p met → Fires (moves x m (worlds.happens profile x.world e)).0 p (trace_then x p (events.World e) (moves x m (worlds.happens profile x.world e)) met)
world_fires profile law system servers x e m p met is s f = elim (cases_eq p m) [
  | inl same ↦
      subst (λ q. Fires (moves x m (worlds.happens profile x.world e)).0 q (trace_then x q (events.World e) (moves x m (worlds.happens profile x.world e)) met)) (sym same)
      (mover_fires profile law system servers x e m met s (subst (λ q. Fires x q met) same f))
  | inr other ↦ other_fires profile x e m p met other is f
]

-- ---- a read

same_number : (a b : ℕ) → (a == b) ≡ true → a ≡ b
same_number a b is = grind (arith, nat_tests)

-- what comes after it
IsFiring : Ensemble → Question → ℕ → List TraceItem → Ensemble × Told → Type 0
IsFiring x question p met next = Fires next.0 p (trace_then x p (events.Read question) next met)

refused_fires : (x : Ensemble) (question : Question) (p : ℕ) (met : List TraceItem) (fault : EnsembleFault) → Fires x p met → IsFiring x question p met (x, Err fault)
unfolding IsFiring
refused_fires x question p met fault f = stays x x p met refl refl refl f

up_by : (o : Option ProcessState) (it : ProcessState) → if_up o ≡ Ok it → is_up o ≡ true
up_by None it is = absurd cc
up_by (Some other) it is = by_up other.up refl
  where
    by_up : (b : Bool) → other.up ≡ b → other.up ≡ true
    by_up true up = up
    by_up false down = absurd (let no : (let r : Result ProcessState WorldFault = Err world_faults.Down in r ≡ Ok it) = ap (λ b. cond b (Ok other) (Err world_faults.Down)) (sym down) ∙ is in cc)

looked_fires : (x : Ensemble) (question : Question) (reply : ReadReply) (p : ℕ) (met : List TraceItem) → is_running x.world question.server ≡ true → Fires x p met → IsFiring x question p met (ensemble x.world (at_server (watching question reply) x.shown question.server), Ok (Looked reply))
unfolding IsFiring
looked_fires x question reply p met runs f = elim (cases_eq p question.server) [
  | inl same ↦ subst (λ q. Fires next q (asked q)) (sym same) (here (subst (λ q. Fires x q met) same f))
  | inr other ↦
      subst (λ b. Fires next p (cond (is_running x.world p) (met ++ (map Delivers (drop (length (delivered_of x.world p)) (delivered_of x.world p)) ++ cond b (Answers question reply ∷ []) [])) []))
      (sym (differs p other))
      (stays x next p met refl refl (changed_elsewhere (watching question reply) x.shown question.server p other) f)
]
  where
    next : Ensemble
    next = ensemble x.world (at_server (watching question reply) x.shown question.server)

    asked : ℕ → List TraceItem
    asked q = trace_then x q (events.Read question) (next, Ok (Looked reply)) met

    differs : (p : ℕ) → p ≢ question.server → (question.server == p) ≡ false
    differs p other = by_eq (question.server == p) refl
      where
        by_eq : (b : Bool) → (question.server == p) ≡ b → b ≡ false
        by_eq true is = absurd (other (sym (same_number question.server p is)))
        by_eq false is = refl

    is_met : asked question.server ≡ met ++ Answers question reply ∷ []
    is_met =
        ap (λ b. cond b (met ++ (map Delivers (drop (length (delivered_of x.world question.server)) (delivered_of x.world question.server)) ++ cond (question.server == question.server) (Answers question reply ∷ []) [])) []) runs
        ∙ ap (λ l. met ++ (map Delivers l ++ cond (question.server == question.server) (Answers question reply ∷ []) [])) (drop_all (delivered_of x.world question.server))
        ∙ ap (λ b. met ++ cond b (Answers question reply ∷ []) []) (eq-eqb question.server question.server refl)

    here : Fires x question.server met → Fires next question.server (asked question.server)
    here g = record {
      entries = ap trace_entries is_met ∙ entries_more met (Answers question reply ∷ []) ∙ append-nil (trace_entries met) ∙ g.entries;
      down = λ down. not_both (is_running x.world question.server) runs down;
      tells = λ it at.
          let c = changed_here (watching question reply) x.shown question.server it at in
          subst (λ l. Tells l it) (sym is_met) (subst (Tells (met ++ Answers question reply ∷ [])) (sym c.is) (tells_answer met c.old question reply (g.tells c.old c.was)));
    }

by_test : (P : Ensemble × Told → Type 0) (b : Bool) (one other : Ensemble × Told) → P one → P other → P (cond b one other)
by_test P true one other p q = p
by_test P false one other p q = q

looks_fire : (x : Ensemble) (question : Question) (p : ℕ) (met : List TraceItem) (o : Option ReplicaView) → is_running x.world question.server ≡ true → Fires x p met → IsFiring x question p met (looks x question o)
looks_fire x question p met None runs f = refused_fires x question p met faults.NoServer f
looks_fire x question p met (Some it) runs f =
    by_test (IsFiring x question p met) (int_lt it.tree.last question.seen) _ _
    (refused_fires x question p met (faults.Behind question.seen it.tree.last) f)
    (looked_fires x question (reply_of question it.tree) p met runs f)

reads_fire : (x : Ensemble) (question : Question) (p : ℕ) (met : List TraceItem) (r : Result ProcessState WorldFault) → running x.world.servers question.server ≡ r → Fires x p met → IsFiring x question p met (reads x question r)
reads_fire x question p met (Ok it) is f = looks_fire x question p met (replica_at x.shown question.server) (up_by (server_at x.world.servers question.server) it is) f
reads_fire x question p met (Err fault) is f = refused_fires x question p met (ensemble_fault_of fault) f

-- ---- runs

event_fires : (profile : Profile Call) → CarriesZxid profile.setting → IsQuorumSystem profile.setting.passes → (servers : ℕ) (x : Ensemble) (event : Event) (p : ℕ) (met : List TraceItem) → Stands profile servers x → Fires x p met → Fires (happens profile x event).0 p (trace_then x p event (happens profile x event) met)
unfolding IsFiring
event_fires profile law system servers x (events.World e) p met s f = world_fires profile law system servers x e (mover x.world e) p met refl s f
event_fires profile law system servers x (events.Read question) p met s f = reads_fire x question p met (running x.world.servers question.server) refl f

fires_after : (profile : Profile Call) → CarriesZxid profile.setting → IsQuorumSystem profile.setting.passes → (servers : ℕ) (x : Ensemble) (p : ℕ) (met : List TraceItem) (some : List Event) → Stands profile servers x → Fires x p met → Fires (after profile x some) p (trace_from profile x p met some)
fires_after profile law system servers x p met [] s f = f
fires_after profile law system servers x p met (event ∷ some) s f =
    fires_after profile law system servers (happens profile x event).0 p (trace_then x p event (happens profile x event) met) some
    (event_stands profile law system servers x event s) (event_fires profile law system servers x event p met s f)

-- after any events from a new ensemble on
pub fires_in_run : (profile : Profile Call) → CarriesZxid profile.setting → IsQuorumSystem profile.setting.passes → (servers : ℕ) (some : List Event) (p : ℕ) → Fires (after profile (new_ensemble servers) some) p (trace_from profile (new_ensemble servers) p [] some)
fires_in_run profile law system servers some p =
    fires_after profile law system servers (new_ensemble servers) p [] some (new_stands profile servers) (new_fires servers p)
