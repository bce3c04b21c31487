-- What a server shows after it delivers entries.
use Rattle.std.proofs.Common.{◌≡◌, List, [], ◌∷◌, ◌++◌, map, length, drop, Bool, true, false, refl, sym, ap, ◌∙◌, subst}
use Rattle.std.proofs.lemmas.List.{append-nil, append_assoc}
use Rattle.zab_epoch.specs.declared.history.Entry.{Entry}
use Rattle.zab_laws.specs.Prefixes.{IsPrefix}
use Rattle.zab_epoch.specs.Entries.{txns_of}
use Rattle.zk_model.specs.declared.answer.Answered.{Answered}
use Rattle.zk_model.specs.Ensembles.{ReplicaView, fresh, answered, take_in, take_all, shown_then}
use Rattle.zk_headline_laws.specs.Headline.{ReplicaMatches}
use Rattle.zk_model.specs.Runs.{answered_after, answered_of}
use Rattle.zk_table.specs.Histories.{state_after, results_after, results_of}
use Rattle.zk_table.specs.States.{State, start_state}
use Rattle.zk_table.specs.Steps.{step}

-- ---- one more entry

state_more : (s : State) (d : List Entry) (e : Entry) → state_after s (txns_of (d ++ e ∷ [])) ≡ (step (state_after s (txns_of d)) e.txn).0
state_more s [] e = refl
state_more s (x ∷ d) e = state_more (step s x.txn).0 d e

answered_more : (s : State) (d : List Entry) (e : Entry) → answered_after s (d ++ e ∷ []) ≡ answered_after s d ++ answered e (step (state_after s (txns_of d)) e.txn).1 ∷ []
answered_more s [] e = refl
answered_more s (x ∷ d) e = ap (λ (l : List Answered). answered x (step s x.txn).1 ∷ l) (answered_more (step s x.txn).0 d e)

results_are : (s : State) (d : List Entry) → map (λ a. a.result) (answered_after s d) ≡ results_after s (txns_of d)
results_are s [] = refl
results_are s (x ∷ d) = ap (λ l. (step s x.txn).1 ∷ l) (results_are (step s x.txn).0 d)

-- the results are the table's
pub answered_are_results : (entries : List Entry) → map (λ a. a.result) (answered_of entries) ≡ results_of (txns_of entries)
answered_are_results entries = results_are start_state entries

-- ---- a server

pub shows_in : (d : List Entry) (s : ReplicaView) (e : Entry) → ReplicaMatches d s → ReplicaMatches (d ++ e ∷ []) (take_in s e)
shows_in d s e h = record {
  tree = ap (λ t. (step t e.txn).0) h.tree ∙ sym (state_more start_state d e);
  answers = ap (λ (l : List Answered). l ++ answered e (step s.tree e.txn).1 ∷ []) h.answers
      ∙ ap (λ t. answered_of d ++ answered e (step t e.txn).1 ∷ []) h.tree ∙ sym (answered_more start_state d e);
}

shows_all : (more d : List Entry) (s : ReplicaView) → ReplicaMatches d s → ReplicaMatches (d ++ more) (take_all s more)
shows_all [] d s h = subst (λ l. ReplicaMatches l s) (sym (append-nil d)) h
shows_all (e ∷ more) d s h = subst (λ l. ReplicaMatches l (take_all (take_in s e) more)) (append_assoc d (e ∷ []) more) (shows_all more (d ++ e ∷ []) (take_in s e) (shows_in d s e h))

drop_front : {X : Type 0} (a rest : List X) → drop (length a) (a ++ rest) ≡ rest
drop_front [] rest = refl
drop_front (x ∷ a) rest = drop_front a rest

pub shows_fresh : (d : List Entry) → d ≡ [] → ReplicaMatches d fresh
shows_fresh d none = subst (λ l. ReplicaMatches l fresh) (sym none) (record { tree = refl; answers = refl })

shows_on : (before now : List Entry) (s : ReplicaView) → IsPrefix before now → ReplicaMatches before s → ReplicaMatches now (take_all s (drop (length before) now))
shows_on before now s p h =
    let more : drop (length before) now ≡ p.rest = ap (drop (length before)) (sym p.is) ∙ drop_front before p.rest in
    subst (λ l. ReplicaMatches now (take_all s l)) (sym more) (subst (λ l. ReplicaMatches l (take_all s p.rest)) p.is (shows_all p.rest before s h))

-- the list of a running server grows, and that of a stopped one is empty
pub shows_then : (runs : Bool) (before now : List Entry) (s : ReplicaView) → (runs ≡ true → IsPrefix before now) → (runs ≡ false → now ≡ []) → ReplicaMatches before s → ReplicaMatches now (shown_then runs (length before) now s)
shows_then true before now s grows none h = shows_on before now s (grows refl) h
shows_then false before now s grows none h = shows_fresh now (none refl)
