-- The histories of every run's servers are prepared transactions.
use Rattle.std.proofs.Common.{◌≡◌, ℕ, zero, suc, Bool, true, List, [], ◌∷◌, ◌++◌, take, slice_get, Option, Some, None, refl, sym, ap, subst, ◌∙◌}
use Rattle.std.proofs.lemmas.List.{map-append}
use Rattle.std.specs.Int.{w64}
use Rattle.std.specs.Int.RustNames.{FitsSigned}
use Rattle.std.specs.List.{AllByRecursion}
use Rattle.zab_epoch.specs.declared.history.Entry.{Entry}
use Rattle.zab_epoch.specs.Quorums.{IsQuorumSystem}
use Rattle.zab_laws.specs.Prefixes.{IsPrefix}
use Rattle.zab_model.specs.declared.event.Event.{Event as WorldEvent}
use Rattle.zab_model.specs.declared.event.Event.TheVariants as world
use Rattle.zab_agreement_laws.specs.Origins.{IsOrigin, call_of}
use Rattle.zab_model.specs.Worlds.{server_at}
use Rattle.zk_requests.specs.declared.call.Call.{Call}
use Rattle.zk_requests.specs.Requests.{meaning_of}
use Rattle.zk_prepare_laws.specs.Consequences.{HasOpenOwners}
use Rattle.zk_prepare_laws.specs.Prepared.{ArePrepared, HaveSessions, is_in_session}
use Rattle.zk_prepare_laws.proofs.Each.{prepared_front, each_front}
use Rattle.zk_prepare_laws.proofs.Refusing.{refused_only_as_error, multi_is_whole_or_nothing}
use Rattle.zk_prepare_laws.proofs.Sessions.{sessions_of_calls}
use Rattle.zk_prepare_laws.proofs.Standing.{owners_are_open}
use Rattle.zab_epoch.specs.Entries.{txns_of}
use Rattle.zk_model.specs.Entries.{entry_zxid}
use Rattle.zk_model.specs.declared.event.Event.{Event}
use Rattle.zk_model.specs.declared.event.Event.TheVariants as events
use Rattle.zk_headline_laws.specs.Consequences.{FitsInWorld, FitEvents, HasConsequences}
use Rattle.zk_model.specs.Ensembles.{profile_by}
use Rattle.zk_model.specs.Runs.{in_world, ensemble_after, delivered_after, history_after}
use Rattle.zk_headline_laws.proofs.Headlines.{headline, delivered_in_history}
use Rattle.zk_table.specs.declared.txn.Txn.{Txn}
use Rattle.zk_table.specs.Histories.{tree_of}

-- ---- the entries of a list of transactions

record IsSplit (h : List Entry) (before : List Txn) (txn : Txn) : Type 0 where
  pub first : List Entry
  pub x : Entry
  pub within : IsPrefix (first ++ x ∷ []) h
  pub before_is : txns_of first ≡ before
  pub txn_is : x.txn ≡ txn

split : (h : List Entry) (before : List Txn) (txn : Txn) (after : List Txn) → txns_of h ≡ before ++ txn ∷ after → IsSplit h before txn
split [] [] txn after is = let e : [] ≡ txn ∷ after = is in absurd (cc)
split [] (b ∷ before) txn after is = let e : [] ≡ b ∷ (before ++ txn ∷ after) = is in absurd (cc)
split (e ∷ h) [] txn after is =
    let same : e.txn ∷ txns_of h ≡ txn ∷ after = is in
    record { first = []; x = e; within = record { rest = h; is = refl }; before_is = refl; txn_is = cc }
split (e ∷ h) (b ∷ before) txn after is =
    let same : e.txn ∷ txns_of h ≡ b ∷ (before ++ txn ∷ after) = is in
    let head : e.txn ≡ b = cc in
    let tails : txns_of h ≡ before ++ txn ∷ after = cc in
    let s = split h before txn after tails in
    record {
      first = e ∷ s.first;
      x = s.x;
      within = record { rest = s.within.rest; is = ap (λ l. e ∷ l) s.within.is };
      before_is = λ i. head i ∷ s.before_is i;
      txn_is = s.txn_is;
    }

-- ---- sessions of 64 bits

fit_taken : (count : ℕ) (some : List Event) → FitEvents some → FitEvents (take count some)
fit_taken zero some fit = tt
fit_taken (suc count) [] fit = tt
fit_taken (suc count) (event ∷ some) fit = (fit.0, fit_taken count some fit.1)

fit_in_world : (some : List Event) → FitEvents some → AllByRecursion FitsInWorld (in_world some)
fit_in_world [] fit = tt
fit_in_world (events.World event ∷ some) fit = (fit.0, fit_in_world some fit.1)
fit_in_world (events.Read question ∷ some) fit = fit_in_world some fit.1

same_event : (a b : WorldEvent Call) → (let o : Option (WorldEvent Call) = Some a in o ≡ Some b) → a ≡ b
same_event a b e = cc

fits_there : (some : List (WorldEvent Call)) (place : ℕ) (event : WorldEvent Call) → AllByRecursion FitsInWorld some → slice_get some place ≡ Some event → FitsInWorld event
fits_there [] place event fit is = absurd cc
fits_there (e ∷ some) zero event fit is = subst FitsInWorld (same_event e event is) fit.0
fits_there (e ∷ some) (suc place) event fit is = fits_there some place event fit.1 is

same_call : (a b : Call) → (let o : Option Call = Some a in o ≡ Some b) → a ≡ b
same_call a b e = cc

no_call : (call : Call) → (let o : Option Call = None in o ≡ Some call) → ⊥
no_call call e = absurd cc

fits_call : (passes : List Bool → Bool) (event : WorldEvent Call) (call : Call) → FitsInWorld event → call_of (profile_by passes) event ≡ Some call → FitsSigned w64 call.session
fits_call passes (world.Lead server) call fit is = absurd (no_call call is)
fits_call passes (world.Follow server leader) call fit is = absurd (no_call call is)
fits_call passes (world.Arrive message) call fit is = absurd (no_call call is)
fits_call passes (world.Submit server asked) call fit is = subst (λ (c : Call). FitsSigned w64 c.session) (same_call asked call is) fit
fits_call passes (world.Expire server tag session now) call fit is = subst (λ (c : Call). FitsSigned w64 c.session) (same_call _ call is) fit
fits_call passes (world.Sync server tag) call fit is = absurd (no_call call is)
fits_call passes (world.Crash server) call fit is = absurd (no_call call is)
fits_call passes (world.Restart server) call fit is = absurd (no_call call is)

-- ---- of every run

module _ (passes : List Bool → Bool) (system : IsQuorumSystem passes) (servers : ℕ) (some : List Event) where
  abbrev history : ℕ → ℕ → List Entry
  history count number = history_after (profile_by passes) servers some count number

  origin : (count number : ℕ) (before : List Entry) (x : Entry) → IsPrefix (before ++ x ∷ []) (history count number) → (call : Call) × IsOrigin (profile_by passes) servers (in_world (take count some)) before x call
  origin count number before x within = (headline (profile_by passes) entry_zxid system (λ history call zxid. refl) servers some).origins count number before x within

  prepared : (count number : ℕ) → ArePrepared (txns_of (history count number))
  prepared count number before txn after is =
      let s = split (history count number) before txn after is in
      let o = origin count number s.first s.x s.within in
      record {
        call = o.0;
        zxid = s.x.txn.zxid;
        is = sym s.txn_is ∙ ap (λ (e : Entry). e.txn) o.1.made ∙ ap (λ l. meaning_of (tree_of l) o.0 s.x.txn.zxid) s.before_is;
      }

  sessions : FitEvents some → (count number : ℕ) → HaveSessions (txns_of (history count number))
  unfolding prepared origin
  sessions fit count number = sessions_of_calls (txns_of (history count number)) (prepared count number) (λ before txn after is.
      let s = split (history count number) before txn after is in
      let o = origin count number s.first s.x s.within in
      let a = o.1.accepted in
      fits_call passes a.event o.0 (fits_there (in_world (take count some)) a.place a.event (fit_in_world (take count some) (fit_taken count some fit)) a.happened) a.submitted)

  owners : FitEvents some → (count number : ℕ) → HasOpenOwners (tree_of (txns_of (history count number)))
  owners fit count number = owners_are_open (txns_of (history count number)) (prepared count number) (sessions fit count number)

  -- a prefix of another list
  owners_in : (delivered whole : List Entry) → IsPrefix delivered whole → ArePrepared (txns_of whole) → HaveSessions (txns_of whole) → HasOpenOwners (tree_of (txns_of delivered))
  owners_in delivered whole p all sessions =
      let is : txns_of whole ≡ txns_of delivered ++ txns_of p.rest = ap txns_of (sym p.is) ∙ map-append (λ (e : Entry). e.txn) delivered p.rest in
      owners_are_open (txns_of delivered)
      (prepared_front (txns_of delivered) (txns_of p.rest) (subst ArePrepared is all))
      (each_front (λ before txn. is_in_session txn.op ≡ true → FitsSigned w64 txn.session) (txns_of delivered) (txns_of p.rest) (subst HaveSessions is sessions))

  owners_shown : FitEvents some → (count number : ℕ) → HasOpenOwners (tree_of (txns_of (delivered_after (profile_by passes) servers some count number)))
  owners_shown fit count number =
      owners_in (delivered_after (profile_by passes) servers some count number) (history count number)
      (delivered_in_history (server_at (ensemble_after (profile_by passes) servers some count).world.servers number))
      (prepared count number) (sessions fit count number)

  pub consequences : HasConsequences (profile_by passes) servers some
  consequences = record {
    prepared = prepared;
    refused = λ count number before txn after is. refused_only_as_error (tree_of before) txn (prepared count number before txn after is);
    whole = λ count number before txn after is. multi_is_whole_or_nothing (tree_of before) txn (prepared count number before txn after is);
    owners = owners;
    owners_shown = owners_shown;
  }
