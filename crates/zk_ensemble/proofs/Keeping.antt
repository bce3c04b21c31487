-- What an ensemble keeps of servers that crashed.
use Rattle.std.proofs.Common.{◌≡◌, ◌≢◌, ℕ, zero, suc, ◌≤◌, ◌⊎◌, inl, inr, List, [], ◌∷◌, ◌++◌, length, replicate, slice_get, Option, Some, None, Result, Ok, Err, OnErr, refl, sym, ap, subst, ◌∙◌, arith}
use Rattle.std.proofs.Math.Seq.{take-length}
use Rattle.std.proofs.lemmas.List.{length-append, take-append-le}
use Rattle.zab_epoch.specs.Shares.{heavy_share}
use Rattle.zab_epoch.specs.declared.history.Entry.{Entry}
use Rattle.zab_laws.specs.Prefixes.{IsPrefix}
use Rattle.zab_epoch.specs.Quorums.{is_heavy}
use Rattle.zab_model.specs.declared.event.Event.{Event as WorldEvent}
use Rattle.zab_model.specs.declared.event.Moved.{Moved}
use Rattle.zab_model.specs.declared.fault.WorldFault.{WorldFault}
use Rattle.zab_model.specs.Runs.{delivered_of}
use Rattle.zab_model.specs.Worlds.{World, Profile, running}
use Rattle.zk_ensemble.specs.Keeping.{WasDelivered, IsStanding}
use Rattle.zk_ensemble.specs.Views.{Below, IsOfRun, profile_in}
use Rattle.zk_ensemble.proofs.Runs.{IsStepped, counts_as, happened, stands, reached_more}
use Rattle.zk_headline_laws.proofs.Following.{fit_more}
use Rattle.zk_headline_laws.proofs.Headlines.{headline}
use Rattle.zk_headline_laws.specs.Consequences.{FitEvents}
use Rattle.zk_headline_laws.specs.Headline.{ReplicaMatches}
use Rattle.zk_requests.specs.declared.call.Call.{Call}
use Rattle.zk_replicas.specs.declared.crash_cache.CrashCache.{CrashCache}
use Rattle.zk_replicas.specs.Keeping.{IsOver, MayServe, IsShownBy, EachKept, WasKept, WasShown}
use Rattle.zk_model.specs.Entries.{entry_zxid}
use Rattle.zk_model.specs.declared.event.Event.{Event}
use Rattle.zk_model.specs.declared.event.Event.TheVariants as events
use Rattle.zk_model.specs.declared.event.Question.{Question}
use Rattle.zk_model.specs.declared.fault.EnsembleFault.TheVariants as faults
use Rattle.zk_model.specs.Ensembles.{Ensemble, ReplicaView, ensemble, replica_at, profile_by, Told, reads, of_world}
use Rattle.zk_model.specs.Counting.{counted}
use Rattle.zk_model.specs.Runs.{after, run, delivered_after}
use Rattle.zk_model.proofs.Worlds.{goes_on}

none_kept : (n place : ℕ) (it : CrashCache) → slice_get (replicate n None) place ≡ Some (Some it) → ⊥
none_kept zero place it is = absurd cc
none_kept (suc n) zero it is = absurd cc
none_kept (suc n) (suc place) it is = none_kept n place it is

-- ---- runs

delivered_before : (profile : Profile Call) (servers : ℕ) (some more : List Event) (count number : ℕ) → count ≤ length some → delivered_after profile servers (some ++ more) count number ≡ delivered_after profile servers some count number
delivered_before profile servers some more count number within =
    ap (λ (l : List Event). delivered_of (run profile servers l).0.world number) (take-append-le count some more within)

delivered_now : (profile : Profile Call) (servers : ℕ) (some : List Event) (x : Ensemble) (number : ℕ) → x ≡ (run profile servers some).0 → delivered_after profile servers some (length some) number ≡ delivered_of x.world number
delivered_now profile servers some x number is =
    ap (λ (l : List Event). delivered_of (run profile servers l).0.world number) (take-length some)
    ∙ ap (λ (y : Ensemble). delivered_of y.world number) (sym is)

-- what is kept may serve each server, whatever happens next
pub may_serve : (below : Below) (shown : List ReplicaView) (kept : List (Option CrashCache)) (more : List Event) (y : Ensemble) (number : ℕ) → IsStanding below shown kept → y ≡ after (profile_in below) (ensemble below.world shown) more → EachKept (MayServe (delivered_of y.world number)) kept
may_serve below shown kept more y number st is place it there =
    let d = st.aside place it there in
    let profile = profile_in below in
    let some = st.run.events in
    let all = some ++ more in
    let reached : y ≡ (run profile below.servers all).0 = goes_on profile _ (ensemble below.world shown) y some more st.run.reached is in
    let h = headline profile entry_zxid (heavy_share below.quorums) (λ history call zxid. refl) below.servers all in
    let was = delivered_before profile below.servers some more d.count d.number d.within in
    let now = delivered_now profile below.servers all y number reached in
    record {
      list = delivered_after profile below.servers some d.count d.number;
      over = d.over;
      order = subst (λ l. IsPrefix l (delivered_of y.world number) ⊎ IsPrefix (delivered_of y.world number) l) was
          (subst (λ l. IsPrefix (delivered_after profile below.servers all d.count d.number) l ⊎ IsPrefix l (delivered_after profile below.servers all d.count d.number)) now
          (h.one_order d.count (length all) d.number number));
    }

still : (quorums : List ℕ) (servers : ℕ) (some more : List Event) (it : CrashCache) → WasDelivered quorums servers some it → WasDelivered quorums servers (some ++ more) it
still quorums servers some more it d = record {
  count = d.count;
  number = d.number;
  within = grind (arith, length-append some more, d.within);
  over = subst (λ l. IsOver l it) (sym (delivered_before (profile_by (is_heavy quorums)) servers some more d.count d.number d.within)) d.over;
}

shown_over : (entries : List Entry) (by : ReplicaView) (it : CrashCache) → ReplicaMatches entries by → IsShownBy by it → IsOver entries it
shown_over entries by it s shows = record { fine = shows.fine; tree = shows.tree ∙ s.tree; answers = shows.answers ∙ s.answers }

left : (below : Below) (shown : List ReplicaView) (more : List Event) (number : ℕ) (it : CrashCache) (r : IsOfRun below shown) → WasShown shown number it → WasDelivered below.quorums below.servers (r.events ++ more) it
left below shown more number it r s =
    let profile = profile_in below in
    let here = (stands below shown r).shows number s.by s.is in
    record {
      count = length r.events;
      number = number;
      within = grind (arith, length-append r.events more);
      over = subst (λ l. IsOver l it)
          (sym (delivered_before profile below.servers r.events more (length r.events) number (omega arith)
          ∙ delivered_now profile below.servers r.events (ensemble below.world shown) number r.reached))
          (shown_over (delivered_of below.world number) s.by it here s.shows);
    }

-- all that is kept then
pub each_then : (below : Below) (shown given : List ReplicaView) (kept was next : List (Option CrashCache)) (more : List Event) (number : ℕ) (st : IsStanding below shown kept) → given ≡ shown → was ≡ kept → EachKept (λ it. WasKept was it ⊎ WasShown given number it) next → EachKept (WasDelivered below.quorums below.servers (st.run.events ++ more)) next
each_then below shown given kept was next more number st all had each place it is =
    elim (each place it is) [
      | inl k ↦ still below.quorums below.servers st.run.events more it (st.aside k.place it (ap (λ l. slice_get l k.place) (sym had) ∙ k.is))
      | inr s ↦ left below shown more number it st.run (record { by = s.by; is = ap (λ l. replica_at l number) (sym all) ∙ s.is; shows = s.shows })
    ]

-- it stands again
pub stand_again : (below next : Below) (shown news : List ReplicaView) (kept held : List (Option CrashCache)) (more : List Event) (st : IsStanding below shown kept) → FitEvents more → next.quorums ≡ below.quorums → next.servers ≡ below.servers → ensemble next.world news ≡ after (profile_in below) (ensemble below.world shown) more → length held ≡ length news → EachKept (WasDelivered below.quorums below.servers (st.run.events ++ more)) held → IsStanding next news held
stand_again below next shown news kept held more st fits quorums servers is places each = record {
  run = record {
    events = st.run.events ++ more;
    fit = fit_more st.run.events more st.run.fit fits;
    reached = reached_more below next shown news more st.run quorums servers is;
  };
  places = places;
  aside = subst (λ (q : List ℕ). EachKept (WasDelivered q next.servers (st.run.events ++ more)) held) (sym quorums)
      (subst (λ n. EachKept (WasDelivered below.quorums n (st.run.events ++ more)) held) (sym servers) each);
}

-- with nothing changed that is kept
below_of : List ℕ → ℕ → World Call → Below
below_of quorums servers world = record { quorums = quorums; servers = servers; world = world }

same_below : (below next : Below) → next.world ≡ below.world → next.quorums ≡ below.quorums → next.servers ≡ below.servers → next ≡ below
unfolding below_of
same_below below next w q s =
    ap (λ (x : List ℕ). below_of x next.servers next.world) q ∙ ap (λ (x : ℕ). below_of below.quorums x next.world) s ∙ ap (λ (x : World Call). below_of below.quorums below.servers x) w

-- where nothing happened, it stands still
pub stand_still : (below next : Below) (shown : List ReplicaView) (kept : List (Option CrashCache)) → IsStanding below shown kept → next.world ≡ below.world → next.quorums ≡ below.quorums → next.servers ≡ below.servers → IsStanding next shown kept
stand_still below next shown kept st w q s = subst (λ (it : Below). IsStanding it shown kept) (sym (same_below below next w q s)) st

pub still_each : (below : Below) (shown : List ReplicaView) (kept : List (Option CrashCache)) (more : List Event) (st : IsStanding below shown kept) → EachKept (WasDelivered below.quorums below.servers (st.run.events ++ more)) kept
still_each below shown kept more st place it is = still below.quorums below.servers st.run.events more it (st.aside place it is)

-- a new one keeps nothing
pub none_aside : (below : Below) (shown : List ReplicaView) (r : IsOfRun below shown) (n : ℕ) (kept : List (Option CrashCache)) → kept ≡ replicate n None → EachKept (WasDelivered below.quorums below.servers r.events) kept
none_aside below shown r n kept none place it is = absurd (none_kept n place it (ap (λ l. slice_get l place) (sym none) ∙ is))

-- after a read
pub read_stands : (below : Below) (shown given news : List ReplicaView) (kept : List (Option CrashCache)) (question : Question) (told : Told) → IsStanding below shown kept → given ≡ shown → length news ≡ length given → OnErr told (news ≡ given) → (told ≢ Err faults.NoMemory → (ensemble below.world news, told) ≡ reads (ensemble below.world shown) question (running below.world.servers question.server)) → IsStanding below news kept
read_stands below shown given news kept question (Err fault) st all many same acts = subst (λ l. IsStanding below l kept) (sym (same ∙ all)) st
read_stands below shown given news kept question (Ok answer) st all many same acts =
    let more = events.Read question ∷ [] in
    stand_again below below shown news kept kept more st (tt, tt) refl refl (ap (λ (p : Ensemble × Told). p.0) (acts (λ e. absurd cc)))
    (st.places ∙ sym (many ∙ ap length all)) (still_each below shown kept more st)

-- ---- an event of the world

stepped_world : (profile : Profile Call) (w : World Call) (shown : List ReplicaView) (event : WorldEvent Call) (answer : Result Moved WorldFault) (next : World Call) → IsStepped profile w event answer next → (after profile (ensemble w shown) (counted (events.World event) (of_world answer))).world ≡ next
stepped_world profile w shown event answer next s =
    ap (λ (l : List Event). (after profile (ensemble w shown) l).world) (counts_as profile w event answer s.answers s.kept).same
    ∙ sym (happened profile w event answer next s)

-- what is kept may serve each server then
pub may_serve_then : (below : Below) (shown : List ReplicaView) (kept given : List (Option CrashCache)) (event : WorldEvent Call) (answer : Result Moved WorldFault) (next : World Call) (number : ℕ) → IsStanding below shown kept → given ≡ kept → IsStepped (profile_in below) below.world event answer next → EachKept (MayServe (delivered_of next number)) given
may_serve_then below shown kept given event answer next number st had s =
    let more = counted (events.World event) (of_world answer) in
    let y = after (profile_in below) (ensemble below.world shown) more in
    subst (EachKept (MayServe (delivered_of next number))) (sym had)
    (subst (λ (v : World Call). EachKept (MayServe (delivered_of v number)) kept) (stepped_world (profile_in below) below.world shown event answer next s)
    (may_serve below shown kept more y number st refl))

-- the same list
pub held_then : (below : Below) {kept next : List (Option CrashCache)} (some : List Event) → next ≡ kept → EachKept (WasDelivered below.quorums below.servers some) kept → EachKept (WasDelivered below.quorums below.servers some) next
held_then below some same each = subst (EachKept (WasDelivered below.quorums below.servers some)) (sym same) each
