-- The reads of mending a log, from the header to the last entry.
use Rattle.std.proofs.Common.{◌≡◌, ℕ, ◌+◌, ◌<◌, ℤ, inl, inr, List, [], ◌∷◌, ◌++◌, length, drop, Option, None, Some, Result, Ok, Err, FitsSigned, w64, refl, sym, ap, subst, ◌∙◌, append_assoc}
use Rattle.std.specs.Io.{StartsWith}
use Rattle.std.specs.Io.KnownBytes.{Keeps, Consumes, prepend_known}
use Rattle.std.specs.List.{flat_map}
use Rattle.zk_log.proofs.Carried.{part_held}
use Rattle.zk_log.proofs.Heading.{same_piece}
use Rattle.zk_log.proofs.Wholes.{body_ends}
use Rattle.zk_log.specs.Cutting.{IsEntry}
use Rattle.zk_log.specs.Devices.{reader_of, read_failures_of, ends_of, MeetsEndLast}
use Rattle.zk_log.specs.Filling.{LastRead, Fills}
use Rattle.zk_log.specs.Loading.{Heads, LastInHeader, HeaderEnds, HeaderTells}
use Rattle.zk_log.specs.Logs.{IsPart}
use Rattle.zk_log.specs.declared.fault.LogFault.{LogFault}
use Rattle.zk_log.specs.declared.fault.LogFault.TheVariants as log_faults
use Rattle.zk_log.specs.declared.source.Source.{Source}
use Rattle.zk_mend.proofs.Walks.{Push, push_of, walked_kept}
use Rattle.zk_mend.specs.NewerLogs.{LogPosition, start_place, newer_entry, AllMayCome}
use Rattle.zk_mend.specs.Reading.{IsOpenBody, ReadsSparingly, MeetsEnd, NeedsMore, LastInBody, BodyLast, BodyNeedsMore}
use Rattle.zk_mend.specs.Walking.{IsAt, Takes, Walked, IsOwnFault}
use Rattle.zk_mend.specs.declared.fault.MendFault.{MendFault}
use Rattle.zk_mend.specs.declared.fault.MendFault.TheVariants as faults
use Rattle.zk_mend.specs.declared.walk.Walk.{Walk}
use Rattle.zk_records.specs.Written.{header_of}

-- ---- the known bytes

consumes_nothing : (known : Option (List ℕ)) → Consumes known known []
consumes_nothing None = tt
consumes_nothing (Some all) = refl

consumes_held : (start rest : Option (List ℕ)) (held : List ℕ) → Keeps start (prepend_known held rest) → Consumes start rest held
consumes_held None rest held k = tt
consumes_held (Some bytes) None held k = absurd k
consumes_held (Some bytes) (Some rest) held k = sym k

header_kept : (start now : Option (List ℕ)) (fault : LogFault) → Heads start now (Err fault) → Keeps start now
header_kept None now log_faults.Header h = tt
header_kept (Some bytes) now log_faults.Header h = h.1
header_kept start now other h = h

consumed : (start body left : Option (List ℕ)) (header taken held : List ℕ) → Consumes start body header → Consumes body (prepend_known held left) taken → Consumes start left (header ++ (taken ++ held))
consumed None body left header taken held a b = tt
consumed (Some bytes) None left header taken held a b = absurd a
consumed (Some bytes) (Some body) None header taken held a b = absurd b
consumed (Some bytes) (Some body) (Some left) header taken held a b =
    a ∙ ap (λ l. header ++ l) (b ∙ sym (append_assoc taken held left)) ∙ sym (append_assoc header (taken ++ held) left)

-- ---- entry by entry

-- what a walk has taken, and all that was seen
pub record Seen {R : Type 0} (remaining : R → Option (List ℕ)) (old : Source R) (start : List ℕ) (new : Source R) (held : List ℕ) (walk : Walk) : Type 0 where
  pub walked : Walked (prepend_known start (remaining (reader_of old))) (prepend_known held (remaining (reader_of new))) walk
  pub last : LastInBody old start new (flat_map newer_entry walked.newers ++ held)

pub seen_body : {R : Type 0} (remaining : R → Option (List ℕ)) (old new : Source R) (start held : List ℕ) (walk : Walk) → Seen remaining old start new held walk → BodyLast remaining old start new held
seen_body remaining old new start held walk s = record { newers = s.walked.newers; come = s.walked.come; taken = s.walked.taken; last = s.last }

-- nothing was read
pub none_seen : {R : Type 0} (remaining : R → Option (List ℕ)) (source : Source R) (held : List ℕ) → BodyLast remaining source held source held
none_seen remaining source held =
    record { newers = []; come = tt; taken = consumes_nothing (prepend_known held (remaining (reader_of source))); last = inl (refl, refl) }

pub seen_start : {R : Type 0} (remaining : R → Option (List ℕ)) (source : Source R) (held : List ℕ) (walk : Walk) → IsAt walk start_place → walk.journal ≡ [] → Seen remaining source held source held walk
seen_start remaining source held walk h none =
    record {
      walked = record { newers = []; come = tt; is_at = h; journal = none; taken = consumes_nothing (prepend_known held (remaining (reader_of source))) };
      last = inl (refl, refl);
    }

-- an entry is taken from what is held
pub seen_more : {R : Type 0} (remaining : R → Option (List ℕ)) (old new : Source R) (start held held' bytes : List ℕ) (sum : ℕ) (walk walk' : Walk) → Seen remaining old start new held walk → IsEntry held sum bytes
    → ((place : LogPosition) → IsAt walk place → Takes place walk bytes sum walk') → held' ≡ drop (13 + length bytes) held → Seen remaining old start new held' walk'
seen_more remaining old new start held held' bytes sum walk walk' s e takes left =
    let p : Push (prepend_known start (remaining (reader_of old))) (remaining (reader_of new)) held (drop (13 + length bytes) held) walk' s.walked.newers
    = push_of (prepend_known start (remaining (reader_of old))) (remaining (reader_of new)) held bytes sum walk walk' s.walked e takes in
    let taken : Seen remaining old start new (drop (13 + length bytes) held) walk' = record { walked = p.walked; last = subst (LastInBody old start new) (sym p.seen) s.last } in
    subst (λ l. Seen remaining old start new l walk') (sym left) taken

-- or more is read after it
seen_last : {R : Type 0} (old mid new : Source R) (start held held' : List ℕ) (want : ℕ) (all now : Option (List ℕ)) (walk : Walk) (w : Walked all now walk) → LastInBody old start mid (flat_map newer_entry w.newers ++ held)
    → ((more : List ℕ) → length (held ++ more) < want → IsPart (held ++ more)) → LastRead mid held want new held' → LastInBody old start new (flat_map newer_entry w.newers ++ held')
seen_last old mid new start held held' want all now walk w (inl same) p (inl kept) = inl (kept.0 ∙ same.0, ap (λ l. flat_map newer_entry w.newers ++ l) kept.1 ∙ same.1)
seen_last old mid new start held held' want all now walk w (inr l) p (inl kept) = inr (l.0, l.1, ap (λ l. flat_map newer_entry w.newers ++ l) kept.1 ∙ l.2, l.3, same_piece mid new (length l.1) kept.0 l.4, l.5)
seen_last old mid new start held held' want all now walk w before p (inr r) =
    let body : IsOpenBody (flat_map newer_entry w.newers ++ r.0) = record { newers = w.newers; part = r.0; spelled = refl; come = w.come; open_part = part_held held r.0 want p r.3 r.4 } in
    inr (flat_map newer_entry w.newers ++ r.0, r.1, ap (λ l. flat_map newer_entry w.newers ++ l) r.2 ∙ sym (append_assoc (flat_map newer_entry w.newers) r.0 r.1), body, r.5, r.6)

kept_newers : (all now later : Option (List ℕ)) (walk : Walk) (w : Walked all now walk) (k : Keeps now later) → (walked_kept all now later walk w k).newers ≡ w.newers
unfolding walked_kept
kept_newers all now later walk w k = refl

pub seen_filled : {R : Type 0} (remaining : R → Option (List ℕ)) (old mid new : Source R) (start held held' : List ℕ) (want : ℕ) (walk : Walk) → Seen remaining old start mid held walk
    → Keeps (prepend_known held (remaining (reader_of mid))) (prepend_known held' (remaining (reader_of new))) → ((more : List ℕ) → length (held ++ more) < want → IsPart (held ++ more)) → LastRead mid held want new held'
    → Seen remaining old start new held' walk
seen_filled remaining old mid new start held held' want walk s k p r =
    let all = prepend_known start (remaining (reader_of old)) in
    let now = prepend_known held (remaining (reader_of mid)) in
    let later = prepend_known held' (remaining (reader_of new)) in
    record {
      walked = walked_kept all now later walk s.walked k;
      last = subst (λ ns. LastInBody old start new (flat_map newer_entry ns ++ held')) (sym (kept_newers all now later walk s.walked k)) (seen_last old mid new start held held' want all now walk s.walked s.last p r);
    }

-- ---- how a walk ends

pub filling_needs : {R : Type 0} (T : Type 0) (remaining : R → Option (List ℕ)) (mid new : Source R) (held held' : List ℕ) (want turns : ℕ) (fault : LogFault) → StartsWith held' held → ((more : List ℕ) → length (held ++ more) < want → IsPart (held ++ more))
    → Fills remaining mid held want (Err fault) new held' turns → BodyNeedsMore {T = T} (Err (faults.Log fault)) held'
filling_needs T remaining mid new held held' want turns log_faults.Endless s p f = part_held held held' want p s f.0
filling_needs T remaining mid new held held' want turns other s p f = tt

pub own_needs : (T : Type 0) (fault : MendFault) (held : List ℕ) → IsOwnFault fault → BodyNeedsMore {T = T} (Err fault) held
own_needs T (faults.Log log_faults.Endless) held own = absurd own
own_needs T fault held own = tt

pub own_ends : {R : Type 0} (T : Type 0) (old new : Source R) (fault : MendFault) → ends_of new ≡ ends_of old → MeetsEnd {R = R} {T = T} old (Err fault) new
own_ends T old new (faults.Log log_faults.Header) same = inl same
own_ends T old new fault same = same

-- ---- the header

pub header_spares : {R : Type 0} (start left : Option (List ℕ)) (old new : Source R) (held held' : List ℕ) (fault : LogFault) → Heads start (prepend_known held' left) (Err fault) → LastInHeader old held new held' → ReadsSparingly start left old new
header_spares start left old new held held' fault h (inl same) = inl same.0
header_spares start left old new held held' fault h (inr l) =
    inr (l.0, l.1, subst (Consumes start left) l.2 (consumes_held start left held' (header_kept start (prepend_known held' left) fault h)), inl l.3, l.4, l.5)

pub header_meets : {R : Type 0} (T : Type 0) (old new : Source R) (fault : LogFault) → HeaderEnds old (Err fault) new → MeetsEnd {R = R} {T = T} old (Err (faults.Log fault)) new
header_meets T old new log_faults.Header e = e
header_meets T old new other e = e

pub header_needs : {R : Type 0} (T : Type 0) (start left : Option (List ℕ)) (old new : Source R) (held : List ℕ) (turns : ℕ) (fault : LogFault) → Heads start (prepend_known held left) (Err fault) → HeaderTells old (Err fault) new held turns → NeedsMore {T = T} start left (Err (faults.Log fault))
header_needs T start left old new held turns log_faults.Endless h t = (held, consumes_held start left held (header_kept start (prepend_known held left) log_faults.Endless h), inl t.2)
header_needs T start left old new held turns other h t = tt

-- ---- the header and the entries

pub whole_spares : {R : Type 0} (remaining : R → Option (List ℕ)) (start : Option (List ℕ)) (old mid new : Source R) (dbid : ℤ) (first held held' : List ℕ) → FitsSigned w64 dbid
    → Consumes start (prepend_known held (remaining (reader_of mid))) (header_of dbid) → LastInHeader old first mid (header_of dbid ++ held) → BodyLast remaining mid held new held'
    → ReadsSparingly start (remaining (reader_of new)) old new
whole_spares remaining start old mid new dbid first held held' fits c a b = by_last a b.last
  where
    left : Option (List ℕ)
    left = remaining (reader_of new)

    whole : Consumes start left (header_of dbid ++ (flat_map newer_entry b.newers ++ held'))
    whole = consumed start (prepend_known held (remaining (reader_of mid))) left (header_of dbid) (flat_map newer_entry b.newers) held' c b.taken

    by_last : LastInHeader old first mid (header_of dbid ++ held) → LastInBody mid held new (flat_map newer_entry b.newers ++ held') → ReadsSparingly start left old new
    by_last (inl same) (inl kept) = inl (kept.0 ∙ same.0)
    by_last (inr l) (inl kept) = inr (l.0, l.1, subst (Consumes start left) (ap (λ x. header_of dbid ++ x) kept.1 ∙ l.2) whole, inl l.3, same_piece mid new (length l.1) kept.0 l.4, l.5)
    by_last before (inr l) =
        inr (
          header_of dbid ++ l.0,
          l.1,
          subst (Consumes start left) (ap (λ x. header_of dbid ++ x) l.2 ∙ sym (append_assoc (header_of dbid) l.0 l.1)) whole,
          inr (record { dbid = dbid; dbid_fits = fits; body = l.0; spelled = refl; entries = l.3 }),
          l.4,
          l.5,
        )

pub whole_meets : {R T : Type 0} (old mid new : Source R) (answer : Result T MendFault) → ends_of mid ≡ ends_of old → read_failures_of mid ≡ read_failures_of old → MeetsEnd mid answer new → MeetsEnd old answer new
whole_meets old mid new (Ok it) a f m = body_ends old mid new a f m
whole_meets old mid new (Err (faults.Log log_faults.Header)) a f m = body_ends old mid new a f m
whole_meets old mid new (Err fault) a f m = m ∙ a

pub whole_needs : {R T : Type 0} (remaining : R → Option (List ℕ)) (start : Option (List ℕ)) (mid new : Source R) (dbid : ℤ) (held held' : List ℕ) (answer : Result T MendFault) → FitsSigned w64 dbid
    → Consumes start (prepend_known held (remaining (reader_of mid))) (header_of dbid) → BodyLast remaining mid held new held' → BodyNeedsMore answer held' → NeedsMore start (remaining (reader_of new)) answer
whole_needs remaining start mid new dbid held held' (Err (faults.Log log_faults.Endless)) fits c b part = (
  header_of dbid ++ (flat_map newer_entry b.newers ++ held'),
  consumed start (prepend_known held (remaining (reader_of mid))) (remaining (reader_of new)) (header_of dbid) (flat_map newer_entry b.newers) held' c b.taken,
  inr (record {
    dbid = dbid;
    dbid_fits = fits;
    body = flat_map newer_entry b.newers ++ held';
    spelled = refl;
    entries = record { newers = b.newers; part = held'; spelled = refl; come = b.come; open_part = part };
  }),
)
whole_needs remaining start mid new dbid held held' answer fits c b part = tt
