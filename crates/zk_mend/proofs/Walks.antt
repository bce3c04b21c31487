-- The state that an iteration over entries carries from one to the next.
use Rattle.std.proofs.Common.{◌≡◌, ◌≢◌, ℕ, ◌+◌, ◌≤◌, List, [], ◌∷◌, ◌++◌, length, drop, Option, None, Some, Ok, Err, refl, sym, ap, ◌∙◌, subst, append_assoc, append-nil, arith, length-append}
use Rattle.std.proofs.lemmas.Grind.{flat_map-append}
use Rattle.std.proofs.lemmas.List.{drop-append-le}
use Rattle.std.specs.Io.KnownBytes.{Keeps, Consumes, IsAtEnd, prepend_known}
use Rattle.std.specs.List.{flat_map}
use Rattle.zk_log.proofs.Carried.{part_ends}
use Rattle.zk_records.proofs.EntryLaws.{length-framed}
use Rattle.zk_records.specs.Checksum.{adler_of}
use Rattle.zk_log.specs.Cutting.{IsEntry}
use Rattle.zk_log.specs.Loading.{ending_of_part}
use Rattle.zk_records.specs.Written.{framed, most_bytes}
use Rattle.zk_log.specs.Logs.{Ends, IsPart}
use Rattle.zk_log.specs.declared.fault.LogFault.TheVariants as log_faults
use Rattle.zk_log.specs.declared.loaded.Ending.{Ending}
use Rattle.zk_newer_records.specs.NewerRecords.{newer_record, IsSpelled}
use Rattle.zk_newer_records.specs.declared.newer_record.NewerRecord.{NewerRecord}
use Rattle.zk_mend.specs.NewerLogs.{LogPosition, start_place, after_all, after_record, newer_entry, txns_in, AllMayCome, HasNewerEntry, MayCome, IsMendFault, Mends}
use Rattle.zk_mend.specs.Walking.{IsAt, Takes, Refuses, Walked, Walks}
use Rattle.zk_mend.specs.declared.fault.MendFault.{MendFault}
use Rattle.zk_mend.specs.declared.fault.MendFault.TheVariants as faults
use Rattle.zk_mend.specs.declared.walk.Walk.{Walk}

-- ---- one record more

come_push : (place : LogPosition) (newers : List NewerRecord) (newer : NewerRecord) → AllMayCome place newers → MayCome (after_all place newers) newer → AllMayCome place (newers ++ newer ∷ [])
come_push place [] newer c m = (m, tt)
come_push place (first ∷ newers) newer c m = (c.0, come_push (after_record place first) newers newer c.1 m)

after_push : (place : LogPosition) (newers : List NewerRecord) (newer : NewerRecord) → after_all place (newers ++ newer ∷ []) ≡ after_record (after_all place newers) newer
after_push place [] newer = refl
after_push place (first ∷ newers) newer = after_push (after_record place first) newers newer

txns_push : (newers : List NewerRecord) (newer : NewerRecord) → txns_in (newers ++ newer ∷ []) ≡ txns_in newers ++ newer.txn ∷ []
txns_push [] newer = refl
txns_push (first ∷ newers) newer = ap (λ l. first.txn ∷ l) (txns_push newers newer)

entries_push : (newers : List NewerRecord) (newer : NewerRecord) → flat_map newer_entry (newers ++ newer ∷ []) ≡ flat_map newer_entry newers ++ newer_entry newer
entries_push newers newer = flat_map-append newer_entry newers (newer ∷ []) ∙ ap (λ l. flat_map newer_entry newers ++ l) (append-nil (newer_entry newer))

-- the entry there is the record's
entry_of_record : (held bytes : List ℕ) (sum : ℕ) (newer : NewerRecord) → IsEntry held sum bytes → sum ≡ adler_of bytes → bytes ≡ newer_record newer → held ≡ newer_entry newer ++ drop (13 + length bytes) held
unfolding newer_entry
entry_of_record held bytes sum newer e sum_e is =
    let same : framed sum bytes ≡ framed (adler_of (newer_record newer)) (newer_record newer) = ap (λ k. framed k bytes) sum_e ∙ ap (λ l. framed (adler_of l) l) is in
    e.spelled ∙ ap (λ l. l ++ drop (13 + length bytes) held) same

pub length-newer_entry : (newer : NewerRecord) → length (newer_entry newer) ≡ 13 + length (newer_record newer)
unfolding newer_entry
length-newer_entry newer = length-framed (adler_of (newer_record newer)) (newer_record newer)

-- an entry is there, with any rest
entry_more : (held rest bytes : List ℕ) (sum : ℕ) → IsEntry held sum bytes → IsEntry (held ++ rest) sum bytes
entry_more held rest bytes sum e =
    let n = 13 + length bytes in
    let total : length held ≡ 13 + length bytes + length (drop n held) = ap length e.spelled ∙ length-append (framed sum bytes) (drop n held) ∙ ap (λ k. k + length (drop n held)) (length-framed sum bytes) in
    let behind : drop n (held ++ rest) ≡ drop n held ++ rest = drop-append-le n held rest (omega arith) in
    record {
      spelled = ap (λ l. l ++ rest) e.spelled ∙ append_assoc (framed sum bytes) (drop n held) rest ∙ ap (λ l. framed sum bytes ++ l) (sym behind);
      sum_fits = e.sum_fits;
      some = e.some;
      most = e.most;
    }

-- ---- the known bytes

consumes_none : (known : Option (List ℕ)) → Consumes known known []
consumes_none None = tt
consumes_none (Some all) = refl

pub consumes_kept : (all now later : Option (List ℕ)) (taken : List ℕ) → Consumes all now taken → Keeps now later → Consumes all later taken
consumes_kept None now later taken c k = tt
consumes_kept (Some all) None later taken c k = absurd c
consumes_kept (Some all) (Some rest) None taken c k = absurd k
consumes_kept (Some all) (Some rest) (Some same) taken c k = c ∙ ap (λ l. taken ++ l) (sym k)

consumes_more : (all now : Option (List ℕ)) (held taken entry left : List ℕ) → held ≡ entry ++ left → Consumes all (prepend_known held now) taken → Consumes all (prepend_known left now) (taken ++ entry)
consumes_more None now held taken entry left e c = tt
consumes_more (Some all) None held taken entry left e c = absurd c
consumes_more (Some all) (Some rest) held taken entry left e c =
    c ∙ ap (λ l. taken ++ l) (ap (λ l. l ++ rest) e ∙ append_assoc entry left rest) ∙ sym (append_assoc taken entry (left ++ rest))

-- ---- the iteration

pub walked_start : (known : Option (List ℕ)) (walk : Walk) → IsAt walk start_place → walk.journal ≡ [] → Walked known known walk
walked_start known walk h none = record { newers = []; come = tt; is_at = h; journal = none; taken = consumes_none known }

unfoldable pub walked_kept : (all now later : Option (List ℕ)) (walk : Walk) → Walked all now walk → Keeps now later → Walked all later walk
walked_kept all now later walk w k = record { newers = w.newers; come = w.come; is_at = w.is_at; journal = w.journal; taken = consumes_kept all now later (flat_map newer_entry w.newers) w.taken k }

-- a record more was taken from what is held, and all that was seen is as before
pub record Push (all now : Option (List ℕ)) (held left : List ℕ) (walk : Walk) (newers : List NewerRecord) : Type 0 where
  pub walked : Walked all (prepend_known left now) walk
  pub seen : flat_map newer_entry walked.newers ++ left ≡ flat_map newer_entry newers ++ held

pub push_of : (all now : Option (List ℕ)) (held bytes : List ℕ) (sum : ℕ) (walk new : Walk) (w : Walked all (prepend_known held now) walk) → IsEntry held sum bytes → ((place : LogPosition) → IsAt walk place → Takes place walk bytes sum new)
    → Push all now held (drop (13 + length bytes) held) new w.newers
push_of all now held bytes sum walk new w e takes =
    let place = after_all start_place w.newers in
    let t = takes place w.is_at in
    let newer = t.newer in
    let left = drop (13 + length bytes) held in
    let is = t.spelled.spelled in
    let entry : HasNewerEntry newer = record { spelled = subst (λ l. IsSpelled l newer) is t.spelled; short = subst (λ l. length l ≤ most_bytes) is e.most } in
    let may : MayCome place newer = record { entry = entry; goes = t.taken.goes } in
    let whole : held ≡ newer_entry newer ++ left = entry_of_record held bytes sum newer e t.sum_is is in
    let taken : Consumes all (prepend_known left now) (flat_map newer_entry w.newers ++ newer_entry newer)
    = consumes_more all now held (flat_map newer_entry w.newers) (newer_entry newer) left whole w.taken in
    record {
      walked = record {
        newers = w.newers ++ newer ∷ [];
        come = come_push start_place w.newers newer w.come may;
        is_at = subst (IsAt new) (sym (after_push start_place w.newers newer)) t.taken.follows.comes;
        journal = t.taken.follows.pushed ∙ ap (λ l. l ++ newer.txn ∷ []) w.journal ∙ sym (txns_push w.newers newer);
        taken = subst (Consumes all (prepend_known left now)) (sym (entries_push w.newers newer)) taken;
      };
      seen = ap (λ l. l ++ left) (entries_push w.newers newer) ∙ append_assoc (flat_map newer_entry w.newers) (newer_entry newer) left ∙ ap (λ l. flat_map newer_entry w.newers ++ l) (sym whole);
    }

-- ---- the ends

pub walks_ending : (all now : Option (List ℕ)) (held : List ℕ) (walk : Walk) (ending : Ending) → Walked all (prepend_known held now) walk → ((rest : List ℕ) → Ends walk.at (held ++ rest) ending) → Walks all (Ok ending) walk
walks_ending None now held walk ending w ends = tt
walks_ending (Some all) None held walk ending w ends = absurd w.taken
walks_ending (Some all) (Some rest) held walk ending w ends = record {
  newers = w.newers;
  mends = record { rest = held ++ rest; spelled = w.taken; come = w.come; stops = subst (λ k. Ends k (held ++ rest) ending) w.is_at.at (ends rest) };
  is_at = w.is_at;
  journal = w.journal;
}

pub walks_part : (all now : Option (List ℕ)) (held : List ℕ) (walk : Walk) → Walked all (prepend_known held now) walk → IsAtEnd now → IsPart held → Walks all (Ok (ending_of_part walk.at held)) walk
walks_part None now held walk w end p = tt
walks_part (Some all) None held walk w end p = absurd w.taken
walks_part (Some all) (Some rest) held walk w end p =
    let whole : held ++ rest ≡ held = ap (λ l. held ++ l) end ∙ append-nil held in
    let ends : Ends walk.at (held ++ rest) (ending_of_part walk.at held) = subst (λ l. Ends walk.at l (ending_of_part walk.at held)) (sym whole) (part_ends walk.at held p) in
    record {
      newers = w.newers;
      mends = record { rest = held ++ rest; spelled = w.taken; come = w.come; stops = subst (λ k. Ends k (held ++ rest) (ending_of_part walk.at held)) w.is_at.at ends };
      is_at = w.is_at;
      journal = w.journal;
    }

-- bytes that are rejected with this fault
refused_there : (all : List ℕ) (walk : Walk) (fault : MendFault) → (newers : List NewerRecord) × Mends start_place all newers (Err fault) → Walks (Some all) (Err fault) walk
refused_there all walk (faults.Log log_faults.Read) m = tt
refused_there all walk (faults.Log log_faults.Endless) m = tt
refused_there all walk (faults.Log log_faults.NoMemory) m = tt
refused_there all walk fault m = m

walks_refused : (all now : Option (List ℕ)) (held : List ℕ) (walk : Walk) (fault : MendFault) → Walked all (prepend_known held now) walk → ((place : LogPosition) (rest : List ℕ) → IsAt walk place → IsMendFault place (held ++ rest) fault) → Walks all (Err fault) walk
walks_refused None now held walk fault w f = tt
walks_refused (Some all) None held walk fault w f = absurd w.taken
walks_refused (Some all) (Some rest) held walk fault w f =
    refused_there all walk fault (w.newers, record { rest = held ++ rest; spelled = w.taken; come = w.come; stops = f (after_all start_place w.newers) rest w.is_at })

no_memory : (all : Option (List ℕ)) (walk : Walk) → Walks all (Err (faults.Log log_faults.NoMemory)) walk
no_memory None walk = tt
no_memory (Some all) walk = tt

refused_at : (held rest bytes : List ℕ) (sum : ℕ) (place : LogPosition) (fault : MendFault) → fault ≢ faults.Log log_faults.NoMemory → IsEntry held sum bytes → Refuses place bytes sum fault → IsMendFault place (held ++ rest) fault
refused_at held rest bytes sum place (faults.Log log_faults.NoMemory) other e r = absurd (other refl)
refused_at held rest bytes sum place fault other e r = r (held ++ rest) (entry_more held rest bytes sum e)

pub walks_fault : (all now : Option (List ℕ)) (held bytes : List ℕ) (sum : ℕ) (walk new : Walk) (fault : MendFault) → Walked all (prepend_known held now) walk → IsEntry held sum bytes → ((place : LogPosition) → IsAt walk place → Refuses place bytes sum fault)
    → Walks all (Err fault) new
walks_fault None now held bytes sum walk new fault w e r = tt
walks_fault (Some all) None held bytes sum walk new fault w e r = absurd w.taken
walks_fault (Some all) (Some rest) held bytes sum walk new (faults.Log log_faults.NoMemory) w e r = tt
walks_fault (Some all) (Some rest) held bytes sum walk new fault w e r =
    let place = after_all start_place w.newers in
    refused_there all new fault (w.newers, record { rest = held ++ rest; spelled = w.taken; come = w.come; stops = r place w.is_at (held ++ rest) (entry_more held rest bytes sum e) })
