-- Facts on a record that may come next, or is rejected.
use Rattle.std.proofs.Common.{◌≡◌, ◌≢◌, ℕ, ℤ, Bool, true, false, not, cond, List, Option, None, Some, Result, Ok, Err, IfErr, refl, sym, subst}
use Rattle.zk_log.proofs.Framing.{entry_stands}
use Rattle.zk_records.specs.Checksum.{adler_of}
use Rattle.zk_log.specs.Cutting.{IsEntry}
use Rattle.zk_log.specs.Logs.{Stands}
use Rattle.zk_log.specs.declared.fault.LogFault.TheVariants as log_faults
use Rattle.zk_newer_records.specs.NewerRecords.{tells_why, IsSpelled}
use Rattle.zk_newer_records.specs.declared.newer_record.NewerRecord.{NewerRecord}
use Rattle.zk_table.specs.States.{NodeMap}
use Rattle.zk_mend.specs.NewerLogs.{LogPosition, refusal, refusal_by, IsRefusedRecord}
use Rattle.zk_mend.specs.Walking.{IsAt, IsOwnFault, RefusesNewer, Refuses}
use Rattle.zk_mend.specs.declared.fault.MendFault.{MendFault}
use Rattle.zk_mend.specs.declared.fault.MendFault.TheVariants as faults
use Rattle.zk_mend.specs.declared.walk.Walk.{Walk}

-- one check: it passed, and so did the next ones
pub passed : (test : Bool) (fault : MendFault) (next : Option MendFault) → cond test (Some fault) next ≡ None → (test ≡ false) × (next ≡ None)
passed true fault next e = absurd (no_some fault e)
  where
    no_some : (fault : MendFault) → (let found : Option MendFault = Some fault in found ≡ None) → ⊥
    no_some fault e = cc
passed false fault next e = (refl, e)

-- it failed, or a later one did
failed : (test : Bool) (fault found : MendFault) (next : Option MendFault) → IsOwnFault fault → (next ≡ Some found → IsOwnFault found) → cond test (Some fault) next ≡ Some found → IsOwnFault found
failed true fault found next own later e = subst IsOwnFault (same e) own
  where
    same : (let a : Option MendFault = Some fault in a ≡ Some found) → fault ≡ found
    same e = cc
failed false fault found next own later e = later e

pub refusal_own : (at : ℕ) (last : ℤ) (nodes : NodeMap) (newer : NewerRecord) (fault : MendFault) → refusal_by at last nodes newer ≡ Some fault → IsOwnFault fault
refusal_own at last nodes newer fault e =
    failed _ (faults.NoReason at) fault _ tt
    (failed _ (faults.TooLong at) fault _ tt
    (failed _ (faults.Log (log_faults.Order at)) fault _ tt
    (failed _ (faults.OtherNodes at) fault None tt none))) e
  where
    none : (let a : Option MendFault = None in a ≡ Some fault) → IsOwnFault fault
    none e = absurd cc

-- ---- the faults of records

abbrev pub IsOfRecord : MendFault → Type 0
IsOfRecord (faults.Log (log_faults.Order at)) = Unit {0}
IsOfRecord (faults.Log fault) = ⊥
IsOfRecord (faults.Record at) = ⊥
IsOfRecord fault = Unit {0}

tested : (test : Bool) (fault found : MendFault) (next : Option MendFault) → IsOfRecord fault → (next ≡ Some found → IsOfRecord found) → cond test (Some fault) next ≡ Some found → IsOfRecord found
tested true fault found next own later e = subst IsOfRecord (same e) own
  where
    same : (let a : Option MendFault = Some fault in a ≡ Some found) → fault ≡ found
    same e = cc
tested false fault found next own later e = later e

refusal_of_record : (at : ℕ) (last : ℤ) (nodes : NodeMap) (newer : NewerRecord) (fault : MendFault) → refusal_by at last nodes newer ≡ Some fault → IsOfRecord fault
refusal_of_record at last nodes newer fault e =
    tested _ (faults.NoReason at) fault _ tt
    (tested _ (faults.TooLong at) fault _ tt
    (tested _ (faults.Log (log_faults.Order at)) fault _ tt
    (tested _ (faults.OtherNodes at) fault None tt none))) e
  where
    none : (let a : Option MendFault = None in a ≡ Some fault) → IsOfRecord fault
    none e = absurd cc

refused_record : (place : LogPosition) (bytes : List ℕ) (sum : ℕ) (newer : NewerRecord) (fault : MendFault) → sum ≡ adler_of bytes → IsSpelled bytes newer → refusal place newer ≡ Some fault → (held : List ℕ) → IsEntry held sum bytes → IsRefusedRecord place held fault
refused_record place bytes sum newer fault sum_e spelled refused held e =
    record { newer = newer; bytes = bytes; stands = subst (λ k. Stands held k bytes) sum_e (entry_stands held bytes sum e); spelled = spelled; refused = refused }

by_kind : (place : LogPosition) (bytes : List ℕ) (sum : ℕ) (fault : MendFault) → IsOfRecord fault → ((held : List ℕ) → IsEntry held sum bytes → IsRefusedRecord place held fault) → Refuses place bytes sum fault
by_kind place bytes sum (faults.Log (log_faults.Order at)) own r = r
by_kind place bytes sum (faults.Log fault) own r = absurd own
by_kind place bytes sum (faults.Record at) own r = absurd own
by_kind place bytes sum fault own r = r

-- a record that is rejected, with its checksum
pub refuses_entry : (place : LogPosition) (bytes : List ℕ) (sum : ℕ) (newer : NewerRecord) (fault : MendFault) → sum ≡ adler_of bytes → IsSpelled bytes newer → RefusesNewer place newer fault → Refuses place bytes sum fault
refuses_entry place bytes sum newer (faults.Log log_faults.NoMemory) sum_e spelled r = tt
refuses_entry place bytes sum newer fault sum_e spelled r =
    by_kind place bytes sum fault (refusal_of_record place.at place.last place.state.nodes newer fault r) (refused_record place bytes sum newer fault sum_e spelled r)

-- the same for a result
pub refuses_answer : {T : Type 0} (place : LogPosition) (bytes : List ℕ) (sum : ℕ) (newer : NewerRecord) (answer : Result T MendFault) → sum ≡ adler_of bytes → IsSpelled bytes newer → IfErr answer (λ fault. RefusesNewer place newer fault) → IfErr answer (λ fault. Refuses place bytes sum fault)
refuses_answer place bytes sum newer (Ok done) sum_e spelled r = tt
refuses_answer place bytes sum newer (Err fault) sum_e spelled r = refuses_entry place bytes sum newer fault sum_e spelled r

-- a failed multi without its error code
reasonless_first : (tells : Bool) (fault : MendFault) (next : Option MendFault) → tells ≢ true → cond (not tells) (Some fault) next ≡ Some fault
reasonless_first true fault next other = absurd (other refl)
reasonless_first false fault next other = refl

pub reasonless_refused : (place : LogPosition) (bytes : List ℕ) (sum at : ℕ) (newer : NewerRecord) → at ≡ place.at → sum ≡ adler_of bytes → IsSpelled bytes newer → tells_why newer ≢ true → Refuses place bytes sum (faults.NoReason at)
reasonless_refused place bytes sum at newer at_e sum_e spelled other =
    subst (λ k. Refuses place bytes sum (faults.NoReason k)) (sym at_e) (refused_record place bytes sum newer (faults.NoReason place.at) sum_e spelled (reasonless_first (tells_why newer) (faults.NoReason place.at) _ other))

-- not a record
pub unread_refused : (place : LogPosition) (bytes : List ℕ) (sum at : ℕ) → at ≡ place.at → sum ≡ adler_of bytes → ((newer : NewerRecord) → ¬ IsSpelled bytes newer) → Refuses place bytes sum (faults.Record at)
unread_refused place bytes sum at at_e sum_e none = λ held e. (at_e, (bytes, subst (λ k. Stands held k bytes) sum_e (entry_stands held bytes sum e), none))

-- a checksum mismatch
pub checksum_refused : (place : LogPosition) (bytes : List ℕ) (sum at : ℕ) → at ≡ place.at → sum ≢ adler_of bytes → Refuses place bytes sum (faults.Log (log_faults.Checksum at))
checksum_refused place bytes sum at at_e other = λ held e. (at_e, (sum, bytes, entry_stands held bytes sum e, other))

-- an iteration is at a position, for any last access control list
pub is_at_still : (walk : Walk) (earlier : _) (place : LogPosition) → IsAt walk place → IsAt (record walk { earlier = earlier }) place
is_at_still walk earlier place h = record { at = h.at; last = h.last; state = h.state; runs = h.runs; steps = h.steps; digest = h.digest; told = h.told }
