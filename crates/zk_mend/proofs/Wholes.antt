-- A whole file: its header, its entries, and the reads.
use Rattle.std.proofs.Common.{◌≡◌, ℕ, ◌+◌, ℤ, List, ◌++◌, Option, None, Some, Result, Ok, Err, IfOk, FitsSigned, sym, ap, ◌∙◌, subst, arith, w64}
use Rattle.std.specs.Io.KnownBytes.{Consumes}
use Rattle.zk_log.specs.Devices.{reads_of, read_failures_of}
use Rattle.zk_log.specs.Loading.{Heads, HeaderTells}
use Rattle.zk_records.specs.Written.{header_of}
use Rattle.zk_log.specs.declared.fault.LogFault.{LogFault}
use Rattle.zk_log.specs.declared.fault.LogFault.TheVariants as log_faults
use Rattle.zk_log.specs.declared.loaded.Ending.{Ending}
use Rattle.zk_log.specs.declared.source.Source.{Source}
use Rattle.zk_mend.proofs.Refusals.{refusal_own}
use Rattle.zk_mend.specs.Mending.{Answers, AnswersBody, Tells}
use Rattle.zk_mend.specs.NewerLogs.{after_all, start_place, txns_in, Mends}
use Rattle.zk_mend.specs.Telling.{told_of}
use Rattle.zk_table.specs.declared.txn.Txn.{Txn}
use Rattle.zk_mend.specs.Walking.{Walks}
use Rattle.zk_mend.specs.declared.fault.MendFault.{MendFault}
use Rattle.zk_mend.specs.declared.fault.MendFault.TheVariants as faults
use Rattle.zk_mend.specs.declared.mended.Mended.{Mended}
use Rattle.zk_mend.specs.declared.walk.Walk.{Walk}

-- ---- the entries

-- the converted log of an iteration that reached the ending
pub body_mended : (body : Option (List ℕ)) (walk : Walk) (ending : Ending) (mended : Mended) → Walks body (Ok ending) walk → mended.ending ≡ ending → mended.journal ≡ walk.journal → mended.told ≡ told_of walk.journal walk.told → AnswersBody body (Ok mended)
body_mended None walk ending mended w ending_e journal_e told_e = tt
body_mended (Some body) walk ending mended w ending_e journal_e told_e = record {
  newers = w.newers;
  mends = subst (λ (e : Ending). Mends start_place body w.newers (Ok e)) (sym ending_e) w.mends;
  journal = journal_e ∙ w.journal;
  told = told_e ∙ ap (λ (l : List Txn). told_of l walk.told) w.journal ∙ ap (told_of (txns_in w.newers)) w.is_at.told;
}

-- the fault of one that did not
pub body_refused : (body : Option (List ℕ)) (walk : Walk) (fault : MendFault) → Walks body (Err fault) walk → AnswersBody body (Err fault)
body_refused None walk fault w = tt
body_refused (Some body) walk (faults.Log log_faults.Read) w = tt
body_refused (Some body) walk (faults.Log log_faults.Endless) w = tt
body_refused (Some body) walk (faults.Log log_faults.NoMemory) w = tt
body_refused (Some body) walk fault w = w

-- ---- the header

pub header_refused : {R : Type 0} (old new : Source R) (start now : Option (List ℕ)) (held : List ℕ) (turns : ℕ) (fault : LogFault) → Heads start now (Err fault) → HeaderTells old (Err fault) new held turns → Answers start (Err (faults.Log fault))
header_refused old new None now held turns fault h t = tt
header_refused old new (Some bytes) now held turns log_faults.Header h t = h.0
header_refused old new (Some bytes) now held turns log_faults.Read h t = tt
header_refused old new (Some bytes) now held turns log_faults.Endless h t = tt
header_refused old new (Some bytes) now held turns log_faults.NoMemory h t = tt
header_refused old new (Some bytes) now held turns other h t = absurd t

pub header_tells : {R : Type 0} (old new : Source R) (held : List ℕ) (turns left : ℕ) (fault : LogFault) → HeaderTells old (Err fault) new held left → reads_of new + left ≡ reads_of old + turns → Tells {T = Mended} old turns (Err (faults.Log fault)) new
header_tells old new held turns left log_faults.Read t r = t
header_tells old new held turns left log_faults.Endless t r = (t.0, omega (arith, r, t.1))
header_tells old new held turns left log_faults.Header t r = t
header_tells old new held turns left log_faults.NoMemory t r = t
header_tells old new held turns left other t r = absurd t

-- ---- the header and the entries

whole_refused : (bytes body : List ℕ) (dbid : ℤ) (fault : MendFault) → bytes ≡ header_of dbid ++ body → FitsSigned w64 dbid → AnswersBody (Some body) (Err fault) → Answers (Some bytes) (Err fault)
whole_refused bytes body dbid (faults.Log log_faults.Read) e fits a = tt
whole_refused bytes body dbid (faults.Log log_faults.Endless) e fits a = tt
whole_refused bytes body dbid (faults.Log log_faults.NoMemory) e fits a = tt
whole_refused bytes body dbid (faults.Log log_faults.Header) e fits a =
    let place = after_all start_place a.0 in
    let s = a.1.stops in
    absurd (refusal_own place.at place.last place.state.nodes s.newer (faults.Log log_faults.Header) s.refused)
whole_refused bytes body dbid fault e fits a = record { dbid = dbid; dbid_fits = fits; body = body; spelled = e; newers = a.0; entries = a.1 }

pub whole_answers : (start body : Option (List ℕ)) (dbid : ℤ) (answer : Result Mended MendFault) → Consumes start body (header_of dbid) → FitsSigned w64 dbid → IfOk answer (λ mended. mended.dbid ≡ dbid) → AnswersBody body answer → Answers start answer
whole_answers None body dbid answer c fits d a = tt
whole_answers (Some bytes) None dbid answer c fits d a = absurd c
whole_answers (Some bytes) (Some body) dbid (Ok mended) c fits d a =
    record { dbid_fits = subst (FitsSigned w64) (sym d) fits; body = body; spelled = c ∙ ap (λ (z : ℤ). header_of z ++ body) (sym d); entries = a }
whole_answers (Some bytes) (Some body) dbid (Err fault) c fits d a = whole_refused bytes body dbid fault c fits a

-- the contract after a header that was read
pub whole_tells : {R : Type 0} (old mid new : Source R) (turns left : ℕ) (answer : Result Mended MendFault) → read_failures_of mid ≡ read_failures_of old → reads_of mid + left ≡ reads_of old + turns → Tells mid left answer new → Tells old turns answer new
whole_tells old mid new turns left (Ok mended) same r t = t ∙ same
whole_tells old mid new turns left (Err (faults.Log log_faults.Read)) same r t = t ∙ ap (λ n. n + 1) same
whole_tells old mid new turns left (Err (faults.Log log_faults.Endless)) same r t = (t.0 ∙ same, t.1 ∙ r)
whole_tells old mid new turns left (Err fault) same r t = t ∙ same
