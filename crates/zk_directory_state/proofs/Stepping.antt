-- One entry of a walk.
use Rattle.std.proofs.Common.{◌≡◌, ℤ, pos, Bool, true, false, cond, Option, Result, Ok, Err, refl, sym, ap, ◌∙◌}
use Rattle.zk_directory.specs.Chains.{History, history_of, with_entry}
use Rattle.zk_directory.specs.declared.chain.Chain.{Chain}
use Rattle.zk_directory.specs.declared.chain.Turn.TheVariants.{Take, Skip, Stop}
use Rattle.zk_directory.specs.declared.file.FileEntry.{FileEntry}
use Rattle.zk_directory_state.specs.Attempts.{fault_by}
use Rattle.zk_directory_state.specs.Joins.{TakesEntry, decision, told_of}
use Rattle.zk_directory_state.specs.Walks.{ResumesBy, Step, Steps, Walked, is_resumed, noted, step_by, walked_by, with_history, with_record}
use Rattle.zk_directory_state.specs.declared.fault.HistoryFault.{HistoryFault}
use Rattle.zk_directory_state.specs.declared.fault.HistoryFault.TheVariants as history_faults
use Rattle.zk_directory_state.specs.declared.restore_fault.RestoreFault.{RestoreFault}
use Rattle.zk_directory_state.specs.declared.restore_fault.RestoreFault.TheVariants as faults
use Rattle.zk_directory_state.specs.declared.walk.Walk.{Walk}

-- ---- with another chain

abbrev pub with_chain : Chain → Walk → Walk
with_chain chain walk = record { chain = chain; is_whole = walk.is_whole; span = walk.span; damaged = walk.damaged; losses = walk.losses; fault = walk.fault }

same_walked : (old : Walk) (chain : Chain) (history : History) → history_of chain ≡ history → walked_by (with_chain chain old) ≡ with_history history (walked_by old)
same_walked old chain history is = ap (λ (h : History). with_history h (walked_by old)) is

same_step : (b : Bool) (one other : Walked) → one ≡ other → (let step : Step = Ok (one, b) in let next : Step = Ok (other, b) in step ≡ next)
same_step b one other is = ap (λ (w : Walked). let step : Step = Ok (w, b) in step) is

-- ---- an entry that is taken, or not

pub takes : (log : ℤ) (old new : Walk) (chain : Chain) (entry : FileEntry) → TakesEntry (history_of old.chain) entry (Ok Take) (history_of chain) → walked_by new ≡ noted log old.chain.position (walked_by (with_chain chain old)) entry → Steps log (walked_by old) entry (walked_by new) (Ok true)
takes log old new chain entry t is =
    ap (step_by log (walked_by old) entry) t.0
    ∙ same_step true (with_record log (walked_by old) entry) (walked_by new)
    (sym (is ∙ ap (λ (w : Walked). noted log old.chain.position w entry) (same_walked old chain (with_entry (history_of old.chain) (told_of entry)) t.1)))

pub skips : (log : ℤ) (old : Walk) (chain : Chain) (entry : FileEntry) → TakesEntry (history_of old.chain) entry (Ok Skip) (history_of chain) → Steps log (walked_by old) entry (walked_by (with_chain chain old)) (Ok false)
skips log old chain entry t = ap (step_by log (walked_by old) entry) t.0 ∙ same_step false (walked_by old) (walked_by (with_chain chain old)) (sym (same_walked old chain (history_of old.chain) t.1))

pub stops : (log : ℤ) (old : Walk) (chain : Chain) (entry : FileEntry) → TakesEntry (history_of old.chain) entry (Ok Stop) (history_of chain) → Steps log (walked_by old) entry (walked_by (with_chain chain old)) (Ok false)
stops log old chain entry t = ap (step_by log (walked_by old) entry) t.0 ∙ same_step false (walked_by old) (walked_by (with_chain chain old)) (sym (same_walked old chain (history_of old.chain) t.1))

-- ---- one that does not continue the history

resumes_by : (log : ℤ) (old mid new : Walked) (entry : FileEntry) (fault : RestoreFault) (result : Result Bool HistoryFault) → decision old.history entry ≡ Err fault → mid ≡ old → ResumesBy log mid entry fault new result → Steps log old entry new result
resumes_by log old mid new entry fault (Ok is_record) d same r = ap (step_by log old entry) d ∙ ap (λ (w : Walked). step_by log w entry (Err fault)) (sym same) ∙ r
resumes_by log old mid new entry fault (Err history_faults.NoMemory) d same r = tt
resumes_by log old mid new entry fault (Err other) d same r = ap (step_by log old entry) d ∙ ap (λ (w : Walked). step_by log w entry (Err fault)) (sym same) ∙ r

-- the chain had no memory
without_memory : (log : ℤ) (old mid new : Walked) (entry : FileEntry) (result : Result Bool HistoryFault) → ResumesBy log mid entry faults.NoMemory new result → Steps log old entry new result
without_memory log old mid new entry (Ok is_record) r = absurd (cc r)
without_memory log old mid new entry (Err history_faults.NoMemory) r = tt
without_memory log old mid new entry (Err other) r = absurd (cc r)

pub resumes : (log : ℤ) (old new : Walk) (chain : Chain) (entry : FileEntry) (fault : RestoreFault) (result : Result Bool HistoryFault) → TakesEntry (history_of old.chain) entry (Err fault) (history_of chain) → ResumesBy log (walked_by (with_chain chain old)) entry fault (walked_by new) result → Steps log (walked_by old) entry (walked_by new) result
resumes log old new chain entry faults.NoMemory result t r = without_memory log (walked_by old) (walked_by (with_chain chain old)) (walked_by new) entry result r
resumes log old new chain entry fault result t r = resumes_by log (walked_by old) (walked_by (with_chain chain old)) (walked_by new) entry fault result t.0 (same_walked old chain (history_of old.chain) t.1) r

pub taken_on : (log : ℤ) (old new : Walk) (chain : Chain) (entry : FileEntry) → history_of chain ≡ with_entry (history_of old.chain) (told_of entry) → walked_by new ≡ noted log old.chain.position (walked_by (with_chain chain old)) entry → walked_by new ≡ with_record log (walked_by old) entry
taken_on log old new chain entry taken is = is ∙ ap (λ (w : Walked). noted log old.chain.position w entry) (same_walked old chain (with_entry (history_of old.chain) (told_of entry)) taken)

pub resumed : (log : ℤ) (old new : Walked) (entry : FileEntry) (fault : RestoreFault) → true ≡ is_resumed old.damaged fault → new ≡ with_record log old entry → ResumesBy log old entry fault new (Ok true)
resumed log old new entry fault e is =
    ap (λ (b : Bool). let step : Step = cond b (Ok (with_record log old entry, true)) (Err (fault_by (pos 0) log fault)) in step) (sym e) ∙ same_step true (with_record log old entry) new (sym is)

not_resumed_by : (log : ℤ) (old new : Walked) (entry : FileEntry) (fault : RestoreFault) (other : HistoryFault) → step_by log old entry (Err fault) ≡ Err other → ResumesBy log old entry fault new (Err other)
not_resumed_by log old new entry fault history_faults.NoMemory e = tt
not_resumed_by log old new entry fault other e = e

pub not_resumed : (log : ℤ) (old new : Walked) (entry : FileEntry) (fault : RestoreFault) → false ≡ is_resumed old.damaged fault → ResumesBy log old entry fault new (Err (fault_by (pos 0) log fault))
not_resumed log old new entry fault e =
    not_resumed_by log old new entry fault (fault_by (pos 0) log fault) (ap (λ (b : Bool). let step : Step = cond b (Ok (with_record log old entry, true)) (Err (fault_by (pos 0) log fault)) in step) (sym e))
