-- What a command writes for a log, by the results of the loader and the writer.
use Rattle.std.proofs.Common.{◌≡◌, ℕ, ℤ, zero, suc, ◌+◌, ◌≤◌, List, [], ◌++◌, Option, None, Some, Result, Ok, Err, IsOk, IsSome, ◌⊎◌, inl, inr, refl, sym, ap, ◌∙◌, subst, arith, append-nil}
use Rattle.std.proofs.KnownBytes.{Keeps-refl}
use Rattle.std.proofs.lemmas.Bool.{false≢true}
use Rattle.zk_records.specs.Sinks.{writer_of}
use Rattle.zk_log.specs.Devices.{reader_of, reads_of}
use Rattle.zk_log.specs.Loading.{Answers, MeetsEnd, ReadsSparingly, Tells}
use Rattle.zk_log.specs.Taking.{TakesLog, loaded_of}
use Rattle.zk_log.specs.declared.fault.LogFault.{LogFault}
use Rattle.zk_log.specs.declared.fault.LogFault.TheVariants as log_faults
use Rattle.zk_log.specs.declared.loaded.Loaded.{Loaded}
use Rattle.zk_records.specs.declared.sink.Sink.{Sink}
use Rattle.zk_log.specs.declared.source.Source.{Source}
use Rattle.zk_log.specs.declared.txn_sink.Head.{Head}
use Rattle.zk_path.specs.declared.memory.NoMemory.{NoMemory}
use Rattle.zk_format.specs.Listings.{listing_of}
use Rattle.zk_listing.specs.Reports.{line, tree_report}
use Rattle.zk_table.specs.Histories.{state_after}
use Rattle.zk_table.specs.States.{State, start_state}
use Rattle.zk_table.specs.declared.txn.Txn.{Txn}
use Rattle.zk_log_commands.specs.Notices.{begins_within, first_of, within_epoch}
use Rattle.zk_log_commands.specs.Showing.{shown_of, end_line, show_report}
use Rattle.zk_log_commands.specs.Telling.{EndsNoted, Loads, Outputs, OutputsNoted, TellsLog, TellsWriting}
use Rattle.zk_log_commands.specs.Writing.{Writes, Wrote, WrotePart}
use Rattle.zk_log_commands.specs.declared.lines.LineFault.{LineFault}
use Rattle.zk_log_commands.specs.declared.lines.LineFault.TheVariants as line_faults

-- what was consumed of a log was loaded
pub loads_taken : {R T : Type 0} (remaining : R → Option (List ℕ)) (took : List Txn → T → Type 0) (old new : Source R) (taker : T) (turns : ℕ) (result : Result Head LogFault) → (t : TakesLog took (remaining (reader_of old)) taker result)
    → ReadsSparingly remaining old new → MeetsEnd old (loaded_of [] result) new → reads_of new ≤ reads_of old + turns → Tells remaining old turns (loaded_of [] result) new → Loads remaining old new turns (loaded_of t.txns result)
loads_taken remaining took old new taker turns (Ok head) t sparing ends reads tells = record { answers = t.answers; tells = tells; sparing = sparing; ends = ends; reads = reads }
loads_taken remaining took old new taker turns (Err fault) t sparing ends reads tells = record { answers = t.answers; tells = tells; sparing = sparing; ends = ends; reads = reads }

wrote_all : {O : Type 0} (contents : O → Option (List ℕ)) (output output' : Sink O) (text : List ℕ) → Wrote contents output output' text → WrotePart contents output output' text
wrote_all contents output output' text w = record { front = text; rest = []; whole = sym (append-nil text); wrote = w }

-- only an allocation for the notice can fail
pub spared : {E : Type 0} (told : E → Option (List ℕ)) (notice : Option ℤ) (faults faults' : Sink E) (result : Result ℕ NoMemory) → EndsNoted told notice faults faults' result → IsOk result ⊎ IsSome notice
spared told notice faults faults' (Ok zero) t = inl refl
spared told notice faults faults' (Ok (suc more)) t = absurd t
spared told notice faults faults' (Err refused) t = inr t.1

-- a text was written, and the result reported
pub noted : {O E : Type 0} (contents : O → Option (List ℕ)) (told : E → Option (List ℕ)) (text : List ℕ) (notice : Option ℤ) (output output' : Sink O) (faults faults' : Sink E) (result : Result ℕ NoMemory)
    → Wrote contents output output' text → EndsNoted told notice faults faults' result → OutputsNoted contents told text notice output output' faults faults' result
noted contents told text notice output output' faults faults' (Ok zero) w t = (w, t)
noted contents told text notice output output' faults faults' (Ok (suc more)) w t = absurd t
noted contents told text notice output output' faults faults' (Err refused) w t = (wrote_all contents output output' text w, t.0)

pub outputs_written : {O E : Type 0} (contents : O → Option (List ℕ)) (told : E → Option (List ℕ)) (text : List ℕ) (notice : Option ℤ) (output output' : Sink O) (faults faults' : Sink E) (written : Result (Unit {0}) LineFault) (result : Result ℕ NoMemory)
    → Writes contents output text written output' → TellsWriting told written notice faults faults' result → OutputsNoted contents told text notice output output' faults faults' result
outputs_written contents told text notice output output' faults faults' (Ok done) result w t = noted contents told text notice output output' faults faults' result w t
outputs_written contents told text notice output output' faults faults' (Err line_faults.Write) result w t = subst (OutputsNoted contents told text notice output output' faults faults') (sym t.0) (w, t.1)
outputs_written contents told text notice output output' faults faults' (Err line_faults.NoMemory) (Ok status) w t = absurd (false≢true t.0)
outputs_written contents told text notice output output' faults faults' (Err line_faults.NoMemory) (Err refused) w t = (w, t.1)

-- a text was written, without a notice
pub outputs_unnoted : {O E : Type 0} (contents : O → Option (List ℕ)) (told : E → Option (List ℕ)) (text : List ℕ) (output output' : Sink O) (faults faults' : Sink E) (status : ℕ)
    → Outputs contents told text output output' faults faults' (Ok status) → OutputsNoted contents told text None output output' faults faults' (Ok status)
outputs_unnoted contents told text output output' faults faults' zero w = w
outputs_unnoted contents told text output output' faults faults' (suc status) w = w

-- the listing of the transactions that were consumed
pub taken_listing : (start text : List ℕ) (txns : List Txn) → start ≡ [] → text ≡ start ++ listing_of txns → text ≡ listing_of txns
taken_listing start text txns none taken = taken ∙ ap (λ l. l ++ listing_of txns) none

answers_nothing : (bytes : Option (List ℕ)) → Answers bytes (Err log_faults.NoMemory)
answers_nothing None = tt
answers_nothing (Some bytes) = tt

-- an allocation failed before the first read
pub gives_up_before : {F O E : Type 0} (remaining : F → Option (List ℕ)) (contents : O → Option (List ℕ)) (told : E → Option (List ℕ)) (text_of : Loaded → List ℕ) (notice_of : Loaded → Option ℤ) (file : Source F) (output : Sink O) (faults : Sink E) (refused : NoMemory)
    → TellsLog remaining contents told text_of notice_of file file output output faults faults (Err refused)
gives_up_before remaining contents told text_of notice_of file output faults refused = record {
  answer = Err log_faults.NoMemory;
  loads = record { answers = answers_nothing (remaining (reader_of file)); tells = refl; sparing = inl refl; ends = refl; reads = omega arith };
  outputs = (record { bytes = Keeps-refl (contents (writer_of output)); failures = refl }, record { bytes = Keeps-refl (told (writer_of faults)); failures = refl }, refl);
}

-- the report of the transactions that were consumed
pub taken_report : (upto upto' : Option ℤ) (start state : State) (loaded : Loaded) → start ≡ start_state → upto' ≡ upto → state ≡ state_after start (shown_of upto' loaded.txns)
    → tree_report state ++ line (end_line loaded.ending) ≡ show_report upto loaded
unfolding show_report
taken_report upto upto' start state loaded first same taken =
    ap (λ s. tree_report s ++ line (end_line loaded.ending)) (taken ∙ ap (λ s. state_after s (shown_of upto' loaded.txns)) first ∙ ap (λ u. state_after start_state (shown_of u loaded.txns)) same)

-- the first zxid of the transactions that were consumed
pub taken_first : (start first : Option ℤ) (txns : List Txn) → start ≡ None → first ≡ first_of start txns → within_epoch first ≡ begins_within txns
taken_first start first txns none taken = ap within_epoch (taken ∙ ap (λ (f : Option ℤ). first_of f txns) none)
