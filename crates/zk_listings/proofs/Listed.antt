-- The lines of all records, and of all transactions of a log.
use Rattle.std.proofs.Common.{◌≡◌, ◌++◌, ◌∷◌, ℕ, ℤ, zero, suc, List, [], Option, None, Result, Ok, Err, refl, sym, ap, ◌∙◌, subst, append_assoc, append-nil}
use Rattle.std.specs.String.{string_bytes}
use Rattle.zk_cli_args.specs.declared.form.Form.{Form}
use Rattle.zk_json_commands.specs.Logs.{OutputsSuch}
use Rattle.zk_log_commands.specs.Telling.{Outputs}
use Rattle.zk_newer_records.specs.declared.newer_record.NewerRecord.{NewerRecord}
use Rattle.zk_path.specs.declared.memory.NoMemory.{NoMemory}
use Rattle.zk_newer_records.specs.Folds.{AllFollow}
use Rattle.zk_records.specs.declared.sink.Sink.{Sink}
use Rattle.zk_table.specs.declared.txn.Txn.{Txn}
use Rattle.zk_listings.specs.Lines.{AppendsTxnLines, AreTxnLines}
use Rattle.zk_listings.specs.Listings.{AppendsRecord, txns_of}
use Rattle.zk_listings.specs.declared.lines.RecordLines.{RecordLines}

lines_from : (start new : RecordLines) (records : List NewerRecord) → AllFollow AppendsRecord start records new → (text : List ℕ) × AreTxnLines start.form (txns_of records) text × (string_bytes new.text ≡ string_bytes start.text ++ text)
lines_from start new [] e = ([], refl, ap (λ (l : RecordLines). string_bytes l.text) e ∙ sym (append-nil (string_bytes start.text)))
lines_from start new (newer ∷ records) f =
    let more = lines_from f.0 new records f.2 in
    let line = f.1.line in
    let rest = subst (λ (form : Form). AreTxnLines form (txns_of records) more.0) f.1.form more.1 in
    (line.0 ++ more.0, (line.0, more.0, line.1, rest, refl), more.2 ∙ ap (λ l. l ++ more.0) line.2 ∙ append_assoc (string_bytes start.text) line.0 more.0)

pub records_told : (form : Form) (start new : RecordLines) (records : List NewerRecord) → start.form ≡ form → string_bytes start.text ≡ [] → AllFollow AppendsRecord start records new → AreTxnLines form (txns_of records) (string_bytes new.text)
records_told form start new records of none f =
    let told = lines_from start new records f in
    subst (λ (l : List ℕ). AreTxnLines form (txns_of records) l) (sym (told.2 ∙ ap (λ l. l ++ told.0) none)) (subst (λ (form' : Form). AreTxnLines form' (txns_of records) told.0) of told.1)

pub all_told : (form : Form) (txns : List Txn) (old new : List ℕ) → old ≡ [] → AppendsTxnLines form txns old new → AreTxnLines form txns new
all_told form txns old new none h = subst (λ (l : List ℕ). AreTxnLines form txns l) (sym (h.2 ∙ ap (λ l. l ++ h.0) none)) h.1

-- a text without a notice was put
pub put_told : {O E : Type 0} (written : O → Option (List ℕ)) (told : E → Option (List ℕ)) (is_text : List ℕ → Type 0) (text : List ℕ) (output output' : Sink O) (faults faults' : Sink E) (status : ℕ)
    → is_text text → Outputs written told text output output' faults faults' (Ok status) → OutputsSuch written told is_text None output output' faults faults' (Ok status)
put_told written told is_text text output output' faults faults' zero h o = (text, h, o)
put_told written told is_text text output output' faults faults' (suc zero) h o = (text, h, o)
put_told written told is_text text output output' faults faults' (suc (suc more)) h o = absurd o
