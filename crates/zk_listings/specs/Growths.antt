-- What a follower of a log has printed while the log grew.
use Rattle.std.specs.Prelude.{◌≡◌, ◌≤◌, ℕ, ℤ, pos, List, [], ◌∷◌, ◌++◌, length, take, drop}
use Rattle.zk_cli_args.specs.declared.form.Form.{Form}
use Rattle.zk_newer_records.specs.declared.newer_record.NewerRecord.{NewerRecord}
use Rattle.zk_listings.specs.Lines.{AreTxnLines}
use Rattle.zk_listings.specs.Tails.{AreEntries, Feeds, last_of, shown_of}
use Rattle.zk_listings.specs.declared.tail.Fed.{Fed}
use Rattle.zk_listings.specs.declared.tail.LogTail.{LogTail}

-- the log has these contents one after another. What was read stays as it is; from each the follower takes what stands whole, of as many bytes as it sees
abbrev pub Prints : Form → LogTail → List ℕ → List (List ℕ) → List ℕ → LogTail → List ℕ → Type 0
Prints form old log [] text new log' = (text ≡ []) × (new ≡ old) × (log' ≡ log)
Prints form old log (grown ∷ more) text new log' =
    (take old.at grown ≡ take old.at log)
    × ((seen : ℕ) × (fed : Fed) × (next : LogTail) × (lines : List ℕ) × (rest : List ℕ)
    × Feeds form old (take seen (drop old.at grown)) [] fed next lines × Prints form next grown more rest new log' × (text ≡ lines ++ rest))

-- what was printed of a log since an offset is the listing of its entries from there to where it was read
pub record IsRead (form : Form) (start : LogTail) (log : List ℕ) (now : LogTail) (text : List ℕ) : Type 0 where
  pub records : List NewerRecord
  pub from : start.at ≤ now.at
  pub within : now.at ≤ length log
  pub are : AreEntries start.last (drop start.at (take now.at log)) records
  pub last : now.last ≡ last_of start.last records
  pub after : now.after ≡ start.after
  pub lines : AreTxnLines form (shown_of start.after records) text

-- after any growths, what was printed is the listing of what was read so far
abbrev pub PrintsWhatWasRead : Type 0
PrintsWhatWasRead = (form : Form) (start end : LogTail) (log log' : List ℕ) (growths : List (List ℕ)) (text : List ℕ) → start.at ≤ length log → Prints form start log growths text end log' → IsRead form start log' end text
