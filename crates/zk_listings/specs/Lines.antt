-- The line of a transaction in each form of a listing.
use Rattle.std.specs.Prelude.{◌≡◌, ◌≢◌, ℕ, ℤ, List, [], ◌∷◌, ◌++◌, Option, Some, None}
use Rattle.std.specs.Fmt.{signed_decimal}
use Rattle.zk_cli_args.specs.declared.form.Form.{Form}
use Rattle.zk_cli_args.specs.declared.form.Form.TheVariants as forms
use Rattle.zk_format.specs.Listings.{line_of, op_text}
use Rattle.zk_format.specs.Spelling.{id_digits}
use Rattle.zk_json.specs.Records.{IsRecordLine}
use Rattle.zk_json.specs.Times.{IsTimeText}
use Rattle.zk_table.specs.declared.txn.Txn.{Txn}

-- the fields before the time, and a space after each
abbrev pub front_text : ℤ → ℤ → ℤ → List ℕ
front_text zxid session cxid = id_digits zxid ++ 32 ∷ id_digits session ++ 32 ∷ signed_decimal cxid ++ 32 ∷ []

-- a transaction's line with its newline, as in a listing but for the time
abbrev pub timed_line : List ℕ → Txn → List ℕ
timed_line time txn = front_text txn.zxid txn.session txn.cxid ++ time ++ 32 ∷ op_text txn.op ++ 10 ∷ []

abbrev pub IsTimedLine : Txn → List ℕ → Type 0
IsTimedLine txn line = (time : List ℕ) × IsTimeText txn.time time × (line ≡ timed_line time txn)

abbrev pub IsTxnLine : Form → Txn → List ℕ → Type 0
IsTxnLine forms.Lines txn line = line ≡ line_of txn
IsTxnLine forms.Json txn line = IsRecordLine txn line
IsTxnLine forms.Times txn line = IsTimedLine txn line

-- a line for each transaction, in order
abbrev pub AreTxnLines : Form → List Txn → List ℕ → Type 0
AreTxnLines form [] text = text ≡ []
AreTxnLines form (txn ∷ txns) text = (line : List ℕ) × (rest : List ℕ) × IsTxnLine form txn line × AreTxnLines form txns rest × (text ≡ line ++ rest)

abbrev pub AppendsTxnLine : Form → Txn → List ℕ → List ℕ → Type 0
AppendsTxnLine form txn old new = (line : List ℕ) × IsTxnLine form txn line × (new ≡ old ++ line)

abbrev pub AppendsTxnLines : Form → List Txn → List ℕ → List ℕ → Type 0
AppendsTxnLines form txns old new = (text : List ℕ) × AreTxnLines form txns text × (new ≡ old ++ text)

-- ---- calls within

-- what follows a front in a text; None if it does not begin with it
abbrev pub CutsFront : List ℕ → List ℕ → Option (List ℕ) → Type 0
CutsFront front text None = (rest : List ℕ) → text ≢ front ++ rest
CutsFront front text (Some rest) = text ≡ front ++ rest

abbrev pub AppendsTimedLine : Txn → List ℕ → List ℕ → Type 0
AppendsTimedLine txn old new = (line : List ℕ) × IsTimedLine txn line × (new ≡ old ++ line)
