-- What all steps of a follower write: the listing of each log that was read, in order.
use Rattle.std.specs.Prelude.{◌≡◌, ℤ, ℕ, pos, List, [], ◌∷◌, ◌++◌, ⊤}
use Rattle.zk_listings.specs.Followings.{Follows, Place, Step, first_place}
use Rattle.zk_listings.specs.Tails.{AreEntries, last_of, position_of, shown_of}
use Rattle.zk_cli_args.specs.declared.form.Form.{Form}
use Rattle.zk_newer_records.specs.declared.newer_record.NewerRecord.{NewerRecord}
use Rattle.zk_listings.specs.Lines.{AreTxnLines}

-- a text is the lines of the entries that were taken of a log, and of those of later logs: of each, those that no earlier log has
abbrev pub ListsLogs : Form → ℤ → ℤ → List ℕ → List (List ℕ) → List ℕ → Type 0
ListsLogs form last after taken [] text = (records : List NewerRecord) × AreEntries last taken records × AreTxnLines form (shown_of after records) text
ListsLogs form last after taken (next ∷ logs) text =
    (records : List NewerRecord) × (lines : List ℕ) × (rest : List ℕ) × AreEntries last taken records × AreTxnLines form (shown_of after records) lines
    × ListsLogs form (pos 0) (position_of (last_of last records) after) next logs rest × (text ≡ lines ++ rest)

abbrev pub WritesListings : Type 0
WritesListings = (form : Form) (steps : List Step) (text : List ℕ) (now : Place) → Follows (λ zxid at bytes. ⊤) (first_place form) steps text now
    → (taken : List ℕ) × (logs : List (List ℕ)) × ListsLogs form (pos 0) (pos 0) taken logs text
