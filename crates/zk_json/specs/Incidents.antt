-- The lines of `zk history` and `zk top` as JSON objects.
use Rattle.std.specs.Prelude.{◌≡◌, ℕ, Bool, List, [], ◌∷◌, ◌++◌, codes, decimal}
use Rattle.json.specs.Json.{Json, boolean, number, string}
use Rattle.zk_json.specs.Times.{IsTimeText}
use Rattle.zk_table.specs.declared.txn.Txn.{Txn}
use Rattle.zk_json.specs.Json.{Fields, IsLineOf, object_of, strings_of}
use Rattle.zk_json.specs.Records.{record_fields}

-- the nodes that are created, changed or deleted, by what, and whether a session expired
abbrev pub change_fields : List (List ℕ) → List ℕ → Bool → Fields
change_fields paths kind expired = (codes "paths", strings_of paths) ∷ (codes "kind", string kind) ∷ (codes "expired", boolean expired) ∷ []

-- a transaction, and what it changes
abbrev pub history_of : List ℕ → List (List ℕ) → List ℕ → Bool → Txn → Json
history_of time paths kind expired txn = object_of (change_fields paths kind expired ++ record_fields time txn)

abbrev pub IsHistoryLine : List (List ℕ) → List ℕ → Bool → Txn → List ℕ → Type 0
IsHistoryLine paths kind expired txn line = (time : List ℕ) × IsTimeText txn.time time × IsLineOf (history_of time paths kind expired txn) line

abbrev pub AppendsHistoryLine : List (List ℕ) → List ℕ → Bool → Txn → List ℕ → List ℕ → Type 0
AppendsHistoryLine paths kind expired txn old new = (line : List ℕ) × IsHistoryLine paths kind expired txn line × (new ≡ old ++ line)

-- how many writes a path or a session has, by the name of the field that has it
abbrev pub count_of : List ℕ → List ℕ → ℕ → Json
count_of name text count = object_of ((codes "writes", number (decimal count)) ∷ (name, string text) ∷ [])
