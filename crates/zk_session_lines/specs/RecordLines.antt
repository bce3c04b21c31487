-- The line of a transaction of a session.
use Rattle.std.specs.Prelude.{ℕ, Bool, true, false, List, [], ◌∷◌, ◌++◌, codes}
use Rattle.std.specs.List.{flat_map}
use Rattle.zk_format.specs.Spelling.{id_digits, quoted}
use Rattle.zk_json.specs.Times.{IsTimeText}
use Rattle.zk_session_lines.specs.Appending.{Is, Then}
use Rattle.zk_table.specs.declared.txn.Txn.{Txn}

-- the end of an expired session
abbrev pub expiry_text : Bool → List ℕ
expiry_text true = codes " expired"
expiry_text false = []

unfoldable pub path_text : List ℕ → List ℕ
path_text path = 32 ∷ quoted path

abbrev pub end_text : List (List ℕ) → List ℕ
end_text paths = flat_map path_text paths ++ 10 ∷ []

abbrev pub rest_text : Bool → List (List ℕ) → List ℕ
rest_text expired paths = expiry_text expired ++ end_text paths

-- the time, the zxid, the operation, its session, and the nodes that it creates, changes or deletes
abbrev pub IsRecordLine : List (List ℕ) → List ℕ → Bool → Txn → List ℕ → Type 0
IsRecordLine paths kind expired txn line = Then (IsTimeText txn.time) (Then (Is (32 ∷ id_digits txn.zxid)) (Then (Is (32 ∷ kind)) (Then (Is (32 ∷ id_digits txn.session)) (Is (rest_text expired paths))))) line
