-- The objects of files that are not read, since another one of their zxid is: a folder gives the files
-- that are read by the names that a server writes, so those of other names are not.
use Rattle.std.specs.Prelude.{◌≡◌, ℕ, List, [], ◌∷◌, ◌++◌, Option, Some, None, option_map, String, codes}
use Rattle.std.specs.Global.{Global}
use Rattle.std.specs.String.{string_bytes}
use Rattle.json.specs.Json.{string}
use Rattle.zk_directory.specs.Names.{file_name_of, server_file_of}
use Rattle.zk_directory.specs.declared.names.FileName.{FileName}
use Rattle.zk_directory.specs.declared.names.FileName.TheVariants.{Snapshot, Log}
use Rattle.zk_directory_state.specs.Names.{log_name, snapshot_name}
use Rattle.zk_json.specs.Json.{Fields, IsLineOf, object_of}

-- a name, and the one that is read in its place
abbrev pub unread_fields : List ℕ → List ℕ → Fields
unread_fields name read = (codes "unread", string name) ∷ (codes "read", string read) ∷ []

-- a server reads a file of this name, and writes none
abbrev pub snapshot_for : Option FileName → Option FileName → Option (List ℕ)
snapshot_for None (Some (Snapshot zxid)) = Some (snapshot_name zxid)
snapshot_for written read = None

abbrev pub log_for : Option FileName → Option FileName → Option (List ℕ)
log_for None (Some (Log zxid)) = Some (log_name zxid)
log_for written read = None

abbrev pub snapshot_instead : List ℕ → Option (List ℕ)
snapshot_instead name = snapshot_for (file_name_of name) (server_file_of name)

abbrev pub log_instead : List ℕ → Option (List ℕ)
log_instead name = log_for (file_name_of name) (server_file_of name)

-- the line of a name, if another is read in its place
abbrev pub IsUnreadLine : List ℕ → Option (List ℕ) → List ℕ → Type 0
IsUnreadLine name None line = line ≡ []
IsUnreadLine name (Some read) line = IsLineOf (object_of (unread_fields name read)) line

abbrev pub AreUnreadLines : (List ℕ → Option (List ℕ)) → List (String Global) → List ℕ → Type 0
AreUnreadLines instead [] text = text ≡ []
AreUnreadLines instead (name ∷ names) text =
    (line : List ℕ) × (rest : List ℕ) × IsUnreadLine (string_bytes name) (instead (string_bytes name)) line × AreUnreadLines instead names rest × (text ≡ line ++ rest)

-- those of snapshots, and then of logs
pub record AreUnread (snapshot_names log_names : List (String Global)) (text : List ℕ) : Type 0 where
  pub snapshot_lines : List ℕ
  pub log_lines : List ℕ
  pub snapshots : AreUnreadLines snapshot_instead snapshot_names snapshot_lines
  pub logs : AreUnreadLines log_instead log_names log_lines
  pub is : text ≡ snapshot_lines ++ log_lines

-- ---- calls within

abbrev pub text_of : Option (String Global) → Option (List ℕ)
text_of text = option_map string_bytes text

abbrev pub AppendsUnreadBy : List ℕ → Option (List ℕ) → List ℕ → List ℕ → Type 0
AppendsUnreadBy name read old new = (line : List ℕ) × IsUnreadLine name read line × (new ≡ old ++ line)

abbrev pub AppendsUnreadIn : (List ℕ → Option (List ℕ)) → List (String Global) → List ℕ → List ℕ → Type 0
AppendsUnreadIn instead names old new = (text : List ℕ) × AreUnreadLines instead names text × (new ≡ old ++ text)

abbrev pub AppendsUnread : List (String Global) → List (String Global) → List ℕ → List ℕ → Type 0
AppendsUnread snapshot_names log_names old new = (text : List ℕ) × AreUnread snapshot_names log_names text × (new ≡ old ++ text)
