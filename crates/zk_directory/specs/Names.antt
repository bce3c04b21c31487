-- The names of a data directory's files: `snapshot.ZXID` and `log.ZXID`. ZooKeeper Administrator's
-- Guide, "Data File Management".
use Rattle.std.specs.Prelude.{ℕ, ◌+◌, ◌-◌, ◌*◌, ℤ, pos, Bool, ◌&&◌, ◌==◌, nat_le, nat_eq, List, [], ◌∷◌, take, drop, Option, Some, None, option_map, if◌then◌else◌, codes}
use Rattle.std.specs.List.{position}
use Rattle.std.specs.Str.{bytes_eq}
use Rattle.zk_directory.specs.declared.names.Case.{Case}
use Rattle.zk_directory.specs.declared.names.Case.TheVariants.{Lower, Either}
use Rattle.zk_directory.specs.declared.names.FileName.{FileName}
use Rattle.zk_directory.specs.declared.names.FileName.TheVariants.{Snapshot, Log}

-- ---- a number

-- the value of a lower-case hexadecimal digit
abbrev pub digit_of : ℕ → Option ℕ
digit_of c = if nat_le 48 c && nat_le c 57 then Some (c - 48) else (if nat_le 97 c && nat_le c 102 then Some (c - 97 + 10) else None)

abbrev pub digit_in : Case → ℕ → Option ℕ
digit_in Lower c = digit_of c
digit_in Either c = if nat_le 65 c && nat_le c 70 then Some (c - 65 + 10) else digit_of c

-- a digit more, where the number stays below 2 ^ 63
abbrev pub with_digit : Option ℕ → Option ℕ → Option ℕ
with_digit None digit = None
with_digit (Some value) None = None
with_digit (Some value) (Some digit) = if nat_le 576460752303423488 value then None else Some (value * 16 + digit)

abbrev pub value_after : Case → Option ℕ → List ℕ → Option ℕ
value_after case value [] = value
value_after case value (c ∷ cs) = value_after case (with_digit value (digit_in case c)) cs

abbrev pub value_of : Case → List ℕ → Option ℤ
value_of case digits = option_map pos (value_after case (Some 0) digits)

-- without a leading zero
abbrev pub zxid_of : List ℕ → Option ℤ
zxid_of [] = None
zxid_of (first ∷ []) = value_of Lower (first ∷ [])
zxid_of (first ∷ second ∷ rest) = if nat_eq first 48 then None else value_of Lower (first ∷ second ∷ rest)

-- ---- a name

abbrev pub log_digits : List ℕ → Option (List ℕ)
log_digits name = if bytes_eq (take 4 name) (codes "log.") then Some (drop 4 name) else None

abbrev pub snapshot_digits : List ℕ → Option (List ℕ)
snapshot_digits name = if bytes_eq (take 9 name) (codes "snapshot.") then Some (drop 9 name) else None

abbrev pub file_of : Option (List ℕ) → Option (List ℕ) → Option FileName
file_of (Some digits) other = option_map Log (zxid_of digits)
file_of None (Some digits) = option_map Snapshot (zxid_of digits)
file_of None None = None

-- the file that a name denotes
abbrev pub file_name_of : List ℕ → Option FileName
file_name_of name = file_of (log_digits name) (snapshot_digits name)

-- ---- the names that servers read

-- what stands before the first dot, or all
abbrev pub before_dot_at : Option ℕ → List ℕ → List ℕ
before_dot_at None text = text
before_dot_at (Some at) text = take at text

abbrev pub is_dot : ℕ → Bool
is_dot c = c == 46

abbrev pub before_dot : List ℕ → List ℕ
before_dot text = before_dot_at (position is_dot text) text

-- a number of either case, with any leading zeros
abbrev pub number_of : List ℕ → Option ℤ
number_of [] = None
number_of (c ∷ cs) = value_of Either (c ∷ cs)

-- after a plus sign too
abbrev pub read_zxid_of : List ℕ → Option ℤ
read_zxid_of [] = None
read_zxid_of (c ∷ cs) = if nat_eq c 43 then number_of cs else number_of (c ∷ cs)

abbrev pub read_file_of : Option (List ℕ) → Option (List ℕ) → Option FileName
read_file_of (Some rest) other = option_map Log (read_zxid_of (before_dot rest))
read_file_of None (Some rest) = option_map Snapshot (read_zxid_of (before_dot rest))
read_file_of None None = None

-- the file that a server reads by this name: what stands between the first dot and the next one, or
-- the end, is its zxid
abbrev pub server_file_of : List ℕ → Option FileName
server_file_of name = read_file_of (log_digits name) (snapshot_digits name)
