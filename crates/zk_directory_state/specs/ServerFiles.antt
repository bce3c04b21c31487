-- The snapshots and logs that a server reads in a directory, by the names of the directory's files.
use Rattle.std.specs.Prelude.{ℕ, Bool, false, List, [], ◌∷◌, ◌++◌, find, Option, Some, None, if◌then◌else◌, String}
use Rattle.std.specs.Global.{Global}
use Rattle.std.specs.List.{list_any}
use Rattle.std.specs.Ordering.{int_eq}
use Rattle.std.specs.String.{string_bytes}
use Rattle.zk_directory.specs.Names.{file_name_of, server_file_of}
use Rattle.zk_directory.specs.declared.names.FileName.{FileName}
use Rattle.zk_directory.specs.declared.names.FileName.TheVariants.{Snapshot, Log}

abbrev pub is_same : FileName → FileName → Bool
is_same (Snapshot zxid) (Snapshot other) = int_eq zxid other
is_same (Log zxid) (Log other) = int_eq zxid other
is_same file other = false

abbrev pub is_some : FileName → Option FileName → Bool
is_some file None = false
is_some file (Some other) = is_same file other

-- a file that is read, unless it is there
abbrev pub with_file : List FileName → Option FileName → List FileName
with_file files None = files
with_file files (Some file) = if list_any (is_same file) files then files else files ++ file ∷ []

unfoldable pub with_files : List FileName → List (String Global) → List FileName
with_files files [] = files
with_files files (name ∷ names) = with_files (with_file files (server_file_of (string_bytes name))) names

-- each once
abbrev pub server_files : List (String Global) → List FileName
server_files names = with_files [] names

-- the name that a server writes, and one that it reads
abbrev pub is_named : FileName → String Global → Bool
is_named file name = is_some file (file_name_of (string_bytes name))

abbrev pub is_read : FileName → String Global → Bool
is_read file name = is_some file (server_file_of (string_bytes name))

abbrev pub or_read : Option (String Global) → FileName → List (String Global) → Option (String Global)
or_read None file names = find (is_read file) names
or_read (Some name) file names = Some name

-- the name of a file: the one that a server writes, if it is there, or else the first that it reads
abbrev pub name_among : FileName → List (String Global) → Option (String Global)
name_among file names = or_read (find (is_named file) names) file names
