-- The lines of files that are not read, since another one of their zxid is: a folder gives the files
-- that are read by the names that a server writes, so those of other names are not.
use Rattle.std.specs.Prelude.{ℕ, List, [], ◌++◌, Option, Some, None, codes}
use Rattle.zk_directory.specs.Names.{file_name_of, server_file_of}
use Rattle.zk_directory.specs.declared.names.FileName.{FileName}
use Rattle.zk_directory.specs.declared.names.FileName.TheVariants.{Snapshot, Log}
use Rattle.zk_directory_state.specs.Names.{log_name, snapshot_name}

-- a name, and the one that is read in its place
unfoldable pub unread_line : List ℕ → List ℕ → List ℕ
unread_line name read = name ++ codes " unread " ++ read ++ codes "\n"

-- a server reads a file of this name, and writes none
abbrev pub unread_snapshot_of : Option FileName → Option FileName → List ℕ → List ℕ
unread_snapshot_of None (Some (Snapshot zxid)) name = unread_line name (snapshot_name zxid)
unread_snapshot_of written read name = []

abbrev pub unread_log_of : Option FileName → Option FileName → List ℕ → List ℕ
unread_log_of None (Some (Log zxid)) name = unread_line name (log_name zxid)
unread_log_of written read name = []

abbrev pub unread_snapshot : List ℕ → List ℕ
unread_snapshot name = unread_snapshot_of (file_name_of name) (server_file_of name) name

abbrev pub unread_log : List ℕ → List ℕ
unread_log name = unread_log_of (file_name_of name) (server_file_of name) name
