-- The report of a directory's state: its tree, the snapshot that it begins at, those that were
-- passed over, and how the last log ends.
use Rattle.std.specs.Prelude.{ℕ, ℤ, List, [], ◌++◌, Option, Some, None, nat_eq, codes, if◌then◌else◌}
use Rattle.std.specs.Fmt.{decimal}
use Rattle.std.specs.List.{flat_map}
use Rattle.zk_replay.specs.declared.count.DigestCount.{DigestCount}
use Rattle.zk_directory_state.specs.declared.history.Broken.{Broken}
use Rattle.zk_directory_state.specs.declared.history.Origin.{Origin}
use Rattle.zk_directory_state.specs.declared.history.Shown.{Shown}
use Rattle.zk_directory_state.specs.Files.{exact_text}
use Rattle.zk_directory_state.specs.Names.{snapshot_name}
use Rattle.zk_directory_state.specs.FaultLines.{passed_word}
use Rattle.zk_format.specs.Spelling.{id_digits}
use Rattle.zk_log.specs.declared.loaded.Ending.{Ending}
use Rattle.zk_log_commands.specs.Showing.{end_line}
use Rattle.zk_listing.specs.Reports.{line, tree_report}

unfoldable pub origin_line : Option Origin → List ℕ
origin_line None = codes "base none\n"
origin_line (Some origin) = codes "base " ++ snapshot_name origin.zxid ++ codes " " ++ exact_text origin.exact

unfoldable pub passed_line : Broken → List ℕ
passed_line broken = codes "passed " ++ snapshot_name broken.zxid ++ codes " " ++ passed_word broken.fault ++ codes "\n"

-- how many digests of records are those of the trees after them
unfoldable pub equal_line : ℕ → List ℕ
equal_line equal = if nat_eq equal 0 then [] else codes "digest " ++ decimal equal ++ codes "\n"

-- how many are not, and the zxid of the first of these
unfoldable pub other_line : ℕ → Option ℤ → List ℕ
other_line other None = []
other_line other (Some first) = codes "otherDigest " ++ decimal other ++ codes " " ++ id_digits first ++ codes "\n"

abbrev pub digest_lines : DigestCount → List ℕ
digest_lines count = equal_line count.equal ++ other_line count.other count.first

-- none if no log was read, or if the last one is broken after all that was asked for
abbrev pub ending_line : Option Ending → List ℕ
ending_line None = codes "end none\n"
ending_line (Some ending) = line (end_line ending)

unfoldable pub report_of : Shown → List ℕ
report_of shown = tree_report shown.restored.table.state ++ origin_line shown.origin ++ flat_map passed_line shown.broken.items ++ digest_lines shown.restored.digests ++ ending_line shown.restored.ending
