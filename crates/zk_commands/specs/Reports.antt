-- The report on a converted log: a definition of this project.
use Rattle.std.specs.Prelude.{ℕ, List, [], ◌++◌, nat_eq, if◌then◌else◌, codes}
use Rattle.std.specs.Fmt.{decimal}
use Rattle.zk_log.specs.declared.loaded.Ending.{Ending}
use Rattle.zk_log.specs.declared.loaded.Ending.TheVariants.{Whole, Padding, Torn}
use Rattle.zk_mend.specs.declared.conversion_report.ChangeCount.{ChangeCount}
use Rattle.zk_mend.specs.declared.conversion_report.ConversionReport.{ConversionReport}

-- the number of records, and of unchanged ones
abbrev pub count_lines : ConversionReport → List ℕ
count_lines told = codes "records " ++ decimal told.records ++ codes "\nunchanged " ++ decimal told.unchanged ++ codes "\n"

-- a change that occurs: its word, how often, and the offset of its first entry
abbrev pub tally_line : List ℕ → ChangeCount → List ℕ
tally_line word tally = if nat_eq tally.times 0 then [] else word ++ codes " " ++ decimal tally.times ++ codes " " ++ decimal tally.first ++ codes "\n"

-- digests that equal the digest of the table's tree, and others
abbrev pub digest_lines : ConversionReport → List ℕ
digest_lines told = tally_line (codes "digest") told.digest ++ tally_line (codes "otherDigest") told.other_digest

-- operations that 3.4 does not have
abbrev pub kind_lines : ConversionReport → List ℕ
kind_lines told =
    tally_line (codes "create2") told.create2 ++ tally_line (codes "createContainer") told.create_container ++ tally_line (codes "createTtl") told.create_ttl ++ tally_line (codes "deleteContainer") told.delete_container
    ++ tally_line (codes "reconfig") told.reconfig

abbrev pub other_lines : ConversionReport → List ℕ
other_lines told = tally_line (codes "check") told.check ++ tally_line (codes "closePaths") told.close_paths ++ tally_line (codes "otherPaths") told.other_paths ++ tally_line (codes "keptBody") told.kept_body

-- how the log ends
abbrev pub end_lines : Ending → List ℕ
end_lines Whole = codes "end whole\n"
end_lines Padding = codes "end padding\n"
end_lines (Torn at) = codes "end torn " ++ decimal at ++ codes "\n"

unfoldable pub mend_report : ConversionReport → Ending → List ℕ
mend_report told ending = count_lines told ++ digest_lines told ++ kind_lines told ++ other_lines told ++ end_lines ending
