-- The report on a converted log: how often each change occurs, and where it occurs first.
use Rattle.std.specs.Prelude.{ℕ, ℤ, ◌+◌, ◌-◌, ◌^◌, min, Bool, true, false, not, List, [], ◌∷◌, Option, Some, None, nat_eq, if◌then◌else◌}
use Rattle.std.specs.Int.{w64, cast_unsigned}
use Rattle.zk_directory.specs.Continuing.{starts_history}
use Rattle.zk_newer_records.specs.Changes.{count_of, is_unchanged, once}
use Rattle.zk_newer_records.specs.declared.changes.Change.TheVariants as changes
use Rattle.zk_newer_records.specs.declared.newer_record.NewerRecord.{NewerRecord}
use Rattle.zk_table.specs.declared.txn.Txn.{Txn}
use Rattle.zk_mend.specs.declared.conversion_report.ChangeCount.{ChangeCount}
use Rattle.zk_mend.specs.declared.conversion_report.ConversionReport.{ConversionReport}

-- a sum, at most the greatest `u64`
abbrev pub added : ℕ → ℕ → ℕ
added sum more = min (sum + more) (2 ^ 64 - 1)

-- a change occurs n times in the entry at an offset
abbrev pub tally_after : ChangeCount → ℕ → ℕ → ChangeCount
tally_after tally times at =
    if nat_eq times 0 then tally else record { times = added tally.times times; first = if nat_eq tally.times 0 then at else tally.first }

-- no change occurs
abbrev pub no_tally : ChangeCount
no_tally = record { times = 0; first = 0 }

abbrev pub nothing_told : ConversionReport
nothing_told = record {
  records = 0;
  unchanged = 0;
  digest = no_tally;
  other_digest = no_tally;
  create2 = no_tally;
  create_container = no_tally;
  create_ttl = no_tally;
  delete_container = no_tally;
  reconfig = no_tally;
  check = no_tally;
  close_paths = no_tally;
  other_paths = no_tally;
  kept_body = no_tally;
}

-- n records are unchanged, and there are no others
abbrev pub unchanged_told : ℕ → ConversionReport
unchanged_told count = record nothing_told { records = count; unchanged = count }

-- ---- digests

-- whether the server's digest equals this sum, or differs
abbrev pub claims : Option ℤ → ℕ → Bool
claims None sum = false
claims (Some claim) sum = nat_eq (cast_unsigned w64 claim) sum

abbrev pub claims_other : Option ℤ → ℕ → Bool
claims_other None sum = false
claims_other (Some claim) sum = not (nat_eq (cast_unsigned w64 claim) sum)

-- ---- one record more

-- The report after the record of the entry at an offset. It depends on the digest of the tree after
-- it, and on whether the record lists other paths than the session's.
abbrev pub told_after : ConversionReport → ℕ → NewerRecord → ℕ → Bool → ConversionReport
told_after told at newer sum others = record {
  records = added told.records 1;
  unchanged = added told.unchanged (once (is_unchanged newer));
  digest = tally_after told.digest (once (claims newer.digest sum)) at;
  other_digest = tally_after told.other_digest (once (claims_other newer.digest sum)) at;
  create2 = tally_after told.create2 (count_of changes.Create2 newer) at;
  create_container = tally_after told.create_container (count_of changes.CreateContainer newer) at;
  create_ttl = tally_after told.create_ttl (count_of changes.CreateTtl newer) at;
  delete_container = tally_after told.delete_container (count_of changes.DeleteContainer newer) at;
  reconfig = tally_after told.reconfig (count_of changes.Reconfig newer) at;
  check = tally_after told.check (count_of changes.Check newer) at;
  close_paths = tally_after told.close_paths (count_of changes.ClosePaths newer) at;
  other_paths = tally_after told.other_paths (once others) at;
  kept_body = tally_after told.kept_body (count_of changes.KeptBody newer) at;
}

-- ---- the whole log

-- what rests on the tree before the log is not known: whether digests are its own, and which nodes a
-- session has
abbrev pub without_tree : ConversionReport → ConversionReport
without_tree told = record told { digest = no_tally; other_digest = no_tally; other_paths = no_tally }

abbrev pub told_by : Bool → ConversionReport → ConversionReport
told_by true told = told
told_by false told = without_tree told

-- the report on a log of these transactions, of which the first may come from the middle of a history
abbrev pub told_of : List Txn → ConversionReport → ConversionReport
told_of [] told = told
told_of (txn ∷ txns) told = told_by (starts_history txn.zxid) told
