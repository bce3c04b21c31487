-- Records of errors are short.
use Rattle.std.specs.Prelude.{ℕ, ℤ}
use Rattle.std.proofs.Common.{lit≤}
use Rattle.zab_epoch.specs.declared.history.Entry.{Entry}
use Rattle.zab_epoch.specs.Shortness.{IsShort}
use Rattle.zk_records.specs.Records.{record_of}
use Rattle.zk_table.specs.declared.txn.Op.TheVariants as ops

abbrev pub error_of : ℕ → ℤ → ℤ → ℤ → ℤ → ℤ → Entry
error_of tag session cxid zxid time code = record {
  tag = tag;
  txn = record { session = session; cxid = cxid; zxid = zxid; time = time; op = ops.Error code };
}

-- the record of an error has 36 bytes
pub error_is_short : (tag : ℕ) (session cxid zxid time code : ℤ) → IsShort (error_of tag session cxid zxid time code)
unfolding record_of
error_is_short tag session cxid zxid time code = lit≤ tt
