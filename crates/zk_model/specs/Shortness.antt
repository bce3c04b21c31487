-- The record of an entry that a leader builds is within the bound.
use Rattle.std.specs.Prelude.{◌≡◌, ℕ, ◌≤◌, ℤ, Bool, true, false, cond, nat_lt, List, refl}
use Rattle.std.proofs.Common.{arith}
use Rattle.std.proofs.lemmas.Bool.Decides.{nat_tests}
use Rattle.zab_epoch.specs.declared.history.Entry.{Entry}
use Rattle.zab_epoch.specs.Shortness.{IsShort}
use Rattle.zab_broadcast.specs.Shortness.{error_is_short}
use Rattle.zk_records.specs.Records.{record_of}
use Rattle.zk_records.specs.Sizes.{size_of}
use Rattle.zk_requests.specs.declared.call.Call.{Call}
use Rattle.zk_requests.specs.Requests.{within_limit}
use Rattle.zk_model.specs.Entries.{entry_of}
use Rattle.zk_table.specs.Codes.{bad_arguments}
use Rattle.zk_table.specs.declared.txn.Op.TheVariants as ops
use Rattle.zk_table.specs.declared.txn.Txn.{Txn}

below_limit : (size : ℕ) → nat_lt 1048576 size ≡ false → size ≤ 16777216
below_limit size small = grind (arith, nat_tests)

within : (tag : ℕ) (txn : Txn) → size_of (record_of (within_limit txn)) ≤ 16777216
within tag txn = by (nat_lt 1048576 (size_of (record_of txn))) refl
  where
    by : (b : Bool) → nat_lt 1048576 (size_of (record_of txn)) ≡ b → size_of (record_of (cond b (record txn { op = ops.Error bad_arguments }) txn)) ≤ 16777216
    by true large = error_is_short tag txn.session txn.cxid txn.zxid txn.time bad_arguments
    by false small = below_limit (size_of (record_of txn)) small

pub entry_is_short : (history : List Entry) (call : Call) (zxid : ℤ) → IsShort (entry_of history call zxid)
entry_is_short history call zxid = within call.tag _
