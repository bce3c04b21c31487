-- A client's reply from a published list.
use Rattle.std.specs.Prelude.{◌≡◌, ℤ, ◌<ℤ◌, ◌≤ℤ◌, List}
use Rattle.zk_acl.specs.declared.acl.Id.{Id}
use Rattle.zk_table.specs.declared.read.ReadCall.{ReadCall}
use Rattle.zk_table.specs.declared.txn.Txn.{Txn}
use Rattle.zk_table.specs.Histories.{tree_of}
use Rattle.zk_table.specs.Reads.{reply_to}
use Rattle.zk_views.specs.declared.fault.ViewFault.{ViewFault}
use Rattle.zk_views.specs.declared.fault.ViewFault.TheVariants.{Behind, NoMemory, Gone}
use Rattle.zk_views.specs.declared.seen.Seen.{Seen}

-- A read of a list: the reply of the list's tree, and its last zxid. The client's
-- pass had seen no later transaction, and then has seen that one.
pub record IsAnswered (txns : List Txn) (call : ReadCall) (auths : List Id) (before after : ℤ) (told : Seen) : Type 0 where
  pub reply : told.reply ≡ reply_to (tree_of txns) call auths
  pub zxid : told.zxid ≡ (tree_of txns).last
  pub not_back : before ≤ℤ told.zxid
  pub passed : after ≡ told.zxid

-- A read of a list fails for a client whose pass has seen a transaction; or there is no list to
-- read.
abbrev pub IsRefused : Type 0 → List Txn → ℤ → ViewFault → Type 0
IsRefused nothing txns passed (Behind seen zxid) = (seen ≡ passed) × (zxid ≡ (tree_of txns).last) × (zxid <ℤ seen)
IsRefused nothing txns passed NoMemory = passed ≤ℤ (tree_of txns).last
IsRefused nothing txns passed Gone = nothing
