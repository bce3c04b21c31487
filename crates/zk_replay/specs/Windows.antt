-- Where the window of a snapshot ends that does not state it: nodes that were seen later than a
-- transaction may show it. A server logs what succeeded, so a transaction that finds its work done
-- was applied before these nodes were seen.
use Rattle.std.specs.Prelude.{ℕ, ℤ, Bool, true, false, ◌||◌, not, int_le, List, [], ◌∷◌, Option, Some, None, if◌then◌else◌}
use Rattle.std.specs.FinMap.{contains_key, get}
use Rattle.std.specs.List.{list_any}
use Rattle.zk_path.specs.Paths.{parent_of}
use Rattle.zk_table.specs.declared.sub.Sub.{Sub}
use Rattle.zk_table.specs.declared.sub.Sub.TheVariants as subs
use Rattle.zk_table.specs.declared.txn.Op.{Op}
use Rattle.zk_table.specs.declared.txn.Op.TheVariants as ops
use Rattle.zk_table.specs.declared.txn.Txn.{Txn}
use Rattle.zk_table.specs.Parts.{is_error}
use Rattle.zk_newer_records.specs.NewerRecords.{listed_of}
use Rattle.zk_newer_records.specs.declared.newer_record.NewerRecord.{NewerRecord}
use Rattle.zk_replay.specs.Drafts.{DraftMap}
use Rattle.zk_replay.specs.declared.draft_node.DraftNode.{DraftNode}
use Rattle.zk_replay.specs.Rules.{apply_part}

-- ---- one operation

abbrev pub is_missing : DraftMap → List ℕ → Bool
is_missing drafts path = not (contains_key drafts path)

abbrev pub lacks_parent : DraftMap → Option (List ℕ) → Bool
lacks_parent drafts None = false
lacks_parent drafts (Some above) = is_missing drafts above

-- a create finds the node, or its parent deleted
abbrev pub create_is_done : DraftMap → List ℕ → Bool
create_is_done drafts path = contains_key drafts path || lacks_parent drafts (parent_of path)

abbrev pub has_version : Option DraftNode → ℤ → Bool
has_version None version = true
has_version (Some draft) version = int_le version draft.node.version

abbrev pub has_aversion : Option DraftNode → ℤ → Bool
has_aversion None version = true
has_aversion (Some draft) version = int_le version draft.node.aversion

-- a setData or setACL finds the version that it sets or a later one, or the node deleted
abbrev pub data_is_set : DraftMap → List ℕ → ℤ → Bool
data_is_set drafts path version = has_version (get drafts path) version

abbrev pub acl_is_set : DraftMap → List ℕ → ℤ → Bool
acl_is_set drafts path version = has_aversion (get drafts path) version

-- ---- parts of a multi

abbrev pub part_is_done : DraftMap → Sub → Bool
part_is_done drafts (subs.Create path content acl ephemeral count) = create_is_done drafts path
part_is_done drafts (subs.Delete path) = is_missing drafts path
part_is_done drafts (subs.SetData path content version) = data_is_set drafts path version
part_is_done drafts (subs.Check path version) = false
part_is_done drafts (subs.Error code) = false

-- one of the parts, after those before it
unfoldable pub some_part_is_done : Txn → DraftMap → List Sub → Bool
some_part_is_done txn drafts [] = false
some_part_is_done txn drafts (part ∷ parts) = part_is_done drafts part || some_part_is_done txn (apply_part txn drafts part) parts

-- ---- transactions

-- of a transaction that is no multi
abbrev pub one_is_done : DraftMap → List (List ℕ) → Op → Bool
one_is_done drafts listed (ops.Create path content acl ephemeral count) = create_is_done drafts path
one_is_done drafts listed (ops.CreateOld path content acl ephemeral) = create_is_done drafts path
one_is_done drafts listed (ops.Delete path) = is_missing drafts path
one_is_done drafts listed (ops.SetData path content version) = data_is_set drafts path version
one_is_done drafts listed (ops.SetAcl path acl version) = acl_is_set drafts path version
one_is_done drafts listed (ops.OpenSession timeout) = false
one_is_done drafts listed ops.CloseSession = list_any (is_missing drafts) listed
one_is_done drafts listed (ops.Multi parts) = false
one_is_done drafts listed (ops.Error code) = false

abbrev pub is_done_by : DraftMap → Txn → List (List ℕ) → Op → Bool
is_done_by drafts txn listed (ops.Multi parts) = if list_any is_error parts then false else some_part_is_done txn drafts parts
is_done_by drafts txn listed op = one_is_done drafts listed op

-- a transaction finds its work done
abbrev pub is_done : DraftMap → NewerRecord → Bool
is_done drafts newer = is_done_by drafts newer.txn (listed_of newer) newer.txn.op
