-- The sessions that own ephemeral nodes, by path, as far as the records show; and the nodes that a
-- record creates, changes or deletes.
use Rattle.std.specs.Prelude.{ℕ, ℤ, Bool, not, List, [], ◌∷◌, filter, map, if◌then◌else◌}
use Rattle.std.specs.BTreeMap.{insert_entry, is_at}
use Rattle.std.specs.List.{list_any}
use Rattle.std.specs.Map.{remove_entry}
use Rattle.std.specs.Ordering.{int_eq}
use Rattle.zk_newer_records.specs.declared.newer_record.Encoding.{Encoding}
use Rattle.zk_newer_records.specs.declared.newer_record.Encoding.TheVariants as forms
use Rattle.zk_newer_records.specs.declared.newer_record.NewerRecord.{NewerRecord}
use Rattle.zk_table.specs.States.{path_cmp}
use Rattle.zk_table.specs.Parts.{is_error}
use Rattle.zk_table.specs.declared.sub.Sub.{Sub}
use Rattle.zk_table.specs.declared.sub.Sub.TheVariants as subs
use Rattle.zk_table.specs.declared.txn.Op.{Op}
use Rattle.zk_table.specs.declared.txn.Op.TheVariants as ops
use Rattle.zk_incidents.specs.Writes.{written}

-- paths in order, each with the session that owns its node
abbrev pub Owned : Type 0
Owned = List (List ℕ × ℤ)

abbrev pub with_owner : Owned → List ℕ → ℤ → Owned
with_owner owned path session = insert_entry path_cmp owned path session

abbrev pub without_owner : Owned → List ℕ → Owned
without_owner owned path = remove_entry (is_at (path_cmp path)) owned

abbrev pub without_owners : Owned → List (List ℕ) → Owned
without_owners owned [] = owned
without_owners owned (path ∷ paths) = without_owners (without_owner owned path) paths

abbrev pub is_of : ℤ → List ℕ × ℤ → Bool
is_of session entry = int_eq entry.1 session

-- the nodes that a session is known to own
abbrev pub owned_by : Owned → ℤ → List (List ℕ)
owned_by owned session = map (λ entry. entry.0) (filter (is_of session) owned)

-- ---- the end of a session

-- the paths that the record lists, as those of 3.6 and later do, or else the session's
abbrev pub closed_by : Owned → ℤ → Encoding → List (List ℕ)
closed_by owned session (forms.ClosePaths listed) = listed
closed_by owned session form = owned_by owned session

abbrev pub closed : Owned → NewerRecord → List (List ℕ)
closed owned newer = closed_by owned newer.txn.session newer.form

-- ---- a record

-- a created node is ephemeral, or has no owner
abbrev pub created : Owned → List ℕ → Bool → ℤ → Owned
created owned path ephemeral session = if ephemeral then with_owner owned path session else without_owner owned path

abbrev pub after_part : ℤ → Owned → Sub → Owned
after_part session owned (subs.Create path content acl ephemeral count) = created owned path ephemeral session
after_part session owned (subs.Delete path) = without_owner owned path
after_part session owned (subs.SetData path content version) = owned
after_part session owned (subs.Check path version) = owned
after_part session owned (subs.Error code) = owned

abbrev pub after_parts : ℤ → Owned → List Sub → Owned
after_parts session owned [] = owned
after_parts session owned (part ∷ parts) = after_parts session (after_part session owned part) parts

abbrev pub after_op : NewerRecord → Owned → Op → Owned
after_op newer owned (ops.Create path content acl ephemeral count) = created owned path ephemeral newer.txn.session
after_op newer owned (ops.CreateOld path content acl ephemeral) = created owned path ephemeral newer.txn.session
after_op newer owned (ops.Delete path) = without_owner owned path
after_op newer owned (ops.SetData path content version) = owned
after_op newer owned (ops.SetAcl path acl version) = owned
after_op newer owned (ops.OpenSession timeout) = owned
after_op newer owned ops.CloseSession = without_owners owned (closed owned newer)
after_op newer owned (ops.Multi parts) = if list_any is_error parts then owned else after_parts newer.txn.session owned parts
after_op newer owned (ops.Error code) = owned

abbrev pub owned_after : Owned → NewerRecord → Owned
owned_after owned newer = after_op newer owned newer.txn.op

-- the nodes that an operation creates, changes or deletes
abbrev pub touched_by : Owned → NewerRecord → Op → List (List ℕ)
touched_by owned newer ops.CloseSession = closed owned newer
touched_by owned newer op = written op

abbrev pub touched : Owned → NewerRecord → List (List ℕ)
touched owned newer = touched_by owned newer newer.txn.op
