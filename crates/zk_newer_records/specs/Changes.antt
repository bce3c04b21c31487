-- What the conversion of a record changes, and the nodes whose owner differs on a 3.5 to 3.8
-- server.
use Rattle.std.specs.Prelude.{ℕ, ℤ, pos, negsuc, ◌+◌, ◌%◌, List, [], ◌∷◌, Bool, true, false, Option, Some, None, count_by, if◌then◌else◌}
use Rattle.std.specs.Int.{w64, cast_signed, cast_unsigned}
use Rattle.std.specs.List.{list_all, flat_map}
use Rattle.zk_newer_records.specs.declared.changes.Change.{Change}
use Rattle.zk_newer_records.specs.declared.changes.Change.TheVariants as changes
use Rattle.zk_newer_records.specs.declared.newer_record.NewerRecord.{NewerRecord}
use Rattle.zk_newer_records.specs.declared.newer_record.Encoding.{Encoding}
use Rattle.zk_newer_records.specs.declared.newer_record.Encoding.TheVariants as forms
use Rattle.zk_newer_records.specs.declared.parts.NewerPart.{NewerPart}
use Rattle.zk_newer_records.specs.declared.parts.PartEncoding.{PartEncoding}
use Rattle.zk_newer_records.specs.declared.parts.PartEncoding.TheVariants as parts
use Rattle.zk_table.specs.declared.txn.Op.{Op}
use Rattle.zk_table.specs.declared.txn.Op.TheVariants as ops
use Rattle.zk_table.specs.declared.sub.Sub.{Sub}
use Rattle.zk_table.specs.declared.sub.Sub.TheVariants as subs
use Rattle.zk_newer_records.specs.NewerRecords.{paired}

-- ---- kinds of change

-- what the encoding of a part changes
abbrev pub is_part_change : Change → PartEncoding → Bool
is_part_change changes.CreateContainer parts.Container = true
is_part_change changes.CreateTtl (parts.Ttl ttl) = true
is_part_change changes.DeleteContainer parts.DeletedContainer = true
is_part_change changes.KeptBody parts.Kept = true
is_part_change changes.KeptBody parts.KeptContainer = true
is_part_change changes.KeptBody (parts.KeptTtl ttl) = true
is_part_change change form = false

abbrev pub is_change : Change → Encoding → Bool
is_change changes.Create2 forms.Create2 = true
is_change changes.CreateContainer forms.Container = true
is_change changes.CreateTtl (forms.Ttl ttl) = true
is_change changes.DeleteContainer forms.DeletedContainer = true
is_change changes.Reconfig forms.Reconfig = true
is_change changes.Check forms.CheckAlone = true
is_change changes.ClosePaths (forms.ClosePaths listed) = true
is_change change form = false

abbrev pub once : Bool → ℕ
once is = if is then 1 else 0

-- how often an encoding has a change: each part of a multi counts
abbrev pub count_in : Change → Encoding → ℕ
count_in change (forms.Parts written) = count_by (is_part_change change) written
count_in change form = once (is_change change form)

abbrev pub has_digest : Option ℤ → Bool
has_digest (Some sum) = true
has_digest None = false

abbrev pub count_of : Change → NewerRecord → ℕ
count_of changes.Digest newer = once (has_digest newer.digest)
count_of change newer = count_in change newer.form

abbrev pub is_own_part : PartEncoding → Bool
is_own_part parts.Own = true
is_own_part form = false

abbrev pub is_own_form : Encoding → Bool
is_own_form forms.Own = true
is_own_form (forms.Parts written) = list_all is_own_part written
is_own_form form = false

-- nothing changes: the record is one of 3.4
abbrev pub is_unchanged : NewerRecord → Bool
is_unchanged newer = if has_digest newer.digest then false else is_own_form newer.form

-- ---- owners

-- the owner of a container, on a 3.5 to 3.8 server
abbrev pub container_owner : ℤ
container_owner = negsuc 9223372036854775807

-- of a node with a time to live: 0xff above the milliseconds, which have 40 bits
abbrev pub ttl_owner : ℤ → ℤ
ttl_owner ttl = cast_signed w64 ((cast_unsigned w64 ttl + 18374686479671623680) % 18446744073709551616)

-- 0 for a plain node, whose owner is the table's
abbrev pub owner_in_part : PartEncoding → ℤ
owner_in_part parts.Container = container_owner
owner_in_part (parts.Ttl ttl) = ttl_owner ttl
owner_in_part form = pos 0

abbrev pub owners_in_part : Sub → PartEncoding → List (List ℕ × ℤ)
owners_in_part (subs.Create path content acl ephemeral count) form = (path, owner_in_part form) ∷ []
owners_in_part sub form = []

-- each create of a multi in order
abbrev pub owners_in_parts : List NewerPart → List (List ℕ × ℤ)
owners_in_parts parts = flat_map (λ part. owners_in_part part.sub part.form) parts

abbrev pub owners_in_multi : Op → List PartEncoding → List (List ℕ × ℤ)
owners_in_multi (ops.Multi subs) written = owners_in_parts (paired subs written)
owners_in_multi op written = []

abbrev pub owner_of_create : ℤ → Op → List (List ℕ × ℤ)
owner_of_create owner (ops.Create path content acl ephemeral count) = (path, owner) ∷ []
owner_of_create owner op = []

abbrev pub owners_in : Op → Encoding → List (List ℕ × ℤ)
owners_in op forms.Container = owner_of_create container_owner op
owners_in op (forms.Ttl ttl) = owner_of_create (ttl_owner ttl) op
owners_in op (forms.Parts written) = owners_in_multi op written
owners_in op form = []

-- the containers and the nodes with a time to live that a record creates, with their owners on a
-- 3.5 to 3.8 server
abbrev pub owners_of : NewerRecord → List (List ℕ × ℤ)
owners_of newer = owners_in newer.txn.op newer.form
