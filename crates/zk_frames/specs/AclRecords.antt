-- The access control list that a client means, where null is an empty text or an empty list:
-- `zookeeper.jute`, `ACL` and `Id`.
use Rattle.std.specs.Prelude.{ℕ, List, [], Option, Some, None, map}
use Rattle.zk_acl.specs.declared.acl.Acl.{Acl}
use Rattle.zk_frames.specs.declared.acl_records.AclRecord.{AclRecord}

abbrev pub text_of : Option (List ℕ) → List ℕ
text_of None = []
text_of (Some text) = text

abbrev pub acl_of : AclRecord → Acl
acl_of r = record { perms = r.perms; id = record { scheme = text_of r.scheme; id = text_of r.id } }

abbrev pub acls_of : Option (List AclRecord) → List Acl
acls_of None = []
acls_of (Some entries) = map acl_of entries
