-- Reads, and the reply to a caller who may not read: ZooKeeper Programmer's Guide, "Data Access"
-- and "ACL Permissions".
use Rattle.std.specs.Prelude.{ℕ, List, if◌then◌else◌}
use Rattle.zk_acl.specs.declared.acl.Id.{Id}
use Rattle.zk_acl.specs.Access.{allows, read_perm}
use Rattle.zk_table.specs.declared.node.Node.{Node}
use Rattle.zk_table.specs.declared.read.ReadCall.{ReadCall}
use Rattle.zk_table.specs.declared.read.ReadCall.TheVariants.{GetData, Exists, GetChildren, GetAcl}
use Rattle.zk_table.specs.declared.read.ReadReply.{ReadReply}
use Rattle.zk_table.specs.declared.read.ReadReply.TheVariants.{Refused}
use Rattle.zk_table.specs.Codes.{no_auth}

-- the path of the node that is read
abbrev pub path_read : ReadCall → List ℕ
path_read (GetData path) = path
path_read (Exists path) = path
path_read (GetChildren path) = path
path_read (GetAcl path) = path

-- without read permission, the reply contains neither content nor children
abbrev pub if_readable : Node → List Id → ReadReply → ReadReply
if_readable node auths reply = if allows node.acl read_perm auths then reply else Refused no_auth
