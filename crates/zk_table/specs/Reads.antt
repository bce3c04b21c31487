-- Replies to reads: ZooKeeper Programmer's Guide, "Data Access" and "ACL Permissions". A read
-- changes nothing.
use Rattle.std.specs.Prelude.{ℕ, List, Option, Some, None, map}
use Rattle.std.specs.FinMap.{get}
use Rattle.zk_acl.specs.declared.acl.Id.{Id}
use Rattle.zk_acl.specs.declared.stat.Stat.{Stat}
use Rattle.zk_path.specs.Paths.{name_of}
use Rattle.zk_table.specs.declared.node.Node.{Node}
use Rattle.zk_table.specs.declared.read.ReadCall.{ReadCall}
use Rattle.zk_table.specs.declared.read.ReadCall.TheVariants.{GetData, Exists, GetChildren, GetAcl}
use Rattle.zk_table.specs.declared.read.ReadReply.{ReadReply}
use Rattle.zk_table.specs.declared.read.ReadReply.TheVariants.{Content, Found, Children, AclIs, Refused}
use Rattle.zk_table.specs.Codes.{no_node}
use Rattle.zk_table.specs.Replies.{path_read, if_readable}
use Rattle.zk_table.specs.States.{NodeMap, State, children_of, stat_of}

-- the last names of a path's children, in order
abbrev pub names_below : NodeMap → List ℕ → List (List ℕ)
names_below nodes path = map name_of (children_of nodes path)

-- The reply for a node with this stat. That every caller may read its access control list is this
-- project's own rule.
abbrev pub told_of : NodeMap → List Id → Node → Stat → ReadCall → ReadReply
told_of nodes auths node stat (GetData path) = if_readable node auths (Content node.content stat)
told_of nodes auths node stat (Exists path) = Found stat
told_of nodes auths node stat (GetChildren path) = if_readable node auths (Children (names_below nodes path) stat)
told_of nodes auths node stat (GetAcl path) = AclIs node.acl stat

abbrev pub reply_found : NodeMap → ReadCall → List Id → Option Node → ReadReply
reply_found nodes call auths None = Refused no_node
reply_found nodes call auths (Some node) = told_of nodes auths node (stat_of nodes (path_read call) node) call

abbrev pub reply_from : NodeMap → ReadCall → List Id → ReadReply
reply_from nodes call auths = reply_found nodes call auths (get nodes (path_read call))

-- the reply in this state
abbrev pub reply_to : State → ReadCall → List Id → ReadReply
reply_to state call auths = reply_from state.nodes call auths
