-- Which reads set which watches: ZooKeeper Programmer's Guide, "ZooKeeper Watches", "Semantics of
-- Watches".
use Rattle.std.specs.Prelude.{◌≡◌, ℕ, Bool, true, false, ◌&&◌, ◌||◌, ◌==◌, List, Option, Some, None}
use Rattle.std.specs.FinMap.{get}
use Rattle.std.specs.Int.{w64, cast_unsigned}
use Rattle.zk_acl.specs.declared.acl.Id.{Id}
use Rattle.zk_acl.specs.Access.{allows, read_perm}
use Rattle.zk_headline_laws.specs.Traces.{set_by}
use Rattle.zk_machine.specs.declared.change.Change.{Change}
use Rattle.zk_machine.specs.declared.change.ChangeKind.{ChangeKind}
use Rattle.zk_machine.specs.declared.change.ChangeKind.TheVariants.{Created, Deleted, DataChanged, ChildrenChanged}
use Rattle.zk_requests.specs.Requests.{is_open}
use Rattle.zk_model.specs.declared.event.Question.{Question}
use Rattle.zk_model.specs.Ensembles.{reply_of}
use Rattle.zk_table.specs.States.{State}
use Rattle.zk_table.specs.declared.node.Node.{Node}
use Rattle.zk_table.specs.declared.read.ReadCall.{ReadCall}
use Rattle.zk_table.specs.declared.read.ReadCall.TheVariants.{GetData, Exists, GetChildren, GetAcl}
use Rattle.zk_table.specs.declared.read.ReadReply.{ReadReply}
use Rattle.zk_table.specs.Replies.{path_read}
use Rattle.zk_watch.specs.declared.watch.Watch.{Watch}
use Rattle.zk_watch.specs.Watching.{told_by}
use Rattle.zk_watch.specs.WatchLaws.{is_told}

-- "Created event: Enabled with a call to exists. Deleted event: Enabled with a call to exists,
-- getData, and getChildren. Changed event: Enabled with a call to exists and getData. Child event:
-- Enabled with a call to getChildren."
abbrev pub enables : ReadCall → ChangeKind → Bool
enables (Exists path) Created = true
enables (Exists path) Deleted = true
enables (Exists path) DataChanged = true
enables (Exists path) ChildrenChanged = false
enables (GetData path) Created = false
enables (GetData path) Deleted = true
enables (GetData path) DataChanged = true
enables (GetData path) ChildrenChanged = false
enables (GetChildren path) Created = false
enables (GetChildren path) Deleted = true
enables (GetChildren path) DataChanged = false
enables (GetChildren path) ChildrenChanged = true
enables (GetAcl path) kind = false

-- Content and children are returned if the node exists and the caller may read it. Anyone may ask
-- whether a node exists.
abbrev pub succeeds : ReadCall → List Id → Option Node → Bool
succeeds (Exists path) auths found = true
succeeds (GetData path) auths None = false
succeeds (GetData path) auths (Some node) = allows node.acl read_perm auths
succeeds (GetChildren path) auths None = false
succeeds (GetChildren path) auths (Some node) = allows node.acl read_perm auths
succeeds (GetAcl path) auths None = false
succeeds (GetAcl path) auths (Some node) = true

-- the node that a call reads
abbrev pub node_read : State → ReadCall → Option Node
node_read tree call = get tree.nodes (path_read call)

-- the changes that may come next at a path: a missing node is created, an existing one is deleted
-- or changed
abbrev pub may_happen : Option Node → ChangeKind → Bool
may_happen None Created = true
may_happen None kind = false
may_happen (Some node) Created = false
may_happen (Some node) kind = true

abbrev pub change_at : List ℕ → ChangeKind → Change
change_at path kind = record { path = path; kind = kind }

-- an event of the session at the path
abbrev pub hears_of : Question → ChangeKind → List Watch → Bool
hears_of question kind watches = is_told (cast_unsigned w64 question.session) (told_by (change_at (path_read question.call) kind) watches)

-- After a read with a watch, the next change at its path fires an event for the session in two
-- cases: the call enables that event and succeeds in an open session, or the event fires without
-- the read too.
abbrev pub ReadsEnableEvents : Type 0
ReadsEnableEvents =
    (question : Question) (tree : State) (kind : ChangeKind) (watches : List Watch)
    → question.watch ≡ true
    → may_happen (node_read tree question.call) kind ≡ true
    → hears_of question kind (set_by question (reply_of question tree) watches)
    ≡ ((is_open tree question.session && (succeeds question.call question.auths (node_read tree question.call) && enables question.call kind))
    || hears_of question kind watches)

-- other sessions get the same events as without the read
abbrev pub OtherSessionsStay : Type 0
OtherSessionsStay =
    (question : Question) (reply : ReadReply) (other : ℕ) (change : Change) (watches : List Watch)
    → (cast_unsigned w64 question.session == other) ≡ false
    → is_told other (told_by change (set_by question reply watches)) ≡ is_told other (told_by change watches)

-- and a read that asks for no watch sets none
abbrev pub UnwatchedReadsStay : Type 0
UnwatchedReadsStay =
    (question : Question) (reply : ReadReply) (watches : List Watch) → question.watch ≡ false → set_by question reply watches ≡ watches
