-- The transaction of a call, on a state and at a zxid; an error if the request is rejected.
-- ZooKeeper Programmer's Guide, "ZNodes", "Ephemeral Nodes", "Sequence Nodes" and "ZooKeeper access
-- control using ACLs"; the transactions are those of `zookeeper.jute`, module
-- `org.apache.zookeeper.txn`. The order of tests, and the code of each error, are this project's
-- own.
use Rattle.std.specs.Prelude.{ℕ, ℤ, pos, negsuc, ◌+ℤ◌, Bool, true, false, not, ◌&&◌, ◌||◌, nat_lt, ◌==◌, List, [], ◌∷◌, ◌++◌, length, Option, is_none, Result, Ok, Err, if◌then◌else◌, codes, int_le}
use Rattle.std.specs.List.{list_any}
use Rattle.std.specs.Int.{w32, w64, int_wrap, cast_unsigned}
use Rattle.std.specs.Ordering.{int_eq}
use Rattle.std.specs.Str.{bytes_eq}
use Rattle.std.specs.FinMap.{get, contains_key}
use Rattle.zk_acl.specs.declared.acl.Acl.{Acl}
use Rattle.zk_acl.specs.declared.acl.Id.{Id}
use Rattle.zk_acl.specs.Access.{allows, fix, read_perm, write_perm, create_perm, delete_perm, admin_perm}
use Rattle.zk_records.specs.Records.{record_of}
use Rattle.zk_records.specs.Sizes.{size_of}
use Rattle.zk_path.specs.Paths.{fault_of, has_slash, before_last_slash}
use Rattle.zk_path.specs.Sequences.{sequence}
use Rattle.zk_table.specs.declared.node.Node.{Node}
use Rattle.zk_table.specs.declared.sub.Sub.{Sub}
use Rattle.zk_table.specs.declared.sub.Sub.TheVariants as subs
use Rattle.zk_table.specs.declared.txn.Op.{Op}
use Rattle.zk_table.specs.declared.txn.Op.TheVariants as ops
use Rattle.zk_table.specs.declared.txn.Txn.{Txn}
use Rattle.zk_table.specs.Codes.{runtime_inconsistency, bad_arguments, no_node, no_auth, bad_version, no_children_for_ephemerals, node_exists, not_empty, session_expired, invalid_acl}
use Rattle.zk_table.specs.Parts.{is_error}
use Rattle.zk_table.specs.Multis.{apply_part}
use Rattle.zk_table.specs.States.{NodeMap, State, children_of}
use Rattle.zk_requests.specs.declared.call.Call.{Call}
use Rattle.zk_requests.specs.declared.call.Part.{Part}
use Rattle.zk_requests.specs.declared.call.Part.TheVariants as asked
use Rattle.zk_requests.specs.declared.call.Request.{Request}
use Rattle.zk_requests.specs.declared.call.Request.TheVariants.{Create, Delete, SetData, SetAcl, Multi, OpenSession, CloseSession}
use Rattle.zk_requests.specs.Timeouts.{clamp}
use Rattle.zk_requests.specs.Refusals.{◌>>=◌, demand, or_refused}

-- ---- paths

-- a text that is a path
abbrev pub path_in : List ℕ → Result (List ℕ) ℤ
path_in text = if is_none (fault_of text) then Ok text else Err bad_arguments

-- the text before the last slash; `/` if it is empty
abbrev pub text_above : List ℕ → List ℕ
text_above text = if length (before_last_slash text) == 0 then codes "/" else before_last_slash text

-- a text that can have a parent: it has a slash, and no NUL
abbrev pub is_legible : List ℕ → Bool
is_legible text = has_slash text && not (list_any (λ b. b == 0) text)

-- a node that exists before any transaction
abbrev pub is_first_path : List ℕ → Bool
is_first_path path = bytes_eq path (codes "/") || bytes_eq path (codes "/zookeeper") || bytes_eq path (codes "/zookeeper/quota")

abbrev pub node_at : NodeMap → List ℕ → Result Node ℤ
node_at nodes path = or_refused no_node (get nodes path)

-- ---- flags, versions and counts

-- 0 plain, 1 ephemeral, 2 sequential, 3 both
abbrev pub are_flags : ℤ → Bool
are_flags flags = int_le (pos 0) flags && int_le flags (pos 3)

abbrev pub is_ephemeral : ℤ → Bool
is_ephemeral flags = int_eq flags (pos 1) || int_eq flags (pos 3)

abbrev pub is_sequential : ℤ → Bool
is_sequential flags = int_eq flags (pos 2) || int_eq flags (pos 3)

-- -1 matches any version
abbrev pub matches : ℤ → ℤ → Bool
matches wanted version = int_eq wanted (negsuc 0) || int_eq wanted version

-- in 32 bits, wrapping
abbrev pub one_more : ℤ → ℤ
one_more number = int_wrap w32 (number +ℤ pos 1)

-- ---- create

-- a sequential node's text ends with the number of its parent's creates
abbrev pub numbered : List ℕ → ℤ → ℤ → List ℕ
numbered text flags creates = if is_sequential flags then text ++ sequence creates else text

-- a node without owner, which may have children
abbrev pub is_persistent : Node → Bool
is_persistent node = int_eq node.owner (pos 0)

-- the path at which the node may be created, below this parent
abbrev pub place_below : NodeMap → List Id → List ℕ → ℤ → Node → Result (List ℕ) ℤ
place_below nodes auths text flags parent = do
  allowed ← demand (allows parent.acl create_perm auths) no_auth
  known ← demand (are_flags flags) bad_arguments
  path ← path_in (numbered text flags parent.creates)
  free ← demand (not (contains_key nodes path)) node_exists
  lasting ← demand (is_persistent parent) no_children_for_ephemerals
  Ok path

abbrev pub create_below : NodeMap → List Id → List ℕ → Option (List ℕ) → List Acl → ℤ → Node → Result Sub ℤ
create_below nodes auths text content acl flags parent = do
  path ← place_below nodes auths text flags parent
  Ok (subs.Create path content acl (is_ephemeral flags) (one_more parent.creates))

abbrev pub create : NodeMap → List Id → List ℕ → Option (List ℕ) → List Acl → ℤ → Result Sub ℤ
create nodes auths text content acl flags = do
  legible ← demand (is_legible text) bad_arguments
  kept ← or_refused invalid_acl (fix acl auths)
  parent ← node_at nodes (text_above text)
  create_below nodes auths text content kept flags parent

-- ---- delete

-- the node may be deleted; its parent's list decides
abbrev pub may_go : NodeMap → List Id → List ℕ → ℤ → Result (Unit {0}) ℤ
may_go nodes auths path version = do
  node ← node_at nodes path
  parent ← node_at nodes (text_above path)
  allowed ← demand (allows parent.acl delete_perm auths) no_auth
  current ← demand (matches version node.version) bad_version
  demand (length (children_of nodes path) == 0) not_empty

abbrev pub delete : NodeMap → List Id → List ℕ → ℤ → Result Sub ℤ
delete nodes auths text version = do
  path ← path_in text
  later ← demand (not (is_first_path path)) bad_arguments
  goes ← may_go nodes auths path version
  Ok (subs.Delete path)

-- ---- set, and check

-- the next version, if the caller has the permission and knows the present one
abbrev pub next_version : NodeMap → List Id → List ℕ → ℤ → ℕ → Result ℤ ℤ
next_version nodes auths path version perm = do
  node ← node_at nodes path
  allowed ← demand (allows node.acl perm auths) no_auth
  current ← demand (matches version node.version) bad_version
  Ok (one_more node.version)

abbrev pub set_data : NodeMap → List Id → List ℕ → Option (List ℕ) → ℤ → Result Sub ℤ
set_data nodes auths text content version = do
  path ← path_in text
  next ← next_version nodes auths path version write_perm
  Ok (subs.SetData path content next)

abbrev pub check : NodeMap → List Id → List ℕ → ℤ → Result Sub ℤ
check nodes auths text version = do
  path ← path_in text
  next ← next_version nodes auths path version read_perm
  Ok (subs.Check path next)

-- the next version of the access control list
abbrev pub next_aversion : NodeMap → List Id → List ℕ → ℤ → Result ℤ ℤ
next_aversion nodes auths path version = do
  node ← node_at nodes path
  allowed ← demand (allows node.acl admin_perm auths) no_auth
  current ← demand (matches version node.aversion) bad_version
  Ok (one_more node.aversion)

abbrev pub set_acl : NodeMap → List Id → List ℕ → List Acl → ℤ → Result Op ℤ
set_acl nodes auths text acl version = do
  path ← path_in text
  kept ← or_refused invalid_acl (fix acl auths)
  next ← next_aversion nodes auths path version
  Ok (ops.SetAcl path kept next)

-- ---- multi: each part on the nodes after those before it

abbrev pub part_on : NodeMap → List Id → Part → Result Sub ℤ
part_on nodes auths (asked.Create path content acl flags) = create nodes auths path content acl flags
part_on nodes auths (asked.Delete path version) = delete nodes auths path version
part_on nodes auths (asked.SetData path content version) = set_data nodes auths path content version
part_on nodes auths (asked.Check path version) = check nodes auths path version

abbrev pub part_or_error : Result Sub ℤ → Sub
part_or_error (Ok part) = part
part_or_error (Err code) = subs.Error code

-- after a rejected part no further one is tested
abbrev pub next_part : NodeMap → List Id → Bool → Part → Sub
next_part nodes auths refused part = if refused then subs.Error runtime_inconsistency else part_or_error (part_on nodes auths part)

-- the header has a created node's zxid, time and owner
abbrev pub parts_after : Txn → List Id → NodeMap → Bool → List Part → List Sub
parts_after header auths nodes refused [] = []
parts_after header auths nodes refused (part ∷ parts) =
    let made = next_part nodes auths refused part in made ∷ parts_after header auths (apply_part header nodes made).nodes (is_error made) parts

abbrev pub parts_on : Txn → List Id → NodeMap → List Part → List Sub
parts_on header auths nodes parts = parts_after header auths nodes false parts

-- ---- the transaction

-- a part as an operation of its own; no request is only a check
abbrev pub op_of : Sub → Op
op_of (subs.Create path content acl ephemeral count) = ops.Create path content acl ephemeral count
op_of (subs.Delete path) = ops.Delete path
op_of (subs.SetData path content version) = ops.SetData path content version
op_of (subs.Check path version) = ops.Error bad_arguments
op_of (subs.Error code) = ops.Error code

abbrev pub alone : Result Sub ℤ → Result Op ℤ
alone made = made >>= λ part. Ok (op_of part)

abbrev pub op_on : State → Txn → List Id → Request → Result Op ℤ
op_on state header auths (Create path content acl flags) = alone (create state.nodes auths path content acl flags)
op_on state header auths (Delete path version) = alone (delete state.nodes auths path version)
op_on state header auths (SetData path content version) = alone (set_data state.nodes auths path content version)
op_on state header auths (SetAcl path acl version) = set_acl state.nodes auths path acl version
op_on state header auths (Multi parts) = Ok (ops.Multi (parts_on header auths state.nodes parts))
op_on state header auths (OpenSession timeout) = Ok (ops.OpenSession (clamp timeout))
op_on state header auths CloseSession = Ok ops.CloseSession

-- a session is opened without one, and has the zxid as its number
abbrev pub opens : Request → Bool
opens (Create path content acl flags) = false
opens (Delete path version) = false
opens (SetData path content version) = false
opens (SetAcl path acl version) = false
opens (Multi parts) = false
opens (OpenSession timeout) = true
opens CloseSession = false

abbrev pub is_open : State → ℤ → Bool
is_open state session = contains_key state.sessions (cast_unsigned w64 session)

-- the header, with an operation still to be filled in
abbrev pub header_of : Call → ℤ → Txn
header_of call zxid = record { session = (if opens call.request then zxid else call.session); cxid = call.cxid; zxid = zxid; time = call.now; op = ops.CloseSession }

abbrev pub asked_on : State → Call → ℤ → Result Op ℤ
asked_on state call zxid = do
  lives ← demand (opens call.request || is_open state call.session) session_expired
  op_on state (header_of call zxid) call.auths call.request

abbrev pub op_or_error : Result Op ℤ → Op
op_or_error (Ok op) = op
op_or_error (Err code) = ops.Error code

-- a record is at most 1,048,576 bytes long
abbrev pub within_limit : Txn → Txn
within_limit txn = if nat_lt 1048576 (size_of (record_of txn)) then record txn { op = ops.Error bad_arguments } else txn

abbrev pub meaning_of : State → Call → ℤ → Txn
meaning_of state call zxid = within_limit (record (header_of call zxid) { op = op_or_error (asked_on state call zxid) })

-- ---- the call that closes an expired session

abbrev pub closing_call : ℕ → ℤ → ℤ → Call
closing_call tag session now = record { tag = tag; session = session; cxid = pos 0; auths = []; now = now; request = CloseSession }
