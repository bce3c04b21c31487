-- What holds of every connection. ZooKeeper Programmer's Guide, "ZooKeeper Sessions" and "ZooKeeper
-- Stat Structure".
use Rattle.std.specs.Prelude.{◌≡◌, ℕ, ℤ, pos, List, ◌++◌, Option}
use Rattle.std.specs.Int.{w32, int_wrap}
use Rattle.zk_acl.specs.declared.acl.Acl.{Acl}
use Rattle.zk_acl.specs.declared.acl.Id.{Id}
use Rattle.zk_frames.specs.Requests.{IsRequestOf}
use Rattle.zk_frames.specs.declared.request.ClientRequest.{ClientRequest}
use Rattle.zk_frames.specs.declared.request.RequestBody.TheVariants as bodies
use Rattle.zk_client_session.specs.Links.{action_by, action_of, owner_by}
use Rattle.zk_client_session.specs.Replies.{new_stat, reply_to}
use Rattle.zk_client_session.specs.declared.ask.Action.TheVariants as actions
use Rattle.zk_client_session.specs.declared.ask.Immediate.TheVariants as immediates
use Rattle.zk_client_session.specs.declared.expected_reply.ExpectedReply.{ExpectedReply}
use Rattle.zk_client_session.specs.declared.link.Link.{Link}
use Rattle.zk_client_session.specs.declared.reply.Reply.{Reply}
use Rattle.zk_requests.specs.Requests.{is_ephemeral}
use Rattle.zk_table.specs.Nodes.{content_length, created, stat_with}
use Rattle.zk_table.specs.declared.txn.Txn.{Txn}

-- a frame with the bytes of a request has the action of that request
abbrev pub FramesMeanTheirRequests : Type 0
FramesMeanTheirRequests = (link : Link) (frame : List ℕ) (request : ClientRequest) → IsRequestOf frame request → action_of link frame ≡ action_by link request.xid request.body

-- a ping changes nothing
abbrev pub PingsChangeNothing : Type 0
PingsChangeNothing = (link : Link) (frame : List ℕ) (xid : ℤ) → IsRequestOf frame (record { xid = xid; body = bodies.Ping }) → action_of link frame ≡ (link, actions.Replies immediates.Ping)

-- the same session and the same last transaction; identities may be added
pub record Continues (before after : Link) : Type 0 where
  pub session : after.session ≡ before.session
  pub seen : after.seen ≡ before.seen
  pub auths : (added : List Id) × (after.auths ≡ before.auths ++ added)

abbrev pub FramesContinue : Type 0
FramesContinue = (link : Link) (frame : List ℕ) → Continues link (action_of link frame).0

-- each reply has the number of its request
abbrev pub RepliesHaveTheirNumber : Type 0
RepliesHaveTheirNumber = (expected : ExpectedReply) (reply : Reply) → (reply_to expected reply).xid ≡ expected.xid

-- the stat in the reply to create2 is that of the node which the transaction creates
abbrev pub NewNodesHaveThisStat : Type 0
NewNodesHaveThisStat = (txn : Txn) (content : Option (List ℕ)) (acl : List Acl) (flags : ℤ) → new_stat txn.zxid txn.time (owner_by txn.session flags) (int_wrap w32 (pos (content_length content))) ≡ stat_with (created txn content acl (is_ephemeral flags)) 0
