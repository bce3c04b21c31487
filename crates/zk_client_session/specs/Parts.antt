-- The work of an action for a server, and its parts: while a client's many watches are set, others have
-- their turns.
use Rattle.std.specs.Prelude.{ℕ, ℤ, ◌-◌, List, length, take, drop, nat_le, Option, Some, None, if◌then◌else◌}
use Rattle.zk_acl.specs.declared.acl.Id.{Id}
use Rattle.zk_client_session.specs.declared.ask.Action.{Action}
use Rattle.zk_client_session.specs.declared.ask.Action.TheVariants.{Asks}
use Rattle.zk_client_session.specs.declared.ask.Ask.{Ask}
use Rattle.zk_client_session.specs.declared.ask.Ask.TheVariants.{SetWatches, Ephemerals, CountDescendants}
use Rattle.zk_client_session.specs.declared.expected_reply.ExpectedReply.{ExpectedReply}
use Rattle.zk_client_session.specs.declared.expected_reply.ReplyKind.TheVariants as kinds
use Rattle.zk_client_session.specs.declared.saved_watch.SavedWatch.{SavedWatch}

-- ---- parts

-- the first watches, without a reply, and the others, which have it
abbrev pub watches_split : ℕ → ℤ → ℤ → List Id → List SavedWatch → ExpectedReply → Action × Option Action
watches_split most session zxid auths watches expected =
    if nat_le (length watches) most then (Asks (SetWatches session zxid auths watches) expected, None)
    else (Asks (SetWatches session zxid auths (take most watches)) (record expected { kind = kinds.WatchesBegun }), Some (Asks (SetWatches session zxid auths (drop most watches)) expected))

-- an action with its first watches, `most` at the most, and what is left of it
abbrev pub split : ℕ → Action → Action × Option Action
split most (Asks (SetWatches session zxid auths watches) expected) = watches_split most session zxid auths watches expected
split most action = (action, None)

-- ---- work

-- The work that is left of a turn: an action takes one unit, and one for each of its watches. One that
-- reads all nodes takes all.
abbrev pub left_by_ask : Ask → ℕ → ℕ
left_by_ask (SetWatches session zxid auths watches) work = work - 1 - length watches
left_by_ask (Ephemerals session prefix) work = 0
left_by_ask (CountDescendants session seen auths path) work = 0
left_by_ask ask work = work - 1

abbrev pub left_by : Action → ℕ → ℕ
left_by (Asks ask expected) work = left_by_ask ask work
left_by action work = work - 1
