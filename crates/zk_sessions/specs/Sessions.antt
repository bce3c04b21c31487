-- What is known of a session: ZooKeeper Programmer's Guide, "ZooKeeper Sessions".
use Rattle.std.specs.Prelude.{◌+◌, ◌-◌, ◌^◌, ℕ, ℤ, pos, Bool, min, Some, None}
use Rattle.std.specs.Ordering.{int_eq}
use Rattle.zk_sessions.specs.declared.moment.Moment.{Moment}
use Rattle.zk_sessions.specs.declared.session.Ending.{Ending}
use Rattle.zk_sessions.specs.declared.session.Session.{Session}

-- the leader closes an expired session by a request of its own, whose number is 0; a client's are not
abbrev pub expires : ℤ → Bool
expires cxid = int_eq cxid (pos 0)

-- a count stops at the greatest `u64`
abbrev pub most : ℕ
most = 2 ^ 64 - 1

abbrev pub plus : ℕ → ℕ → ℕ
plus count more = min (count + more) most

-- nothing
abbrev pub unknown : Session
unknown = record { opened = None; timeout = None; writes = 0; created = 0; deleted = 0; left = 0; ended = None }

-- ---- what happens to it

abbrev pub with_timeout : ℤ → Session → Session
with_timeout timeout session = record session { timeout = Some timeout }

abbrev pub with_opening : Moment → ℤ → Session → Session
with_opening moment timeout session = record session { opened = Some moment; timeout = Some timeout; ended = None }

abbrev pub with_ending : Moment → Bool → Session → Session
with_ending moment expired session = record session { ended = Some (record { moment = moment; expired = expired }) }

abbrev pub with_writes : ℕ → Session → Session
with_writes more session = record session { writes = plus session.writes more }

-- it owns one more node
abbrev pub with_left : Session → Session
with_left session = record session { left = plus session.left 1 }

-- it creates an ephemeral node
abbrev pub with_created : Session → Session
with_created session = record session { created = plus session.created 1; left = plus session.left 1 }

-- one of its ephemeral nodes is deleted, by it, by another session or by its end
abbrev pub with_deleted : Session → Session
with_deleted session = record session { deleted = plus session.deleted 1; left = session.left - 1 }
