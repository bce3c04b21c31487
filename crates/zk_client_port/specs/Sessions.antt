-- The ensemble's sessions as connections get and lose them. ZooKeeper Programmer's Guide,
-- "ZooKeeper Sessions".
use Rattle.std.specs.Prelude.{ℕ, ℤ, List, [], ◌∷◌, ◌++◌, find, Option, Some, None}
use Rattle.std.specs.Int.{w64, cast_signed}
use Rattle.zk_client_port.specs.declared.result.Attachment.{Attachment}
use Rattle.zk_connections.specs.Sessions.{has_id, new_session, attached, touched, with_first, with_opened, without_session}
use Rattle.zk_connections.specs.declared.session.Session.{Session}

abbrev pub opened_if_new : ℤ → ℤ → ℤ → List Session → List Session
opened_if_new session timeout now sessions = with_opened (new_session session timeout now) sessions

-- ---- a connection gets a session

abbrev pub after_attach : ℤ → Attachment → List Session → List Session
after_attach now it sessions =
    with_first (has_id it.session) (attached it.connection it.timeout now) (opened_if_new it.session it.timeout now sessions)

abbrev pub after_attachments : ℤ → List Attachment → List Session → List Session
after_attachments now [] sessions = sessions
after_attachments now (it ∷ its) sessions = after_attachments now its (after_attach now it sessions)

abbrev pub holder_in : Option Session → Option ℕ
holder_in None = None
holder_in (Some session) = session.connection

-- the connection that has a session
abbrev pub holder_at : ℤ → List Session → Option ℕ
holder_at session sessions = holder_in (find (has_id session) sessions)

abbrev pub listed : Option ℕ → List ℕ
listed None = []
listed (Some connection) = connection ∷ []

-- the connections that lose their sessions by it
abbrev pub displaced_by : Attachment → List Session → List ℕ
displaced_by it sessions = listed (holder_at it.session sessions)

abbrev pub displaced_by_all : ℤ → List Attachment → List Session → List ℕ
displaced_by_all now [] sessions = []
displaced_by_all now (it ∷ its) sessions = displaced_by it sessions ++ displaced_by_all now its (after_attach now it sessions)

-- ---- sessions end

abbrev pub after_ends : List ℤ → List Session → List Session
after_ends [] sessions = sessions
after_ends (session ∷ ended) sessions = after_ends ended (without_session session sessions)

-- ---- the sessions of a tree, with their timeouts; their numbers are unsigned

-- at a new leader, each has its whole timeout again
abbrev pub renewed : ℤ → List (ℕ × ℤ) → List Session → List Session
renewed now [] sessions = sessions
renewed now (it ∷ its) sessions = renewed now its (with_first (has_id (cast_signed w64 it.0)) (touched now) sessions)

abbrev pub adopted_one : ℤ → ℕ × ℤ → List Session → List Session
adopted_one now it sessions = opened_if_new (cast_signed w64 it.0) it.1 now sessions

-- those that are not known yet are opened
abbrev pub adopted : ℤ → List (ℕ × ℤ) → List Session → List Session
adopted now [] sessions = sessions
adopted now (it ∷ its) sessions = adopted now its (adopted_one now it sessions)
