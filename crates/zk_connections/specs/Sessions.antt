-- The sessions of an ensemble's clients. ZooKeeper Programmer's Guide, "ZooKeeper Sessions".
use Rattle.std.specs.Prelude.{◌≡◌, ℕ, ℤ, ◌+ℤ◌, ◌==◌, Bool, false, not, int_le, List, [], ◌∷◌, map, filter, find, insert, slice_set, slice_index_or, Option, Some, None, Result, Ok, Err, if◌then◌else◌}
use Rattle.std.specs.Int.{w64, saturate_signed}
use Rattle.std.specs.Ordering.{int_cmp, int_eq, match_ordering}
use Rattle.std.specs.declared.cmp.Ordering.{Ordering}
use Rattle.zk_connections.specs.declared.session.Session.{Session}

-- this much later, or the nearest number of 64 bits
abbrev pub deadline_of : ℤ → ℤ → ℤ
deadline_of now timeout = saturate_signed w64 (now +ℤ timeout)

-- no connection has it yet
abbrev pub new_session : ℤ → ℤ → ℤ → Session
new_session id timeout now = record { id = id; timeout = timeout; deadline = deadline_of now timeout; connection = None }

-- ---- one session

abbrev pub has_id : ℤ → Session → Bool
has_id id session = int_eq session.id id

abbrev pub is_connection : ℕ → Option ℕ → Bool
is_connection connection None = false
is_connection connection (Some other) = other == connection

-- whether the connection has it
abbrev pub is_at : ℕ → Session → Bool
is_at connection session = is_connection connection session.connection

-- its client was heard of now
abbrev pub touched : ℤ → Session → Session
touched now session = record session { deadline = deadline_of now session.timeout }

-- a connection has it from now on, with the timeout that it negotiated
abbrev pub attached : ℕ → ℤ → ℤ → Session → Session
attached connection timeout now session =
    record { id = session.id; timeout = timeout; deadline = deadline_of now timeout; connection = Some connection }

-- no connection has it any more; its deadline stays
abbrev pub detached : Session → Session
detached session = record session { connection = None }

-- ---- all sessions, in the order of their numbers

abbrev pub session_cmp : Session → Session → Ordering
session_cmp a b = int_cmp a.id b.id

-- the first session that passes the test is changed; the others stay
abbrev pub with_first : (Session → Bool) → (Session → Session) → List Session → List Session
with_first test change [] = []
with_first test change (session ∷ sessions) =
    if test session then change session ∷ sessions else session ∷ with_first test change sessions

-- a session is opened, unless it is there
abbrev pub with_opened : Session → List Session → List Session
with_opened new [] = new ∷ []
with_opened new (session ∷ sessions) =
    match_ordering (int_cmp new.id session.id) (new ∷ session ∷ sessions) (session ∷ sessions) (session ∷ with_opened new sessions)

abbrev pub without_session : ℤ → List Session → List Session
without_session id sessions = filter (λ session. not (has_id id session)) sessions

-- a session has expired at its very deadline
abbrev pub has_expired : ℤ → Session → Bool
has_expired now session = int_le session.deadline now

abbrev pub expired_at : ℤ → List Session → List ℤ
expired_at now sessions = map (λ session. session.id) (filter (has_expired now) sessions)

-- ---- the position of a session, or the one where it would be inserted

abbrev pub IsSessionPlace : ℤ → List Session → Result ℕ ℕ → Type 0
IsSessionPlace id sessions (Ok at) = (change : Session → Session) (d : Session) →
    (find (has_id id) sessions ≡ Some (slice_index_or sessions at d))
    × (with_first (has_id id) change sessions ≡ slice_set sessions at (change (slice_index_or sessions at d)))
    × ((new : Session) → new.id ≡ id → with_opened new sessions ≡ sessions)
IsSessionPlace id sessions (Err at) = (change : Session → Session) (new : Session) →
    (find (has_id id) sessions ≡ None)
    × (with_first (has_id id) change sessions ≡ sessions)
    × (new.id ≡ id → with_opened new sessions ≡ insert sessions at new)
