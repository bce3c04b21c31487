-- What a connection hears of its socket, and what is sent to it. ZooKeeper Programmer's Guide,
-- "ZooKeeper Sessions".
use Rattle.std.specs.Prelude.{◌≡◌, ℕ, ◌+◌, ◌≤◌, ◌⊎◌, ◌==◌, ◌&&◌, nat_lt, not, Bool, List, length, take, drop, is_some, Option, Result, Ok, Err, if◌then◌else◌}
use Rattle.std.specs.Io.KnownBytes.{Appends, ReadConsumes}
use Rattle.std.specs.IoError.{error_kind}
use Rattle.std.specs.declared.io.Error.{Error}
use Rattle.std.specs.declared.io.ErrorKind.{ErrorKind}
use Rattle.std.specs.declared.io.ErrorKind.TheVariants as kinds
use Rattle.zk_connections.specs.Connections.{lost, session_of}
use Rattle.zk_connections.specs.Inputs.{heard, longest_frame}
use Rattle.zk_connections.specs.declared.connection.Connection.{Connection}
use Rattle.zk_reactor.specs.declared.outcome.Outcome.{Outcome}
use Rattle.zk_reactor.specs.declared.outcome.Outcome.TheVariants as outcomes

abbrev pub failed_with : ErrorKind → Outcome
failed_with kinds.WouldBlock = outcomes.Waits
failed_with kinds.Interrupted = outcomes.Interrupted
failed_with kind = outcomes.Failed

abbrev pub outcome_of : Result ℕ Error → Outcome
outcome_of (Ok n) = if n == 0 then outcomes.Ended else outcomes.Bytes n
outcome_of (Err error) = failed_with (error_kind error)

-- ---- reading

-- The connection hears the first bytes of the chunk. It is lost if its client has ended, or for an
-- error; and if memory runs out.
abbrev pub HearsOutcome : Outcome → List ℕ → Connection → Connection → Type 0
HearsOutcome outcomes.Ended chunk old new = new ≡ lost old
HearsOutcome (outcomes.Bytes n) chunk old new = (new ≡ heard (take n chunk) old) ⊎ (new ≡ lost old)
HearsOutcome outcomes.Waits chunk old new = new ≡ old
HearsOutcome outcomes.Interrupted chunk old new = new ≡ old
HearsOutcome outcomes.Failed chunk old new = new ≡ lost old

-- the most bytes of a connection's input: those of the longest frame, and of one read
abbrev pub most_input : ℕ
most_input = longest_frame + 8192

-- of a socket with these bytes before and after, at most 8,192 are read and heard
pub record HearsFrom (before after : Option (List ℕ)) (old new : Connection) : Type 0 where
  pub chunk : List ℕ
  pub few : length chunk ≡ 8192
  pub returned : Result ℕ Error
  pub consumes : ReadConsumes before after returned chunk
  pub hears : HearsOutcome (outcome_of returned) chunk old new

-- ---- writing

-- the bytes that were taken are no longer to be sent
abbrev pub without_sent : ℕ → Connection → Connection
without_sent n it = record it { output = drop n it.output }

abbrev pub after_write : Outcome → Connection → Connection
after_write outcomes.Ended it = lost it
after_write (outcomes.Bytes n) it = without_sent n it
after_write outcomes.Waits it = it
after_write outcomes.Interrupted it = it
after_write outcomes.Failed it = lost it

-- A socket with these bytes before and after takes the first bytes of the output. The others still
-- wait, unless the connection is lost.
pub record SendsTo (before after : Option (List ℕ)) (old new : Connection) : Type 0 where
  pub count : ℕ
  pub within : count ≤ length old.output
  pub taken : Appends before after (take count old.output)
  pub left : (new ≡ without_sent count old) ⊎ (new ≡ lost old)

-- ---- ticks

-- it has a session, and does not close
abbrev pub has_settled : Connection → Bool
has_settled it = not it.closes && is_some (session_of it)

-- the ticks since a connection has been closing, or has had no session, up to 5
abbrev pub ticks_after : ℕ → Connection → ℕ
ticks_after ticks it = if has_settled it then 0 else (if nat_lt ticks 5 then ticks + 1 else ticks)

-- its client does not read the rest, or asks for no session
abbrev pub after_tick : ℕ → Connection → Connection
after_tick ticks it = if has_settled it then it else (if nat_lt ticks 5 then it else lost it)
