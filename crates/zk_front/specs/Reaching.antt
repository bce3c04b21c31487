-- A connection in the middle of its input.
use Rattle.std.specs.Prelude.{◌≡◌, ◌⊎◌, ℕ, ◌+◌, List, [], ◌∷◌, ◌++◌, Bool, length, Option, Some, None, Result, Err}
use Rattle.std.specs.List.{filter}
use Rattle.std.specs.Io.KnownBytes.{Appends}
use Rattle.std.specs.String.{string_bytes}
use Rattle.zk_line_protocol.specs.Lines.{Line, line, lines_in, IsUnended}
use Rattle.zk_line_protocol.specs.Connections.{fresh}
use Rattle.zk_line_protocol.specs.declared.connection_state.ConnectionState.{ConnectionState}
use Rattle.zk_front.specs.Fronts.{Answer, joined, front}
use Rattle.zk_front.specs.Serving.{Exchange, asked_in, told_in, Follows, Begins, IsServed}
use Rattle.zk_line_protocol.specs.Pendings.{Holds}
use Rattle.zk_front.specs.declared.fault.FrontFault.{FrontFault}
use Rattle.zk_front.specs.declared.fault.FrontFault.TheVariants as faults
use Rattle.zk_line_protocol.specs.declared.ask.Ask.{Ask}
use Rattle.zk_front.specs.declared.connection.Connection.{Connection}

-- a line has its reply: its ask and the result, and what is written for it, with any lines after it
pub record Answers {S : Type 0} (does : S → Ask → Answer → S → Type 0) (old new : S) (standing standing' : ConnectionState) (l : Line) (out out' : List ℕ) : Type 0 where
  pub exchanges : List Exchange
  pub follows : Follows does old exchanges new
  pub bytes : List ℕ
  pub out_more : out' ≡ out ++ bytes
  pub goes : (ls : List Line) (told : List Answer) → front standing (l ∷ ls) (told_in exchanges ++ told) ≡ joined (asked_in exchanges) bytes (front standing' ls told)

-- or an allocation failed, before the ask or after it
pub record AnswersNot {S : Type 0} (does : S → Ask → Answer → S → Type 0) (old new : S) (standing : ConnectionState) (l : Line) : Type 0 where
  pub exchanges : List Exchange
  pub follows : Follows does old exchanges new
  pub begins : (ls : List Line) → Begins (front standing (l ∷ ls) (told_in exchanges)) (asked_in exchanges) []

-- these bytes were read, the lines that have ended have their replies, and what is not written yet
-- is in the buffer
pub record Reached {S : Type 0} (does : S → Ask → Answer → S → Type 0) (service0 : S) (contents0 : Option (List ℕ)) (read : List ℕ) (it : Connection) (service : S) (contents : Option (List ℕ)) : Type 0 where
  pub done : List Line
  pub partial : List ℕ
  pub lines : (more : List ℕ) → lines_in (read ++ more) ≡ done ++ lines_in (partial ++ more)
  pub unended : IsUnended partial
  pub ended : filter (λ l. l.ended) done ≡ done
  pub holds : Holds it.pending partial
  pub exchanges : List Exchange
  pub follows : Follows does service0 exchanges service
  pub written : List ℕ
  pub appended : Appends contents0 contents written
  pub goes : (ls : List Line) (told : List Answer) → front fresh (done ++ ls) (told_in exchanges ++ told) ≡ joined (asked_in exchanges) (written ++ string_bytes it.page) (front it.standing ls told)
  pub counted : it.lines ≡ length done

-- these bytes were read; the asks made and the bytes written are prefixes of the front's for these
-- bytes
pub record Stopped {S : Type 0} (does : S → Ask → Answer → S → Type 0) (service0 : S) (contents0 : Option (List ℕ)) (read : List ℕ) (service : S) (contents : Option (List ℕ)) : Type 0 where
  pub exchanges : List Exchange
  pub follows : Follows does service0 exchanges service
  pub written : List ℕ
  pub appended : Appends contents0 contents written
  pub begins : Begins (front fresh (lines_in read) (told_in exchanges)) (asked_in exchanges) written

-- serving ended with this result
pub record Ended {S : Type 0} (does : S → Ask → Answer → S → Type 0) (service0 : S) (contents0 : Option (List ℕ)) (read : List ℕ) (service : S) (contents : Option (List ℕ)) (result : Result ℕ FrontFault) : Type 0 where
  pub exchanges : List Exchange
  pub follows : Follows does service0 exchanges service
  pub written : List ℕ
  pub appended : Appends contents0 contents written
  pub served : IsServed read exchanges written result

-- the faults of writing and of memory
abbrev pub IsStop : FrontFault → Type 0
IsStop faults.Write = Unit {0}
IsStop faults.NoMemory = Unit {0}
IsStop other = ⊥

-- ---- the steps of serving, in any state of the connection

abbrev pub Goes : {S : Type 0} → (S → Ask → Answer → S → Type 0) → Connection → S → Option (List ℕ) → List ℕ → Connection → S → Option (List ℕ) → Type 0
Goes {S} does old service contents more new service' contents' =
    (service0 : S) (contents0 : Option (List ℕ)) (read : List ℕ) → Reached does service0 contents0 read old service contents → Reached does service0 contents0 (read ++ more) new service' contents'

abbrev pub Stops : {S : Type 0} → (S → Ask → Answer → S → Type 0) → Connection → S → Option (List ℕ) → List ℕ → FrontFault → S → Option (List ℕ) → Type 0
Stops {S} does old service contents more fault service' contents' =
    IsStop fault × ((service0 : S) (contents0 : Option (List ℕ)) (read : List ℕ) → Reached does service0 contents0 read old service contents → Stopped does service0 contents0 (read ++ more) service' contents')

abbrev pub Finishes : {S : Type 0} → (S → Ask → Answer → S → Type 0) → Connection → S → Option (List ℕ) → Result ℕ FrontFault → S → Option (List ℕ) → Type 0
Finishes {S} does old service contents result service' contents' =
    (service0 : S) (contents0 : Option (List ℕ)) (read : List ℕ) → Reached does service0 contents0 read old service contents → Ended does service0 contents0 read service' contents' result

-- the line that was read has its reply, and the next begins
pub record EndsLine {S : Type 0} (does : S → Ask → Answer → S → Type 0) (old : Connection) (service : S) (ended : Bool) (new : Connection) (service' : S) : Type 0 where
  pub answers : (text : List ℕ) → Holds old.pending text → Answers does service service' old.standing new.standing (line text ended) (string_bytes old.page) (string_bytes new.page)
  pub next : Holds new.pending []
  pub counted : new.lines ≡ old.lines + 1

abbrev pub EndsNoLine : {S : Type 0} → (S → Ask → Answer → S → Type 0) → Connection → S → Bool → S → Type 0
EndsNoLine does old service ended service' = (text : List ℕ) → Holds old.pending text → AnswersNot does service service' old.standing (line text ended)

-- the buffer is written, and is empty
pub record Flushes (old : Connection) (contents : Option (List ℕ)) (new : Connection) (contents' : Option (List ℕ)) : Type 0 where
  pub wrote : Appends contents contents' (string_bytes old.page)
  pub empty : string_bytes new.page ≡ []
  pub standing : new.standing ≡ old.standing
  pub pending : new.pending ≡ old.pending
  pub lines : new.lines ≡ old.lines

-- all lines have their replies, and what is not written yet is in the buffer
pub record AtEnd {S : Type 0} (does : S → Ask → Answer → S → Type 0) (service0 : S) (contents0 : Option (List ℕ)) (read : List ℕ) (it : Connection) (service : S) (contents : Option (List ℕ)) : Type 0 where
  pub exchanges : List Exchange
  pub follows : Follows does service0 exchanges service
  pub written : List ℕ
  pub appended : Appends contents0 contents written
  pub answered : front fresh (lines_in read) (told_in exchanges) ≡ (asked_in exchanges, written ++ string_bytes it.page)
  pub counted : it.lines ≡ length (lines_in read)

abbrev pub EndsAll : {S : Type 0} → (S → Ask → Answer → S → Type 0) → Connection → S → Connection → S → Type 0
EndsAll {S} does old service new service' =
    (service0 : S) (contents0 contents : Option (List ℕ)) (read : List ℕ) → Reached does service0 contents0 read old service contents → AtEnd does service0 contents0 read new service' contents

abbrev pub EndsEarly : {S : Type 0} → (S → Ask → Answer → S → Type 0) → Connection → S → S → Type 0
EndsEarly {S} does old service service' =
    (service0 : S) (contents0 contents : Option (List ℕ)) (read : List ℕ) → Reached does service0 contents0 read old service contents → Ended does service0 contents0 read service' contents (Err faults.NoMemory)

-- no byte was read
pub record IsFresh (it : Connection) : Type 0 where
  pub standing : it.standing ≡ fresh
  pub holds : Holds it.pending []
  pub page : string_bytes it.page ≡ []
  pub lines : it.lines ≡ 0

-- a line has no reply, with any lines after it
abbrev pub StopsInLine : {S : Type 0} → (S → Ask → Answer → S → Type 0) → Connection → S → Option (List ℕ) → List ℕ → FrontFault → S → Option (List ℕ) → Type 0
StopsInLine {S} does old service contents text fault service' contents' =
    IsStop fault × ((more : List ℕ) (service0 : S) (contents0 : Option (List ℕ)) (read : List ℕ) → Reached does service0 contents0 read old service contents → Stopped does service0 contents0 (read ++ (text ++ 10 ∷ more)) service' contents')

-- the buffer was written, or is unchanged
abbrev pub MayFlush : Connection → Option (List ℕ) → Connection → Option (List ℕ) → Type 0
MayFlush old contents new contents' = Flushes old contents new contents' ⊎ ((new ≡ old) × (contents' ≡ contents))

-- the same connection, with more bytes of a line
pub record Added (old mid : Connection) (text : List ℕ) : Type 0 where
  pub holds : (partial : List ℕ) → Holds old.pending partial → Holds mid.pending (partial ++ text)
  pub standing : mid.standing ≡ old.standing
  pub page : string_bytes mid.page ≡ string_bytes old.page
  pub lines : mid.lines ≡ old.lines
