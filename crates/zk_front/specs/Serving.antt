-- The effect of serving: the asks, their results, the bytes read and the bytes written.
use Rattle.std.specs.Prelude.{◌≡◌, ℕ, ◌+◌, List, [], ◌∷◌, ◌++◌, length, map, Option, Result, Ok, Err, IfOk}
use Rattle.std.specs.Io.KnownBytes.{Consumes, Appends, IsAtEnd}
use Rattle.zk_line_protocol.specs.Lines.{Line, lines_in, ended_in}
use Rattle.zk_line_protocol.specs.Connections.{fresh}
use Rattle.zk_front.specs.Fronts.{Answer, Output, joined, front, asks_of, bytes_told}
use Rattle.zk_line_protocol.specs.declared.ask.Ask.{Ask}
use Rattle.zk_front.specs.declared.fault.FrontFault.{FrontFault}
use Rattle.zk_front.specs.declared.fault.FrontFault.TheVariants as faults

-- an ask, and its result
abbrev pub Exchange : Type 0
Exchange = Ask × Answer

abbrev pub asked_in : List Exchange → List Ask
asked_in exchanges = map (λ x. x.0) exchanges

abbrev pub told_in : List Exchange → List Answer
told_in exchanges = map (λ x. x.1) exchanges

-- a service gets from one state to another by these exchanges, each from the state after the one
-- before
abbrev pub Follows : {S : Type 0} → (S → Ask → Answer → S → Type 0) → S → List Exchange → S → Type 0
Follows does old [] new = new ≡ old
Follows {S} does old (x ∷ xs) new = (between : S) × does old x.0 x.1 between × Follows does between xs new

-- these asks and bytes are a prefix of the output
abbrev pub Begins : Output → List Ask → List ℕ → Type 0
Begins whole asked bytes = (later : Output) × (whole ≡ joined asked bytes later)

-- the asks and bytes are all of the front's for these lines
abbrev pub IsWhole : List Line → List Exchange → List ℕ → Type 0
IsWhole ls exchanges written = (asked_in exchanges ≡ asks_of ls (told_in exchanges)) × (written ≡ bytes_told ls (told_in exchanges))

-- or a prefix of them
abbrev pub IsFrontOf : List Line → List Exchange → List ℕ → Type 0
IsFrontOf ls exchanges written = Begins (front fresh ls (told_in exchanges)) (asked_in exchanges) written

-- The asks and bytes, for what was read and the results. If a read failed, or the limit of reads
-- was reached, exactly the lines that a newline ended have their replies.
abbrev pub IsServed : List ℕ → List Exchange → List ℕ → Result ℕ FrontFault → Type 0
IsServed read exchanges written (Ok lines) = (lines ≡ length (lines_in read)) × IsWhole (lines_in read) exchanges written
IsServed read exchanges written (Err faults.Read) = IsWhole (ended_in read) exchanges written
IsServed read exchanges written (Err faults.Endless) = IsWhole (ended_in read) exchanges written
IsServed read exchanges written (Err faults.Write) = IsFrontOf (lines_in read) exchanges written
IsServed read exchanges written (Err faults.NoMemory) = IsFrontOf (lines_in read) exchanges written

-- serving asked and wrote what the front does, for what was read and the results
pub record Serves {S : Type 0} (does : S → Ask → Answer → S → Type 0) (old new : S) (remaining remaining' contents contents' : Option (List ℕ)) (result : Result ℕ FrontFault) : Type 0 where
  -- the bytes that were read
  pub read : List ℕ
  pub consumed : Consumes remaining remaining' read
  -- the asks and their results
  pub exchanges : List Exchange
  pub follows : Follows does old exchanges new
  -- the bytes that were written
  pub written : List ℕ
  pub appended : Appends contents contents' written
  pub served : IsServed read exchanges written result
  pub end : IfOk result (λ lines. IsAtEnd remaining')

-- the failures of a writer, and of a reader, after serving with this result: one more if that is
-- its fault
abbrev pub writes_failed : {X : Type 0} → ℕ → Result X FrontFault → ℕ
writes_failed before (Err faults.Write) = before + 1
writes_failed before other = before

abbrev pub reads_failed : {X : Type 0} → ℕ → Result X FrontFault → ℕ
reads_failed before (Err faults.Read) = before + 1
reads_failed before other = before
