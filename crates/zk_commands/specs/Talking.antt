-- What a session with a debugger writes, line by line: a definition of this project.
use Rattle.std.specs.Prelude.{◌≡◌, ◌<◌, ◌≤◌, ◌+◌, ◌⊎◌, ℕ, List, [], ◌∷◌, ◌++◌, Bool, length, Option, Result, Ok, Err, codes}
use Rattle.std.specs.Io.KnownBytes.{Appends, Consumes, IsAtEnd}
use Rattle.zk_records.specs.Sinks.{write_failures_of}
use Rattle.zk_records.specs.declared.sink.Sink.{Sink}
use Rattle.zk_commands.specs.Answering.{AnswersLine}
use Rattle.zk_commands.specs.Prompts.{prompt_text}
use Rattle.zk_commands.specs.declared.session.Session.{Session}
use Rattle.zk_commands.specs.declared.session.TalkFault.{TalkFault}
use Rattle.zk_commands.specs.declared.session.TalkFault.TheVariants as faults
use Rattle.zk_commands.specs.declared.session.Turn.{Turn}
use Rattle.zk_commands.specs.declared.session.Turn.TheVariants as turns
use Rattle.zk_commands.specs.Lines.{most_bytes, HearsPart, HearsLine, HearsLines}

-- ---- the result

-- a line that is too long has an error message, and is dropped
pub record AnswersLong (old : Session) (line answer : List ℕ) (turn : Turn) (new : Session) : Type 0 where
  pub long : most_bytes < length line
  pub told : answer ≡ codes "? a line of at most 65,536 bytes\n"
  pub goes_on : turn ≡ turns.GoesOn
  pub same : new ≡ old

abbrev pub AnswersHeard : Session → List ℕ → List ℕ → Turn → Session → Type 0
AnswersHeard old line answer turn new = ((length line ≤ most_bytes) × AnswersLine old line answer turn new) ⊎ AnswersLong old line answer turn new

-- the output for lines in order, each after its prompt, without `quit`
abbrev pub Talks : Bool → Session → List (List ℕ) → List ℕ → Session → Type 0
Talks prompts old [] text new = (text ≡ []) × (new ≡ old)
Talks prompts old (line ∷ lines) text new =
    (answer : List ℕ) × (others : List ℕ) × (between : Session) × (text ≡ prompt_text prompts old.debugger ++ (answer ++ others)) × AnswersHeard old line answer turns.GoesOn between × Talks prompts between lines others new

-- ---- a session that was aborted

abbrev pub IsFront : List ℕ → List ℕ → Type 0
IsFront front text = (rest : List ℕ) × (text ≡ front ++ rest)

-- while the output for a line was written
pub record BreaksInAnswer (prompts : Bool) (at : Session) (left left' : Option (List ℕ)) (tail : List ℕ) : Type 0 where
  pub line : List ℕ
  pub heard : HearsLine left left' line
  pub answer : List ℕ
  pub turn : Turn
  pub new : Session
  pub answers : AnswersHeard at line answer turn new
  pub front : IsFront tail (prompt_text prompts at.debugger ++ answer)

-- What was written of a prompt and an output. Before a failed read, all was.
abbrev pub BreaksOff : Bool → Session → Option (List ℕ) → Option (List ℕ) → List ℕ → TalkFault → Type 0
BreaksOff prompts at left left' tail faults.Read = HearsPart left left' × (tail ≡ prompt_text prompts at.debugger)
BreaksOff prompts at left left' tail faults.Write = (Consumes left left' [] × IsFront tail (prompt_text prompts at.debugger)) ⊎ BreaksInAnswer prompts at left left' tail
BreaksOff prompts at left left' tail faults.NoMemory = (HearsPart left left' ⊎ ((line : List ℕ) × HearsLine left left' line)) × IsFront tail (prompt_text prompts at.debugger)

-- ---- one turn

-- a line was read, and its output written after the prompt
pub record Exchanges (prompts : Bool) (old : Session) (left left' before after : Option (List ℕ)) (turn : Turn) (new : Session) : Type 0 where
  pub line : List ℕ
  pub heard : HearsLine left left' line
  pub answer : List ℕ
  pub answers : AnswersHeard old line answer turn new
  pub wrote : Appends before after (prompt_text prompts old.debugger ++ answer)

-- or the input was at its end, after the prompt; or the turn was aborted
abbrev pub TakesTurn : Bool → Session → Option (List ℕ) → Option (List ℕ) → Option (List ℕ) → Option (List ℕ) → Result Turn TalkFault → Session → Type 0
TakesTurn prompts old left left' before after (Ok turns.GoesOn) new = Exchanges prompts old left left' before after turns.GoesOn new
TakesTurn prompts old left left' before after (Ok turns.Ends) new =
    Exchanges prompts old left left' before after turns.Ends new ⊎ (Consumes left left' [] × IsAtEnd left' × Appends before after (prompt_text prompts old.debugger) × (new ≡ old))
TakesTurn prompts old left left' before after (Err fault) new = (tail : List ℕ) × Appends before after tail × BreaksOff prompts old left left' tail fault

-- ---- a session

-- the turn that ends it
abbrev pub last_turn : Result (Unit {0}) TalkFault → Result Turn TalkFault
last_turn (Ok done) = Ok turns.Ends
last_turn (Err fault) = Err fault

-- Lines of the input were read and processed in order. Then came the last turn, which met `quit` or
-- the end of the input, or was aborted.
pub record Talked (prompts : Bool) (old : Session) (left left' before after : Option (List ℕ)) (result : Result (Unit {0}) TalkFault) (new : Session) : Type 0 where
  pub lines : List (List ℕ)
  pub left_then : Option (List ℕ)
  pub heard : HearsLines left left_then lines
  pub text : List ℕ
  pub at : Session
  pub talks : Talks prompts old lines text at
  pub written_then : Option (List ℕ)
  pub wrote : Appends before written_then text
  pub last : TakesTurn prompts at left_then left' written_then after (last_turn result) new

-- a write failed; otherwise none did
abbrev pub WritesSo : {W T : Type 0} → Sink W → Result T TalkFault → Sink W → Type 0
WritesSo old (Err faults.Write) new = write_failures_of new ≡ write_failures_of old + 1
WritesSo old result new = write_failures_of new ≡ write_failures_of old

-- ---- the output for one line

pub record AppendsHeard (old : Session) (line before after : List ℕ) (turn : Turn) (new : Session) : Type 0 where
  pub answer : List ℕ
  pub answers : AnswersHeard old line answer turn new
  pub told : after ≡ before ++ answer

-- it was written, or a prefix of it
abbrev pub PutsAnswer : Session → List ℕ → Option (List ℕ) → Option (List ℕ) → Result Turn TalkFault → Session → Type 0
PutsAnswer old line before after (Ok turn) new = (answer : List ℕ) × AnswersHeard old line answer turn new × Appends before after answer
PutsAnswer old line before after (Err faults.Write) new = (answer : List ℕ) × (turn : Turn) × AnswersHeard old line answer turn new × (front : List ℕ) × IsFront front answer × Appends before after front
PutsAnswer old line before after (Err faults.NoMemory) new = Appends before after []
PutsAnswer old line before after (Err faults.Read) new = ⊥
