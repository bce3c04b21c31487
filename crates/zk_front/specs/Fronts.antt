-- The front: the asks and the bytes written, for the bytes read and the results of asks. This
-- project's own.
use Rattle.std.specs.Prelude.{ℕ, List, [], ◌∷◌, ◌++◌, Option, Some, None, Result}
use Rattle.zk_line_protocol.specs.Answers.{said_line}
use Rattle.zk_line_protocol.specs.Connections.{fresh, doing, when_told}
use Rattle.zk_line_protocol.specs.declared.ask.Ask.{Ask}
use Rattle.zk_line_protocol.specs.declared.ask.Action.{Action}
use Rattle.zk_line_protocol.specs.declared.ask.Action.TheVariants as deeds
use Rattle.zk_line_protocol.specs.declared.connection_state.ConnectionState.{ConnectionState}
use Rattle.zk_line_protocol.specs.declared.told.ServiceFault.{ServiceFault}
use Rattle.zk_line_protocol.specs.declared.told.Told.{Told}
use Rattle.zk_line_protocol.specs.Lines.{Line, read_line}
use Rattle.zk_line_protocol.specs.ParsedLines.{text_in}

-- the service's result of an ask
abbrev pub Answer : Type 0
Answer = Result Told ServiceFault

-- the asks, and the bytes written
abbrev pub Output : Type 0
Output = List Ask × List ℕ

abbrev pub joined : List Ask → List ℕ → Output → Output
joined asked bytes later = (asked ++ later.0, bytes ++ later.1)

-- after a result its lines are written, and the connection continues, or ends
abbrev pub after_told : Option (ConnectionState × List ℕ) → List Answer → (ConnectionState → List Answer → Output) → Output
after_told None told later = ([], [])
after_told (Some x) told later = joined [] x.1 (later x.0 told)

-- an immediate reply is written; an ask takes the next result, and all ends if there is none
abbrev pub after_deed : ConnectionState → Action → List Answer → (ConnectionState → List Answer → Output) → Output
after_deed s (deeds.Says saying) told later = joined [] (said_line saying) (later s told)
after_deed s (deeds.Asks ask wish) [] later = (ask ∷ [], [])
after_deed s (deeds.Asks ask wish) (answer ∷ told) later = joined (ask ∷ []) [] (after_told (when_told s wish answer) told later)

abbrev pub line_doing : ConnectionState → Line → ConnectionState × Action
line_doing s l = doing s (text_in (read_line l))

-- lines in order, each with its reply before the next
unfoldable pub front : ConnectionState → List Line → List Answer → Output
front s [] told = ([], [])
front s (l ∷ ls) told = after_deed (line_doing s l).0 (line_doing s l).1 told (λ s' told'. front s' ls told')

-- all asks, for the lines of a new connection and the results
abbrev pub asks_of : List Line → List Answer → List Ask
asks_of ls told = (front fresh ls told).0

abbrev pub bytes_told : List Line → List Answer → List ℕ
bytes_told ls told = (front fresh ls told).1
