-- What holds of each connection, with any output to the others. ZooKeeper Programmer's Guide,
-- "Consistency Guarantees".
use Rattle.std.specs.Prelude.{◌≡◌, ℕ, ℤ, ◌==◌, List, [], ◌∷◌, find, option_map, if◌then◌else◌}
use Rattle.zk_client_port.specs.Outputs.{is_numbered, after_outputs}
use Rattle.zk_client_port.specs.Results.{with_outcome}
use Rattle.zk_client_port.specs.declared.admission.Admission.{Admission}
use Rattle.zk_client_port.specs.declared.expected.Expected.{Expected}
use Rattle.zk_connections.specs.Connections.{with_event}
use Rattle.zk_connections.specs.declared.connection.Connection.{Connection}
use Rattle.zk_hub.specs.declared.outcome.Outcome.{Outcome}
use Rattle.zk_hub.specs.declared.news.Output.{Output}
use Rattle.zk_hub.specs.declared.news.Output.TheVariants.{Event, Reply}
use Rattle.zk_watch.specs.declared.watch.Fired.{Fired}

-- a connection with this number, after an output
abbrev pub after_its_output : Admission → ℤ → ℕ → Output Fired Expected Outcome → Connection → Connection
after_its_output admission last number (Event connection event) it = if connection == number then with_event event.kind event.path it else it
after_its_output admission last number (Reply connection expected outcome) it = if connection == number then with_outcome admission last expected outcome it else it

-- after outputs, in order: those of other connections write nothing to it
abbrev pub after_its_outputs : Admission → ℤ → ℕ → List (Output Fired Expected Outcome) → Connection → Connection
after_its_outputs admission last number [] it = it
after_its_outputs admission last number (output ∷ outputs) it = after_its_outputs admission last number outputs (after_its_output admission last number output it)

-- each connection is written its own outputs, in their order, and no other's
abbrev pub EachHasItsOutputs : Type 0
EachHasItsOutputs = (admission : Admission) (last : ℤ) (outputs : List (Output Fired Expected Outcome)) (number : ℕ) (its : List Connection) →
    find (is_numbered number) (after_outputs admission last outputs its) ≡ option_map (after_its_outputs admission last number outputs) (find (is_numbered number) its)
