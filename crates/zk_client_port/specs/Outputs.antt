-- What a server's outputs write to its connections, in order. ZooKeeper Programmer's Guide,
-- "ZooKeeper Watches" and "Consistency Guarantees".
use Rattle.std.specs.Prelude.{ℕ, ℤ, ◌==◌, Bool, List, [], ◌∷◌, ◌++◌, find, Option, Some, None, if◌then◌else◌}
use Rattle.zk_client_port.specs.Results.{with_outcome, gained_by}
use Rattle.zk_client_port.specs.declared.admission.Admission.{Admission}
use Rattle.zk_client_port.specs.declared.expected.Expected.{Expected}
use Rattle.zk_client_port.specs.declared.result.Attachment.{Attachment}
use Rattle.zk_connections.specs.Connections.{with_event}
use Rattle.zk_connections.specs.declared.connection.Connection.{Connection}
use Rattle.zk_hub.specs.declared.outcome.Outcome.{Outcome}
use Rattle.zk_hub.specs.declared.news.Output.{Output}
use Rattle.zk_hub.specs.declared.news.Output.TheVariants.{Event, Reply}
use Rattle.zk_watch.specs.declared.watch.Fired.{Fired}

abbrev pub is_numbered : ℕ → Connection → Bool
is_numbered number it = it.number == number

-- the first connection that passes the test is changed; the others stay
abbrev pub with_first : (Connection → Bool) → (Connection → Connection) → List Connection → List Connection
with_first test change [] = []
with_first test change (it ∷ its) = if test it then change it ∷ its else it ∷ with_first test change its

-- ---- one output, at a server whose last transaction is this

abbrev pub after_output : Admission → ℤ → Output Fired Expected Outcome → List Connection → List Connection
after_output admission last (Event connection event) its = with_first (is_numbered connection) (with_event event.kind event.path) its
after_output admission last (Reply connection expected outcome) its = with_first (is_numbered connection) (with_outcome admission last expected outcome) its

abbrev pub gained_if : Admission → Expected → Outcome → Option Connection → Option Attachment
gained_if admission expected outcome None = None
gained_if admission expected outcome (Some it) = gained_by admission it expected outcome

abbrev pub gained_at : ℕ → Admission → Expected → Outcome → List Connection → Option Attachment
gained_at connection admission expected outcome its = gained_if admission expected outcome (find (is_numbered connection) its)

abbrev pub one_or_none : Option Attachment → List Attachment
one_or_none None = []
one_or_none (Some it) = it ∷ []

-- the session that a connection gets
abbrev pub gained_in : Admission → Output Fired Expected Outcome → List Connection → List Attachment
gained_in admission (Event connection event) its = []
gained_in admission (Reply connection expected outcome) its = one_or_none (gained_at connection admission expected outcome its)

-- ---- outputs, in order

abbrev pub after_outputs : Admission → ℤ → List (Output Fired Expected Outcome) → List Connection → List Connection
after_outputs admission last [] its = its
after_outputs admission last (output ∷ outputs) its = after_outputs admission last outputs (after_output admission last output its)

abbrev pub gained_from : Admission → ℤ → List (Output Fired Expected Outcome) → List Connection → List Attachment
gained_from admission last [] its = []
gained_from admission last (output ∷ outputs) its =
    gained_in admission output its ++ gained_from admission last outputs (after_output admission last output its)
