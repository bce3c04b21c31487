-- The bytes of a line that has not ended.
use Rattle.std.specs.Prelude.{ℕ, ◌≡◌, ◌<◌, ◌≤◌, List, Bool, true, false, length}
use Rattle.zk_line_protocol.specs.Lines.{most_bytes}
use Rattle.zk_line_protocol.specs.declared.pending.Pending.{Pending}

abbrev pub HoldsBy : Bool → List ℕ → List ℕ → Type 0
HoldsBy true bytes text = most_bytes < length text
HoldsBy false bytes text = (bytes ≡ text) × (length text ≤ most_bytes)

-- these bytes of the line are held
abbrev pub Holds : Pending → List ℕ → Type 0
Holds it text = HoldsBy it.long it.bytes.items text
