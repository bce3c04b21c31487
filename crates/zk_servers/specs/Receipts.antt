-- The contents of a receipt. Own.
use Rattle.std.specs.Prelude.{◌≡◌, ℕ, Ok}
use Rattle.zab_model.specs.declared.event.Moved.{Moved}
use Rattle.zk_servers.specs.declared.record.Receipt.{Receipt}
use Rattle.zk_servers.specs.declared.record.Record.{Record}
use Rattle.zk_model.specs.declared.answer.Answer.TheVariants.{Moved as HasMoved}
use Rattle.zk_model.specs.Ensembles.{Told}

-- the receipt has the record's contents, and its number
abbrev pub IsReceiptOf : ℕ → Record → Receipt → Type 0
IsReceiptOf number it receipt = (receipt.number ≡ number) × ((receipt.answer ≡ it.answer) × (receipt.zxid ≡ it.zxid))

-- the messages of an event with this answer
abbrev pub sent_by : Told → Moved
sent_by (Ok (HasMoved moved)) = moved
sent_by answer = record { first = 0; count = 0 }
