-- The prompt of a session, which shows its place: a definition of this project.
use Rattle.std.specs.Prelude.{ℕ, List, [], ◌∷◌, ◌++◌, Bool, true, false, Option, Result, Ok, Err, codes}
use Rattle.std.specs.Fmt.{decimal}
use Rattle.zk_debug.specs.Debugging.{Debugging, zxid_at}
use Rattle.zk_records.specs.declared.sink.Sink.{Sink}
use Rattle.zk_log_commands.specs.Writing.{LeavesSink, Wrote, BrokeOff}
use Rattle.zk_format.specs.Spelling.{id_digits}
use Rattle.zk_commands.specs.declared.session.TalkFault.{TalkFault}
use Rattle.zk_commands.specs.declared.session.TalkFault.TheVariants as faults

-- the place of the session, if prompts are on
abbrev pub prompt_text : Bool → Debugging → List ℕ
prompt_text false d = []
prompt_text true d = codes "zk " ++ decimal d.place ++ 32 ∷ id_digits (zxid_at d.base d.txns d.place) ++ codes "> "

-- how a write ended that does not allocate after its text
abbrev pub Puts : {O : Type 0} → (O → Option (List ℕ)) → Sink O → List ℕ → Result (Unit {0}) TalkFault → Sink O → Type 0
Puts written old text (Ok done) new = Wrote written old new text
Puts written old text (Err faults.Write) new = BrokeOff written old new text
Puts written old text (Err faults.NoMemory) new = LeavesSink written old new
Puts written old text (Err faults.Read) new = ⊥
