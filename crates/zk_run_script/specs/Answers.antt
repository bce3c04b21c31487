-- The answers of a run script: to an event, and to a report on a server. This project's own.
use Rattle.std.specs.Prelude.{ℕ, ℤ, zero, suc, ◌+◌, List, [], ◌∷◌, ◌++◌, length, Result, Ok, Err, codes}
use Rattle.std.specs.Fmt.{decimal}
use Rattle.std.specs.FinMap.{entries}
use Rattle.std.specs.List.{flat_map}
use Rattle.zab_broadcast.specs.declared.syncs.Caught.{Caught}
use Rattle.zab_model.specs.declared.event.Moved.{Moved}
use Rattle.zk_machine.specs.declared.change.ChangeKind.{ChangeKind}
use Rattle.zk_machine.specs.declared.change.ChangeKind.TheVariants as kinds
use Rattle.zk_request_syntax.specs.ReplyLines.{reply_text}
use Rattle.zk_model.specs.declared.answer.Answer.{Answer}
use Rattle.zk_model.specs.declared.answer.Answer.TheVariants.{Moved as HasMoved, Looked}
use Rattle.zk_model.specs.declared.answer.Answered.{Answered}
use Rattle.zk_model.specs.declared.fault.EnsembleFault.{EnsembleFault}
use Rattle.zk_model.specs.declared.fault.EnsembleFault.TheVariants as faults
use Rattle.zk_listing.specs.Reports.{line, tree_report}
use Rattle.zk_format.specs.Listings.{line_of}
use Rattle.zk_format.specs.Reports.{result_line}
use Rattle.zk_format.specs.Spelling.{sixteen_digits, id_digits, quoted}
use Rattle.zk_table.specs.States.{State}
use Rattle.zk_table.specs.declared.txn.Txn.{Txn}
use Rattle.zk_watch.specs.declared.watch.Fired.{Fired}

-- ---- the answer to an event

-- `n` numbers from the first on, each after a space
abbrev pub numbers_text : ℕ → ℕ → List ℕ
numbers_text first zero = []
numbers_text first (suc count) = numbers_text first count ++ 32 ∷ decimal (first + count)

-- the numbers of the messages that were sent
abbrev pub moved_text : Moved → List ℕ
moved_text moved = codes "ok" ++ numbers_text moved.first moved.count

-- the number of an error
abbrev pub fault_text : EnsembleFault → List ℕ
fault_text (faults.Behind seen at) = codes "E1 " ++ id_digits seen ++ 32 ∷ id_digits at
fault_text faults.NoServer = codes "E2"
fault_text faults.NoMessage = codes "E3"
fault_text faults.Down = codes "E4"
fault_text faults.NotDown = codes "E5"
fault_text faults.NotServing = codes "E6"
fault_text faults.DuplicateCall = codes "E7"
fault_text faults.EpochFull = codes "E8"
fault_text faults.NoMemory = codes "E9"
fault_text (faults.Died number) = codes "E10 " ++ decimal number

abbrev pub told_text : Result Answer EnsembleFault → List ℕ
told_text (Ok (HasMoved moved)) = moved_text moved
told_text (Ok (Looked reply)) = reply_text reply
told_text (Err fault) = fault_text fault

-- ---- reports: the number of their lines, and the lines

abbrev pub lines_line : ℕ → List ℕ
lines_line count = line (codes "lines " ++ decimal count)

-- transactions, as a listing
abbrev pub listing_report : List Txn → List ℕ
listing_report txns = lines_line (length txns) ++ flat_map line_of txns

-- a delivered entry's tag, and its result
abbrev pub answer_line : Answered → List ℕ
answer_line answered = line (decimal answered.tag ++ 32 ∷ result_line answered.result)

abbrev pub answers_report : List Answered → List ℕ
answers_report answers = lines_line (length answers) ++ flat_map answer_line answers

-- a completed sync's tag, and its length
abbrev pub sync_line : Caught → List ℕ
sync_line it = line (decimal it.tag ++ 32 ∷ decimal it.length)

abbrev pub syncs_report : List Caught → List ℕ
syncs_report syncs = lines_line (length syncs) ++ flat_map sync_line syncs

-- ZooKeeper Programmer's Guide, "Semantics of Watches"; the numbers are those of its kinds of
-- events
abbrev pub kind_text : ChangeKind → List ℕ
kind_text kinds.Created = codes "1"
kind_text kinds.Deleted = codes "2"
kind_text kinds.DataChanged = codes "3"
kind_text kinds.ChildrenChanged = codes "4"

-- the session, the kind of the event, and the path
abbrev pub event_line : Fired → List ℕ
event_line fired = line (sixteen_digits fired.session ++ codes " event " ++ kind_text fired.kind ++ 32 ∷ quoted fired.path)

abbrev pub events_report : List Fired → List ℕ
events_report fired = lines_line (length fired) ++ flat_map event_line fired

-- the last transaction, a line for each open session, and one for each node
abbrev pub tree_lines : State → ℕ
tree_lines state = 1 + length (entries state.sessions) + length (entries state.nodes)

abbrev pub counted_tree : State → List ℕ
counted_tree state = lines_line (tree_lines state) ++ tree_report state
