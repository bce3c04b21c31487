-- The output of a debugger for a command: a definition of this project.
use Rattle.std.specs.Prelude.{◌≡◌, ◌≤◌, ◌<◌, ◌+◌, ◌⊎◌, ℕ, ℤ, List, [], ◌∷◌, ◌++◌, Bool, true, false, if◌then◌else◌, length, Option, Some, None, Result, Ok, Err, OnOk, OnErr, codes}
use Rattle.std.specs.FinMap as finite
use Rattle.std.specs.Fmt.{decimal}
use Rattle.zk_debug.specs.Debugging.{Debugging, Breakpoints, state_at, result_at, zxid_at, hit_at, moved, broken, steps_to, up_to, IsRunTo, IsRunBackTo, RefusesOn, RefusesBack, RefusesAny, RefusesSet}
use Rattle.zk_debug.specs.declared.breakpoint.Breakpoint.{Breakpoint}
use Rattle.zk_debug.specs.declared.debug_fault.DebugFault.{DebugFault}
use Rattle.zk_debug.specs.declared.debug_fault.DebugFault.TheVariants as faults
use Rattle.zk_debug.specs.declared.stop.Stop.{Stop}
use Rattle.zk_format.specs.Reports.{node_line, result_line}
use Rattle.zk_format.specs.Spelling.{id_digits}
use Rattle.zk_path.specs.declared.memory.NoMemory.{NoMemory}
use Rattle.zk_table.specs.declared.node.Node.{Node}
use Rattle.zk_table.specs.declared.result.TxnResult.{TxnResult}
use Rattle.zk_table.specs.States.{NodeMap, State, stat_of}
use Rattle.zk_listing.specs.Reports.{line, tree_report}
use Rattle.zk_debug.specs.declared.command.Command.{Command}
use Rattle.zk_debug.specs.declared.command.Command.TheVariants as commands

-- ---- lines

-- the lowest number of a breakpoint that the place matches
abbrev pub hit_text : Option ℕ → List ℕ
hit_text None = []
hit_text (Some number) = codes " hit " ++ decimal number

-- the debugger's place
abbrev pub place_text : ℕ → ℤ → Option ℕ → List ℕ
place_text place zxid hit = codes "place " ++ decimal place ++ 32 ∷ id_digits zxid ++ hit_text hit

abbrev pub fault_text : DebugFault → List ℕ
fault_text faults.AtEnd = codes "B1"
fault_text faults.AtStart = codes "B2"
fault_text faults.NoBreakpoint = codes "B3"
fault_text faults.NoMemory = codes "B4"
fault_text faults.Failed = codes "B5"
fault_text faults.Full = codes "B6"

abbrev pub found_text : NodeMap → List ℕ → Option Node → List ℕ
found_text nodes path None = codes "none"
found_text nodes path (Some node) = node_line path node (stat_of nodes path node)

-- the node at a path, if there is one
abbrev pub node_text : NodeMap → List ℕ → List ℕ
node_text nodes path = found_text nodes path (finite.get nodes path)

-- the result of a transaction, if there is one
abbrev pub result_text : Option TxnResult → List ℕ
result_text None = codes "none"
result_text (Some result) = result_line result

-- the result of a call of the debugger, or its fault
abbrev pub move_text : ℤ → Result Stop DebugFault → List ℕ
move_text zxid (Ok stop) = place_text stop.place zxid stop.hit
move_text zxid (Err fault) = fault_text fault

abbrev pub set_text : Result ℕ DebugFault → List ℕ
set_text (Ok number) = codes "break " ++ decimal number
set_text (Err fault) = fault_text fault

abbrev pub done_text : List ℕ → Result (Unit {0}) DebugFault → List ℕ
done_text done (Ok x) = done
done_text done (Err fault) = fault_text fault

-- ---- output, with newlines

-- a fault, by its number
pub record IsRefused (Refuses : DebugFault → Debugging → Type 0) (answer : List ℕ) (new : Debugging) : Type 0 where
  pub fault : DebugFault
  pub refuses : Refuses fault new
  pub told : answer ≡ line (fault_text fault)

-- a move ended at such a place, and prints it
pub record Goes (IsEnd : ℕ → Type 0) (old : Debugging) (answer : List ℕ) (new : Debugging) : Type 0 where
  pub to : ℕ
  pub ran : old.failed ≡ false
  pub within : to ≤ length old.txns
  pub ends : IsEnd to
  pub goes : new ≡ moved old to
  pub told : answer ≡ line (place_text to (zxid_at old.base old.txns to) (hit_at old to))

-- prints what is at the place, unless the debugger has failed
abbrev pub seen_by : Debugging → List ℕ → List ℕ
seen_by d seen = if d.failed then line (fault_text faults.Failed) else seen

abbrev pub Looks : List ℕ → Debugging → List ℕ → Debugging → Type 0
Looks seen old answer new = (new ≡ old) × (answer ≡ seen_by old seen)

-- a breakpoint is set, and its number printed
pub record Sets (breakpoint : Breakpoint) (old : Debugging) (answer : List ℕ) (new : Debugging) : Type 0 where
  pub number : ℕ
  pub next : number ≡ old.breakpoints.numbered + 1
  pub room : old.breakpoints.numbered < 65535
  pub stands : new ≡ record old { breakpoints = record { standing = finite.insert old.breakpoints.standing number breakpoint; numbered = number } }
  pub told : answer ≡ line (codes "break " ++ decimal number)

abbrev pub RefusesToSet : Debugging → DebugFault → Debugging → Type 0
RefusesToSet old fault new = RefusesSet old fault × (new ≡ old)

-- whether a breakpoint with the number was set
abbrev pub Clears : ℕ → Debugging → List ℕ → Debugging → Bool → Type 0
Clears number old answer new true = (new ≡ record old { breakpoints = record old.breakpoints { standing = finite.remove old.breakpoints.standing number } }) × (answer ≡ line (codes "ok"))
Clears number old answer new false = (new ≡ old) × (answer ≡ line (fault_text faults.NoBreakpoint))

abbrev pub Resets : Debugging → List ℕ → Debugging → Type 0
Resets old answer new =
    (new ≡ record old { place = 0; failed = false }) × (answer ≡ line (place_text 0 old.base.last None))

abbrev pub RefusesReset : Debugging → DebugFault → Debugging → Type 0
RefusesReset old fault new = (fault ≡ faults.NoMemory) × (new ≡ broken old)

-- the output for a command, and the debugger after it
abbrev pub Answers : Debugging → Command → List ℕ → Debugging → Type 0
Answers old commands.Step answer new = Goes (λ to. to ≡ old.place + 1) old answer new ⊎ IsRefused (RefusesOn old) answer new
Answers old (commands.StepBy count) answer new = Goes (λ to. to ≡ steps_to old count) old answer new ⊎ IsRefused (RefusesOn old) answer new
Answers old commands.Back answer new = Goes (λ to. to + 1 ≡ old.place) old answer new ⊎ IsRefused (RefusesBack old) answer new
Answers old commands.Run answer new = Goes (IsRunTo old) old answer new ⊎ IsRefused (RefusesOn old) answer new
Answers old commands.RunBack answer new = Goes (IsRunBackTo old) old answer new ⊎ IsRefused (RefusesBack old) answer new
Answers old (commands.Goto zxid) answer new = Goes (λ to. to ≡ length (up_to zxid old.txns)) old answer new ⊎ IsRefused (RefusesAny old) answer new
Answers old commands.Tree answer new = Looks (tree_report (state_at old.base old.txns old.place)) old answer new
Answers old (commands.Node path) answer new = Looks (line (node_text (state_at old.base old.txns old.place).nodes path)) old answer new
Answers old commands.Last answer new = Looks (line (result_text (result_at old.base old.txns old.place))) old answer new
Answers old (commands.Break breakpoint) answer new = Sets breakpoint old answer new ⊎ IsRefused (RefusesToSet old) answer new
Answers old (commands.Clear number) answer new = Clears number old answer new (finite.contains_key old.breakpoints.standing number)
Answers old commands.Reset answer new = Resets old answer new ⊎ IsRefused (RefusesReset old) answer new

-- the debugger executes a command and appends its output, unless an allocation for the output fails
pub record Obeys (old : Debugging) (command : Command) (before : List ℕ) (result : Result (Unit {0}) NoMemory) (after : List ℕ) (new : Debugging) : Type 0 where
  pub answer : List ℕ
  pub answers : Answers old command answer new
  pub told : OnOk result (after ≡ before ++ answer)
