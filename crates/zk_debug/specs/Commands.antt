-- The commands of a debug script and their lines: definitions of this project.
use Rattle.std.specs.Prelude.{◌≡◌, ◌≢◌, ◌<◌, ◌^◌, ℕ, List, ◌++◌, Result, Ok, Err, FitsSigned, codes}
use Rattle.std.specs.Fmt.{decimal}
use Rattle.std.specs.Int.{w64}
use Rattle.zk_debug.specs.declared.breakpoint.Breakpoint.{Breakpoint}
use Rattle.zk_debug.specs.declared.breakpoint.Breakpoint.TheVariants as breakpoints
use Rattle.zk_debug.specs.declared.breakpoint.Kind.{Kind}
use Rattle.zk_debug.specs.declared.breakpoint.Kind.TheVariants as kinds
use Rattle.zk_format.specs.Listings.{IsListedPath}
use Rattle.zk_format.specs.Spelling.{id_digits, quoted}
use Rattle.zk_debug.specs.declared.command.Command.{Command}
use Rattle.zk_debug.specs.declared.command.Command.TheVariants as commands
use Rattle.zk_debug.specs.declared.command_fault.CommandFault.{CommandFault}
use Rattle.zk_debug.specs.declared.command_fault.CommandFault.TheVariants as faults

-- a listing's word for a kind of transactions
abbrev pub kind_text : Kind → List ℕ
kind_text kinds.CreateOld = codes "create0"
kind_text kinds.Create = codes "create"
kind_text kinds.Delete = codes "delete"
kind_text kinds.SetData = codes "setData"
kind_text kinds.SetAcl = codes "setACL"
kind_text kinds.OpenSession = codes "createSession"
kind_text kinds.CloseSession = codes "closeSession"
kind_text kinds.Error = codes "error"
kind_text kinds.Multi = codes "multi"

abbrev pub breakpoint_text : Breakpoint → List ℕ
breakpoint_text (breakpoints.At zxid) = codes "at " ++ id_digits zxid
breakpoint_text (breakpoints.Path path) = codes "path " ++ quoted path
breakpoint_text (breakpoints.Prefix path) = codes "prefix " ++ quoted path
breakpoint_text (breakpoints.Session session) = codes "session " ++ id_digits session
breakpoint_text (breakpoints.Kind kind) = codes "kind " ++ kind_text kind
breakpoint_text breakpoints.Error = codes "error"

-- a command's line, without a newline
abbrev pub command_text : Command → List ℕ
command_text commands.Step = codes "step"
command_text (commands.StepBy count) = codes "step " ++ decimal count
command_text commands.Back = codes "back"
command_text commands.Run = codes "run"
command_text commands.RunBack = codes "runback"
command_text (commands.Goto zxid) = codes "goto " ++ id_digits zxid
command_text commands.Tree = codes "tree"
command_text (commands.Node path) = codes "node " ++ quoted path
command_text commands.Last = codes "last"
command_text (commands.Break breakpoint) = codes "break " ++ breakpoint_text breakpoint
command_text (commands.Clear number) = codes "clear " ++ decimal number
command_text commands.Reset = codes "reset"

-- the numbers are in the ranges of their fields, and the paths are paths; a breakpoint on all below a
-- path, and a number of steps, have lines in a session alone
abbrev pub IsBreakpoint : Breakpoint → Type 0
IsBreakpoint (breakpoints.At zxid) = FitsSigned w64 zxid
IsBreakpoint (breakpoints.Path path) = IsListedPath path
IsBreakpoint (breakpoints.Prefix path) = ⊥
IsBreakpoint (breakpoints.Session session) = FitsSigned w64 session
IsBreakpoint (breakpoints.Kind kind) = Unit {0}
IsBreakpoint breakpoints.Error = Unit {0}

abbrev pub IsCommand : Command → Type 0
IsCommand (commands.StepBy count) = ⊥
IsCommand (commands.Goto zxid) = FitsSigned w64 zxid
IsCommand (commands.Node path) = IsListedPath path
IsCommand (commands.Break breakpoint) = IsBreakpoint breakpoint
IsCommand (commands.Clear number) = number < 2 ^ 32
IsCommand command = Unit {0}

-- the line is this command
pub record Says (line : List ℕ) (command : Command) : Type 0 where
  pub fits : IsCommand command
  pub spelled : line ≡ command_text command

abbrev pub SaysNothing : List ℕ → Type 0
SaysNothing line = (command : Command) → ¬ Says line command

-- a line is read as its command, or rejected if it is none
abbrev pub ReadsCommand : List ℕ → Result Command CommandFault → Type 0
ReadsCommand line (Ok command) = Says line command × ((other : Command) → Says line other → other ≡ command)
ReadsCommand line (Err faults.Malformed) = SaysNothing line
ReadsCommand line (Err faults.NoMemory) = Unit {0}
