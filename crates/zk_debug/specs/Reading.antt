-- Reading a line, word by word. A reading returns None for any other text.
use Rattle.std.specs.Prelude.{◌≡◌, ◌^◌, ◌==◌, nat_lt, ℕ, ℤ, pos, negsuc, List, [], ◌∷◌, if◌then◌else◌, codes, Option, Some, None, Result, Ok, Err}
use Rattle.std.specs.Int.{w64}
use Rattle.std.specs.Str.{bytes_eq}
use Rattle.zk_debug.specs.declared.breakpoint.Breakpoint.{Breakpoint}
use Rattle.zk_debug.specs.declared.breakpoint.Breakpoint.TheVariants as breakpoints
use Rattle.zk_debug.specs.declared.breakpoint.Kind.{Kind}
use Rattle.zk_debug.specs.declared.breakpoint.Kind.TheVariants as kinds
use Rattle.zk_listing.specs.Reading.{◌>>=◌, id_at, int_at, path_at}
use Rattle.zk_listing.specs.declared.list_fault.ListCause.{ListCause}
use Rattle.zk_listing.specs.declared.list_fault.ListCause.TheVariants as causes
use Rattle.zk_debug.specs.declared.command.Command.{Command}
use Rattle.zk_debug.specs.declared.command.Command.TheVariants as commands
use Rattle.zk_debug.specs.declared.command_fault.CommandFault.{CommandFault}
use Rattle.zk_debug.specs.declared.command_fault.CommandFault.TheVariants as faults

-- a field's fault, as a line's
abbrev pub fault_of : ListCause → CommandFault
fault_of causes.NoMemory = faults.NoMemory
fault_of cause = faults.Malformed

-- the result of a reader: that of its reading, except for an allocation failure
abbrev pub Makes : {X : Type 0} → Result X CommandFault → Option X → Type 0
Makes (Ok x) read = read ≡ Some x
Makes (Err faults.Malformed) read = read ≡ None
Makes (Err faults.NoMemory) read = Unit {0}

-- ---- fields that are the rest of their line

abbrev pub with_rest : {X : Type 0} → X → List ℕ → Option X
with_rest x [] = Some x
with_rest x (b ∷ bs) = None

-- what is read, if nothing follows it
abbrev pub whole : {X : Type 0} → Option (X × List ℕ) → Option X
whole read = read >>= λ x. with_rest x.0 x.1

-- a number of 32 bits
abbrev pub number_of : ℤ → Option ℕ
number_of (pos n) = if nat_lt n (2 ^ 32) then Some n else None
number_of (negsuc n) = None

unfoldable pub number_from : List ℕ → Option ℕ
number_from field = whole (int_at w64 field) >>= number_of

-- ---- words

-- the text before the first space, and the text after it
unfoldable pub word_in : List ℕ → List ℕ
word_in [] = []
word_in (b ∷ bs) = if b == 32 then [] else b ∷ word_in bs

unfoldable pub field_in : List ℕ → Option (List ℕ)
field_in [] = None
field_in (b ∷ bs) = if b == 32 then Some bs else field_in bs

-- the value of a word
abbrev pub looked_up : {X : Type 0} → List ℕ → List (List ℕ × X) → Option X
looked_up word [] = None
looked_up word (e ∷ es) = if bytes_eq word e.0 then Some e.1 else looked_up word es

-- ---- kinds and breakpoints

abbrev pub kind_words : List (List ℕ × Kind)
kind_words =
    (codes "create0", kinds.CreateOld) ∷ (codes "create", kinds.Create) ∷ (codes "delete", kinds.Delete) ∷ (codes "setData", kinds.SetData) ∷ (codes "setACL", kinds.SetAcl) ∷ (codes "createSession", kinds.OpenSession) ∷ (codes "closeSession", kinds.CloseSession) ∷ (codes "error", kinds.Error) ∷ (codes "multi", kinds.Multi) ∷ []

unfoldable pub kind_from : List ℕ → Option Kind
kind_from word = looked_up word kind_words

-- a field's value, converted
abbrev pub made : {X Y : Type 0} → (X → Y) → Option X → Option Y
made make read = read >>= λ x. Some (make x)

abbrev pub breakpoint_words : List (List ℕ × (List ℕ → Option Breakpoint))
breakpoint_words =
    (codes "at", λ field. made breakpoints.At (whole (id_at field))) ∷ (codes "path", λ field. made breakpoints.Path (whole (path_at field))) ∷ (codes "session", λ field. made breakpoints.Session (whole (id_at field))) ∷ (codes "kind", λ field. made breakpoints.Kind (kind_from field)) ∷ []

unfoldable pub breakpoint_with : List ℕ → List ℕ → Option Breakpoint
breakpoint_with word field = looked_up word breakpoint_words >>= λ read. read field

-- the text after the word, if there is any
abbrev pub breakpoint_by : List ℕ → Option (List ℕ) → Option Breakpoint
breakpoint_by word None = None
breakpoint_by word (Some field) = breakpoint_with word field

unfoldable pub breakpoint_from : List ℕ → Option Breakpoint
breakpoint_from text = if bytes_eq text (codes "error") then Some breakpoints.Error else breakpoint_by (word_in text) (field_in text)

-- ---- commands

abbrev pub alone_words : List (List ℕ × Command)
alone_words =
    (codes "step", commands.Step) ∷ (codes "back", commands.Back) ∷ (codes "run", commands.Run) ∷ (codes "runback", commands.RunBack) ∷ (codes "tree", commands.Tree) ∷ (codes "last", commands.Last) ∷ (codes "reset", commands.Reset) ∷ []

unfoldable pub alone_from : List ℕ → Option Command
alone_from word = looked_up word alone_words

abbrev pub with_words : List (List ℕ × (List ℕ → Option Command))
with_words =
    (codes "goto", λ field. made commands.Goto (whole (id_at field))) ∷ (codes "node", λ field. made commands.Node (whole (path_at field))) ∷ (codes "break", λ field. made commands.Break (breakpoint_from field)) ∷ (codes "clear", λ field. made commands.Clear (number_from field)) ∷ []

unfoldable pub with_from : List ℕ → List ℕ → Option Command
with_from word field = looked_up word with_words >>= λ read. read field

abbrev pub command_by : List ℕ → Option (List ℕ) → Option Command
command_by word None = alone_from word
command_by word (Some field) = with_from word field

unfoldable pub command_from : List ℕ → Option Command
command_from line = command_by (word_in line) (field_in line)
