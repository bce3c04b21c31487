-- The commands of a session besides those of a script: definitions of this project.
use Rattle.std.specs.Prelude.{ℕ, List, [], ◌∷◌, Option, Some, None, if◌then◌else◌, codes}
use Rattle.std.specs.Str.{bytes_eq}
use Rattle.zk_debug.specs.declared.breakpoint.Breakpoint.TheVariants as breakpoints
use Rattle.zk_debug.specs.declared.command.Command.TheVariants as commands
use Rattle.zk_debug.specs.Reading.{looked_up, made, number_from, whole, word_in, field_in}
use Rattle.zk_listing.specs.Reading.{◌>>=◌, path_at}
use Rattle.zk_commands.specs.declared.repl_command.ReplCommand.{ReplCommand}
use Rattle.zk_commands.specs.declared.repl_command.ReplCommand.TheVariants as owns

abbrev pub own_words : List (List ℕ × ReplCommand)
own_words = (codes "help", owns.Help) ∷ (codes "list", owns.Around 5) ∷ (codes "diff", owns.Diff) ∷ (codes "quit", owns.Quit) ∷ []

unfoldable pub own_alone : List ℕ → Option ReplCommand
own_alone word = looked_up word own_words

-- `break prefix PATH`
abbrev pub break_by : List ℕ → Option (List ℕ) → Option ReplCommand
break_by word None = None
break_by word (Some field) =
    if bytes_eq word (codes "prefix") then made (λ path. owns.Do (commands.Break (breakpoints.Prefix path))) (whole (path_at field)) else None

unfoldable pub own_break : List ℕ → Option ReplCommand
own_break text = break_by (word_in text) (field_in text)

abbrev pub own_if : List ℕ → ReplCommand → List ℕ → Option ReplCommand
own_if word own field = if bytes_eq field word then Some own else None

abbrev pub words_with : List (List ℕ × (List ℕ → Option ReplCommand))
words_with =
    (codes "list", λ field. made owns.Around (number_from field)) ∷ (codes "step", λ field. made (λ count. owns.Do (commands.StepBy count)) (number_from field)) ∷ (codes "tree", λ field. made owns.Subtree (whole (path_at field))) ∷ (codes "break", own_break) ∷ (codes "diff", own_if (codes "last") owns.DiffLast) ∷ (codes "info", own_if (codes "breaks") owns.Breakpoints) ∷ []

unfoldable pub own_with : List ℕ → List ℕ → Option ReplCommand
own_with word field = looked_up word words_with >>= λ read. read field

abbrev pub own_by : List ℕ → Option (List ℕ) → Option ReplCommand
own_by word None = own_alone word
own_by word (Some field) = own_with word field

-- the command of a line that is not a command of a script
unfoldable pub own_from : List ℕ → Option ReplCommand
own_from line = own_by (word_in line) (field_in line)
