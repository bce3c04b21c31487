-- The messages of a session: definitions of this project.
use Rattle.std.specs.Prelude.{ℕ, List, ◌++◌, if◌then◌else◌, codes}
use Rattle.std.specs.Str.{bytes_eq}
use Rattle.zk_debug.specs.Reading.{word_in}

-- what was expected, by the first word of the line
unfoldable pub expected_for : List ℕ → List ℕ
expected_for word = if bytes_eq word (codes "goto") then codes "goto ZXID, of sixteen lower-case hexadecimal digits, or 0x and fewer" else (if bytes_eq word (codes "node") then codes "node PATH, in double quotes if it has a space" else (if bytes_eq word (codes "break") then codes "break at ZXID, path PATH, prefix PATH, session ID, kind WORD or error" else (if bytes_eq word (codes "clear") then codes "clear N, the number of a breakpoint" else (if bytes_eq word (codes "list") then codes "list or list N, a number of lines" else (if bytes_eq word (codes "step") then codes "step or step N, a number of places" else (if bytes_eq word (codes "tree") then codes "tree or tree PATH" else (codes "a command; help lists them")))))))

-- a line that is not a command
abbrev pub told_line : List ℕ → List ℕ
told_line line = codes "? " ++ expected_for (word_in line) ++ codes "\n"

-- a line that is not UTF-8
abbrev pub told_bytes : List ℕ
told_bytes = codes "? a line in UTF-8\n"

-- the debugger has failed
abbrev pub failed_line : List ℕ
failed_line = codes "an earlier command ran out of memory: reset (B5)\n"

abbrev pub help_text : List ℕ
help_text = codes "Lines of a session, one command each; an empty line repeats the last one:\n  s, step [N]         one place up, or N\n  b, back             one place down\n  r, run              up to the first place that matches a breakpoint, or to the end\n  rb, runback         down to the last one that does, or to the start\n  g, goto ZXID        to the place after all transactions up to this zxid\n  tree [PATH]         prints the tree at the place, or the nodes at and below PATH\n  node PATH           prints one node of it\n  last                prints the result of the transaction just applied\n  list [N]            prints the log around the place, marked >: N lines on each side, or 5\n  diff                prints what the last move changed: - removed, + added, < before, > after\n  diff last           prints what the transaction just applied changed\n  break at ZXID       sets a breakpoint on a zxid\n  break path PATH     on a path that a transaction or a part names, or a closed session deletes\n  break prefix PATH   on such a path and all below it\n  break session ID    on a session\n  break kind WORD     on a kind of transaction\n  break error         on a result whose code is not 0\n  info breaks         prints the breakpoints\n  clear N             removes breakpoint N\n  reset               back to the start; breakpoints stay\n  help                these lines\n  quit                ends the session, as the end of input does\n\nWords of a kind:\n  create0 create delete setData setACL createSession closeSession error multi\n\nA ZXID and an ID are sixteen lower-case hexadecimal digits, or 0x and fewer. A PATH with a space, a\nquote or a backslash stands in double quotes.\n"
