-- The names so far were appended after their number.
use Rattle.std.proofs.Common.{◌≡◌, ◌++◌, take, length}
use Rattle.std.specs.Fmt.{decimal}
use Rattle.std.specs.List.{flat_map}
use Rattle.std.specs.String.{string_bytes}
use Rattle.zk_request_syntax.specs.ReplyLines.{name_text}
use Rattle.zk_request_syntax.proofs.replies.spell_names.Given as goal

abbrev pub invariant-loop-name : goal.invariant-loop-name
invariant-loop-name l =
    string_bytes l.line ≡ string_bytes l.fn.line ++ (decimal (length l.names) ++ flat_map name_text (take l.name-index l.names))
