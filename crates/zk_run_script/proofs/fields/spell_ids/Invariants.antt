-- The identities so far follow their number.
use Rattle.std.proofs.Common.{◌≡◌, ◌∷◌, ◌++◌, length, take}
use Rattle.std.specs.Fmt.{decimal}
use Rattle.std.specs.List.{flat_map}
use Rattle.std.specs.String.{string_bytes}
use Rattle.zk_request_syntax.specs.RequestLines.{id_text}
use Rattle.zk_run_script.proofs.fields.spell_ids.Given as goal

abbrev pub invariant-loop-id : goal.invariant-loop-id
invariant-loop-id l = string_bytes l.line ≡ string_bytes l.fn.line ++ 32 ∷ (decimal (length l.entries) ++ flat_map id_text (take l.id-index l.entries))
