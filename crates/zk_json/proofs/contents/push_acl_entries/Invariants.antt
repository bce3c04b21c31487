-- The entries so far.
use Rattle.std.proofs.Common.{◌≡◌, ◌++◌, take}
use Rattle.std.specs.List.{flat_map}
use Rattle.json.specs.Tree.{json_tokens}
use Rattle.zk_json.specs.Json.{acl_entry_of}
use Rattle.zk_json.proofs.contents.push_acl_entries.Given as goal

abbrev pub invariant-loop-entry : goal.invariant-loop-entry
invariant-loop-entry l = l.json.writer.tokens ≡ l.fn.json.writer.tokens ++ flat_map (λ entry. json_tokens (acl_entry_of entry)) (take l.entry-index l.entries)
