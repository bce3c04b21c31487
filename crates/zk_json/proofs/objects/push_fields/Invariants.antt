-- The fields so far, and the remaining ones.
use Rattle.std.proofs.Common.{◌≡◌, ◌++◌, drop, map}
use Rattle.zk_json.specs.Json.{fields_tokens}
use Rattle.zk_json.specs.Objects.{field_of}
use Rattle.zk_json.proofs.objects.push_fields.Given as goal

abbrev pub invariant-loop-name : goal.invariant-loop-name
invariant-loop-name l = l.json.writer.tokens ++ fields_tokens (map field_of (drop l.name-index l.fn.fields)) ≡ l.fn.json.writer.tokens ++ fields_tokens (map field_of l.fn.fields)
