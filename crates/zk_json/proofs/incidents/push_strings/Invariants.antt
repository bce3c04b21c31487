-- The texts so far, and the remaining ones.
use Rattle.std.proofs.Common.{◌≡◌, ◌++◌, drop, map}
use Rattle.std.specs.List.{flat_map}
use Rattle.json.specs.Json.{string}
use Rattle.json.specs.Tree.{json_tokens}
use Rattle.zk_json.proofs.incidents.push_strings.Given as goal

abbrev pub invariant-loop-text : goal.invariant-loop-text
invariant-loop-text l = l.json.writer.tokens ++ flat_map (λ text. json_tokens (string text)) (map (λ text. text.now) (drop l.text-index l.fn.texts)) ≡ l.fn.json.writer.tokens ++ flat_map (λ text. json_tokens (string text)) (map (λ text. text.now) l.fn.texts)
