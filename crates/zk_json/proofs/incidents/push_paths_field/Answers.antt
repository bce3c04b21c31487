use Rattle.std.specs.Prelude.{codes, map}
use Rattle.json.specs.Json.{string}
use Rattle.zk_json.proofs.Tokens.{array_added}
use Rattle.zk_json.proofs.incidents.push_paths_field.Goals as goal

pub returns : goal.returns
returns c =
    array_added string c.close_array.result _ _ _ _ _ (codes "paths") (map (λ path. path.now) c.args.paths.now) c.in_ok-push_name.ensures c.in_ok-open_array.ensures c.in_ok-push_strings.ensures c.close_array.ensures
