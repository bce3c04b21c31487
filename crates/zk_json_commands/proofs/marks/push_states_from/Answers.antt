use Rattle.std.proofs.Common.{rules}
use Rattle.json.specs.Json.{string}
use Rattle.std.specs.String.{string_bytes}
use Rattle.zk_json_commands.specs.Verifications.{base_of}
use Rattle.zk_json_commands.proofs.WrittenReports.{stated_from}
use Rattle.zk_json_commands.proofs.marks.push_states_from.Goals as goal

pub returns-in_ok-name-in-Some : goal.returns-in_ok-name-in-Some
returns-in_ok-name-in-Some c =
    stated_from c.push_states.result (base_of c.args.snapshot) (string c.as_str.result.now) c.args.exact c.args.last _ c.args.digests (string_bytes c.args.text.now) (string_bytes c.push_states.new.text) c.push_states.ensures
    (search rules) (search rules)
