use Rattle.std.proofs.Common.{ℕ, List, map, ap, ◌∙◌}
use Rattle.std.specs.Borrow.{Bor}
use Rattle.std.specs.String.{string_bytes}
use Rattle.zk_incidents.specs.Owners.{touched}
use Rattle.zk_session_commands.proofs.Lived.{own_line}
use Rattle.zk_session_commands.proofs.session_life.push_own_line.Goals as goal

pub returns : goal.returns
returns c =
    let texts = map (λ (path : Bor (List ℕ)). path.now) in
    own_line c.push_formed_line.result c.args.form c.args.newer.now (texts c.as_slice.result.now) (touched c.args.owners.now c.args.newer.now) (string_bytes c.args.text.now) (string_bytes c.push_formed_line.new.text)
    (ap texts c.as_slice.ensures.value ∙ c.in_ok-paths.ensures) c.push_formed_line.ensures
