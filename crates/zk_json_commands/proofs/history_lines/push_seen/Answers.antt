use Rattle.std.proofs.Common.{ℕ, List, map, subst, ap, ◌∙◌}
use Rattle.std.proofs.lemmas.Result.{on_ok_weaker}
use Rattle.std.specs.Borrow.{Bor}
use Rattle.std.specs.List.{filter}
use Rattle.std.specs.String.{string_bytes}
use Rattle.zk_incidents.specs.Within.{is_within}
use Rattle.zk_json_commands.specs.Histories.{AppendsLineBy}
use Rattle.zk_json_commands.proofs.history_lines.push_seen.Goals as goal

pub returns : goal.returns
returns c =
    let texts = map (λ (path : Bor (List ℕ)). path.now) in
    let seen = ap texts c.as_slice-2.ensures.value ∙ c.in_ok-seen.ensures ∙ ap (filter (is_within (string_bytes c.args.scope.now.root) c.args.scope.now.below)) (ap texts c.as_slice.ensures.value ∙ c.in_ok-touched.ensures) in
    on_ok_weaker c.push_line.result (λ a. subst (λ (paths : List (List ℕ)). AppendsLineBy paths c.args.newer.now (string_bytes c.args.text.now) (string_bytes c.push_line.new.text)) seen a) c.push_line.ensures
