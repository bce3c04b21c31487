use Rattle.std.proofs.Common.{◌≡◌, ◌++◌, ◌∙◌, w64, ap}
use Rattle.std.proofs.lemmas.Int.{to_z-of_z}
use Rattle.std.specs.Prelude.{codes}
use Rattle.std.specs.String.{string_bytes}
use Rattle.zk_directory_state.proofs.Noticing.{unproved_line}
use Rattle.zk_format.specs.Spelling.{id_digits}
use Rattle.zk_directory_state.proofs.notices.push_joint_line.Goals as goal

pub returns : goal.returns
returns c =
    let old = string_bytes c.args.text.now in
    let middle = string_bytes c.push_zxid.new.text in
    let new = string_bytes c.push_last_zxid.new.text in
    let first : middle ≡ old ++ (codes "zk: unproved " ++ id_digits c.args.last) =
    c.in_ok-push_zxid.ensures ∙ ap (λ z. old ++ (codes "zk: unproved " ++ id_digits z)) (to_z-of_z w64 c.args.last c.ranges.last)
    in
    let rest : new ≡ middle ++ (codes " " ++ id_digits c.args.next ++ codes "\n") =
    c.in_ok-push_last_zxid.ensures ∙ ap (λ z. middle ++ (codes " " ++ id_digits z ++ codes "\n")) (to_z-of_z w64 c.args.next c.ranges.next)
    in
    unproved_line old middle new c.args.last c.args.next first rest
