use Rattle.std.proofs.Common.{◌≡◌, ◌∷◌, ◌++◌, rules}
use Rattle.std.specs.Prelude.{codes}
use Rattle.std.specs.String.{string_bytes}
use Rattle.zk_format.specs.Spelling.{acl_text, content_text, quoted}
use Rattle.zk_request_syntax.specs.RequestLines.{flag_text}
use Rattle.zk_run_script.specs.Lines.{is_ephemeral, is_sequential, node_text}
use Rattle.zk_run_script.proofs.Pieces.{create_pieces}
use Rattle.zk_run_script.proofs.request.spell_create.Goals as goal

pub returns : goal.returns
returns c =
    let word : string_bytes c.push_str.new.self ≡ string_bytes c.args.line.now ++ codes "create" = search rules in
    let one : string_bytes c.spell_flag.new.line ≡ string_bytes c.push_str.new.self ++ flag_text (is_sequential c.args.flags) (codes "-s") = search rules in
    let other : string_bytes c.spell_flag-2.new.line ≡ string_bytes c.spell_flag.new.line ++ flag_text (is_ephemeral c.args.flags) (codes "-e") = search rules in
    let node : string_bytes c.spell_node.new.line ≡ string_bytes c.spell_flag-2.new.line ++ node_text c.args.path.now c.args.content.now c.args.acl.now = search rules in
    rw (node, other, one, word) (create_pieces (string_bytes c.args.line.now) (codes "create") (flag_text (is_sequential c.args.flags) (codes "-s")) (flag_text (is_ephemeral c.args.flags) (codes "-e"))
    (32 ∷ quoted c.args.path.now) (32 ∷ content_text c.args.content.now) (32 ∷ acl_text c.args.acl.now))
