use Rattle.std.proofs.Common.{◌≡◌, ◌∷◌, ◌++◌, [], rules, append_assoc}
use Rattle.std.specs.String.{string_bytes}
use Rattle.zk_format.specs.Spelling.{quoted, content_text, acl_text, stat_text}
use Rattle.zk_format.proofs.report.spell_node_line.Goals as goal

pub returns : goal.returns
returns c =
    let node = c.args.node.now in
    let path : string_bytes c.spell_quoted.new.line ≡ string_bytes c.args.line.now ++ quoted c.args.path.now = search rules in
    let space : string_bytes c.push.new.self ≡ string_bytes c.spell_quoted.new.line ++ 32 ∷ [] = search rules in
    let content : string_bytes c.spell_content.new.line ≡ string_bytes c.push.new.self ++ content_text node.content = search rules in
    let gap : string_bytes c.push-2.new.self ≡ string_bytes c.spell_content.new.line ++ 32 ∷ [] = search rules in
    let acl : string_bytes c.spell_acl.new.line ≡ string_bytes c.push-2.new.self ++ acl_text node.acl = search rules in
    let blank : string_bytes c.push-3.new.self ≡ string_bytes c.spell_acl.new.line ++ 32 ∷ [] = search rules in
    let stat : string_bytes c.spell_stat.new.line ≡ string_bytes c.push-3.new.self ++ stat_text c.args.stat.now = search rules in
    rw (stat, blank, acl, gap, content, space, path) (simp append_assoc)
