-- Replies to a client, as the text of a line. This project's own; the fields are those of
-- `zk_format`.
use Rattle.std.specs.Prelude.{ℕ, ℤ, List, ◌∷◌, ◌++◌, length, codes}
use Rattle.std.specs.Fmt.{decimal, signed_decimal}
use Rattle.std.specs.List.{flat_map}
use Rattle.zk_format.specs.Spelling.{quoted, content_text, acl_text, stat_text}
use Rattle.zk_table.specs.declared.read.ReadReply.{ReadReply}
use Rattle.zk_table.specs.declared.read.ReadReply.TheVariants as replies

-- an error, by its code
unfoldable pub refusal_text : ℤ → List ℕ
refusal_text code = codes "err " ++ signed_decimal code

-- a child's name, after a space
abbrev pub name_text : List ℕ → List ℕ
name_text name = 32 ∷ quoted name

-- the number of the names, and each of them
unfoldable pub names_text : List (List ℕ) → List ℕ
names_text names = decimal (length names) ++ flat_map name_text names

-- the reply to a read
abbrev pub reply_text : ReadReply → List ℕ
reply_text (replies.Content content stat) = codes "ok " ++ content_text content ++ 32 ∷ stat_text stat
reply_text (replies.Found stat) = codes "ok " ++ stat_text stat
reply_text (replies.Children names stat) = codes "ok " ++ names_text names ++ 32 ∷ stat_text stat
reply_text (replies.AclIs acl stat) = codes "ok " ++ acl_text acl ++ 32 ∷ stat_text stat
reply_text (replies.Refused code) = refusal_text code
