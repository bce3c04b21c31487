-- The lines of reports on a tree and on results of transactions. They are defined without the
-- newline.
use Rattle.std.specs.Prelude.{ℕ, ℤ, List, [], ◌∷◌, ◌++◌, codes, Option, Some, None}
use Rattle.std.specs.Fmt.{signed_decimal}
use Rattle.std.specs.List.{flat_map}
use Rattle.zk_acl.specs.declared.stat.Stat.{Stat}
use Rattle.zk_table.specs.declared.node.Node.{Node}
use Rattle.zk_table.specs.declared.result.PartResult.{PartResult}
use Rattle.zk_table.specs.declared.result.TxnResult.{TxnResult}
use Rattle.zk_format.specs.Spelling.{quoted, content_text, acl_text, stat_text, id_digits}

-- a node: its path, content, access control list and stat
abbrev pub node_line : List ℕ → Node → Stat → List ℕ
node_line path node stat = quoted path ++ 32 ∷ content_text node.content ++ 32 ∷ acl_text node.acl ++ 32 ∷ stat_text stat

-- a path or a stat; "-" for None
abbrev pub path_or_dash : Option (List ℕ) → List ℕ
path_or_dash None = 45 ∷ []
path_or_dash (Some path) = quoted path

abbrev pub stat_or_dash : Option Stat → List ℕ
stat_or_dash None = 45 ∷ []
stat_or_dash (Some stat) = stat_text stat

-- a result: 0 or the error code, the path and the stat
abbrev pub answer_text : ℤ → Option (List ℕ) → Option Stat → List ℕ
answer_text err path stat = signed_decimal err ++ 32 ∷ path_or_dash path ++ 32 ∷ stat_or_dash stat

-- the result of a multi's part, after its separator
abbrev pub part_answer : PartResult → List ℕ
part_answer part = codes " ; " ++ answer_text part.err part.path part.stat

-- the result of a transaction, and then that of each part of a multi
abbrev pub result_line : TxnResult → List ℕ
result_line result =
    codes "result " ++ id_digits result.zxid ++ 32 ∷ answer_text result.err result.path result.stat ++ flat_map part_answer result.parts
