-- Parts of a multi: `zookeeper.jute`, `MultiTxn`. If the server rejected a part, the log has an
-- error in its place. The result of a part that is not applied is this project's own rule.
use Rattle.std.specs.Prelude.{ℕ, ℤ, List, Bool, true, false, Option, Some, None}
use Rattle.zk_table.specs.declared.sub.Sub.{Sub}
use Rattle.zk_table.specs.declared.sub.Sub.TheVariants.{Create, Delete, SetData, Check, Error}

abbrev pub is_error : Sub → Bool
is_error (Create path content acl ephemeral count) = false
is_error (Delete path) = false
is_error (SetData path content version) = false
is_error (Check path version) = false
is_error (Error code) = true

-- the path that a part names
abbrev pub path_of : Sub → Option (List ℕ)
path_of (Create path content acl ephemeral count) = Some path
path_of (Delete path) = Some path
path_of (SetData path content version) = Some path
path_of (Check path version) = Some path
path_of (Error code) = None

-- the code of an error; for any other part, the given code
abbrev pub code_of : ℤ → Sub → ℤ
code_of code (Create path content acl ephemeral count) = code
code_of code (Delete path) = code
code_of code (SetData path content version) = code
code_of code (Check path version) = code
code_of code (Error own) = own
