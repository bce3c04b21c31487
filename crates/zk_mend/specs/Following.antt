-- How the owners on a 3.5 to 3.8 server change from record to record, and the digest with them.
use Rattle.std.specs.Prelude.{◌≡◌, ℕ, ℤ, pos, List, [], ◌∷◌, Option, Some, None, if◌then◌else◌}
use Rattle.std.specs.FinMap.{get}
use Rattle.std.specs.Ordering.{int_eq}
use Rattle.std.specs.Str.{bytes_eq}
use Rattle.zk_table.specs.declared.node.Node.{Node}
use Rattle.zk_table.specs.declared.txn.Txn.{Txn}
use Rattle.zk_table.specs.States.{NodeMap, State}
use Rattle.zk_table.specs.Steps.{step}
use Rattle.zk_mend.specs.declared.tree.TreeDigest.{TreeDigest}
use Rattle.zk_mend.specs.Digests.{Owners, tree_digest}

-- a path that a record creates, and its owner on a 3.5 to 3.8 server; 0 for the table's own
abbrev pub Given : Type 0
Given = List ℕ × ℤ

abbrev pub own_of : ℤ → Option ℤ
own_of owner = if int_eq owner (pos 0) then None else Some owner

-- the owner that a list has for a path; the last entry of a path counts
abbrev pub given_from : Option ℤ → List Given → List ℕ → Option ℤ
given_from found [] path = found
given_from found (g ∷ given) path = given_from (if bytes_eq g.0 path then own_of g.1 else found) given path

abbrev pub given_at : List Given → List ℕ → Option ℤ
given_at given path = given_from None given path

-- the owner at a path, from the nodes before and after: none after a delete, the given one after a
-- create, otherwise unchanged
abbrev pub owner_after : Option Node → Option Node → Option ℤ → Option ℤ → Option ℤ
owner_after None None given owner = owner
owner_after None (Some after) given owner = given
owner_after (Some before) None given owner = None
owner_after (Some before) (Some after) given owner = if int_eq before.czxid after.czxid then owner else given

abbrev pub owners_after : NodeMap → NodeMap → List Given → Owners → Owners
owners_after before after given owners path = owner_after (get before path) (get after path) (given_at given path) (owners path)

-- before any record no node has such an owner
abbrev pub no_owners : Owners
no_owners path = None

-- a record: the transaction that it represents, and the owners of the nodes that it creates
abbrev pub Followed : Type 0
Followed = Txn × List Given

abbrev pub owners_over : State → Owners → List Followed → Owners
owners_over state owners [] = owners
owners_over state owners (record_of ∷ records) =
    let next = (step state record_of.0).0 in owners_over next (owners_after state.nodes next.nodes record_of.1 owners) records

-- the digest of a whole tree and these owners
pub record IsDigestOf (owners : Owners) (nodes : NodeMap) (digest : TreeDigest) : Type 0 where
  pub sum : digest.sum ≡ tree_digest owners nodes
  pub owners_kept : (path : List ℕ) → get digest.owners path ≡ owners path
