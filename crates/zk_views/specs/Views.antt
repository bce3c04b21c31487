-- A view: a published list of transactions, which grows. Its state is the list's tree.
use Rattle.std.specs.Prelude.{◌≡◌, ℕ, List, [], ◌++◌, Option, Some}
use mathlib.Core.Option.{some}
use lib.ListN.{get_elem?}
use Rattle.atomic_table.specs.Seated.{TableId}
use Rattle.zk_table.specs.declared.txn.Txn.{Txn}

-- the first list is a prefix of the second
pub record IsPrefix (front whole : List Txn) : Type 0 where
  pub rest : List Txn
  pub is : front ++ rest ≡ whole

-- ---- the rule

-- the list that each token knows is a prefix of what is published
abbrev pub BeginsWithAll : List Txn → List (List Txn) → Type 0
BeginsWithAll published tokens = (seat : ℕ) (known : List Txn) → get_elem? tokens seat ≡ some known → IsPrefix known published

-- a token publishes: what is published continues what it was, and the token then knows it
abbrev pub Publishes : List Txn → List Txn → List Txn → List Txn → Type 0
Publishes known before after knows = IsPrefix before after × (knows ≡ after)

-- a token enters: what it knew is a prefix of what is published, which it then knows
abbrev pub Enters : List Txn → List Txn → List Txn → List Txn → Type 0
Enters known before after knows = IsPrefix known after × (knows ≡ after)

-- ---- the publisher

-- what a publisher has published; what it was offered, of which that is a prefix; and the table
-- under its view
pub record Publishing : Type 0 where
  pub table : TableId
  pub published : List Txn
  pub offered : List Txn

abbrev pub unpublished : TableId → Publishing
unpublished table = record { table = table; published = []; offered = [] }

pub record LiesBetween (low middle high : List Txn) : Type 0 where
  pub begins : IsPrefix low middle
  pub ends : IsPrefix middle high

-- ---- the readers

-- the list that a reader entered last, and the table under the view that it enters
pub record Entering : Type 0 where
  pub table : Option TableId
  pub txns : List Txn

-- a reader over this table that has entered nothing
abbrev pub unentered : TableId → Entering
unentered table = record { table = Some table; txns = [] }
