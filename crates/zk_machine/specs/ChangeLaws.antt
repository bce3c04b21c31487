-- Laws of the changes of every transaction in every state.
use Rattle.std.specs.Prelude.{◌≡◌, List, [], ◌∷◌, map, if◌then◌else◌}
use Rattle.std.specs.List.{AllByRecursion, list_any, flat_map}
use Rattle.std.specs.List.Sorted.{IsStrictlySortedBy}
use Rattle.zk_table.specs.declared.sub.Sub.{Sub}
use Rattle.zk_table.specs.declared.txn.Op.{Op}
use Rattle.zk_table.specs.declared.txn.Op.TheVariants.{Multi}
use Rattle.zk_table.specs.declared.txn.Txn.{Txn}
use Rattle.zk_table.specs.Parts.{is_error}
use Rattle.zk_table.specs.Multis.{apply_part}
use Rattle.zk_table.specs.States.{NodeMap, State, path_cmp}
use Rattle.zk_table.specs.Steps.{step}
use Rattle.zk_machine.specs.declared.change.Change.{Change}
use Rattle.zk_machine.specs.Changes.{changes_between, changes_of}

-- ---- the changes of a transaction, one list for each instruction

abbrev pub changes_by_part : Txn → NodeMap → List Sub → List (List Change)
changes_by_part txn nodes [] = []
changes_by_part txn nodes (part ∷ parts) =
    let next = (apply_part txn nodes part).nodes in changes_between nodes next ∷ changes_by_part txn next parts

-- if one part is an error, no part is an instruction
abbrev pub changes_by_op : State → Txn → Op → List (List Change)
changes_by_op state txn (Multi parts) = if list_any is_error parts then [] else changes_by_part txn state.nodes parts
changes_by_op state txn op = changes_between state.nodes (step state txn).0.nodes ∷ []

abbrev pub changes_by_instruction : State → Txn → List (List Change)
changes_by_instruction state txn = changes_by_op state txn txn.op

-- ---- the laws

-- the lists, concatenated, are the changes of the transaction
abbrev pub InstructionsAreTheTransaction : Type 0
InstructionsAreTheTransaction = (state : State) (txn : Txn) → flat_map (λ changes. changes) (changes_by_instruction state txn) ≡ changes_of state txn

-- the changes are sorted by path, at most one at each path
abbrev pub PathsRise : List Change → Type 0
PathsRise changes = IsStrictlySortedBy path_cmp (map (λ c. c.path) changes)

-- An instruction changes a path in one way: on a node that remains, it sets the mzxid or the pzxid,
-- never both. This holds for any tree and any zxid, also for those that no run reaches.
abbrev pub InstructionsChangeInOneWay : Type 0
InstructionsChangeInOneWay = (state : State) (txn : Txn) → AllByRecursion PathsRise (changes_by_instruction state txn)
