-- The first fault of a list, as loops look for it.
use Rattle.std.proofs.Common.{◌≡◌, ℕ, ◌+◌, ◌<◌, ◌≤◌, List, [], ◌∷◌, map, length, drop, get_or, Option, Some, None, refl, sym, ap, ◌∙◌}
use Rattle.std.specs.FinMap.{insert, empty}
use Rattle.std.specs.Option.{option_or}
use Rattle.zk_table.specs.States.{NodeMap}
use Rattle.zk_snapshot.specs.declared.snapshot.Access.{Access}
use Rattle.zk_snapshot.specs.declared.snapshot.Stored.{Stored}
use Rattle.zk_replay.specs.declared.fault.BaseFault.{BaseFault}
use Rattle.zk_replay.specs.declared.fault.BaseFault.TheVariants as faults
use Rattle.zk_replay.specs.Drafts.{DraftMap, entry_of}
use Rattle.zk_replay.specs.Bases.{IsFault, with_stored, stored_fault, drafted_fault, root_fault, node_fault, nodes_fault, tree_fault}
use Rattle.zk_replay.proofs.Turning.{Lent, next_is, at_end}

-- a fault of a part is one of the whole
pub fails_too : (part whole : Option BaseFault) (failed : BaseFault) → ((f : BaseFault) → part ≡ Some f → whole ≡ Some f) → IsFault part failed → IsFault whole failed
fails_too part whole faults.NoMemory same is = tt
fails_too part whole faults.Tree same is = same faults.Tree is
fails_too part whole faults.Access same is = same faults.Access is

-- ---- stored nodes

faulted : (accesses : List Access) (drafts : DraftMap) (x : Stored) (rest : List Stored) → drafted_fault accesses drafts (x ∷ rest) ≡ option_or (stored_fault drafts x) (drafted_fault accesses (with_stored accesses drafts x) rest)
unfolding drafted_fault
faulted accesses drafts x rest = refl

none_faulted : (accesses : List Access) (drafts : DraftMap) → drafted_fault accesses drafts [] ≡ None
unfolding drafted_fault
none_faulted accesses drafts = refl

pub stored_well : (accesses : List Access) (drafts new : DraftMap) (all : Option BaseFault) (stored : List Stored) (i : ℕ) (x : Stored) → i < length stored → x ≡ get_or stored i x → new ≡ with_stored accesses drafts x → stored_fault drafts x ≡ None → all ≡ drafted_fault accesses drafts (drop i stored) → all ≡ drafted_fault accesses new (drop (i + 1) stored)
stored_well accesses drafts new all stored i x lt is one well so_far =
    so_far
    ∙ ap (drafted_fault accesses drafts) (next_is stored i x lt is)
    ∙ faulted accesses drafts x (drop (i + 1) stored)
    ∙ ap (λ f. option_or f (drafted_fault accesses (with_stored accesses drafts x) (drop (i + 1) stored))) well
    ∙ ap (λ d. drafted_fault accesses d (drop (i + 1) stored)) (sym one)

pub stored_badly : (accesses : List Access) (drafts : DraftMap) (all : Option BaseFault) (stored : List Stored) (i : ℕ) (x : Stored) → i < length stored → x ≡ get_or stored i x → all ≡ drafted_fault accesses drafts (drop i stored) → (f : BaseFault) → stored_fault drafts x ≡ Some f → all ≡ Some f
stored_badly accesses drafts all stored i x lt is so_far f fault =
    so_far
    ∙ ap (drafted_fault accesses drafts) (next_is stored i x lt is)
    ∙ faulted accesses drafts x (drop (i + 1) stored)
    ∙ ap (λ o. option_or o (drafted_fault accesses (with_stored accesses drafts x) (drop (i + 1) stored))) fault

pub all_well : (accesses : List Access) (drafts : DraftMap) (all : Option BaseFault) (stored : List Stored) (i : ℕ) → length stored ≤ i → all ≡ drafted_fault accesses drafts (drop i stored) → all ≡ None
all_well accesses drafts all stored i le so_far = so_far ∙ ap (drafted_fault accesses drafts) (at_end stored i le) ∙ none_faulted accesses drafts

-- ---- nodes of a draft

node_faulted : (nodes : NodeMap) (x : Lent) (rest : List Lent) → nodes_fault nodes (map entry_of (x ∷ rest)) ≡ option_or (node_fault nodes x.1.now) (nodes_fault (insert nodes x.1.now.path x.1.now.node) (map entry_of rest))
unfolding nodes_fault
node_faulted nodes x rest = refl

no_node_faulted : (nodes : NodeMap) → nodes_fault nodes [] ≡ None
unfolding nodes_fault
no_node_faulted nodes = refl

pub root_well : (new : NodeMap) (entries : List Lent) (x : Lent) (rest : List Lent) → entries ≡ x ∷ rest → root_fault x.1.now ≡ None → new ≡ insert empty x.1.now.path x.1.now.node → tree_fault (map entry_of entries) ≡ nodes_fault new (map entry_of rest)
root_well new entries x rest parts well one =
    ap (λ es. tree_fault (map entry_of es)) parts
    ∙ ap (λ f. option_or f (nodes_fault (insert empty x.1.now.path x.1.now.node) (map entry_of rest))) well
    ∙ ap (λ n. nodes_fault n (map entry_of rest)) (sym one)

pub root_badly : (entries : List Lent) (x : Lent) (rest : List Lent) → entries ≡ x ∷ rest → (f : BaseFault) → root_fault x.1.now ≡ Some f → tree_fault (map entry_of entries) ≡ Some f
root_badly entries x rest parts f fault =
    ap (λ es. tree_fault (map entry_of es)) parts
    ∙ ap (λ o. option_or o (nodes_fault (insert empty x.1.now.path x.1.now.node) (map entry_of rest))) fault

pub node_well : (nodes new : NodeMap) (all : Option BaseFault) (entries : List Lent) (i : ℕ) (x : Lent) → i < length entries → x ≡ get_or entries i x → node_fault nodes x.1.now ≡ None → new ≡ insert nodes x.1.now.path x.1.now.node → all ≡ nodes_fault nodes (map entry_of (drop i entries)) → all ≡ nodes_fault new (map entry_of (drop (i + 1) entries))
node_well nodes new all entries i x lt is well one so_far =
    so_far
    ∙ ap (λ es. nodes_fault nodes (map entry_of es)) (next_is entries i x lt is)
    ∙ node_faulted nodes x (drop (i + 1) entries)
    ∙ ap (λ f. option_or f (nodes_fault (insert nodes x.1.now.path x.1.now.node) (map entry_of (drop (i + 1) entries)))) well
    ∙ ap (λ n. nodes_fault n (map entry_of (drop (i + 1) entries))) (sym one)

pub node_badly : (nodes : NodeMap) (all : Option BaseFault) (entries : List Lent) (i : ℕ) (x : Lent) → i < length entries → x ≡ get_or entries i x → all ≡ nodes_fault nodes (map entry_of (drop i entries)) → (f : BaseFault) → node_fault nodes x.1.now ≡ Some f → all ≡ Some f
node_badly nodes all entries i x lt is so_far f fault =
    so_far
    ∙ ap (λ es. nodes_fault nodes (map entry_of es)) (next_is entries i x lt is)
    ∙ node_faulted nodes x (drop (i + 1) entries)
    ∙ ap (λ o. option_or o (nodes_fault (insert nodes x.1.now.path x.1.now.node) (map entry_of (drop (i + 1) entries)))) fault

pub nodes_well : (nodes : NodeMap) (all : Option BaseFault) (entries : List Lent) (i : ℕ) → length entries ≤ i → all ≡ nodes_fault nodes (map entry_of (drop i entries)) → all ≡ None
nodes_well nodes all entries i le so_far = so_far ∙ ap (λ es. nodes_fault nodes (map entry_of es)) (at_end entries i le) ∙ no_node_faulted nodes
