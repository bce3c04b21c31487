-- Paths and parts in order, as loops iterate over them.
use Rattle.std.proofs.Common.{◌≡◌, ℕ, ℤ, ◌+◌, ◌<◌, ◌≤◌, Bool, true, false, ◌||◌, List, [], ◌∷◌, length, drop, get_or, refl, sym, ap, ◌∙◌}
use Rattle.zk_replay.proofs.Turning.{next_is, at_end}
use Rattle.zk_replay.specs.Drafts.{DraftMap}
use Rattle.zk_replay.specs.Rules.{delete, delete_all, apply_part, apply_parts}
use Rattle.zk_replay.specs.Windows.{part_is_done, some_part_is_done}
use Rattle.zk_table.specs.declared.sub.Sub.{Sub}
use Rattle.zk_table.specs.declared.txn.Txn.{Txn}

deleted : (drafts : DraftMap) (zxid : ℤ) (path : List ℕ) (paths : List (List ℕ)) → delete_all drafts zxid (path ∷ paths) ≡ delete_all (delete drafts zxid path) zxid paths
unfolding delete_all
deleted drafts zxid path paths = refl

none_deleted : (drafts : DraftMap) (zxid : ℤ) → delete_all drafts zxid [] ≡ drafts
unfolding delete_all
none_deleted drafts zxid = refl

pub deletes_on : (drafts new all : DraftMap) (zxid : ℤ) (paths : List (List ℕ)) (i : ℕ) (path : List ℕ) → i < length paths → path ≡ get_or paths i path → new ≡ delete drafts zxid path → all ≡ delete_all drafts zxid (drop i paths) → all ≡ delete_all new zxid (drop (i + 1) paths)
deletes_on drafts new all zxid paths i path lt is one so_far = so_far ∙ ap (delete_all drafts zxid) (next_is paths i path lt is) ∙ deleted drafts zxid path (drop (i + 1) paths) ∙ ap (λ d. delete_all d zxid (drop (i + 1) paths)) (sym one)

pub all_deleted : (drafts all : DraftMap) (zxid : ℤ) (paths : List (List ℕ)) (i : ℕ) → length paths ≤ i → all ≡ delete_all drafts zxid (drop i paths) → drafts ≡ all
all_deleted drafts all zxid paths i le so_far = sym (so_far ∙ ap (delete_all drafts zxid) (at_end paths i le) ∙ none_deleted drafts zxid)

applied : (txn : Txn) (drafts : DraftMap) (part : Sub) (parts : List Sub) → apply_parts txn drafts (part ∷ parts) ≡ apply_parts txn (apply_part txn drafts part) parts
unfolding apply_parts
applied txn drafts part parts = refl

none_applied : (txn : Txn) (drafts : DraftMap) → apply_parts txn drafts [] ≡ drafts
unfolding apply_parts
none_applied txn drafts = refl

pub applies_on : (txn : Txn) (drafts new all : DraftMap) (parts : List Sub) (i : ℕ) (part : Sub) → i < length parts → part ≡ get_or parts i part → new ≡ apply_part txn drafts part → all ≡ apply_parts txn drafts (drop i parts) → all ≡ apply_parts txn new (drop (i + 1) parts)
applies_on txn drafts new all parts i part lt is one so_far = so_far ∙ ap (apply_parts txn drafts) (next_is parts i part lt is) ∙ applied txn drafts part (drop (i + 1) parts) ∙ ap (λ d. apply_parts txn d (drop (i + 1) parts)) (sym one)

pub all_applied : (txn : Txn) (drafts all : DraftMap) (parts : List Sub) (i : ℕ) → length parts ≤ i → all ≡ apply_parts txn drafts (drop i parts) → drafts ≡ all
all_applied txn drafts all parts i le so_far = sym (so_far ∙ ap (apply_parts txn drafts) (at_end parts i le) ∙ none_applied txn drafts)

part_on : (txn : Txn) (drafts : DraftMap) (part : Sub) (parts : List Sub) → some_part_is_done txn drafts (part ∷ parts) ≡ (part_is_done drafts part || some_part_is_done txn (apply_part txn drafts part) parts)
unfolding some_part_is_done
part_on txn drafts part parts = refl

no_part : (txn : Txn) (drafts : DraftMap) → some_part_is_done txn drafts [] ≡ false
unfolding some_part_is_done
no_part txn drafts = refl

or_on : (a b c : Bool) → (a || (b || c)) ≡ ((a || b) || c)
or_on true b c = refl
or_on false b c = refl

or_false : (a : Bool) → (a || false) ≡ a
or_false true = refl
or_false false = refl

pub finds_on : (txn : Txn) (drafts new : DraftMap) (parts : List Sub) (i : ℕ) (part : Sub) (earlier found all : Bool) → i < length parts → part ≡ get_or parts i part → new ≡ apply_part txn drafts part → found ≡ (earlier || part_is_done drafts part)
    → all ≡ (earlier || some_part_is_done txn drafts (drop i parts)) → all ≡ (found || some_part_is_done txn new (drop (i + 1) parts))
finds_on txn drafts new parts i part earlier found all lt is one is_found so_far =
    so_far
    ∙ ap (λ xs. earlier || some_part_is_done txn drafts xs) (next_is parts i part lt is)
    ∙ ap (λ b. earlier || b) (part_on txn drafts part (drop (i + 1) parts))
    ∙ or_on earlier (part_is_done drafts part) (some_part_is_done txn (apply_part txn drafts part) (drop (i + 1) parts))
    ∙ ap (λ b. b || some_part_is_done txn (apply_part txn drafts part) (drop (i + 1) parts)) (sym is_found)
    ∙ ap (λ d. found || some_part_is_done txn d (drop (i + 1) parts)) (sym one)

pub all_found : (txn : Txn) (drafts : DraftMap) (parts : List Sub) (i : ℕ) (found all : Bool) → length parts ≤ i → all ≡ (found || some_part_is_done txn drafts (drop i parts)) → found ≡ all
all_found txn drafts parts i found all le so_far =
    sym (so_far ∙ ap (λ xs. found || some_part_is_done txn drafts xs) (at_end parts i le) ∙ ap (λ b. found || b) (no_part txn drafts) ∙ or_false found)
