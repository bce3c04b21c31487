-- Lists, element by element, as loops iterate over them.
use Rattle.std.proofs.Common.{◌≡◌, ℕ, ℤ, ◌+◌, ◌<◌, ◌≤◌, true, false, List, [], ◌∷◌, map, length, drop, get_or, Option, Some, None, w64, to_z, of_z, refl, sym, ap, ◌∙◌, arith}
use Rattle.std.proofs.lemmas.Bool.{false_from_ne_true}
use Rattle.std.proofs.lemmas.Bool.Decides.{Decides-int_eq}
use Rattle.std.proofs.lemmas.List.{drop_more, nil_from_length, length-drop}
use Rattle.std.specs.Borrow.{Bor}
use Rattle.std.specs.FinMap.{insert, remove}
use Rattle.std.specs.Int.{cast_unsigned}
use Rattle.std.specs.Ordering.{int_eq}
use Rattle.zk_table.specs.States.{NodeMap, SessionMap}
use Rattle.zk_snapshot.specs.declared.snapshot.Access.{Access}
use Rattle.zk_snapshot.specs.declared.snapshot.Lease.{Lease}
use Rattle.zk_snapshot.specs.declared.snapshot.Stored.{Stored}
use Rattle.zk_replay.specs.declared.draft_node.DraftNode.{DraftNode}
use Rattle.zk_replay.specs.Drafts.{DraftMap, entry_of, remove_all}
use Rattle.zk_replay.specs.Bases.{listed, with_stored, drafted, sessions_of, settled, latest_in, latest_of}

pub next_is : {X : Type 0} (xs : List X) (i : ℕ) (x : X) → i < length xs → x ≡ get_or xs i x → drop i xs ≡ x ∷ drop (i + 1) xs
next_is xs i x lt is = drop_more xs i x lt ∙ ap (λ y. y ∷ drop (i + 1) xs) (sym is)

pub at_end : {X : Type 0} (xs : List X) (i : ℕ) → length xs ≤ i → drop i xs ≡ []
at_end xs i le = nil_from_length (drop i xs) (omega (arith, length-drop i xs, le))

-- ---- numbers of lists

pub same_number : (x y : ℤ) → to_z w64 (of_z w64 x) ≡ x → to_z w64 (of_z w64 y) ≡ y → of_z w64 x ≡ of_z w64 y → int_eq x y ≡ true
same_number x y a b e = (Decides-int_eq x y).1 (sym a ∙ ap (to_z w64) e ∙ b)

pub other_number : (x y : ℤ) → ((of_z w64 x ≡ of_z w64 y) → ⊥) → int_eq x y ≡ false
other_number x y ne = false_from_ne_true (int_eq x y) (λ e. ne (ap (of_z w64) ((Decides-int_eq x y).0 e)))

here : (x : Access) (rest : List Access) (number : ℤ) → int_eq x.number number ≡ true → listed (x ∷ rest) number ≡ Some x.acl
unfolding listed
here x rest number same = rw same refl

beyond : (x : Access) (rest : List Access) (number : ℤ) → int_eq x.number number ≡ false → listed (x ∷ rest) number ≡ listed rest number
unfolding listed
beyond x rest number other = rw other refl

none_listed : (number : ℤ) → listed [] number ≡ None
unfolding listed
none_listed number = refl

pub found : (accesses : List Access) (i : ℕ) (x : Access) (number : ℤ) → i < length accesses → x ≡ get_or accesses i x → int_eq x.number number ≡ true → listed accesses number ≡ listed (drop i accesses) number → listed accesses number ≡ Some x.acl
found accesses i x number lt is same so_far = so_far ∙ ap (λ xs. listed xs number) (next_is accesses i x lt is) ∙ here x (drop (i + 1) accesses) number same

pub looked_on : (accesses : List Access) (i : ℕ) (x : Access) (number : ℤ) → i < length accesses → x ≡ get_or accesses i x → int_eq x.number number ≡ false → listed accesses number ≡ listed (drop i accesses) number → listed accesses number ≡ listed (drop (i + 1) accesses) number
looked_on accesses i x number lt is other so_far = so_far ∙ ap (λ xs. listed xs number) (next_is accesses i x lt is) ∙ beyond x (drop (i + 1) accesses) number other

pub not_listed : (accesses : List Access) (i : ℕ) (number : ℤ) → length accesses ≤ i → listed accesses number ≡ listed (drop i accesses) number → listed accesses number ≡ None
not_listed accesses i number le so_far = so_far ∙ ap (λ xs. listed xs number) (at_end accesses i le) ∙ none_listed number

-- ---- sessions

opened : (sessions : SessionMap) (x : Lease) (rest : List Lease) → sessions_of sessions (x ∷ rest) ≡ sessions_of (insert sessions (cast_unsigned w64 x.session) x.timeout) rest
unfolding sessions_of
opened sessions x rest = refl

pub held : (sessions new all : SessionMap) (leases : List Lease) (i : ℕ) (d : Lease) → i < length leases → new ≡ insert sessions (cast_unsigned w64 (get_or leases i d).session) (get_or leases i d).timeout → all ≡ sessions_of sessions (drop i leases) → all ≡ sessions_of new (drop (i + 1) leases)
held sessions new all leases i d lt one so_far = so_far ∙ ap (sessions_of sessions) (drop_more leases i d lt) ∙ opened sessions (get_or leases i d) (drop (i + 1) leases) ∙ ap (λ s. sessions_of s (drop (i + 1) leases)) (sym one)

no_session : (sessions : SessionMap) → sessions_of sessions [] ≡ sessions
unfolding sessions_of
no_session sessions = refl

pub all_held : (sessions all : SessionMap) (leases : List Lease) (i : ℕ) → length leases ≤ i → all ≡ sessions_of sessions (drop i leases) → all ≡ sessions
all_held sessions all leases i le so_far = so_far ∙ ap (sessions_of sessions) (at_end leases i le) ∙ no_session sessions

-- ---- stored nodes

inserted : (accesses : List Access) (drafts : DraftMap) (x : Stored) (rest : List Stored) → drafted accesses drafts (x ∷ rest) ≡ drafted accesses (with_stored accesses drafts x) rest
unfolding drafted
inserted accesses drafts x rest = refl

pub drafts_on : (accesses : List Access) (drafts new all : DraftMap) (stored : List Stored) (i : ℕ) (x : Stored) → i < length stored → x ≡ get_or stored i x → new ≡ with_stored accesses drafts x → all ≡ drafted accesses drafts (drop i stored) → all ≡ drafted accesses new (drop (i + 1) stored)
drafts_on accesses drafts new all stored i x lt is one so_far = so_far ∙ ap (drafted accesses drafts) (next_is stored i x lt is) ∙ inserted accesses drafts x (drop (i + 1) stored) ∙ ap (λ d. drafted accesses d (drop (i + 1) stored)) (sym one)

none_stored : (accesses : List Access) (drafts : DraftMap) → drafted accesses drafts [] ≡ drafts
unfolding drafted
none_stored accesses drafts = refl

pub all_drafted : (accesses : List Access) (drafts all : DraftMap) (stored : List Stored) (i : ℕ) → length stored ≤ i → all ≡ drafted accesses drafts (drop i stored) → all ≡ drafts
all_drafted accesses drafts all stored i le so_far = so_far ∙ ap (drafted accesses drafts) (at_end stored i le) ∙ none_stored accesses drafts

-- ---- the greatest zxid

looked : (zxid : ℤ) (x : Stored) (rest : List Stored) → latest_of zxid (x ∷ rest) ≡ latest_of (latest_in zxid x) rest
unfolding latest_of
looked zxid x rest = refl

pub latest_on : (zxid new all : ℤ) (stored : List Stored) (i : ℕ) (x : Stored) → i < length stored → x ≡ get_or stored i x → new ≡ latest_in zxid x → all ≡ latest_of zxid (drop i stored) → all ≡ latest_of new (drop (i + 1) stored)
latest_on zxid new all stored i x lt is one so_far = so_far ∙ ap (latest_of zxid) (next_is stored i x lt is) ∙ looked zxid x (drop (i + 1) stored) ∙ ap (λ z. latest_of z (drop (i + 1) stored)) (sym one)

none_later : (zxid : ℤ) → latest_of zxid [] ≡ zxid
unfolding latest_of
none_later zxid = refl

pub all_looked : (zxid all : ℤ) (stored : List Stored) (i : ℕ) → length stored ≤ i → all ≡ latest_of zxid (drop i stored) → all ≡ zxid
all_looked zxid all stored i le so_far = so_far ∙ ap (latest_of zxid) (at_end stored i le) ∙ none_later zxid

-- ---- what a draft settles to

abbrev pub Lent : Type 0
Lent = Bor (List ℕ) × Bor DraftNode

abbrev lent : List Lent → List (List ℕ × DraftNode)
lent = map entry_of

settled_once : (nodes : NodeMap) (x : Lent) (rest : List Lent) → x.1.now.lacks_acl ≡ false → settled nodes (lent (x ∷ rest)) ≡ settled (insert nodes x.1.now.path x.1.now.node) (lent rest)
unfolding settled
settled_once nodes x rest known = rw known refl

pub settles : (nodes new : NodeMap) (entries : List Lent) (x : Lent) (rest : List Lent) → entries ≡ x ∷ rest → x.1.now.lacks_acl ≡ false → new ≡ insert nodes x.1.now.path x.1.now.node → settled nodes (map entry_of entries) ≡ settled new (map entry_of rest)
settles nodes new entries x rest parts known one = ap (λ es. settled nodes (lent es)) parts ∙ settled_once nodes x rest known ∙ ap (λ n. settled n (lent rest)) (sym one)

nothing_left : (nodes : NodeMap) → settled nodes [] ≡ Some nodes
unfolding settled
nothing_left nodes = refl

pub settle_all : (nodes : NodeMap) (all : Option NodeMap) (entries : List Lent) (i : ℕ) → length entries ≤ i → all ≡ settled nodes (map entry_of (drop i entries)) → all ≡ Some nodes
settle_all nodes all entries i le so_far = so_far ∙ ap (λ es. settled nodes (lent es)) (at_end entries i le) ∙ nothing_left nodes

-- ---- deleted paths

removed_one : (drafts : DraftMap) (path : List ℕ) (paths : List (List ℕ)) → remove_all drafts (path ∷ paths) ≡ remove_all (remove drafts path) paths
unfolding remove_all
removed_one drafts path paths = refl

none_removed : (drafts : DraftMap) → remove_all drafts [] ≡ drafts
unfolding remove_all
none_removed drafts = refl

pub removes_on : (drafts new all : DraftMap) (paths : List (List ℕ)) (i : ℕ) (path : List ℕ) → i < length paths → path ≡ get_or paths i path → new ≡ remove drafts path → all ≡ remove_all drafts (drop i paths) → all ≡ remove_all new (drop (i + 1) paths)
removes_on drafts new all paths i path lt is one so_far = so_far ∙ ap (remove_all drafts) (next_is paths i path lt is) ∙ removed_one drafts path (drop (i + 1) paths) ∙ ap (λ d. remove_all d (drop (i + 1) paths)) (sym one)

pub all_removed : (drafts all : DraftMap) (paths : List (List ℕ)) (i : ℕ) → length paths ≤ i → all ≡ remove_all drafts (drop i paths) → drafts ≡ all
all_removed drafts all paths i le so_far = sym (so_far ∙ ap (remove_all drafts) (at_end paths i le) ∙ none_removed drafts)
