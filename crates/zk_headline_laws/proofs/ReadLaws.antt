-- Laws of reads.
use Rattle.std.proofs.Common.{◌≡◌, ◌⊎◌, inl, inr, ℤ, ◌≤ℤ◌, List, [], ◌∷◌, Bool, true, false, cond, refl, ap, ◌∙◌}
use Rattle.std.specs.List.{list_any}
use Rattle.zab_epoch.specs.declared.history.Entry.{Entry}
use Rattle.zab_laws.specs.Prefixes.{IsPrefix, last_key, Rises}
use Rattle.zab_laws.proofs.PrefixLaws.{prefix_refl, prefix_by_last}
use Rattle.zab_epoch.specs.Entries.{txns_of}
use Rattle.zk_headline_laws.specs.Headline.{last_zxid}
use Rattle.zk_table.specs.declared.result.TxnResult.{TxnResult}
use Rattle.zk_table.specs.declared.txn.Op.{Op}
use Rattle.zk_table.specs.declared.txn.Op.TheVariants.{Create, CreateOld, Delete, SetData, SetAcl, OpenSession, CloseSession, Error, Multi}
use Rattle.zk_table.specs.declared.txn.Txn.{Txn}
use Rattle.zk_table.specs.Parts.{is_error}
use Rattle.zk_table.specs.Histories.{state_after, tree_of}
use Rattle.zk_table.specs.States.{State, start_state}
use Rattle.zk_table.specs.Steps.{step, step_by}

-- of two increasing lists that agree, the one that ends earlier is a prefix of the other
pub earlier_is_prefix : {X : Type 0} (key : X → ℤ) (start : ℤ) (a b : List X) → IsPrefix a b ⊎ IsPrefix b a → Rises key start a → last_key key start a ≤ℤ last_key key start b → IsPrefix a b
earlier_is_prefix key start a b (inl p) r h = p
earlier_is_prefix key start a b (inr p) r h = prefix_by_last key start a b a r (prefix_refl a) p h

-- ---- the last zxid

by_test : (b : Bool) (x y : State × TxnResult) (z : ℤ) → x.0.last ≡ z → y.0.last ≡ z → (cond b x y).0.last ≡ z
by_test true x y z p q = p
by_test false x y z p q = q

step_last : (s : State) (t : Txn) (op : Op) → (step_by s t op).0.last ≡ t.zxid
step_last s t (Create path content acl ephemeral count) = refl
step_last s t (CreateOld path content acl ephemeral) = refl
step_last s t (Delete path) = refl
step_last s t (SetData path content version) = refl
step_last s t (SetAcl path acl version) = refl
step_last s t (OpenSession timeout) = refl
step_last s t CloseSession = refl
step_last s t (Multi parts) = by_test (list_any is_error parts) _ _ t.zxid refl refl
step_last s t (Error code) = refl

last_after : (s : State) (d : List Entry) → (state_after s (txns_of d)).last ≡ last_key (λ entry. entry.txn.zxid) s.last d
last_after s [] = refl
last_after s (e ∷ d) = last_after (step s e.txn).0 d ∙ ap (λ z. last_key (λ entry. entry.txn.zxid) z d) (step_last s e.txn e.txn.op)

-- the last zxid of a tree is that of the list
pub last_of_the_list : (d : List Entry) → (tree_of (txns_of d)).last ≡ last_zxid d
last_of_the_list d = last_after start_state d
