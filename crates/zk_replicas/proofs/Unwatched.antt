-- An entry where nobody watches.
use Rattle.std.proofs.Common.{◌≡◌, ℕ, ℤ, List, [], ◌∷◌, ◌++◌, refl, sym, ap, ◌∙◌}
use Rattle.zab_epoch.specs.declared.history.Entry.{Entry}
use Rattle.zk_machine.specs.declared.change.Change.{Change}
use Rattle.zk_machine.specs.Changes.{changes_of}
use Rattle.zk_model.specs.declared.answer.Answered.{Answered}
use Rattle.zk_model.specs.Ensembles.{ReplicaView, answered, waiting_by, waiting, take_in}
use Rattle.zk_table.specs.States.{State}
use Rattle.zk_table.specs.Steps.{step}
use Rattle.zk_table.specs.declared.result.TxnResult.{TxnResult}
use Rattle.zk_table.specs.declared.txn.Op.{Op}
use Rattle.zk_table.specs.declared.txn.Op.TheVariants as ops
use Rattle.zk_table.specs.declared.txn.Txn.{Txn}
use Rattle.zk_watch.specs.declared.watch.Fired.{Fired}
use Rattle.zk_watch.specs.declared.watch.Watch.{Watch}
use Rattle.zk_watch.specs.Watching.{fired_by, left_after}

none_waits_by : (op : Op) (session : ℤ) → waiting_by op session [] ≡ []
none_waits_by ops.CloseSession session = refl
none_waits_by (ops.Create path content acl ephemeral count) session = refl
none_waits_by (ops.CreateOld path content acl ephemeral) session = refl
none_waits_by (ops.Delete path) session = refl
none_waits_by (ops.SetData path content version) session = refl
none_waits_by (ops.SetAcl path acl version) session = refl
none_waits_by (ops.OpenSession timeout) session = refl
none_waits_by (ops.Multi parts) session = refl
none_waits_by (ops.Error code) session = refl

-- nobody waits, whoever closes
none_waits : (txn : Txn) (watches : List Watch) → watches ≡ [] → waiting txn watches ≡ []
none_waits txn watches none = ap (waiting txn) none ∙ none_waits_by txn.op txn.session

none_is_told : (changes : List Change) → fired_by changes [] ≡ []
none_is_told [] = refl
none_is_told (c ∷ cs) = none_is_told cs

none_is_left : (changes : List Change) → left_after changes [] ≡ []
none_is_left [] = refl
none_is_left (c ∷ cs) = none_is_left cs

append_none : {A : Type 0} (xs : List A) → xs ++ [] ≡ xs
append_none [] = refl
append_none (x ∷ xs) = ap (λ l. x ∷ l) (append_none xs)

abbrev pub shown : State → List Answered → List Watch → List Fired → ReplicaView
shown tree answers watches events = record { tree = tree; answers = answers; watches = watches; events = events }

pub same_shown : (t u : State) (a b : List Answered) (v w : List Watch) (e f : List Fired) → t ≡ u → a ≡ b → v ≡ w → e ≡ f → shown t a v e ≡ shown u b w f
same_shown t u a b v w e f p q r s =
    ap (λ x. shown x a v e) p ∙ ap (λ x. shown u x v e) q ∙ ap (λ x. shown u b x e) r ∙ ap (λ x. shown u b w x) s

-- what a server shows after this result
pub untold : (before after : State) (had has : List Answered) (watches : List Watch) (events : List Fired) (tag : ℕ) (txn : Txn) (result : TxnResult) (item : Answered) → watches ≡ [] → (after, result) ≡ step before txn → has ≡ had ++ item ∷ [] → item ≡ answered (record { tag = tag; txn = txn }) result → shown after has watches events ≡ take_in (shown before had watches events) (record { tag = tag; txn = txn })
untold before after had has watches events tag txn result item none stepped items is =
    let entry : Entry = record { tag = tag; txn = txn } in
    let changes = changes_of before txn in
    let quiet : waiting txn watches ≡ [] = none_waits txn watches none in
    same_shown after (step before txn).0 has (had ++ answered entry (step before txn).1 ∷ []) watches (left_after changes (waiting txn watches)) events (events ++ fired_by changes (waiting txn watches))
    (ap (λ (p : State × TxnResult). p.0) stepped)
    (items ∙ ap (λ i. had ++ i ∷ []) is ∙ ap (λ (p : State × TxnResult). had ++ answered entry p.1 ∷ []) stepped)
    (none ∙ sym (ap (left_after changes) quiet ∙ none_is_left changes))
    (sym (ap (λ l. events ++ l) (ap (fired_by changes) quiet ∙ none_is_told changes) ∙ append_none events))
