-- The table rejects no prepared transaction but errors.
use Rattle.std.proofs.Common.{◌≡◌, ◌⊎◌, inl, inr, ℕ, ℤ, pos, true, false, List, Result, Ok, refl, sym, ap, subst, ◌∙◌}
use Rattle.std.proofs.lemmas.Bool.{cases_Bool}
use Rattle.std.specs.List.{list_any}
use Rattle.zk_acl.specs.declared.acl.Acl.{Acl}
use Rattle.zk_acl.specs.declared.acl.Id.{Id}
use Rattle.zk_acl.specs.Access.{fix}
use Rattle.zk_table.specs.declared.sub.Sub.{Sub}
use Rattle.zk_table.specs.declared.sub.Sub.TheVariants as subs
use Rattle.zk_table.specs.declared.txn.Op.{Op}
use Rattle.zk_table.specs.declared.txn.Op.TheVariants as ops
use Rattle.zk_table.specs.declared.txn.Txn.{Txn}
use Rattle.zk_table.specs.Codes.{invalid_acl}
use Rattle.zk_table.specs.Parts.{is_error}
use Rattle.zk_table.specs.Multis.{answers_of}
use Rattle.zk_table.specs.States.{State}
use Rattle.zk_table.specs.Steps.{step}
use Rattle.zk_requests.specs.declared.call.Request.{Request}
use Rattle.zk_requests.specs.declared.call.Request.TheVariants as requested
use Rattle.zk_requests.specs.Refusals.{◌>>=◌, or_refused}
use Rattle.zk_requests.specs.Requests.{header_of, op_of, op_on, alone, parts_on, next_aversion}
use Rattle.zk_requests.specs.Requests as requests
use Rattle.zk_prepare_laws.specs.Consequences.{has_error, IsRefusedOnlyAsError, IsWholeOrNothing}
use Rattle.zk_prepare_laws.specs.Prepared.{IsPrepared}
use Rattle.zk_prepare_laws.proofs.Making.{Applies, create_applies, delete_applies, set_data_applies, aversion_there, answers_well}
use Rattle.zk_prepare_laws.proofs.Meanings.{WasRefused, WasAsked, meant}
use Rattle.zk_prepare_laws.proofs.Tests.{after, after_option, after_path, same_ok}
use Rattle.zk_prepare_laws.proofs.Wholes.{AreApplied, made_parts, whole_or_nothing, not_refused}

-- ---- what was asked

-- the table does not reject this operation under this header, or it is an error
abbrev Passes : State → Txn → Op → Type 0
Passes state header op = ((step state (record header { op = op })).1.err ≡ pos 0) ⊎ (has_error op ≡ true)

part_passes : (state : State) (header : Txn) (sub : Sub) → Applies state.nodes sub → Passes state header (op_of sub)
part_passes state header (subs.Create path content acl ephemeral count) applies = inl (applies.1 (record header { op = ops.Create path content acl ephemeral count }))
part_passes state header (subs.Delete path) applies = inl (applies.1 (record header { op = ops.Delete path }))
part_passes state header (subs.SetData path content version) applies = inl (applies.1 (record header { op = ops.SetData path content version }))
part_passes state header (subs.Check path version) applies = inr refl
part_passes state header (subs.Error code) applies = inr refl

alone_passes : (state : State) (header : Txn) (made : Result Sub ℤ) (op : Op) → ((sub : Sub) → made ≡ Ok sub → Applies state.nodes sub) → alone made ≡ Ok op → Passes state header op
alone_passes state header made op applies e =
    let part = after made (λ part. Ok (op_of part)) op e in
    subst (Passes state header) (sym (same_ok _ op part.rest)) (part_passes state header part.value (applies part.value part.first))

set_acl_passes : (state : State) (header : Txn) (auths : List Id) (text : List ℕ) (acl : List Acl) (version : ℤ) (op : Op) → requests.set_acl state.nodes auths text acl version ≡ Ok op → Passes state header op
set_acl_passes state header auths text acl version op e =
    let read = after_path text (λ path. or_refused invalid_acl (fix acl auths) >>= λ kept. next_aversion state.nodes auths path version >>= λ next. Ok (ops.SetAcl path kept next)) op e in
    let kept = after_option invalid_acl (fix acl auths) (λ kept. next_aversion state.nodes auths text version >>= λ next. Ok (ops.SetAcl text kept next)) op read in
    let next = after (next_aversion state.nodes auths text version) (λ next. Ok (ops.SetAcl text kept.value next)) op kept.rest in
    let fault = aversion_there state.nodes auths text version next.value next.first in
    subst (Passes state header) (sym (same_ok _ op next.rest)) (inl (answers_well _ _ _ _ _ fault))

multi_passes : (state : State) (header : Txn) (parts : List Sub) → (list_any is_error parts ≡ false → AreApplied (answers_of (record header { op = ops.Multi parts }) state.nodes parts)) → Passes state header (ops.Multi parts)
multi_passes state header parts applied = elim (cases_Bool (list_any is_error parts)) [
  | inl some ↦ inr some
  | inr none ↦ inl (not_refused state (record header { op = ops.Multi parts }) parts refl none (applied none))
]

op_passes : (state : State) (header : Txn) (auths : List Id) (request : Request) (op : Op) → op_on state header auths request ≡ Ok op → Passes state header op
op_passes state header auths (requested.Create path content acl flags) op e = alone_passes state header _ op (create_applies state.nodes auths path content acl flags) e
op_passes state header auths (requested.Delete path version) op e = alone_passes state header _ op (delete_applies state.nodes auths path version) e
op_passes state header auths (requested.SetData path content version) op e = alone_passes state header _ op (set_data_applies state.nodes auths path content version) e
op_passes state header auths (requested.SetAcl path acl version) op e = set_acl_passes state header auths path acl version op e
op_passes state header auths (requested.Multi parts) op e =
    subst (Passes state header) (sym (same_ok _ op e)) (multi_passes state header (parts_on header auths state.nodes parts) (made_parts header (ops.Multi (parts_on header auths state.nodes parts)) auths state.nodes parts))
op_passes state header auths (requested.OpenSession timeout) op e = subst (Passes state header) (sym (same_ok _ op e)) (inl refl)
op_passes state header auths requested.CloseSession op e = subst (Passes state header) (sym (same_ok _ op e)) (inl refl)

pub refused_only_as_error : (state : State) (txn : Txn) → IsPrepared state txn → IsRefusedOnlyAsError state txn
refused_only_as_error state txn prepared refused = elim (meant state txn prepared) [
  | inl error ↦ ap has_error error.is
  | inr asked ↦ elim (op_passes state (header_of prepared.call prepared.zxid) prepared.call.auths prepared.call.request asked.op asked.made) [
    | inl well ↦ absurd (refused (ap (λ t. (step state t).1.err) asked.is ∙ well))
    | inr error ↦ ap (λ (t : Txn). has_error t.op) asked.is ∙ error
  ]
]

-- ---- multis

-- of this operation, if it is a multi without an error, each part is applied
abbrev Multis : State → Txn → Op → Type 0
Multis state header op = (parts : List Sub) → op ≡ ops.Multi parts → list_any is_error parts ≡ false → AreApplied (answers_of (record header { op = op }) state.nodes parts)

no_multi : (sub : Sub) (parts : List Sub) → op_of sub ≡ ops.Multi parts → ⊥
no_multi (subs.Create path content acl ephemeral count) parts e = absurd (cc)
no_multi (subs.Delete path) parts e = absurd (cc)
no_multi (subs.SetData path content version) parts e = absurd (cc)
no_multi (subs.Check path version) parts e = absurd (cc)
no_multi (subs.Error code) parts e = absurd (cc)

alone_multis : (state : State) (header : Txn) (made : Result Sub ℤ) (op : Op) → alone made ≡ Ok op → Multis state header op
alone_multis state header made op e =
    let part = after made (λ part. Ok (op_of part)) op e in
    λ parts is none. absurd (no_multi part.value parts (sym (same_ok _ op part.rest) ∙ is))

set_acl_multis : (state : State) (header : Txn) (auths : List Id) (text : List ℕ) (acl : List Acl) (version : ℤ) (op : Op) → requests.set_acl state.nodes auths text acl version ≡ Ok op → Multis state header op
set_acl_multis state header auths text acl version op e =
    let read = after_path text (λ path. or_refused invalid_acl (fix acl auths) >>= λ kept. next_aversion state.nodes auths path version >>= λ next. Ok (ops.SetAcl path kept next)) op e in
    let kept = after_option invalid_acl (fix acl auths) (λ kept. next_aversion state.nodes auths text version >>= λ next. Ok (ops.SetAcl text kept next)) op read in
    let next = after (next_aversion state.nodes auths text version) (λ next. Ok (ops.SetAcl text kept.value next)) op kept.rest in
    λ parts is none. let two : ops.SetAcl text kept.value next.value ≡ ops.Multi parts = sym (same_ok _ op next.rest) ∙ is in absurd (cc)

same_parts : (a b : List Sub) → ops.Multi a ≡ ops.Multi b → a ≡ b
same_parts a b e = cc

op_multis : (state : State) (header : Txn) (auths : List Id) (request : Request) (op : Op) → op_on state header auths request ≡ Ok op → Multis state header op
op_multis state header auths (requested.Create path content acl flags) op e = alone_multis state header _ op e
op_multis state header auths (requested.Delete path version) op e = alone_multis state header _ op e
op_multis state header auths (requested.SetData path content version) op e = alone_multis state header _ op e
op_multis state header auths (requested.SetAcl path acl version) op e = set_acl_multis state header auths path acl version op e
op_multis state header auths (requested.Multi asked) op e = λ parts is none.
    let made : parts_on header auths state.nodes asked ≡ parts = same_parts _ parts (sym (same_ok _ op e) ∙ is) in
    subst (λ (parts : List Sub). AreApplied (answers_of (record header { op = op }) state.nodes parts)) made (made_parts header op auths state.nodes asked (ap (list_any is_error) made ∙ none))
op_multis state header auths (requested.OpenSession timeout) op e = λ parts is none. let two : ops.OpenSession _ ≡ ops.Multi parts = sym (same_ok _ op e) ∙ is in absurd (cc)
op_multis state header auths requested.CloseSession op e = λ parts is none. let two : ops.CloseSession ≡ ops.Multi parts = sym (same_ok _ op e) ∙ is in absurd (cc)

pub multi_is_whole_or_nothing : (state : State) (txn : Txn) → IsPrepared state txn → IsWholeOrNothing state txn
multi_is_whole_or_nothing state txn prepared parts e = whole_or_nothing state txn parts e (by_meaning (meant state txn prepared))
  where
    by_meaning : WasRefused txn ⊎ WasAsked state txn prepared.call prepared.zxid → list_any is_error parts ≡ false → AreApplied (answers_of txn state.nodes parts)
    by_meaning (inl error) none = let two : ops.Error error.code ≡ ops.Multi parts = sym error.is ∙ e in absurd (cc)
    by_meaning (inr asked) none =
        subst (λ (txn : Txn). AreApplied (answers_of txn state.nodes parts)) (sym asked.is)
        (op_multis state (header_of prepared.call prepared.zxid) prepared.call.auths prepared.call.request asked.op asked.made parts (ap (λ (t : Txn). t.op) (sym asked.is) ∙ e) none)
