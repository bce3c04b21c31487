-- Multis: with an error among the parts nothing is applied, and without one each part is.
use Rattle.std.proofs.Common.{◌≡◌, ◌⊎◌, inl, inr, ℤ, pos, Bool, true, false, cond, List, [], ◌∷◌, length, Result, Ok, Err, refl, sym, ap, subst, ◌∙◌, suc}
use Rattle.std.proofs.lemmas.Bool.{false≢true, cond-true, cond-false, or_parts}
use Rattle.std.specs.List.{AllByRecursion, list_any}
use Rattle.std.specs.Ordering.{int_eq}
use Rattle.zk_acl.specs.declared.acl.Id.{Id}
use Rattle.zk_table.specs.declared.result.PartResult.{PartResult}
use Rattle.zk_table.specs.declared.result.TxnResult.{TxnResult}
use Rattle.zk_table.specs.declared.sub.Sub.{Sub}
use Rattle.zk_table.specs.declared.sub.Sub.TheVariants as subs
use Rattle.zk_table.specs.declared.txn.Op.{Op}
use Rattle.zk_table.specs.declared.txn.Op.TheVariants as ops
use Rattle.zk_table.specs.declared.txn.Txn.{Txn}
use Rattle.zk_table.specs.Parts.{is_error}
use Rattle.zk_table.specs.Multis.{apply_part, nodes_after, answers_of, answers_unapplied, first_refusal, told_parts, multi}
use Rattle.zk_table.specs.Operations.{Done}
use Rattle.zk_table.specs.States.{NodeMap, State}
use Rattle.zk_table.specs.Steps.{step, step_by}
use Rattle.zk_requests.specs.declared.call.Part.{Part}
use Rattle.zk_requests.specs.Requests.{part_on, part_or_error, next_part, parts_after, parts_on}
use Rattle.zk_prepare_laws.specs.Consequences.{IsWhole, IsNothing}
use Rattle.zk_prepare_laws.proofs.Making.{part_applies}

abbrev pub AreApplied : List PartResult → Type 0
AreApplied answers = AllByRecursion (λ answer. answer.err ≡ pos 0) answers

-- what a part does hangs on the header alone
pub same_part : (header : Txn) (op : Op) (nodes : NodeMap) (part : Sub) → apply_part (record header { op = op }) nodes part ≡ apply_part header nodes part
same_part header op nodes (subs.Create path content acl ephemeral count) = refl
same_part header op nodes (subs.Delete path) = refl
same_part header op nodes (subs.SetData path content version) = refl
same_part header op nodes (subs.Check path version) = refl
same_part header op nodes (subs.Error code) = refl

-- ---- the parts that were made

module _ (header : Txn) (op : Op) (auths : List Id) where
  made_applies : (nodes : NodeMap) (part : Part) → is_error (next_part nodes auths false part) ≡ false → (apply_part (record header { op = op }) nodes (next_part nodes auths false part)).answer.err ≡ pos 0
  made_applies nodes part e = by_result (part_on nodes auths part) refl e
    where
      by_result : (made : Result Sub ℤ) → part_on nodes auths part ≡ made → is_error (part_or_error made) ≡ false → (apply_part (record header { op = op }) nodes (part_or_error made)).answer.err ≡ pos 0
      by_result (Ok sub) is e = (part_applies nodes auths part sub is).1 (record header { op = op })
      by_result (Err code) is e = absurd (false≢true (sym e))

  parts_applied : (nodes : NodeMap) (parts : List Part) → list_any is_error (parts_after header auths nodes false parts) ≡ false → AreApplied (answers_of (record header { op = op }) nodes (parts_after header auths nodes false parts))
  parts_applied nodes [] e = tt
  parts_applied nodes (part ∷ parts) e =
      let made : Sub = next_part nodes auths false part in
      let next : NodeMap = (apply_part header nodes made).nodes in
      let none : is_error made ≡ false = (or_parts (is_error made) _ e).0 in
      let later : list_any is_error (parts_after header auths next false parts) ≡ false =
      ap (λ refused. list_any is_error (parts_after header auths next refused parts)) (sym none) ∙ (or_parts (is_error made) _ e).1 in
      (made_applies nodes part none, subst AreApplied (alike made none next refl) (parts_applied next parts later))
    where
      alike : (made : Sub) → is_error made ≡ false → (next : NodeMap) → (apply_part header nodes made).nodes ≡ next → answers_of (record header { op = op }) next (parts_after header auths next false parts) ≡ answers_of (record header { op = op }) (apply_part (record header { op = op }) nodes made).nodes (parts_after header auths (apply_part header nodes made).nodes (is_error made) parts)
      alike made none next is =
          (λ i. answers_of (record header { op = op }) next (parts_after header auths (sym is i) (sym none i) parts))
          ∙ (λ i. answers_of (record header { op = op }) ((sym is ∙ ap (λ (d : Done). d.nodes) (sym (same_part header op nodes made))) i) (parts_after header auths (apply_part header nodes made).nodes (is_error made) parts))

-- ---- their results together

none_refused : (answers : List PartResult) → AreApplied answers → first_refusal answers ≡ pos 0
none_refused [] all = refl
none_refused (answer ∷ answers) all =
    ap (λ code. cond (int_eq code (pos 0)) (first_refusal answers) code) all.0 ∙ none_refused answers all.1

length-answers_of : (txn : Txn) (nodes : NodeMap) (parts : List Sub) → length (answers_of txn nodes parts) ≡ length parts
length-answers_of txn nodes [] = refl
length-answers_of txn nodes (part ∷ parts) = ap (λ n. suc n) (length-answers_of txn (apply_part txn nodes part).nodes parts)

-- a transaction whose operation is this multi
step_multi : (state : State) (txn : Txn) (parts : List Sub) → txn.op ≡ ops.Multi parts → step state txn ≡ multi state txn parts
step_multi state txn parts e = ap (step_by state txn) e

pub applied_multi : (state : State) (txn : Txn) (parts : List Sub) → txn.op ≡ ops.Multi parts → list_any is_error parts ≡ false → step state txn ≡ told_parts state txn (nodes_after txn state.nodes parts) (answers_of txn state.nodes parts)
applied_multi state txn parts e none = step_multi state txn parts e ∙ cond-false (list_any is_error parts) _ _ none

unapplied_multi : (state : State) (txn : Txn) (parts : List Sub) → txn.op ≡ ops.Multi parts → list_any is_error parts ≡ true → step state txn ≡ told_parts state txn state.nodes (answers_unapplied (pos 0) parts)
unapplied_multi state txn parts e some = step_multi state txn parts e ∙ cond-true (list_any is_error parts) _ _ some

-- a multi whose parts, where none is an error, are applied
pub whole_or_nothing : (state : State) (txn : Txn) (parts : List Sub) → txn.op ≡ ops.Multi parts → (list_any is_error parts ≡ false → AreApplied (answers_of txn state.nodes parts)) → IsWhole state txn parts ⊎ IsNothing state txn parts
whole_or_nothing state txn parts e applied = by_errors (list_any is_error parts) refl
  where
    by_errors : (some : Bool) → list_any is_error parts ≡ some → IsWhole state txn parts ⊎ IsNothing state txn parts
    by_errors false none =
        let is = applied_multi state txn parts e none in
        inl (record {
          no_error = none;
          nodes = ap (λ (s : State × TxnResult). s.0.nodes) is;
          sessions = ap (λ (s : State × TxnResult). s.0.sessions) is;
          answers = ap (λ (s : State × TxnResult). length s.1.parts) is ∙ length-answers_of txn state.nodes parts;
          applied = subst AreApplied (ap (λ (s : State × TxnResult). s.1.parts) (sym is)) (applied none);
        })
    by_errors true some =
        let is = unapplied_multi state txn parts e some in
        inr (record {
          error = some;
          nodes = ap (λ (s : State × TxnResult). s.0.nodes) is;
          sessions = ap (λ (s : State × TxnResult). s.0.sessions) is;
        })

pub not_refused : (state : State) (txn : Txn) (parts : List Sub) → txn.op ≡ ops.Multi parts → list_any is_error parts ≡ false → AreApplied (answers_of txn state.nodes parts) → (step state txn).1.err ≡ pos 0
not_refused state txn parts e none applied =
    ap (λ (s : State × TxnResult). s.1.err) (applied_multi state txn parts e none) ∙ none_refused (answers_of txn state.nodes parts) applied

pub made_parts : (header : Txn) (op : Op) (auths : List Id) (nodes : NodeMap) (asked : List Part) → list_any is_error (parts_on header auths nodes asked) ≡ false → AreApplied (answers_of (record header { op = op }) nodes (parts_on header auths nodes asked))
made_parts header op auths nodes asked e = parts_applied header op auths nodes asked e
